use Rattle.target_search.proofs.Names.{◌&&◌, take, drop, sym, ◌∙◌, length-chunk, get_or-chunk, is_either}
use Rattle.bit_marks.specs.proved.Bits.{clear_false}
use Rattle.target_search.proofs.MarkedBytes.{marked_lane}
use Rattle.target_search.proofs.marks.marks_of_two.Goals as goal

pub returns : goal.returns
returns c k l clear =
    let xs = c.args.bytes.now in
    let first = c.args.first in
    let second = c.args.second in
    sym (λ i. is_either first (get_or-chunk c.args.first_at 64 xs k 0 l i) && is_either second (get_or-chunk c.args.second_at 64 xs k 0 l i))
    ∙ clear_false _ _
    (marked_lane (take 64 (drop c.args.first_at xs)) (take 64 (drop c.args.second_at xs)) first.0 first.1 second.0 second.1 k
    (length-chunk c.args.first_at 64 xs c.requires.first) (length-chunk c.args.second_at 64 xs c.requires.second) l) clear
