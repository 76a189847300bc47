use Rattle.line_index.proofs.Names.{eqb, take, drop, sym, ap, ◌∙◌, length-chunk, get_or-chunk}
use Rattle.bit_marks.specs.proved.Bits.{clear_false}
use Rattle.line_index.proofs.MarkedBytes.{marked_lane}
use Rattle.line_index.proofs.marks.marks_of.Goals as goal

pub returns : goal.returns
returns c k l clear =
    let xs = c.args.bytes.now in
    let at = c.args.at in
    let byte = c.args.byte in
    sym (ap (λ x. eqb x byte) (get_or-chunk at 64 xs k 0 l))
    ∙ clear_false _ _ (marked_lane (take 64 (drop at xs)) byte k (length-chunk at 64 xs c.requires) l) clear
