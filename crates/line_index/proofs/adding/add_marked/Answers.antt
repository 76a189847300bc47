use Rattle.std.proofs.Common.{◌+◌, ◌++◌, arith}
use Rattle.line_index.proofs.Added.{none_seen, can_go_on, added_up_to, one_seen, all_seen}
use Rattle.line_index.proofs.adding.add_marked.Goals as goal

pub adding-init : goal.adding-init
adding-init g c = none_seen c.args.text.types (c.args.text.before.now ++ c.args.text.after.now) c.args.base c.args.place c.args.first c.args.marks c.args.starts.now c.requires.base c.requires.marked

pub add_at-line-requires : goal.add_at-line-requires
add_at-line-requires g c =
    let bit = c.lowest-bit.result in
    let found = c.lowest-bit.ensures in
    let inv = c.adding.invariant in
    let up_to = added_up_to inv bit c.requires.can.free.within (omega (arith, found.within)) (inv.behind bit found.within found.set) found.below in
    (omega (arith, c.requires.base), can_go_on c.requires.can up_to (c.args.place + bit + 1) (omega arith) (omega arith) (omega (arith, found.within)))

pub adding-preserved : goal.adding-preserved
adding-preserved g c =
    let found = c.lowest-bit.ensures in
    let rest = c.without-left in
    one_seen c.adding.invariant c.add_at-line.result rest.result c.lowest-bit.result c.add_at-line.new.starts c.requires.can.free.within found.within found.set found.below
    rest.ensures.gone rest.ensures.kept c.add_at-line.ensures

pub returns : goal.returns
returns g c = all_seen c.adding.invariant c.requires.can.free.within (omega arith)
