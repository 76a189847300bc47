use Rattle.marker_store.proofs.Names.{◌-◌, [], ◌∷◌, ◌++◌, ap, ◌∙◌, arith, link, no_link, get_or_read, Chained}
use Rattle.marker_store.proofs.Chaining.{at_end}
use Rattle.marker_store.proofs.Deeds.{lines_seen, held_is, spare_at, taken_sound, is_taken, longer_sound, is_longer}
use Rattle.marker_store.proofs.chains.Chains.push.Goals as goal

pub overflow_sub-index : goal.overflow_sub-index
overflow_sub-index g c = omega (arith, spare_at _ c.self.invariant _ c.self.view_is c.args.line c.args.marker c.requires.line c.if-self-gt0.true)

pub get-requires : goal.get-requires
get-requires g c = omega (arith, spare_at _ c.self.invariant _ c.self.view_is c.args.line c.args.marker c.requires.line c.if-self-gt0.true)

pub set-requires : goal.set-requires
set-requires g c = omega (arith, spare_at _ c.self.invariant _ c.self.view_is c.args.line c.args.marker c.requires.line c.if-self-gt0.true)

pub invariant_of-self : goal.invariant_of-self
invariant_of-self g c =
    let d = c.self.inside in
    let at = spare_at d c.self.invariant _ c.self.view_is c.args.line c.args.marker c.requires.line c.if-self-gt0.true in
    let next = get_or_read d.heads.items c.args.line c.get-next.result (omega (arith, lines_seen d c.self.invariant _ c.self.view_is)) c.get-next.ensures 0 in
    let is = get_or_read d.links.items (d.spare - 1) c.get.result (omega (arith, at)) c.get.ensures no_link in
    rw (c.set.ensures, c.new.ensures, next, c.set-then-self-gt0.ensures, c.next-self-inside.ensures, is) (taken_sound d c.self.invariant _ c.self.view_is c.args.line c.args.marker c.requires.line c.if-self-gt0.true)

pub returns-then-self-gt0 : goal.returns-then-self-gt0
returns-then-self-gt0 g c =
    let d = c.self.inside in
    let at = spare_at d c.self.invariant _ c.self.view_is c.args.line c.args.marker c.requires.line c.if-self-gt0.true in
    let next = get_or_read d.heads.items c.args.line c.get-next.result (omega (arith, lines_seen d c.self.invariant _ c.self.view_is)) c.get-next.ensures 0 in
    rw (c.set.ensures, c.new.ensures, next, c.set-then-self-gt0.ensures) (is_taken d c.self.invariant _ c.self.view_is c.args.line c.args.marker c.requires.line c.if-self-gt0.true)

pub insert_reserved-requires : goal.insert_reserved-requires
insert_reserved-requires g c = (omega (arith, c.len-count.ensures.len), omega (arith, c.requires.room, held_is _ c.self.invariant _ c.self.view_is, ap (λ (n : Chained). n.capacity) c.self.view_is, c.if-self-gt0.false))

pub overflow_add-count : goal.overflow_add-count
overflow_add-count g c = omega (arith, c.requires.few, held_is _ c.self.invariant _ c.self.view_is, c.if-self-gt0.false, c.len-count.ensures.len)

pub invariant_of-self-2 : goal.invariant_of-self-2
invariant_of-self-2 g c =
    let d = c.self.inside in
    let next = get_or_read d.heads.items c.args.line c.get-next.result (omega (arith, lines_seen d c.self.invariant _ c.self.view_is)) c.get-next.ensures 0 in
    let end = at_end d.links.items (link c.args.marker c.get-next.result) ∙ ap (λ n. d.links.items ++ link c.args.marker n ∷ []) next in
    rw (c.insert_reserved.ensures, c.new-2.ensures, c.set-2.ensures, c.len-count.ensures.len)
    (longer_sound d c.self.invariant _ c.self.view_is c.args.line c.args.marker c.requires.line _ end _ _ (omega (arith, c.requires.few, held_is d c.self.invariant _ c.self.view_is, c.if-self-gt0.false)))

pub returns : goal.returns
returns g c =
    let d = c.self.inside in
    let next = get_or_read d.heads.items c.args.line c.get-next.result (omega (arith, lines_seen d c.self.invariant _ c.self.view_is)) c.get-next.ensures 0 in
    let end = at_end d.links.items (link c.args.marker c.get-next.result) ∙ ap (λ n. d.links.items ++ link c.args.marker n ∷ []) next in
    rw (c.insert_reserved.ensures, c.new-2.ensures, c.set-2.ensures, c.len-count.ensures.len) (is_longer d c.self.invariant _ c.self.view_is c.args.line c.args.marker c.requires.line _ end 0 0)
