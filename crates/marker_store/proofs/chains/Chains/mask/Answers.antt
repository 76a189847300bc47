use Rattle.marker_store.proofs.Names.{◌-◌, ◌^◌, List, [], get_or, inl, inr, ap, sym, ◌∙◌, arith, bit_or, mask_of, Marker, no_link, get_or_read}
use Rattle.std.specs.Int.Bits.{or_zero_l, or_zero_r}
use Rattle.marker_store.proofs.Deeds.{lines_seen}
use Rattle.marker_store.proofs.Walks.{begins, ends, goes_on, is_on, mask_read}
use Rattle.marker_store.proofs.chains.Chains.mask.Goals as goal

pub loop-passed-init : goal.loop-passed-init
loop-passed-init g c =
    let d = c.self.inside in
    let at = get_or_read d.heads.items c.args.line c.get-at.result (omega (arith, lines_seen d c.self.invariant _ c.self.view_is)) c.get-at.ensures 0 in
    begins d c.self.invariant _ c.self.view_is c.args.line c.get-at.result c.requires at _ _ (or_zero_l (mask_of (get_or c.args.self.now.rows c.args.line [])))

pub returns-then-at-eq0 : goal.returns-then-at-eq0
returns-then-at-eq0 g c = sym (or_zero_r c.loop-passed.mask) ∙ ends _ _ _ _ _ c.loop-passed.invariant (inl c.if-at-eq0.true)

pub get-link-requires : goal.get-link-requires
get-link-requires g c = omega (arith, is_on _ _ _ _ _ c.loop-passed.invariant c.if-at-eq0.false)

pub loop-passed-preserved : goal.loop-passed-preserved
loop-passed-preserved g c =
    let links = c.self.inside.links.items in
    let is = get_or_read links (c.loop-passed.at - 1) c.get-link.result (omega (arith, is_on _ _ _ _ _ c.loop-passed.invariant c.if-at-eq0.false)) c.get-link.ensures no_link in
    let bit = c.bit-mask.ensures ∙ ap (λ (m : Marker). 2 ^ m.number) c.marker.ensures in
    rw (c.next-at.ensures, bit, is)
    (goes_on links c.loop-passed.at c.loop-passed._passed (λ (ms : List Marker). bit_or c.loop-passed.mask (mask_of ms)) _ c.loop-passed.invariant _ c.if-at-eq0.false (λ ms. mask_read c.loop-passed.mask ms _))

pub returns : goal.returns
returns g c = sym (or_zero_r c.loop-passed.mask) ∙ ends _ _ _ _ _ c.loop-passed.invariant (inr (omega (arith, c.loop-passed-test.false)))
