use Rattle.marker_store.proofs.Names.{◌-◌, ◌==◌, false, inl, inr, ap, refl, sym, ◌∙◌, arith, Marker, Link, no_link, list_any, eq-eqb, ne_eqb, get_or_read}
use Rattle.marker_store.proofs.Deeds.{lines_seen}
use Rattle.marker_store.proofs.Walks.{begins, ends, goes_on, is_on, test_read}
use Rattle.marker_store.proofs.chains.Chains.has.Goals as goal

pub loop-passed-init : goal.loop-passed-init
loop-passed-init g c =
    let d = c.self.inside in
    let at = get_or_read d.heads.items c.args.line c.get-at.result (omega (arith, lines_seen d c.self.invariant _ c.self.view_is)) c.get-at.ensures 0 in
    begins d c.self.invariant _ c.self.view_is c.args.line c.get-at.result c.requires at (list_any (λ (m : Marker). m.handle == c.args.handle)) _ refl

pub returns-then-at-eq0 : goal.returns-then-at-eq0
returns-then-at-eq0 g c = ends _ _ _ _ _ c.loop-passed.invariant (inl c.if-at-eq0.true)

pub get-link-requires : goal.get-link-requires
get-link-requires g c = omega (arith, is_on _ _ _ _ _ c.loop-passed.invariant c.if-at-eq0.false)

pub returns-then-handle : goal.returns-then-handle
returns-then-handle g c =
    let links = c.self.inside.links.items in
    let on = is_on links c.loop-passed.at c.loop-passed._passed (list_any (λ (m : Marker). m.handle == c.args.handle)) _ c.loop-passed.invariant c.if-at-eq0.false in
    let is = get_or_read links (c.loop-passed.at - 1) c.get-link.result (omega (arith, on.0, on.1)) c.get-link.ensures no_link in
    let handle = c.handle.ensures ∙ ap (λ (m : Marker). m.handle) c.marker.ensures ∙ ap (λ (l : Link). l.marker.handle) is in
    sym (test_read (λ (m : Marker). m.handle == c.args.handle) on.2.0 _ _ (eq-eqb _ c.args.handle (sym handle ∙ c.if-handle.true))) ∙ on.2.1

pub loop-passed-preserved : goal.loop-passed-preserved
loop-passed-preserved g c =
    let links = c.self.inside.links.items in
    let is = get_or_read links (c.loop-passed.at - 1) c.get-link.result (omega (arith, is_on _ _ _ _ _ c.loop-passed.invariant c.if-at-eq0.false)) c.get-link.ensures no_link in
    let handle = c.handle.ensures ∙ ap (λ (m : Marker). m.handle) c.marker.ensures ∙ ap (λ (l : Link). l.marker.handle) is in
    rw (c.next-at.ensures, is)
    (goes_on links c.loop-passed.at c.loop-passed._passed (list_any (λ (m : Marker). m.handle == c.args.handle)) _ c.loop-passed.invariant _ c.if-at-eq0.false
    (λ ms. test_read (λ (m : Marker). m.handle == c.args.handle) ms _ false (ne_eqb _ c.args.handle (λ e. c.if-handle.false (handle ∙ e)))))

pub returns : goal.returns
returns g c = ends _ _ _ _ _ c.loop-passed.invariant (inr (omega (arith, c.loop-passed-test.false)))
