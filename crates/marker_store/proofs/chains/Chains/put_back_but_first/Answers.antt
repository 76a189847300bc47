use Rattle.marker_store.proofs.Names.{◌≡◌, ◌≢◌, ◌++◌, [], ◌∷◌, length, get_or, ap, sym, refl, ◌∙◌, arith, length-set, eq-eqb, ne_eqb, Marker, Chained}
use Rattle.ed_model.specs.Changes.{without_first}
use Rattle.marker_store.specs.Dropping.{kept}
use Rattle.marker_store.specs.declared.drops.Drops.TheVariants.{Nothing}
use Rattle.marker_store.proofs.Changes.{row_at, put_more, put_freed, put_all, kept_nothing, zero_denied}
use Rattle.marker_store.proofs.chains.Chains.put_back_but_first.Goals as goal

pub putting-preserved : goal.putting-preserved
putting-preserved g c =
    let b = c.put_back.ensures in
    let first : c.first-marker.result ≡ b.first = c.first-marker.ensures ∙ ap (λ ms. get_or ms 0 c.first-marker.result) b.was in
    let is : b.first.number ≢ c.args.number = λ e. c.if-number.false (c.number.ensures.number ∙ ap (λ (m : Marker). m.number) first ∙ e) in (
      omega (arith, c.putting.invariant.0, ap (λ (x : Chained). length x.rows) b.is, length-set c.putting.self.rows c.args.line (row_at c.args.line c.putting.self ++ b.first ∷ [])),
      put_more c.args.line c.putting.self c.put_back.new.self c.putting.invariant.0 (without_first c.args.number) b (λ rest. rw (ne_eqb b.first.number c.args.number is) refl) ∙ c.putting.invariant.1,
    )

pub returns-then-number : goal.returns-then-number
returns-then-number g c =
    let f = c.free.ensures in
    let first : c.first-marker.result ≡ f.first = c.first-marker.ensures ∙ ap (λ ms. get_or ms 0 c.first-marker.result) f.was in
    let is : f.first.number ≡ c.args.number = ap (λ (m : Marker). m.number) (sym first) ∙ sym c.number.ensures.number ∙ c.if-number.true in
    let found : f.rest ≡ without_first c.args.number (f.first ∷ f.rest) = rw (eq-eqb f.first.number c.args.number is) refl in
    c.put_all_back.ensures ∙ put_freed c.args.line c.putting.self c.free.new.self (without_first c.args.number) (kept Nothing) f (kept_nothing f.rest ∙ found) ∙ c.putting.invariant.1

pub returns : goal.returns
returns g c =
    put_all c.args.line c.putting.self (without_first c.args.number) refl (zero_denied (length c.putting.self.aside) c.has_aside.result c.has_aside.ensures c.putting-test.false) ∙ c.putting.invariant.1
