use Rattle.marker_store.proofs.Names.{◌≡◌, ◌++◌, [], ◌∷◌, length, get_or, ap, sym, refl, ◌∙◌, arith, length-set, true, false, Chained}
use Rattle.marker_store.specs.Dropping.{is_dropped, kept}
use Rattle.marker_store.proofs.Changes.{row_at, put_more, put_freed, put_all, zero_denied}
use Rattle.marker_store.proofs.chains.Chains.put_all_back.Goals as goal

pub putting-preserved : goal.putting-preserved
putting-preserved g c =
    let b = c.put_back.ensures in
    let first : c.first-marker.result ≡ b.first = c.first-marker.ensures ∙ ap (λ ms. get_or ms 0 c.first-marker.result) b.was in
    let is : is_dropped c.args.drops b.first ≡ false = ap (is_dropped c.args.drops) (sym first) ∙ sym c.takes.ensures ∙ c.if-takes.false in (
      omega (arith, c.putting.invariant.0, ap (λ (x : Chained). length x.rows) b.is, length-set c.putting.self.rows c.args.line (row_at c.args.line c.putting.self ++ b.first ∷ [])),
      put_more c.args.line c.putting.self c.put_back.new.self c.putting.invariant.0 (kept c.args.drops) b (λ rest. rw is refl) ∙ c.putting.invariant.1,
    )

pub putting-preserved-then-takes : goal.putting-preserved-then-takes
putting-preserved-then-takes g c =
    let f = c.free.ensures in
    let first : c.first-marker.result ≡ f.first = c.first-marker.ensures ∙ ap (λ ms. get_or ms 0 c.first-marker.result) f.was in
    let is : is_dropped c.args.drops f.first ≡ true = ap (is_dropped c.args.drops) (sym first) ∙ sym c.takes.ensures ∙ c.if-takes.true in (
      omega (arith, c.putting.invariant.0, ap (λ (x : Chained). length x.rows) f.is),
      put_freed c.args.line c.putting.self c.free.new.self (kept c.args.drops) (kept c.args.drops) f (rw is refl) ∙ c.putting.invariant.1,
    )

pub returns : goal.returns
returns g c = put_all c.args.line c.putting.self (kept c.args.drops) refl (zero_denied (length c.putting.self.aside) c.has_aside.result c.has_aside.ensures c.putting-test.false) ∙ c.putting.invariant.1
