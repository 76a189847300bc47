use Rattle.performing.proofs.Changes.{◌≡◌, false, sym, ◌∙◌, arith, rules, inr, change_note_need, is_of_types, by_outcome, unheard}
use Rattle.std.proofs.lemmas.Bool.{ltb-false}
use Rattle.performing.proofs.change.change_unheard.Goals as goal

pub returns : goal.returns
returns c =
    let a = c.args in let k = c.make.new.document in let so = c.is_ok.ensures.value in let alone : is_of_types a.change.now ≡ false = search rules in
    let few = ltb-false 0 (change_note_need a.change.now a.document.now a.views.now) (sym c.is_told.ensures ∙ c.if-is_told.false) in
    let none : change_note_need a.change.now a.document.now a.views.now ≡ 0 = omega (arith, few) in
    let is = by_outcome a.text.now a.change.now a.document.now k c.make.result c.make.ensures in
    record {
      made = λ e. let m = is.0 (sym so ∙ e) in unheard a.text.now a.change.now a.document.now k m.0 a.views.now alone c.requires.watched m.1 none;
      memory = λ e. (is.0 (sym so ∙ e)).1.memory;
      room_is_there = λ _ _ ready. so ∙ is.1 ready;
      same = λ e. (is.2 (sym so ∙ e)).0;
      reserved = λ e. inr (is.2 (sym so ∙ e)).1;
    }
