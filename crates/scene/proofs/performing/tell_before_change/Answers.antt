use Rattle.scene.proofs.Names.{◌≡◌, ◌*◌, ℕ, List, false, refl, ap, sym, ◌∙◌, arith, subst, append-nil, Step, TextStep, View, Gathered, watchers, hearers, bits_of, all_bits, outline_kinds, performed_kinds, IsToldBefore}
use Rattle.std.proofs.lemmas.Bool.{ltb-false}
use Rattle.scene.proofs.KindLemmas.{unheard_before}
use Rattle.scene.proofs.ChangeSteps.{some_has, step_same, outline_kinds_are}
use Rattle.scene.proofs.performing.tell_before_change.Goals as goal

-- no view hears the step
untold : (who : ℕ) (s : Step) (W : List View) (notes : Gathered) → hearers (performed_kinds who s) W ≡ 0 → IsToldBefore who W false notes notes s
untold who s W notes none =
    let quiet = unheard_before W s who (all_bits who) none in
    record {
      notes = rw quiet (sym (append-nil notes.notes));
      capacity = refl;
      held = rw none (omega arith);
      unheard = λ no. none;
      shared = λ yes. absurd (cc);
    }

pub returns-then-quiet : goal.returns-then-quiet
returns-then-quiet c =
    let s = c.requires.can.0 in
    let can = c.requires.can.1 in
    let W = watchers c.args.document.now.document c.args.views.now in
    let who = bits_of c.args.turn.direction in
    let e : 2 * hearers (performed_kinds who s) W ≡ 0 = c.requires.quiet c.if-quiet.true (TextStep s) can.at in
    let none : hearers (performed_kinds who s) W ≡ 0 = omega arith in
    λ step e. subst (IsToldBefore who W false c.args.notes.now c.args.notes.now) (step_same _ s step can.at e) (untold who s W c.args.notes.now none)

pub returns-then-not-is_heard : goal.returns-then-not-is_heard
returns-then-not-is_heard c =
    let s = c.requires.can.0 in
    let can = c.requires.can.1 in
    let W = watchers c.args.document.now.document c.args.views.now in
    let who = bits_of c.args.turn.direction in
    let O = some_has _ _ (TextStep s) can.at c.requires.outline in
    let K : c.kinds_of-kinds.result ≡ performed_kinds who s = c.kinds_of-kinds.ensures ∙ ap (outline_kinds who) O ∙ outline_kinds_are who s in
    let few = ltb-false 0 (hearers c.kinds_of-kinds.result W) (sym c.is_heard.ensures ∙ c.if-not-is_heard.true) in
    let none : hearers (performed_kinds who s) W ≡ 0 = ap (λ k. hearers k W) (sym K) ∙ omega (arith, few) in
    λ step e. subst (IsToldBefore who W false c.args.notes.now c.args.notes.now) (step_same _ s step can.at e) (untold who s W c.args.notes.now none)
