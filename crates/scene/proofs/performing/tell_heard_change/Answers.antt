use Rattle.scene.proofs.Names.{◌≡◌, length, true, refl, ap, ◌∙◌, arith, subst, nat_lt, lt-ltb, append-nil, TextStep, text_of, watchers, hearers, bits_of, all_bits, performed_kinds, IsToldBefore}
use Rattle.scene.proofs.KindLemmas.{before_few}
use Rattle.scene.proofs.ChangeSteps.{some_has, step_same}
use Rattle.scene.proofs.performing.tell_heard_change.Goals as goal

pub share-requires : goal.share-requires
share-requires c =
    let s = c.requires.0 in
    let can = c.requires.1 in
    let B = some_has _ _ (TextStep s) can.at c.change_bytes.ensures.bytes in
    let some : nat_lt 0 (hearers (performed_kinds (bits_of c.args.turn.direction) s) (watchers c.args.document.now.document c.args.views.now)) ≡ true = lt-ltb 0 _ c.requires.2 in
    let texts = rw some at can.texts in
    rw B (omega arith)

pub tell_coming-requires-clause-shared : goal.tell_coming-requires-clause-shared
tell_coming-requires-clause-shared c =
    let s = c.requires.0 in
    let can = c.requires.1 in
    let at = c.step_at-step.ensures s (text_of c.args.document.now.document) can.at can.fits in
    let B = some_has _ _ (TextStep s) can.at c.change_bytes.ensures.bytes in
    rw (at.0, c.share.ensures) (λ some. append-nil _ ∙ B)

pub tell_coming-requires-clause-room : goal.tell_coming-requires-clause-room
tell_coming-requires-clause-room c =
    let s = c.requires.0 in
    let can = c.requires.1 in
    let W = watchers c.args.document.now.document c.args.views.now in
    let who = bits_of c.args.turn.direction in
    let at = c.step_at-step.ensures s (text_of c.args.document.now.document) can.at can.fits in
    let few = before_few who (all_bits who) s W in
    let r = can.notes in
    let n = ap (λ g. length g.notes) c.share.ensures in
    let m = ap (λ g. g.capacity.notes) c.share.ensures in
    rw (at.0, c.bit_of-who.ensures) (omega arith)

pub returns : goal.returns
returns c =
    let s = c.requires.0 in
    let can = c.requires.1 in
    let W = watchers c.args.document.now.document c.args.views.now in
    let who = bits_of c.args.turn.direction in
    let at = c.step_at-step.ensures s (text_of c.args.document.now.document) can.at can.fits in
    let B = some_has _ _ (TextStep s) can.at c.change_bytes.ensures.bytes in
    let some : nat_lt 0 (hearers (performed_kinds who s) W) ≡ true = lt-ltb 0 _ c.requires.2 in
    let few = before_few who (all_bits who) s W in
    let put = rw (at.0, c.bit_of-who.ensures, c.share.ensures) at c.tell_coming.ensures in
    let texts = rw some at can.texts in
    let r = can.notes in
    λ step e. subst (λ x. IsToldBefore who W true c.args.notes.now c.tell_coming.new.notes x) (step_same _ s step can.at e) (rw put (record {
      notes = refl;
      capacity = refl;
      held = rw (some, B) (omega arith);
      unheard = λ none. absurd (cc);
      shared = λ heard. append-nil _ ∙ B;
    }))
