use Rattle.scene.proofs.Names.{◌∙◌, ap, arith, length, length-append, text_of, heard, before_note, step_in, watchers, left_note, NoteCapacity}
use Rattle.scene.proofs.ToldSoFar.{heard_in_order}
use Rattle.scene.proofs.KindLemmas.{unheard_before}
use Rattle.scene.proofs.steps.tell_before.Goals as goal

pub tell_coming-requires-clause-unheard : goal.tell_coming-requires-clause-unheard
tell_coming-requires-clause-unheard c =
    let d = c.share_if_heard-hears.ensures.document in
    let W = watchers c.args.document.now.document c.args.views.now in
    let s = step_in c.args.step (text_of c.args.document.now.document) in
    rw d (λ none. unheard_before W s c.args.bits.before c.args.bits.after (c.share_if_heard-hears.ensures.unheard none))

pub tell_coming-requires-clause-room : goal.tell_coming-requires-clause-room
tell_coming-requires-clause-room c =
    let d = c.share_if_heard-hears.ensures.document in
    let r = c.requires.notes in
    let n = ap length c.share_if_heard-hears.ensures.notes in
    let s = ap (λ (c : NoteCapacity). c.notes) c.share_if_heard-hears.ensures.capacity in
    rw d (omega arith)

pub tell_left-requires : goal.tell_left-requires
tell_left-requires c =
    let d = c.share_if_heard-hears.ensures.document in
    let e = rw d at c.tell_coming.ensures in
    let n = ap length c.share_if_heard-hears.ensures.notes in
    let m = ap (λ g. length g.notes) e in
    let l = length-append c.share_if_heard-hears.new.notes.notes (heard (watchers c.args.document.now.document c.args.views.now) (before_note c.args.bits.before (step_in c.args.step (text_of c.args.document.now.document)))) in
    let r = c.requires.notes in
    let s = ap (λ (c : NoteCapacity). c.notes) (ap (λ g. g.capacity) e ∙ c.share_if_heard-hears.ensures.capacity) in
    record { named = c.requires.named; room = rw d (omega arith) }

pub returns : goal.returns
returns c =
    let d = c.share_if_heard-hears.ensures.document in
    let W = watchers c.args.document.now.document c.args.views.now in
    let s = step_in c.args.step (text_of c.args.document.now.document) in
    let told = heard_in_order (heard W (before_note c.args.bits.before s)) (left_note c.args.is_left W)
    c.args.notes.now c.share_if_heard-hears.new.notes c.tell_coming.new.notes c.tell_left.new.notes
    c.share_if_heard-hears.ensures.notes (rw d at c.tell_coming.ensures) (rw d at c.tell_left.ensures) in
    record {
      document = c.share_if_heard-hears.ensures.document;
      notes = ap (λ g. g.notes) told;
      capacity = ap (λ g. g.capacity) told ∙ c.share_if_heard-hears.ensures.capacity;
      held = ap (λ g. g.held) told ∙ c.share_if_heard-hears.ensures.held;
      unheard = c.share_if_heard-hears.ensures.unheard;
      shared = λ some. ap (λ g. g.shared) told ∙ c.share_if_heard-hears.ensures.shared some;
    }
