use Rattle.performing.proofs.Names.{◌≡◌, ℕ, List, [], ◌∷◌, ◌++◌, refl, ap, sym, ◌∙◌, arith, append-nil, length-map, Notice, View, Document, new_view, new_document, told, watchers, subst, with_notes, ChangeNote, notes_of, notice_of, Nothing, StyleNeeded}
use Rattle.scene.specs.Hearing.{audience_of}
use Rattle.performing.specs.Notes.{audience_for}
use Rattle.performing.proofs.telling.tell.Goals as goal

to_audience : (v : View) (views : List View) (d : Document) (n : ChangeNote) → (n ≡ Nothing → ⊥) → ((past : ℕ) → n ≡ StyleNeeded past → ⊥)
    → notes_of v views d n ≡ told (audience_of (audience_for n) (notice_of d n).kind views) (notice_of d n)
to_audience v views d Nothing h k = absurd (h refl)
to_audience v views d (StyleNeeded past) h k = absurd (k past refl)
to_audience v views d _ h k = refl

pub put_bare-requires : goal.put_bare-requires
put_bare-requires c = rw c.in-StyleNeeded.is at (c.requires.room (new_view 0 (new_document 0 0)))

pub tell-requires-clause-room : goal.tell-requires-clause-room
tell-requires-clause-room c =
    let d = c.args.document.now.document in let views = watchers d c.args.views.now in let v = new_view 0 (new_document 0 0) in let n = notice_of d c.args.note in
    let room = rw (to_audience v views d c.args.note c.in_default.not-Nothing c.in_default.not-StyleNeeded) at (c.requires.room v) in
    let count = length-map (audience_of (audience_for c.args.note) n.kind views) (λ (v : View). record n { view = v.id }) in
    rw (c.audience_for-audience.ensures, ap (λ (x : Notice). x.kind) c.prepare-prepared.ensures) (omega arith)

pub returns-in-Nothing : goal.returns-in-Nothing
returns-in-Nothing c = λ v own. rw c.in-Nothing.is (ap (λ (ns : List Notice). record c.args.notes.now { notes = ns }) (sym (append-nil c.args.notes.now.notes)))

pub returns-in-StyleNeeded : goal.returns-in-StyleNeeded
returns-in-StyleNeeded c = λ v own.
    let notes = c.args.notes.now in
    rw (c.in-StyleNeeded.is, own)
    (c.put_bare.ensures ∙ ap (λ (n : Notice). record notes { notes = notes.notes ++ record n { view = c.args.sender } ∷ [] }) (rw c.in-StyleNeeded.is at c.prepare-prepared.ensures))

pub returns-in_default : goal.returns-in_default
returns-in_default c = λ v own.
    let d = c.args.document.now.document in let views = watchers d c.args.views.now in
    let so = subst (λ (x : Notice). c.tell.new.notes ≡ with_notes (told (audience_of c.audience_for-audience.result x.kind views) x) c.args.notes.now) c.prepare-prepared.ensures c.tell.ensures in
    rw (to_audience v views d c.args.note c.in_default.not-Nothing c.in_default.not-StyleNeeded) (rw c.audience_for-audience.ensures at so)
