use Rattle.scene.proofs.Names.{◌≡◌, length, sym, ap, ◌∙◌, arith, w64, to_z, of_z, ints, Notice, container_note, Hearers, Empty, watchers, audience_of, with_note_text, bits_of, bits_behind}
use Rattle.scene.proofs.ToldSoFar.{length_told}
use Rattle.scene.proofs.KindLemmas.{told_as_heard}
use Rattle.scene.proofs.ChangeNotes.{container_few, bits_more}
use Rattle.scene.proofs.performing.perform_container.Goals as goal

pub tell-requires-clause-room : goal.tell-requires-clause-room
tell-requires-clause-room c =
    let W = watchers c.args.document.now.document c.args.views.now in
    let turn = c.args.turn in
    let note = c.note_of_container-note.result in
    let bits = bits_behind turn c.args.lines_changed in
    let n = container_note bits c.args.token in
    let z : to_z w64 (of_z w64 c.args.token) ≡ c.args.token = omega (arith, ints) in
    let is = (rw c.bits_after.ensures at c.note_of_container-note.ensures) ∙ ap (container_note bits) z in
    let e = told_as_heard W note Empty c.args.notes.now.shared n (ap (λ (x : Notice). x.kind) is) (λ some. is) in
    let l = sym (length_told (audience_of Hearers note.kind W) (with_note_text Empty note c.args.notes.now.shared)) ∙ ap length e in
    let few = container_few (bits_of turn.direction) bits c.args.token W (bits_more turn.direction turn.several turn.last c.args.lines_changed) in
    let r = c.requires.room in
    omega arith

pub returns : goal.returns
returns c =
    let W = watchers c.args.document.now.document c.args.views.now in
    let turn = c.args.turn in
    let note = c.note_of_container-note.result in
    let bits = bits_behind turn c.args.lines_changed in
    let n = container_note bits c.args.token in
    let z : to_z w64 (of_z w64 c.args.token) ≡ c.args.token = omega (arith, ints) in
    let is = (rw c.bits_after.ensures at c.note_of_container-note.ensures) ∙ ap (container_note bits) z in
    let e = told_as_heard W note Empty c.args.notes.now.shared n (ap (λ (x : Notice). x.kind) is) (λ some. is) in
    rw e at c.tell.ensures
