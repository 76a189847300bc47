use Rattle.scene.proofs.Names.{◌≡◌, ap, ◌∙◌, arith, w64, ints, pos, ℤ, Notice, with_text}
use mir.Val.{to_z}
use Rattle.scene.proofs.step_notes.range_note.Goals as goal

pub returns : goal.returns
returns c = λ text.
    let b = c.blank-note.result in
    let p : to_z w64 c.args.place ≡ pos c.args.place = omega (arith, ints) in
    let q : to_z w64 c.args.count ≡ pos c.args.count = omega (arith, ints) in
    ap (λ (z : ℤ). with_text (record b { kind = c.args.kind; position = z; length = to_z w64 c.args.count }) text) p
    ∙ ap (λ (z : ℤ). with_text (record b { kind = c.args.kind; position = pos c.args.place; length = z }) text) q
    ∙ ap (λ (n : Notice). record n { kind = c.args.kind; position = pos c.args.place; length = pos c.args.count }) (c.blank-note.ensures text)
