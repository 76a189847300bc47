use Rattle.scene.proofs.Names.{◌≡◌, [], ap, ◌∙◌, arith, w64, to_z, of_z, ints, ℤ, bit_or, Notice, with_text}
use Rattle.scene.proofs.performing.note_of_container.Goals as goal

pub returns : goal.returns
returns c =
    let b = c.blank-note.result in
    let z : to_z w64 (of_z w64 c.args.token) ≡ c.args.token = omega (arith, ints) in
    ap (λ (t : ℤ). with_text (record b { kind = bit_or 0x40000 c.args.bits; token = t }) []) z
    ∙ ap (λ (n : Notice). record n { kind = bit_or 0x40000 c.args.bits; token = c.args.token }) (c.blank-note.ensures [])
