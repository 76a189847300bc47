use Rattle.line_index.proofs.Names.{◌+◌, ◌++◌, refl, sym, ap, ◌∙◌, arith, length-append, may_end}
use Rattle.line_index.proofs.TextBytes.{no_start_behind}
use Rattle.line_index.proofs.halves.may_start_behind.Goals as goal

pub returns-else-may_be_last : goal.returns-else-may_be_last
returns-else-may_be_last c =
    λ _. no_start_behind c.args.text.types (c.args.text.before.now ++ c.args.text.after.now) c.args.place (c.args.place + 1) refl
    (omega (arith, c.requires, length-append c.args.text.before.now c.args.text.after.now))
    (ap (may_end c.args.text.types) (sym c.byte_at-byte.ensures) ∙ sym c.may_be_last.ensures ∙ c.if-may_be_last.false)
