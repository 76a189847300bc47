-- No kind has another number. The search goes through some fifty kinds at once.
use Rattle.std.proofs.Common.{rules, ◌≡◌, sym, None, take, drop}
use Rattle.ed_types.specs.Messages.{every_kind, kind_among}
use Rattle.ed_types.proofs.MessageLemmas.{none_of_both}
use Rattle.ed_types.proofs.kind.Kind.from_number.Goals as goal

pub returns-in_default : goal.returns-in_default
returns-in_default c =
    let n = c.args.number in
    let first : kind_among (take 48 every_kind) n ≡ None = search rules in
    let second : kind_among (take 48 (drop 48 every_kind)) n ≡ None = search rules in
    let third : kind_among (drop 96 every_kind) n ≡ None = search rules in
    record { decoded = sym (none_of_both (take 48 every_kind) (drop 48 every_kind) n first (none_of_both (take 48 (drop 48 every_kind)) (drop 96 every_kind) n second third)) }
