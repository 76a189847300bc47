-- Limits that a session can be made with.
use Rattle.std.proofs.Common.{◌≡◌, ◌-◌, ◌≤◌, ◌^◌, true, arith}
use Rattle.std.proofs.lemmas.Bool.Decides.{nat_tests}
use Rattle.ed_types.specs.declared.limits.Limits.{Limits}
use Rattle.ed_model.specs.Session.{is_allowed}

pub allowed_lengths : (l : Limits) → is_allowed l ≡ true → (l.doc_bytes ≤ 2 ^ 31 - 1) × (l.large_bytes ≤ 2 ^ 40)
allowed_lengths l h = (grind (arith, nat_tests), grind (arith, nat_tests))
