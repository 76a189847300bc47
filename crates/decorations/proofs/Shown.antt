-- Reads of one indicator.
use Rattle.decorations.proofs.Names.{◌≡◌, ℕ, ◌<◌, ◌≤◌, List, [], length, replicate, Option, unwrap_or, sym, ap, ◌∙◌, pos, slice_get_past, unwrap_or-slice_get, at_place, Runs, decorated, Decorated, DecorationCapacity, values_of, slot_at, shown, all_shown}
use Rattle.decorations.proofs.Numbered.{numbered_at}
use Rattle.decorations.proofs.Values.{zeros_at}

-- the values of an indicator
pub shown_at : (size : ℕ) (slots : List (Option (Runs ℕ))) (k : ℕ) → k < 32 → values_of (all_shown size slots) k ≡ shown size (slot_at slots k)
shown_at size slots k h = numbered_at (λ j. shown size (slot_at slots j)) k [] h

pub values_are : {capacity : DecorationCapacity} (d : Decorated) (size : ℕ) (slots : List (Option (Runs ℕ))) (k : ℕ) (slot : Option (Runs ℕ)) → k < 32 → decorated size (all_shown size slots) capacity ≡ d → slot ≡ slot_at slots k →
    values_of d.values k ≡ shown size slot
values_are d size slots k slot h e f =
    ap (λ v. values_of v.values k) (sym e) ∙ shown_at size slots k h ∙ ap (shown size) (sym f)

-- 0 past the end, and if the indicator has no runs
pub zero_past : (values : List ℕ) (place : ℕ) → length values ≤ place → 0 ≡ at_place values (pos place)
zero_past values place h = ap (λ (o : Option ℕ). unwrap_or o 0) (sym (slice_get_past values place h))

pub zero_unused : (size place : ℕ) → 0 ≡ at_place (replicate size 0) (pos place)
zero_unused size place = sym (unwrap_or-slice_get (replicate size 0) place 0 ∙ zeros_at size place)
