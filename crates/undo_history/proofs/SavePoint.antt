-- Whether undo and redo reach the save point.
use Rattle.undo_history.proofs.Names.{◌≡◌, ◌<◌, ◌+◌, ◌-◌, ℕ, List, [], ◌∷◌, length, refl, ap, arith, Bool, Option, is_number, Transaction, seal_first, undone, redone, at_save_point, sealed_length}
use Rattle.undo_history.proofs.Moving.{history}

pub behind_undo : (past future : List Transaction) (save_point : Option ℕ) (depth : ℕ) (collecting : Bool) →
    is_number (length past - 1) save_point ≡ at_save_point (undone (history past future save_point depth collecting))
behind_undo [] future save_point depth collecting = refl
behind_undo (t ∷ ts) future save_point depth collecting = let count : length (t ∷ ts) - 1 ≡ length (seal_first ts) = omega (arith, sealed_length ts) in ap (λ n. is_number n save_point) count

pub behind_redo : (past future : List Transaction) (save_point : Option ℕ) (depth : ℕ) (collecting : Bool) → 0 < length future →
    is_number (length past + 1) save_point ≡ at_save_point (redone (history past future save_point depth collecting))
behind_redo past [] save_point depth collecting some = absurd (omega arith)
behind_redo past (t ∷ ts) save_point depth collecting some = let count : length past + 1 ≡ length (seal_first (t ∷ past)) = omega arith in ap (λ n. is_number n save_point) count

-- there is nothing to redo
pub nothing_redone : (past future : List Transaction) (save_point : Option ℕ) (depth : ℕ) (collecting : Bool) → future ≡ [] →
    at_save_point (history past future save_point depth collecting) ≡ at_save_point (redone (history past future save_point depth collecting))
nothing_redone past future save_point depth collecting none = rw none refl
