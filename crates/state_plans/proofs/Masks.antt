-- The markers that a mask adds, one for each of its numbers.
use Rattle.state_plans.proofs.Names.{◌≡◌, ℕ, ◌^◌, Bool, cond, length, sym, ap, ◌∙◌, pos, Some, Err, ◌-◌, TooMany, within, line_among, Request, Planned, answer, line_total, with_argument, with_line, line_argument, change_document, numbers_in, has_handles, marker_add_set}
use Rattle.ed_model.specs.declared.plan.DocumentChange.TheVariants.{AddMarkers}

-- the plan of MARKERADDSET, once its arguments and whether handles are left are known
pub set_added : (r : Request) (mask line : ℕ) (has left : Bool) → within 0 (2 ^ 32 - 1) r.message.l ≡ Some mask → line_among (line_total r) r.message.w ≡ Some line
    → has ≡ has_handles r (length (numbers_in mask)) → has ≡ left → cond left (change_document (AddMarkers line mask)) (Err TooMany) ≡ marker_add_set r
set_added r mask line has left e f g h =
    sym
    (ap (λ given. with_argument given on_line) e
    ∙ ap (λ given. with_line given (answer (pos 0)) (added mask)) f
    ∙ ap (λ b. cond b (change_document (AddMarkers line mask)) (Err TooMany)) (sym g ∙ h))
  where
    added : ℕ → ℕ → Planned
    added mask line = cond (has_handles r (length (numbers_in mask))) (change_document (AddMarkers line mask)) (Err TooMany)

    on_line : ℕ → Planned
    on_line mask = line_argument r (answer (pos 0)) (added mask)
