-- The counters of both gap buffers stay within the promised cost.
use Rattle.cell_buffer.proofs.Names.{◌≡◌, ℕ, zero, suc, inl, inr, ap, ◌∙◌, arith, gap_after, moved_after, gap_closed, moved_closed, Buffer, CostsAtMost, CostsBoth}

insertion_cost : (place count gap moved gap' moved' : ℕ) → gap' ≡ gap_after place count gap → moved' ≡ moved_after place count gap moved → CostsAtMost place count gap moved gap' moved'
insertion_cost place zero gap moved gap' moved' g m = record { cost = omega arith; at_an_end = λ h. absurd (omega arith) }
insertion_cost place (suc n) gap moved gap' moved' g m = record { cost = grind arith; at_an_end = λ h. inr (grind arith) }

deletion_cost : (place count gap moved gap' moved' : ℕ) → gap' ≡ gap_closed place count gap → moved' ≡ moved_closed place count gap moved → CostsAtMost place count gap moved gap' moved'
deletion_cost place zero gap moved gap' moved' g m = record { cost = omega arith; at_an_end = λ h. absurd (omega arith) }
deletion_cost place (suc n) gap moved gap' moved' g m = record { cost = grind arith; at_an_end = λ h. inl (grind arith) }

-- so many bytes and so many styles were inserted
pub insertion_costs : (place count styles : ℕ) (old new : Buffer) →
    new.gaps ≡ (gap_after place count old.gaps.0, gap_after place styles old.gaps.1) →
    new.moved ≡ (moved_after place count old.gaps.0 old.moved.0, moved_after place styles old.gaps.1 old.moved.1) →
    CostsBoth place count styles old new
insertion_costs place count styles old new g m =
    record {
      bytes = insertion_cost place count old.gaps.0 old.moved.0 new.gaps.0 new.moved.0 (ap (λ t. t.0) g) (ap (λ t. t.0) m);
      styles = insertion_cost place styles old.gaps.1 old.moved.1 new.gaps.1 new.moved.1 (ap (λ t. t.1) g) (ap (λ t. t.1) m);
      no_styles = λ none. (ap (λ t. t.1) g ∙ ap (λ n. gap_after place n old.gaps.1) none, ap (λ t. t.1) m ∙ ap (λ n. moved_after place n old.gaps.1 old.moved.1) none);
    }

-- so many bytes and so many styles were deleted
pub deletion_costs : (place count styles : ℕ) (old new : Buffer) →
    new.gaps ≡ (gap_closed place count old.gaps.0, gap_closed place styles old.gaps.1) →
    new.moved ≡ (moved_closed place count old.gaps.0 old.moved.0, moved_closed place styles old.gaps.1 old.moved.1) →
    CostsBoth place count styles old new
deletion_costs place count styles old new g m =
    record {
      bytes = deletion_cost place count old.gaps.0 old.moved.0 new.gaps.0 new.moved.0 (ap (λ t. t.0) g) (ap (λ t. t.0) m);
      styles = deletion_cost place styles old.gaps.1 old.moved.1 new.gaps.1 new.moved.1 (ap (λ t. t.1) g) (ap (λ t. t.1) m);
      no_styles = λ none. (ap (λ t. t.1) g ∙ ap (λ n. gap_closed place n old.gaps.1) none, ap (λ t. t.1) m ∙ ap (λ n. moved_closed place n old.gaps.1 old.moved.1) none);
    }
