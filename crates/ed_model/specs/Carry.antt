-- Carry: to which lines of the new text the rows of a document and the flags of a view go after a step. Both are called rows here. [own]
use Rattle.std.specs.Prelude.{ℕ, ◌==◌, List, [], ◌∷◌, length, map, filter, zip}
use Rattle.std.specs.List.{range_with_len}
use Rattle.ed_model.specs.declared.plan.LineEndTypes.{LineEndTypes}
use Rattle.ed_model.specs.Lines.{line_starts, line_of}
use Rattle.ed_model.specs.Steps.{Step, edited, moved_start}

-- the rows that go to the new line `line`: those whose old line start, moved by the step, is on that line
abbrev pub rows_on : {R : Type 0} → (ℕ → ℕ) → List ℕ → List ℕ → List R → ℕ → List R
rows_on {R} moved old new rows line = map (λ (e : ℕ × R). e.1) (filter (λ (e : ℕ × R). line_of new (moved e.0) == line) (zip old rows))

-- each new line has the join of the rows that go to it
abbrev pub carried : {R : Type 0} → (List R → R) → (ℕ → ℕ) → List ℕ → List ℕ → List R → List R
carried together moved old new rows = map (λ line. together (rows_on moved old new rows line)) (range_with_len 0 (length new))

abbrev pub carried_unless_empty : {R : Type 0} → (List R → R) → LineEndTypes → Step → List ℕ → List ℕ → List R → List R
carried_unless_empty together types step text [] rows = together [] ∷ []
carried_unless_empty together types step text (b ∷ bs) rows =
    carried together (moved_start step) (line_starts types text) (line_starts types (b ∷ bs)) rows

-- the rows after a step; a step that leaves no text leaves one fresh row
abbrev pub carried_by : {R : Type 0} → (List R → R) → LineEndTypes → Step → List ℕ → List R → List R
carried_by together types step text rows = carried_unless_empty together types step text (edited step text) rows

-- the rows after the line end types of the document change; line starts stay where they are
abbrev pub regrouped : {R : Type 0} → (List R → R) → LineEndTypes → LineEndTypes → List ℕ → List R → List R
regrouped together old new text rows = carried together (λ start. start) (line_starts old text) (line_starts new text) rows
