-- Edits of lines add no header.
use Rattle.line_rows.proofs.Names.{◌≡◌, ℕ, ◌+◌, false, List, [], ◌∷◌, take, replicate, refl, slice_range, base_level, heads, HeadFrom, LineEdit, Come, Join, Restart, after_edit, after_edits, first_or}
use Rattle.std.proofs.lemmas.List.Elements.{All-nil, All-cons, All-head, All-append, All-replicate, All-take, All-drop}

module _ (least : ℕ) where
  abbrev Fine : ℕ → Type 0
  Fine level = heads least level ≡ false

  first_fine : (levels : List ℕ) → HeadFrom least levels → Fine (first_or base_level levels)
  first_fine [] all = refl
  first_fine (l ∷ ls) all = All-head Fine l ls all

  edit_fine : (levels : List ℕ) (edit : LineEdit) → HeadFrom least levels → HeadFrom least (after_edit (first_or base_level) levels edit)
  edit_fine levels (Come line count) all =
      All-append Fine (take line levels) _ (All-take Fine line levels all)
      (All-append Fine (replicate count base_level) _ (All-replicate Fine count base_level refl) (All-drop Fine line levels all))
  edit_fine levels (Join line count) all =
      let met = slice_range levels line (line + (count + 1)) in
      All-append Fine (take line levels) _ (All-take Fine line levels all)
      (All-cons Fine (first_or base_level met) _ (first_fine met (All-take Fine _ _ (All-drop Fine line levels all))) (All-drop Fine (line + (count + 1)) levels all))
  edit_fine levels Restart all = All-cons Fine base_level [] refl (All-nil Fine)

  pub edits_fine : (edits : List LineEdit) (levels : List ℕ) → HeadFrom least levels → HeadFrom least (after_edits (first_or base_level) edits levels)
  edits_fine [] levels all = all
  edits_fine (edit ∷ edits) levels all = edits_fine edits (after_edit (first_or base_level) levels edit) (edit_fine levels edit all)
