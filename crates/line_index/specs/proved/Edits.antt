-- How many lines there are after an edit, and how many it inserts.
use Rattle.std.proofs.Common.{◌≡◌, ◌≤◌, ◌+◌, ℕ, List, length, refl, arith}
use Rattle.std.proofs.lemmas.List.{length-append, length-take, length-drop, length-replicate}
use Rattle.line_index.specs.declared.edit.LineEdit.{LineEdit}
use Rattle.line_index.specs.declared.edit.LineEdit.TheVariants.{Come, Join, Restart}
use Rattle.line_index.specs.Edits.{after_edit, lines_after_edit, FitsLines, fresh_by}

-- a list with an item for each line has as many after an edit as there are lines
pub length_after_edit : {R : Type 0} (together : List R → R) (rows : List R) (edit : LineEdit) → FitsLines (length rows) edit → length (after_edit together rows edit) ≡ lines_after_edit (length rows) edit
length_after_edit together rows (Come line count) h = simp (length-append, length-take, length-drop, length-replicate) (omega arith)
length_after_edit together rows (Join line count) h = simp (length-append, length-take, length-drop) (omega arith)
length_after_edit together rows Restart h = refl

-- an edit adds at most its fresh lines
pub edit_adds : (lines : ℕ) (edit : LineEdit) → lines_after_edit lines edit ≤ lines + fresh_by edit
edit_adds lines (Come line count) = omega arith
edit_adds lines (Join line count) = omega arith
edit_adds lines Restart = omega arith
