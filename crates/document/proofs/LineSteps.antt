-- The index of a document's lines, before a step and after it.
use Rattle.document.proofs.Names.{◌≡◌, ℕ, ◌+◌, ◌≤◌, List, ◌++◌, length, take, drop, slice_range, refl, ap, sym, ◌∙◌, arith, length-append, length-map, length-take, length-drop, LineEndTypes, Buffer, Cell, bytes_of, line_starts, line_count, end_of_line, end_of, put_in, Step, Insert, Delete, place_of, edited, edited_cells, end_in_range, bytes_of_edited_cells, length_of_bytes, length_of_range, Index, IsIndexOf, IsBefore, bytes_near, DeletionAddsFewLines, change_about, change_of, Decorated, CanTakeOut, WereEdited, WereEditedBy, deletion_of}
use Rattle.line_index.specs.declared.change.LineChange.{LineChange}

-- The end of a line lies in the text.

pub end_in_cells : (cells : List Cell) (types : LineEndTypes) (text : List ℕ) (line : ℕ) → text ≡ bytes_of cells → end_of_line types text line ≤ length cells
end_in_cells cells types text line read = omega (arith, end_in_range types text line, ap length read, length_of_bytes cells)

-- How many lines and bytes there are.

pub length_inserted : (place : ℕ) (bytes : List ℕ) (cells : List Cell) → place ≤ length cells → length (edited_cells (Insert place bytes) cells) ≡ length cells + length bytes
length_inserted place bytes cells within = simp (length-append, length-take, length-drop, length-map) (omega arith)

pub length_deleted : (place : ℕ) (bytes : List ℕ) (cells : List Cell) → place + length bytes ≤ length cells → length (edited_cells (Delete place bytes) cells) + length bytes ≡ length cells
length_deleted place bytes cells within = simp (length-append, length-take, length-drop) (omega arith)

pub lines_of_index : (types : LineEndTypes) (text : List ℕ) (i : Index) → IsIndexOf text i → i.types ≡ types → length i.starts ≡ line_count types text
lines_of_index types text i is same = ap length is.starts ∙ ap (λ t. line_count t text) same

-- A step.

-- cells from which a range was deleted are those after the deletion of its bytes
pub deleted_cells : (cells new : List Cell) (place count : ℕ) → place + count ≤ length cells → new ≡ take place cells ++ drop (place + count) cells → new ≡ edited_cells (deletion_of place count (bytes_of cells)) cells
deleted_cells cells new place count within is = is ∙ ap (λ n. take place cells ++ drop (place + n) cells) (sym (length_of_range cells place count within))

-- the facts that the index requires
pub told_of_step :
    (step : Step) (cells new : List Cell) (lines : Index) (near text : List ℕ) → IsIndexOf (bytes_of cells) lines → end_of step ≤ length cells → new ≡ edited_cells step cells → text ≡ bytes_of new
    → near ≡ bytes_near (place_of step) (length (put_in step)) text → line_count lines.types (edited step (bytes_of cells)) ≤ lines.capacity → IsBefore step near (bytes_of cells) lines
told_of_step step cells new lines near text indexed within is read reads fits = record {
  within = omega (arith, within, length_of_bytes cells);
  index = indexed;
  reads = reads ∙ ap (bytes_near (place_of step) (length (put_in step))) (read ∙ ap bytes_of is ∙ bytes_of_edited_cells step cells);
  fits = fits;
}

pub told_of_deletion :
    (cells new : Buffer) (lines : Index) (indicators : Decorated) (place count : ℕ) (near text : List ℕ) → DeletionAddsFewLines → CanTakeOut place count cells lines indicators → new.cells ≡ edited_cells (deletion_of place count (bytes_of cells.cells)) cells.cells
    → text ≡ bytes_of new.cells → near ≡ bytes_near place 0 text → IsBefore (deletion_of place count (bytes_of cells.cells)) near (bytes_of cells.cells) lines
told_of_deletion cells new lines indicators place count near text deletion can is read reads =
    let step = deletion_of place count (bytes_of cells.cells) in
    let within : end_of step ≤ length cells.cells = omega (arith, can.within, length_of_range cells.cells place count can.within) in
    let few = deletion lines.types place (length (slice_range (bytes_of cells.cells) place (place + count))) (bytes_of cells.cells) (omega (arith, within, length_of_bytes cells.cells)) in
    told_of_step step cells.cells new.cells lines near text can.indexed within is read reads (omega (arith, can.starts, ap length can.indexed.starts, few))

-- the index of the text afterwards is that of the cells
pub index_after : (step : Step) (cells new : List Cell) (i : Index) → new ≡ edited_cells step cells → IsIndexOf (edited step (bytes_of cells)) i → IsIndexOf (bytes_of new) i
index_after step cells new i is index = rw (is, bytes_of_edited_cells step cells) index

-- the effect on the lines
pub edited_by :
    (step : Step) (change : LineChange) (cells new : Buffer) (lines new_lines : Index) → IsIndexOf (bytes_of cells.cells) lines → WereEdited step cells new lines new_lines
    → change ≡ change_about (place_of step) (end_of step) (place_of step + length (put_in step)) lines.starts new_lines.starts new_lines.length → WereEditedBy step change cells new lines new_lines
edited_by step change cells new lines new_lines indexed edit told =
    let text : bytes_of new.cells ≡ edited step (bytes_of cells.cells) = ap bytes_of edit.cells ∙ bytes_of_edited_cells step cells.cells in
    let after : new_lines.starts ≡ line_starts lines.types (edited step (bytes_of cells.cells)) =
    edit.index.starts ∙ ap (λ t. line_starts t (bytes_of new.cells)) edit.lines.0 ∙ ap (line_starts lines.types) text in
    let long : new_lines.length ≡ length (edited step (bytes_of cells.cells)) = edit.index.length ∙ ap length text in
    let same : change_about (place_of step) (end_of step) (place_of step + length (put_in step)) lines.starts new_lines.starts new_lines.length ≡ change_of lines.types step (bytes_of cells.cells) =
    rw (indexed.starts, after, long) refl in
    record { edit = edit; is = told ∙ same }

-- of a deletion, as the index says it
pub change_of_deletion :
    (cells : List Cell) (place count : ℕ) (old new : List ℕ) (size : ℕ) → place + count ≤ length cells
    → change_about place (place + count) place old new size ≡ change_about place (end_of (deletion_of place count (bytes_of cells))) (place + 0) old new size
change_of_deletion cells place count old new size within =
    let end : place + count ≡ place + length (slice_range (bytes_of cells) place (place + count)) = omega (arith, length_of_range cells place count within) in
    let none : place ≡ place + 0 = omega arith in
    ap (λ e. change_about place e place old new size) end ∙ ap (λ n. change_about place (end_of (deletion_of place count (bytes_of cells))) n old new size) none
