use Rattle.scene.proofs.Names.{drop, length, changes_of, save_point_told, watchers, bits_of, save_point_notes}
use Rattle.scene.proofs.NeededSoFar.{IsNeededSoFar}
use Rattle.scene.proofs.undoing.history_need.Given as goal

-- the need so far and the need of the remaining changes are the need of all
abbrev pub invariant-loop-index : goal.invariant-loop-index
invariant-loop-index l =
    IsNeededSoFar (watchers l.fn.document.document l.fn.views) (bits_of l.fn.direction) l.fn.document.document.line_end_types
    (save_point_notes (save_point_told l.fn.direction l.fn.document.document.history) (length (watchers l.fn.document.document l.fn.views))) l.free
    (drop l.index (changes_of l.fn.direction l.fn.document.document.history)) (changes_of l.fn.direction l.fn.document.document.history) l.need
