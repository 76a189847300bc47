use Rattle.marker_store.proofs.Names.{◌≡◌, ◌-◌, ◌≤◌, length, map}
use Rattle.marker_store.specs.Dropping.{kept}
use Rattle.marker_store.proofs.Changes.{done_from}
use Rattle.marker_store.proofs.chains.Chains.delete_all.Given as goal

-- the lines that are left lead to the same chains
abbrev pub invariant-deleting : goal.invariant-deleting
invariant-deleting g l =
    (l.line ≤ length l.self.rows) × (length l.self.rows ≡ length l.fn.self.rows) × ((record l.self { rows = done_from (kept l.drops) l.line l.self.rows }) ≡ record l.fn.self { rows = map (kept l.drops) l.fn.self.rows })

abbrev pub decreases-deleting : goal.decreases-deleting
decreases-deleting g l = length l.fn.self.rows - l.line
