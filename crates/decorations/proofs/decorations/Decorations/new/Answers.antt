use Rattle.decorations.proofs.Names.{ℕ, List, [], replicate, ap, ◌∙◌, RunCapacity, decorated, no_runs, seen}
use Rattle.decorations.proofs.Numbered.{numbered_replicate}
use Rattle.decorations.proofs.Memory.{same_stored}
use Rattle.decorations.proofs.decorations.Decorations.new.Goals as goal

pub returns : goal.returns
returns g c =
    ap (seen 0) (same_stored _ (record { slots = []; most = 0; spare = no_runs }) c.new.ensures.items c.new.ensures.capacity c.new-2.ensures)
    ∙ ap (λ values. decorated 0 values (seen 0 (record { slots = []; most = 0; spare = no_runs })).capacity) (numbered_replicate {X = List ℕ} [])
    ∙ ap (λ (runs : List RunCapacity). decorated 0 (replicate 32 []) record { runs = runs; spare = no_runs; slots = 0 }) (numbered_replicate {X = RunCapacity} no_runs)
