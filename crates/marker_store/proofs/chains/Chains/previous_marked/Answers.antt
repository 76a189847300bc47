use Rattle.marker_store.proofs.Names.{◌≡◌, ◌-◌, ◌≤◌, length, get_or, ap, sym, ◌∙◌, arith}
use Rattle.marker_store.proofs.Deeds.{bare_row}
use Rattle.marker_store.proofs.Blocks.{in_halves}
use Rattle.marker_store.proofs.chains.Chains.previous_marked.Goals as goal
use Rattle.marker_store.proofs.chains.Chains.previous_marked.Goals.{then-end-left+else-behind-gt0, else-end-left}

pub returns-then-behind-gt0-clause-bare : goal.returns-then-behind-gt0-clause-bare
returns-then-behind-gt0-clause-bare g c k low high =
    let left = c.halves.result.0.now in
    bare_row _ c.self.invariant _ c.self.view_is k (omega (arith, high, c.requires))
    (ap (λ l. get_or l k 0) (sym c.halves.ensures.joined)
    ∙ in_halves left c.halves.result.1.now k (λ inside. absurd (omega (arith, low, inside))) (λ past. c.last_set-behind.ensures.zero (k - length left) (omega (arith, low)) (omega (arith, high, past))))

pub returns-clause-bare : goal.returns-clause-bare
returns-clause-bare g c k low high =
    let left = c.halves.result.0.now in
    let right = c.halves.result.1.now in
    let far : length left ≤ k → get_or right (k - length left) 0 ≡ 0
    = λ past. elim c.if-end-left.branch [
      | then-end-left+else-behind-gt0 w ↦ w.last_set-behind.ensures.zero (k - length left) (omega (arith, w.if-behind-gt0.false)) (omega (arith, high, past))
      | else-end-left w ↦ absurd (omega (arith, high, past, w.if-end-left.false))
    ] in
    bare_row _ c.self.invariant _ c.self.view_is k (omega (arith, high, c.requires))
    (ap (λ l. get_or l k 0) (sym c.halves.ensures.joined) ∙ in_halves left right k (λ inside. c.last_set.ensures.zero k low (omega (arith, high, inside, c.min.ensures))) far)
