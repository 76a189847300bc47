use Rattle.marker_store.proofs.Names.{◌≡◌, ◌-◌, ◌<◌, length, get_or, ap, sym, ◌∙◌, arith, length-append}
use Rattle.marker_store.proofs.Deeds.{lines_seen, bare_row}
use Rattle.marker_store.proofs.Blocks.{in_halves}
use Rattle.marker_store.proofs.chains.Chains.next_marked.Goals as goal
use Rattle.marker_store.proofs.chains.Chains.next_marked.Goals.{then-from-left+else-line-left, else-from-left}

pub returns-then-line-left-clause-bare : goal.returns-then-line-left-clause-bare
returns-then-line-left-clause-bare g c k low high =
    let left = c.halves.result.0.now in
    let right = c.halves.result.1.now in
    let joined = c.halves.ensures.joined in
    let inside : k < length left = omega (arith, high, c.if-line-left.true) in
    bare_row _ c.self.invariant _ c.self.view_is k (omega (arith, inside, ap length joined, length-append left right, lines_seen _ c.self.invariant _ c.self.view_is))
    (ap (λ l. get_or l k 0) (sym joined) ∙ in_halves left right k (λ _. c.first_set-line.ensures.zero k low high) (λ past. absurd (omega (arith, past, inside))))

pub returns-clause-bare : goal.returns-clause-bare
returns-clause-bare g c k low high =
    let left = c.halves.result.0.now in
    let right = c.halves.result.1.now in
    let joined = c.halves.ensures.joined in
    let near : k < length left → get_or left k 0 ≡ 0
    = λ inside. elim c.if-from-left.branch [
      | then-from-left+else-line-left w ↦ w.first_set-line.ensures.zero k low (omega (arith, inside, w.if-line-left.false))
      | else-from-left w ↦ absurd (omega (arith, inside, low, w.if-from-left.false))
    ] in
    bare_row _ c.self.invariant _ c.self.view_is k (omega (arith, high, c.first_set.ensures.within, ap length joined, length-append left right, lines_seen _ c.self.invariant _ c.self.view_is))
    (ap (λ l. get_or l k 0) (sym joined) ∙ in_halves left right k near (λ past. c.first_set.ensures.zero (k - length left) (omega (arith, low, c.saturating_sub.ensures)) (omega (arith, high, past))))
