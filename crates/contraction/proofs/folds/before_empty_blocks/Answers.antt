use Rattle.contraction.proofs.Names.{◌≡◌, ◌+◌, ◌-◌, ◌≤◌, ◌<◌, ◌⊎◌, inl, inr, ℕ, false, List, length, take, drop, get_or, slice_index, refl, sym, ap, ◌∙◌, arith, cases_lt, get_or-take, get_or-drop, length-take, length-drop}
use Rattle.contraction.specs.Headings.{heads as heads_by}
use Rattle.contraction.proofs.folds.before_empty_blocks.Goals as goal

-- a level of the block before `end`
in_block : (number : ℕ) (levels : List ℕ) (end k : ℕ) → 32 ≤ end → end ≤ length levels → end - 32 ≤ k → k < end →
    ((j : ℕ) → j < length (take (end - (end - 32)) (drop (end - 32) levels)) → heads_by number (slice_index (take (end - (end - 32)) (drop (end - 32) levels)) j) ≡ false) →
    heads_by number (slice_index levels k) ≡ false
in_block number levels end k some within low high none =
    let from = end - 32 in let size = end - from in let j = k - from in
    let at : from + j ≡ k = omega arith in
    let long : j < length (take size (drop from levels)) = omega (arith, length-take size (drop from levels), length-drop from levels) in
    let read : slice_index (take size (drop from levels)) j ≡ slice_index levels k =
    get_or-take size (drop from levels) j 0 (omega arith) ∙ get_or-drop from levels j 0 ∙ ap (λ i. get_or levels i 0) at in
    ap (heads_by number) (sym read) ∙ none j long

pub blocks-2-preserved : goal.blocks-2-preserved
blocks-2-preserved c =
    let xs = c.args.levels.now in let e = c.blocks-2.end in let inv = c.blocks-2.invariant in let f = c.args.from in
    let block = c.if-not-any_heads.ensures refl in
    record {
      within = omega (arith, inv.within);
      none = λ k low high. either c.args.number xs f e k low high inv.none (λ a b. in_block c.args.number xs e k c.blocks-2-test.true (omega (arith, inv.within, c.requires)) low b block) (cases_lt k e);
    } where
      either : (number : ℕ) (levels : List ℕ) (from end k : ℕ) → end - 32 ≤ k → k < from →
          ((j : ℕ) → end ≤ j → j < from → heads_by number (slice_index levels j) ≡ false) →
          (end - 32 ≤ k → k < end → heads_by number (slice_index levels k) ≡ false) →
          (k < end) ⊎ (end ≤ k) → heads_by number (slice_index levels k) ≡ false
      either number levels from end k low high behind block (inl l) = block low l
      either number levels from end k low high behind block (inr l) = behind k l high
