use Rattle.contraction.proofs.Names.{◌≡◌, ◌<◌, ℕ, List, Option, Some, None, slice_index, sym, ◌∙◌, IfSome, IfNone, last_heading}
use Rattle.contraction.specs.Headings.{heads as heads_by}
use Rattle.contraction.proofs.Headings.{last_skipped}
use Rattle.contraction.proofs.folds.last_heading.Goals as goal

-- what is found, or not, from a place back to the first
all_told : (number : ℕ) (levels : List ℕ) (high : ℕ) (found : Option ℕ) →
    IfSome found (λ place. (place < high) × (last_heading number levels high ≡ Some place)) →
    IfNone found (last_heading number levels high ≡ last_heading number levels 0) → found ≡ last_heading number levels high
all_told number levels high None there none = sym none
all_told number levels high (Some place) there none = sym there.1

pub returns-clause-last : goal.returns-clause-last
returns-clause-last c =
    let xs = c.args.levels.now in let far = c.before_empty_blocks-far in let last = c.last_among-2 in
    all_told c.args.number xs far.result last.result last.ensures.found last.ensures.missing
    ∙ sym (last_skipped (λ k. heads_by c.args.number (slice_index xs k)) far.result c.saturating_sub-near.result far.ensures.within far.ensures.none)
    ∙ sym c.in_default.ensures.missing
