use Rattle.decorations.proofs.Names.{◌≡◌, ℕ, length, ap, sym, ◌∙◌, arith, true≢false, Runs, shown}
use Rattle.decorations.proofs.Values.{fill_is, shown_length, default_of}
use Rattle.decorations.proofs.Changed.{fill_answer}
use Rattle.decorations.proofs.slots.fill_slot.Goals as goal

pub returns-then-not-is_clear-clause-filled : goal.returns-then-not-is_clear-clause-filled
returns-then-not-is_clear-clause-filled g c =
    let values = fill_is c.fill-changed.new.self c.taken-runs.result (shown c.args.size c.args.slot.now) c.args.start c.args.count c.args.value c.fill-changed.ensures.filled c.taken-runs.ensures.values in (
      values,
      ap (λ (r : Runs ℕ). r.default) c.fill-changed.ensures.filled ∙ c.taken-runs.ensures.default (default_of c.args.size c.args.slot.now c.requires.kept),
      λ clear. true≢false (sym (c.is_all-is_clear.ensures.1 (rw values clear)) ∙ c.if-not-is_clear.true),
    )

pub returns-then-not-is_clear-clause-changed : goal.returns-then-not-is_clear-clause-changed
returns-then-not-is_clear-clause-changed g c =
    let before = shown c.args.size c.args.slot.now in
    let values = fill_is c.fill-changed.new.self c.taken-runs.result before c.args.start c.args.count c.args.value c.fill-changed.ensures.filled c.taken-runs.ensures.values in
    let full : length before ≡ c.args.size = shown_length c.args.size c.args.slot.now c.requires.kept in
    fill_answer c.fill-changed.result c.taken-runs.result.values c.fill-changed.new.self.values before c.args.start c.args.count c.args.value c.taken-runs.ensures.values values (omega arith)
    c.fill-changed.ensures.none c.fill-changed.ensures.changed

pub returns-else-not-is_clear-clause-filled : goal.returns-else-not-is_clear-clause-filled
returns-else-not-is_clear-clause-filled g c =
    let values = fill_is c.fill-changed.new.self c.taken-runs.result (shown c.args.size c.args.slot.now) c.args.start c.args.count c.args.value c.fill-changed.ensures.filled c.taken-runs.ensures.values in
    rw c.taken-runs.ensures.slot (rw values at (c.is_all-is_clear.ensures.0 c.if-not-is_clear.false))

pub returns-else-not-is_clear-clause-changed : goal.returns-else-not-is_clear-clause-changed
returns-else-not-is_clear-clause-changed g c =
    let before = shown c.args.size c.args.slot.now in
    let values = fill_is c.fill-changed.new.self c.taken-runs.result before c.args.start c.args.count c.args.value c.fill-changed.ensures.filled c.taken-runs.ensures.values in
    let full : length before ≡ c.args.size = shown_length c.args.size c.args.slot.now c.requires.kept in
    fill_answer c.fill-changed.result c.taken-runs.result.values c.fill-changed.new.self.values before c.args.start c.args.count c.args.value c.taken-runs.ensures.values values (omega arith)
    c.fill-changed.ensures.none c.fill-changed.ensures.changed
