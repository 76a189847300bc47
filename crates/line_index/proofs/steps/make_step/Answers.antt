use Rattle.line_index.proofs.Names.{◌≡◌, ℕ, ◌+◌, ◌≤◌, List, length, refl, sym, ap, ◌∙◌, arith, length-append, CanLose, Partitions, NearLines, LineChange, near_lines, change_about}
use Rattle.line_index.specs.declared.change.LinesAbout.{LinesAbout}
use Rattle.line_index.specs.declared.steps.TextStep.{TextStep}
use Rattle.line_index.specs.declared.steps.TextStep.TheVariants.{Insertion, Deletion}
use Rattle.line_index.specs.Change.{lines_about}
use Rattle.line_index.specs.TextSteps.{CanMove, StaysWithin, step_place, old_end, new_end, moved_behind}
use Rattle.line_index.proofs.StepStarts.{around, around_at, mid_size, can_lose, long_is, near_within, can_add, all_found, stay}
use Rattle.line_index.proofs.steps.make_step.Goals as goal

-- the ends of a step are not behind those of the texts
ends_within : (step : TextStep) (old new : ℕ) → old_end step ≤ old → new + old_end step ≡ old + new_end step → (new_end step ≤ new) × (new ≡ moved_behind step old)
ends_within (Insertion place count) old new a b = (omega arith, omega arith)
ends_within (Deletion place count) old new a b = (omega arith, omega arith)

movable :
    (greatest line : ℕ) (step : TextStep) (was now : Partitions) → StaysWithin greatest step was.length → now.length ≡ was.length
    → ((count : ℕ) → step_place step + count ≡ old_end step → CanLose now.starts now.length line count) → CanMove greatest line step now
movable greatest line (Insertion place count) was now a b c = omega arith
movable greatest line (Deletion place count) was now a b c = c count refl

change_is :
    (step : TextStep) (p e e' long length : ℕ) (about : LinesAbout) (near : NearLines) (old new : List ℕ) → p ≡ step_place step → e ≡ old_end step → e' ≡ new_end step
    → about ≡ lines_about p e old → near ≡ near_lines new e' → long ≡ length
    → (let change : LineChange = record { before = about.before; old_lines = about.old_lines; new_lines = near; length = long } in change) ≡ change_about (step_place step) (old_end step) (new_end step) old new length
change_is step p e e' long length about near old new a b d x y z = rw (← a, ← b, ← d, x, y, z) refl

pub ends-place-requires : goal.ends-place-requires
ends-place-requires g c =
    let r = around c.args.types c.args.step c.requires.was.step _ c.requires.was.old c.args.starts.now c.requires.was.made c.requires.was.is in
    let o = ends_within c.args.step _ _ r.step.within r.step.size in
    (omega (arith, r.long, r.step.within, c.requires.short), omega (arith, r.long, o, ap (moved_behind c.args.step) r.long, c.requires.short))

pub clear_starts-cleared-requires : goal.clear_starts-cleared-requires
clear_starts-cleared-requires g c = (around_at c.args.starts.now c.args.step c.ends-place.result.0 c.ends-place.result.1 c.ends-place.result.2 c.ends-place.ensures.0 c.ends-place.ensures.1 c.ends-place.ensures.2 c.requires.was.step c.requires.was.old c.requires.was.made c.requires.was.is).step.order

pub move_starts-requires-clause-line : goal.move_starts-requires-clause-line
move_starts-requires-clause-line g c =
    let r = around_at c.args.starts.now c.args.step c.ends-place.result.0 c.ends-place.result.1 c.ends-place.result.2 c.ends-place.ensures.0 c.ends-place.ensures.1 c.ends-place.ensures.2 c.requires.was.step c.requires.was.old c.requires.was.made c.requires.was.is in
    let k = c.clear_starts-cleared.ensures in
    omega (arith, k.within, mid_size r k)

pub move_starts-requires-clause-can : goal.move_starts-requires-clause-can
move_starts-requires-clause-can g c =
    let r = around_at c.args.starts.now c.args.step c.ends-place.result.0 c.ends-place.result.1 c.ends-place.result.2 c.ends-place.ensures.0 c.ends-place.ensures.1 c.ends-place.ensures.2 c.requires.was.step c.requires.was.old c.requires.was.made c.requires.was.is in
    let k = c.clear_starts-cleared.ensures in
    movable _ _ c.args.step c.args.starts.now c.clear_starts-cleared.new.starts c.requires.fits k.length (λ count e. can_lose r k count (ap (λ n. n + count) c.ends-place.ensures.0 ∙ e ∙ sym c.ends-place.ensures.1))

pub look_to-to-requires : goal.look_to-to-requires
look_to-to-requires g c =
    let r = around_at c.args.starts.now c.args.step c.ends-place.result.0 c.ends-place.result.1 c.ends-place.result.2 c.ends-place.ensures.0 c.ends-place.ensures.1 c.ends-place.ensures.2 c.requires.was.step c.requires.was.old c.requires.was.made c.requires.was.is in
    let k = c.clear_starts-cleared.ensures in
    let long = long_is r k c.move_starts.new.starts c.move_starts.ensures in
    let short = ap (λ (p : Partitions). p.length) c.move_starts.ensures ∙ ap (moved_behind c.args.step) k.length in
    (omega (arith, long, c.length-length.ensures.length, r.step.size, r.step.within), omega (arith, c.length-length.ensures.length, short, c.requires.short))

pub add_starts-requires-clause-can : goal.add_starts-requires-clause-can
add_starts-requires-clause-can g c =
    let r = around_at c.args.starts.now c.args.step c.ends-place.result.0 c.ends-place.result.1 c.ends-place.result.2 c.ends-place.ensures.0 c.ends-place.ensures.1 c.ends-place.ensures.2 c.requires.was.step c.requires.was.old c.requires.was.made c.requires.was.is in
    let k = c.clear_starts-cleared.ensures in
    can_add r k c.move_starts.new.starts c.move_starts.ensures c.saturating_sub-near.result c.max.result c.look_to-to.result c.saturating_sub-near.ensures c.max.ensures (omega (arith, c.look_to-to.ensures, c.length-length.ensures.length))

pub add_starts-requires-clause-near : goal.add_starts-requires-clause-near
add_starts-requires-clause-near g c =
    let r = around_at c.args.starts.now c.args.step c.ends-place.result.0 c.ends-place.result.1 c.ends-place.result.2 c.ends-place.ensures.0 c.ends-place.ensures.1 c.ends-place.ensures.2 c.requires.was.step c.requires.was.old c.requires.was.made c.requires.was.is in
    let k = c.clear_starts-cleared.ensures in
    let near = near_within r k c.move_starts.new.starts c.move_starts.ensures c.saturating_sub-near.result c.max.result c.look_to-to.result c.saturating_sub-near.ensures c.max.ensures (omega (arith, c.look_to-to.ensures, c.length-length.ensures.length)) in
    (omega (arith, near.0), near.1, omega (arith, near.2, length-append c.args.before.now c.args.after.now))

pub add_starts-requires-clause-behind : goal.add_starts-requires-clause-behind
add_starts-requires-clause-behind g c =
    let r = around_at c.args.starts.now c.args.step c.ends-place.result.0 c.ends-place.result.1 c.ends-place.result.2 c.ends-place.ensures.0 c.ends-place.ensures.1 c.ends-place.ensures.2 c.requires.was.step c.requires.was.old c.requires.was.made c.requires.was.is in
    let k = c.clear_starts-cleared.ensures in
    (near_within r k c.move_starts.new.starts c.move_starts.ensures c.saturating_sub-near.result c.max.result c.look_to-to.result c.saturating_sub-near.ensures c.max.ensures (omega (arith, c.look_to-to.ensures, c.length-length.ensures.length))).0

pub lines_after_step-new_lines-requires-clause-kept : goal.lines_after_step-new_lines-requires-clause-kept
lines_after_step-new_lines-requires-clause-kept g c =
    let r = around_at c.args.starts.now c.args.step c.ends-place.result.0 c.ends-place.result.1 c.ends-place.result.2 c.ends-place.ensures.0 c.ends-place.ensures.1 c.ends-place.ensures.2 c.requires.was.step c.requires.was.old c.requires.was.made c.requires.was.is in
    let k = c.clear_starts-cleared.ensures in
    stay r k c.move_starts.new.starts c.move_starts.ensures c.saturating_sub-near.result c.max.result c.look_to-to.result c.saturating_sub-near.ensures c.max.ensures (omega (arith, c.look_to-to.ensures, c.length-length.ensures.length)) c.add_starts.ensures

pub returns-clause-index : goal.returns-clause-index
returns-clause-index g c made old is before =
    let r = around_at c.args.starts.now c.args.step c.ends-place.result.0 c.ends-place.result.1 c.ends-place.result.2 c.ends-place.ensures.0 c.ends-place.ensures.1 c.ends-place.ensures.2 made old is before in
    let k = c.clear_starts-cleared.ensures in
    record {
      starts = all_found r k c.move_starts.new.starts c.move_starts.ensures c.saturating_sub-near.result c.max.result c.look_to-to.result c.saturating_sub-near.ensures c.max.ensures (omega (arith, c.look_to-to.ensures, c.length-length.ensures.length)) c.add_starts.ensures;
      length = c.add_starts.ensures.end ∙ long_is r k c.move_starts.new.starts c.move_starts.ensures;
    }

pub returns-clause-change : goal.returns-clause-change
returns-clause-change g c =
    change_is c.args.step c.ends-place.result.0 c.ends-place.result.1 c.ends-place.result.2 c.length-length.result _ c.clear_starts-cleared.result.about _ c.args.starts.now.starts c.add_starts.new.starts.starts c.ends-place.ensures.0 c.ends-place.ensures.1 c.ends-place.ensures.2
    c.clear_starts-cleared.ensures.about c.lines_after_step-new_lines.ensures.lines (omega (arith, c.length-length.ensures.length, c.add_starts.ensures.end))
