use Rattle.line_index.proofs.Names.{◌≡◌, ℕ, ◌+◌, ◌-◌, ◌≤◌, ◌<◌, List, length, refl, ap, ◌∙◌, arith, LineEndTypes, Default, Unicode, line_of, line_of_lt, line_of_monotone, count_before, NearLines, near_lines, last_line, last_touched}
use Rattle.line_index.specs.Change.{lines_about}
use Rattle.line_index.specs.declared.change.LinesAbout.{LinesAbout}
use Rattle.line_index.proofs.StepLists.{touched_near}
use Rattle.line_index.proofs.steps.clear_starts.Goals as goal

-- the line of the last place whose line start may depend on a step
last_is : (types : LineEndTypes) (starts : List ℕ) (end : ℕ) (near : NearLines) → near ≡ near_lines starts end → last_line types near ≡ line_of starts (last_touched types end)
last_is Default starts end near e = ap (λ (n : NearLines). n.at) e
last_is Unicode starts end near e = ap (λ (n : NearLines). n.two_behind) e

-- so the lines whose starts are removed are there
range : (types : LineEndTypes) (starts : List ℕ) (place end : ℕ) → place ≤ end → 0 < length starts → (line_of starts (place - 1) ≤ line_of starts (last_touched types end)) × (line_of starts (last_touched types end) < length starts)
range types starts place end h some = (line_of_monotone starts (place - 1) (last_touched types end) (omega (arith, touched_near types end)), line_of_lt starts (last_touched types end) some)

about_is : (place end before : ℕ) (starts : List ℕ) (near : NearLines) → before ≡ count_before place starts → near ≡ near_lines starts end → (let about : LinesAbout = record { before = before; old_lines = near } in about) ≡ lines_about place end starts
about_is place end before starts near a b = rw (a, b) refl

pub lines_before-requires : goal.lines_before-requires
lines_before-requires g c = c.lines_at_step-line.ensures.line ∙ ap (line_of c.args.starts.now.starts) c.saturating_sub.ensures

pub remove_starts-requires : goal.remove_starts-requires
remove_starts-requires g c =
    let r = range c.args.types c.args.starts.now.starts c.args.place c.args.end c.requires c.count-lines.ensures.sound.some in
    let line = c.lines_at_step-line.ensures.line ∙ ap (line_of c.args.starts.now.starts) c.saturating_sub.ensures in
    let last = c.last_near-behind.ensures ∙ last_is c.args.types c.args.starts.now.starts c.args.end c.lines_at_step-line.result.1 c.lines_at_step-line.ensures.lines in
    record { range = (omega arith, omega (arith, r, line, last), omega (arith, r, last)) }

pub overflow_sub-result : goal.overflow_sub-result
overflow_sub-result g c =
    let r = range c.args.types c.args.starts.now.starts c.args.place c.args.end c.requires c.count-lines.ensures.sound.some in
    let line = c.lines_at_step-line.ensures.line ∙ ap (line_of c.args.starts.now.starts) c.saturating_sub.ensures in
    let last = c.last_near-behind.ensures ∙ last_is c.args.types c.args.starts.now.starts c.args.end c.lines_at_step-line.result.1 c.lines_at_step-line.ensures.lines in
    omega (arith, r, line, last)

pub returns : goal.returns
returns g c =
    let r = range c.args.types c.args.starts.now.starts c.args.place c.args.end c.requires c.count-lines.ensures.sound.some in
    let line = c.lines_at_step-line.ensures.line ∙ ap (line_of c.args.starts.now.starts) c.saturating_sub.ensures in
    let last = c.last_near-behind.ensures ∙ last_is c.args.types c.args.starts.now.starts c.args.end c.lines_at_step-line.result.1 c.lines_at_step-line.ensures.lines in
    let both : c.lines_at_step-line.result.0 + 1 + (c.last_near-behind.result + 1 - (c.lines_at_step-line.result.0 + 1)) ≡ c.last_near-behind.result + 1 = omega (arith, r, line, last) in
    record {
      about = about_is c.args.place c.args.end c.lines_before.result c.args.starts.now.starts c.lines_at_step-line.result.1 c.lines_before.ensures c.lines_at_step-line.ensures.lines;
      first = ap (λ n. n + 1) line;
      behind = both ∙ ap (λ n. n + 1) last;
      within = (omega arith, omega (arith, both, r, last));
      lines = c.count-lines.ensures.count;
      old_lines = omega (arith, c.count-lines.ensures.count, c.lines_at_step-line.ensures.within);
      starts = rw both c.remove_starts.ensures.starts;
      length = c.remove_starts.ensures.kept.0;
      capacity = c.remove_starts.ensures.kept.1;
    }
