use Rattle.run_styles.proofs.Names.{◌≡◌, ℕ, ◌∙◌, ◌+◌, ◌-◌, ◌≤◌, List, refl, sym, ap, subst, arith, length, take, drop, get_or, drop-drop, length-drop, get_or-drop, NeighboursDiffer}
use Rattle.run_styles.proofs.Reading.{not_behind}
use Rattle.run_styles.proofs.ByIndex.{same_end}
use Rattle.run_styles.proofs.Neighbours.{differ_shorter, differ_take}
use Rattle.run_styles.proofs.table.RunTable.overwrite.Goals as goal

-- what lies behind the last run, once a start may have come before it
behind_moved : {X : Type 0} (old new : List X) (run last first : ℕ) → run ≤ last → run ≤ first → drop (first + 1) new ≡ drop (run + 1) old → drop (last + 1 + (first - run)) new ≡ drop (last + 1) old
behind_moved old new run last first h h' e =
    let e1 : first + 1 + (last - run) ≡ last + 1 + (first - run) = omega arith in
    let e2 : run + 1 + (last - run) ≡ last + 1 = omega arith in
    ap (λ k. drop k new) (sym e1) ∙ sym (drop-drop (last - run) (first + 1) new) ∙ ap (λ l. drop (last - run) l) e ∙ drop-drop (last - run) (run + 1) old ∙ ap (λ k. drop k old) e2

pub replace_runs-requires-clause-range : goal.replace_runs-requires-clause-range
replace_runs-requires-clause-range g c =
    let mid = c.end_at.new.self in
    let before = not_behind c.run_near-last.result c.run_near-run.ensures c.end_at.ensures.ends.0 (omega (arith, c.end_at.ensures.ends.1, c.requires.range)) in
    let size = ap length c.start_at-first.ensures.starts_behind in
    let s1 = length-drop (c.start_at-first.result + 1) c.start_at-first.new.self.starts in
    let s2 = length-drop (c.run_near-run.result + 1) mid.starts in
    (omega (arith, c.start_at-first.ensures.shifted), omega (arith, c.start_at-first.ensures.shifted, c.end_at.ensures.ends, c.start_at-first.ensures.starts), rw (c.start_at-first.ensures.becomes.list, c.end_at.ensures.becomes.list) (omega (arith, c.requires.range)))

pub replace_runs-requires-clause-front : goal.replace_runs-requires-clause-front
replace_runs-requires-clause-front g c =
    let mid = c.end_at.new.self in
    let before = not_behind c.run_near-last.result c.run_near-run.ensures c.end_at.ensures.ends.0 (omega (arith, c.end_at.ensures.ends.1, c.requires.range)) in
    let P : List g.row.V.Denot → Type 0 = λ l. NeighboursDiffer l in
    let whole : NeighboursDiffer (take (c.run_near-last.result + 1) mid.values) = subst P (sym c.end_at.ensures.front) (differ_take (c.run_near-last.result + 1) c.args.self.now.values c.requires.differ) in
    c.start_at-first.ensures.front (differ_shorter mid.values (c.run_near-last.result + 1) (c.run_near-run.result + 1) whole (omega arith))

pub replace_runs-requires-clause-behind : goal.replace_runs-requires-clause-behind
replace_runs-requires-clause-behind g c =
    let mid = c.end_at.new.self in
    let before = not_behind c.run_near-last.result c.run_near-run.ensures c.end_at.ensures.ends.0 (omega (arith, c.end_at.ensures.ends.1, c.requires.range)) in
    rw (behind_moved mid.values c.start_at-first.new.self.values c.run_near-run.result c.run_near-last.result c.start_at-first.result (omega arith) c.start_at-first.ensures.shifted.0 c.start_at-first.ensures.values_behind) c.end_at.ensures.behind

pub returns-clause-becomes : goal.returns-clause-becomes
returns-clause-becomes g c =
    let mid = c.end_at.new.self in
    let new = c.start_at-first.new.self in
    let before = not_behind c.run_near-last.result c.run_near-run.ensures c.end_at.ensures.ends.0 (omega (arith, c.end_at.ensures.ends.1, c.requires.range)) in
    let none : c.run_near-last.result + 1 + (c.start_at-first.result - c.run_near-run.result) + 0 ≡ c.run_near-last.result + 1 + (c.start_at-first.result - c.run_near-run.result) = omega arith in
    let none' : c.run_near-last.result + 1 + 0 ≡ c.run_near-last.result + 1 = omega arith in
    let behind = behind_moved mid.starts new.starts c.run_near-run.result c.run_near-last.result c.start_at-first.result (omega arith) c.start_at-first.ensures.shifted.0 c.start_at-first.ensures.starts_behind in
    let high : get_or new.starts (c.run_near-last.result + 1 + (c.start_at-first.result - c.run_near-run.result)) new.end ≡ c.args.high
    = ap (λ k. get_or new.starts k new.end) (sym none)
    ∙ sym (get_or-drop (c.run_near-last.result + 1 + (c.start_at-first.result - c.run_near-run.result)) new.starts 0 new.end)
    ∙ ap (λ l. get_or l 0 new.end) behind
    ∙ get_or-drop (c.run_near-last.result + 1) mid.starts 0 new.end
    ∙ ap (λ k. get_or mid.starts k new.end) none'
    ∙ ap (λ d. get_or mid.starts (c.run_near-last.result + 1) d) (same_end c.count.ensures.sound.table c.run_near-run.ensures.sound.table c.start_at-first.ensures.becomes.list)
    ∙ c.end_at.ensures.ends.1 in
    record {
      list = c.replace_runs.ensures.becomes.list ∙ rw (high, c.start_at-first.ensures.starts.1, c.start_at-first.ensures.becomes.list, c.end_at.ensures.becomes.list) refl;
      few = omega (arith, c.replace_runs.ensures.becomes.few, c.start_at-first.ensures.becomes.few, c.end_at.ensures.becomes.few);
      capacity = c.replace_runs.ensures.becomes.capacity ∙ c.start_at-first.ensures.becomes.capacity ∙ c.end_at.ensures.becomes.capacity;
    }
