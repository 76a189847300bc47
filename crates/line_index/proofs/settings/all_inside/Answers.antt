use Rattle.line_index.proofs.Names.{ℕ, ◌+◌, ◌++◌, List, length, sym, ap, ◌∙◌, arith, append_assoc, length-append, true≢false, LineEdit, all_inside_edits, inside_edits, line_past, lines_inside, starts_within, Default}
use Rattle.line_index.proofs.SettingLists.{inside_on, no_middle, past_low}
use Rattle.line_index.proofs.settings.all_inside.Goals as goal

pub returns-in_err-push_inside-clause-free : goal.returns-in_err-push_inside-clause-free
returns-in_err-push_inside-clause-free c = λ none.
    let text = c.args.before.now ++ c.args.after.now in
    let inv = c.adding.invariant in
    let inside = c.count_inside-count in
    let size = length-append c.args.before.now c.args.after.now in
    let step = inside_on text c.adding.start inside.result.1 inside.result.0 (inv.found c.adding-test.true) inside.ensures.within.0 (omega (arith, size, inside.ensures.within.1)) inside.ensures.none
    (λ l. inside.ensures.next (omega (arith, size))) inside.ensures.lines in
    absurd (true≢false (sym (c.in_err-push_inside.ensures.free (no_middle c.args.types c.adding.line inside.result.0 c.adding.edits (lines_inside text (starts_within Default text inside.result.1 (length text + 1)))
    (ap (λ (counts : List ℕ). c.adding.edits ++ all_inside_edits c.args.types c.adding.line counts) (sym step) ∙ inv.rest ∙ none)))))

pub adding-preserved : goal.adding-preserved
adding-preserved c =
    let text = c.args.before.now ++ c.args.after.now in
    let inv = c.adding.invariant in
    let inside = c.count_inside-count in
    let size = length-append c.args.before.now c.args.after.now in
    let rest : List ℕ = lines_inside text (starts_within Default text inside.result.1 (length text + 1)) in
    let step = inside_on text c.adding.start inside.result.1 inside.result.0 (inv.found c.adding-test.true) inside.ensures.within.0 (omega (arith, size, inside.ensures.within.1)) inside.ensures.none
    (λ l. inside.ensures.next (omega (arith, size))) inside.ensures.lines in
    record {
      rest =
          ap (λ (n : ℕ). c.push_inside.new.edits ++ all_inside_edits c.args.types n rest) c.line_past-line.ensures
          ∙ ap (λ (edits : List LineEdit). edits ++ all_inside_edits c.args.types (line_past c.args.types c.adding.line inside.result.0) rest) c.in_ok-push_inside.ensures.edits
          ∙ append_assoc c.adding.edits (inside_edits c.args.types c.adding.line inside.result.0) (all_inside_edits c.args.types (line_past c.args.types c.adding.line inside.result.0) rest)
          ∙ ap (λ (counts : List ℕ). c.adding.edits ++ all_inside_edits c.args.types c.adding.line counts) (sym step)
          ∙ inv.rest;
      low = past_low c.args.types c.adding.line inside.result.0 c.line_past-line.result c.adding.start inside.result.1 c.line_past-line.ensures inv.low inside.ensures.few inside.ensures.within.0;
      high = inside.ensures.within.1;
      found = inside.ensures.next;
    }
