use Rattle.line_index.proofs.Names.{◌+◌, ◌++◌, ap, ◌∙◌, arith, Index}
use Rattle.line_index.proofs.SettingLists.{can_set, all_set}
use Rattle.line_index.proofs.index.LineIndex.set_types.Goals as goal

pub add_starts-requires-clause-can : goal.add_starts-requires-clause-can
add_starts-requires-clause-can g c =
    let was = c.self.inside.starts in
    let starts = ap (λ (i : Index). i.starts) c.self.view_is in
    let long = ap (λ (i : Index). i.length) c.self.view_is ∙ c.requires.text.length in
    let fits = ap (λ (i : Index). i.capacity) c.self.view_is in
    can_set c.args.self.now.types c.args.types (c.args.before.now ++ c.args.after.now) was.starts c.count-count.result (c.length-end.result + 1) c.remove_starts.new.starts
    (starts ∙ c.requires.text.starts) c.count-count.ensures.count (omega (arith, c.length-end.ensures.length, long)) c.remove_starts.ensures.starts (c.remove_starts.ensures.kept.0 ∙ long)
    (omega (arith, c.requires.fits, fits, c.remove_starts.ensures.kept.1))

pub returns-clause-index : goal.returns-clause-index
returns-clause-index g c =
    let was = c.self.inside.starts in
    let starts = ap (λ (i : Index). i.starts) c.self.view_is in
    let long = ap (λ (i : Index). i.length) c.self.view_is ∙ c.requires.text.length in
    record {
      starts = all_set c.args.self.now.types c.args.types (c.args.before.now ++ c.args.after.now) was.starts c.count-count.result (c.length-end.result + 1) c.remove_starts.new.starts.starts c.add_starts.new.starts.starts
          (starts ∙ c.requires.text.starts) c.count-count.ensures.count (omega (arith, c.length-end.ensures.length, long)) c.remove_starts.ensures.starts c.add_starts.ensures.starts;
      length = c.add_starts.ensures.end ∙ c.remove_starts.ensures.kept.0 ∙ long;
    }
