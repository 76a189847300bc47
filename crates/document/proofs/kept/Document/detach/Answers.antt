-- The other views are retained.
use Rattle.std.proofs.Common.{rules, refl, ◌==◌, not}
use Rattle.std.proofs.lemmas.Fn.{filter_same}
use Rattle.document.proofs.kept.Document.detach.Goals as goal

pub returns : goal.returns
returns c =
    let others = filter_same _ (λ k. not (k == c.args.view)) _ (λ x b f' k. search rules) _ _ c.retain.ensures.filtered in
    rw (← c.self.view_is, others, c.retain.ensures.capacity) refl
