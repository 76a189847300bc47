use Rattle.macro_script.proofs.Names.{◌≡◌, ◌++◌, ◌∙◌, ap, sym, true, append-nil, keeps_limits, sends_for, recorded_sends}
use Rattle.macro_script.proofs.recorder.Recorder.feed.Goals as goal

pub returns-in_default-clause-too_long : goal.returns-in_default-clause-too_long
returns-in_default-clause-too_long c =
    let none = c.in_default.ensures in
    let keeps : keeps_limits c.self.inside.script ≡ true = c.commands.ensures.within.within in
    let as_before : keeps_limits (c.args.self.now.commands ++ recorded_sends c.args.self.now.view c.args.reply.now) ≡ true =
    ap (λ r. keeps_limits (r.commands ++ recorded_sends r.view c.args.reply.now)) (sym c.self.view_is)
    ∙ ap (λ o. keeps_limits (c.self.inside.script ++ sends_for c.self.inside.view o)) none
    ∙ ap keeps_limits (append-nil c.self.inside.script)
    ∙ keeps in
    (λ e. absurd (cc), λ e. absurd (cc))
