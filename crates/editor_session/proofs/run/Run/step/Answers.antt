use Rattle.editor_session.proofs.Names.{rules, ◌≡◌, Some, None, Ok, Err, pos, OnOk, sym, ap, subst, true, false, ◌∙◌, Response, Running, after_command, loaded, file_at, Session, view_at, IsSound, is_free, table, opened, AnswersBy, after_opening, after_message, ℕ}
use Rattle.ed_types.specs.declared.script.Command.TheVariants.{OpenView, LoadFile, SendMessage}
use Rattle.ed_types.specs.declared.script.Outcome.TheVariants.{Refused}
use Rattle.editor_session.specs.Commands.{takes_no_memory}
use Rattle.editor_session.proofs.RunLemmas.{refused_state, refused_outcome, goes_on, closing_refused, IsSaid, said_goes_on, opening_is_other, message_is_other, loading_is_other}
use Rattle.editor_session.proofs.run.Run.step.Goals as goal

pub returns-in-Ok-clause-state : goal.returns-in-Ok-clause-state
returns-in-Ok-clause-state c =
    let command : c.args.command.now ≡ OpenView = search rules in
    let made : opened c.args.self.now.session ≡ Ok (c.new_view.new.self, c.in-Ok.view) = search rules in
    let state : c.done.new.self ≡ record { session = c.new_view.new.self; value = Some (pos c.in-Ok.view) } = search rules in
    rw command (state ∙ ap (λ t. (after_opening c.args.self.now.session t).0) (sym made))

-- commands that may take memory

pub returns-in-Err-clause-free : goal.returns-in-Err-clause-free
returns-in-Err-clause-free c free =
    let command : c.args.command.now ≡ OpenView = search rules in
    let bad : false ≡ true = subst (λ k. takes_no_memory c.args.self.now.session k ≡ true) command free in
    absurd (cc)

pub returns-in-Err-load-clause-free : goal.returns-in-Err-load-clause-free
returns-in-Err-load-clause-free c free =
    let command : c.args.command.now ≡ LoadFile c.in-LoadFile.view c.in-LoadFile.file = search rules in
    let bad : false ≡ true = subst (λ k. takes_no_memory c.args.self.now.session k ≡ true) command free in
    absurd (cc)

-- .. and those that take none

pub returns-in-Err-close_view-clause-free : goal.returns-in-Err-close_view-clause-free
returns-in-Err-close_view-clause-free c free =
    let e = c.in-Err-close_view in let r = c.refused-in-Err-close_view in
    goes_on r.result e.refusal r.ensures.memory (closing_refused c.self.inside.session c.in-CloseView.view e.refusal e.ensures.refused)

-- commands that are refused

pub returns-in-Err-clause-refused : goal.returns-in-Err-clause-refused
returns-in-Err-clause-refused c came is =
    let run = c.args.self.now in let e = c.in-Err in
    let command : c.args.command.now ≡ OpenView = search rules in
    let says = opened run.session in
    let said : IsSaid {B = ℕ} says (Err e.refusal) = search rules in
    said_goes_on ℕ says e.refusal came c.refused.result (λ t. (after_opening run.session t).1) (λ done e. absurd (cc)) (opening_is_other run.session) said c.refused.ensures.memory
    (subst (λ k. (after_command c.args.files.now k run).1 ≡ Refused came) command is)

pub returns-in-Err-close_view-clause-refused : goal.returns-in-Err-close_view-clause-refused
returns-in-Err-close_view-clause-refused c came is =
    let e = c.in-Err-close_view in let r = c.refused-in-Err-close_view in
    goes_on r.result e.refusal r.ensures.memory (closing_refused c.self.inside.session c.in-CloseView.view e.refusal e.ensures.refused)

pub returns-in-Err-load-clause-refused : goal.returns-in-Err-load-clause-refused
returns-in-Err-load-clause-refused c came is =
    let run = c.args.self.now in let e = c.in-Err-load in let r = c.refused-in-Err-load in let p = c.in-LoadFile in
    let command : c.args.command.now ≡ LoadFile p.view p.file = search rules in
    let sound : IsSound run.session = search rules in
    let says = loaded run.session p.view (view_at run.session.views p.view) (file_at c.args.files.now p.file) in
    let said : IsSaid {B = Response} says (Err e.refusal) = search rules in
    let other = loading_is_other c.plans_are_fit.ensures.in_range run.session sound p.view (view_at run.session.views p.view) (file_at c.args.files.now p.file) in
    said_goes_on Response says e.refusal came r.result (λ t. (after_message run.session t).1) (λ done e. absurd (cc)) other said r.ensures.memory
    (subst (λ k. (after_command c.args.files.now k run).1 ≡ Refused came) command is)

pub returns-in-Err-send : goal.returns-in-Err-send
returns-in-Err-send c =
    let run = c.args.self.now in let e = c.in-Err-send in let r = c.refused-in-Err-send in let p = c.in-SendMessage in
    let command : c.args.command.now ≡ SendMessage p.view p.message = search rules in
    let says = table run.session p.view p.message in
    let answer : AnswersBy {R = Response} says run.session c.send.new.self (Err e.refusal) = search rules in
    let state : OnOk r.result (r.new.self ≡ record { session = c.send.new.self; value = None }) = search rules in
    let sound : IsSound run.session = search rules in
    let own = ap (λ (r : Running). r.session) c.self.view_is in
    let said = subst (λ (s : Session). IsSaid {B = Response} (table s p.view p.message) (Err e.refusal)) own e.ensures.refused in
    rw command
    (record {
      state = refused_state run r.new.self says c.send.new.self e.refusal r.result answer r.ensures.memory state;
      outcome = refused_outcome run says c.send.new.self e.refusal r.result answer r.ensures.memory r.ensures.outcome;
      err = search rules;
      refused = λ came is. said_goes_on Response says e.refusal came r.result (λ t. (after_message run.session t).1) (λ done e. absurd (cc)) (message_is_other c.plans_are_fit.ensures.in_range run.session sound p.view p.message) said r.ensures.memory is;
      free = λ free. goes_on r.result e.refusal r.ensures.memory (e.ensures.free (subst (λ (s : Session). is_free s p.view p.message ≡ true) (sym own) free));
    })
