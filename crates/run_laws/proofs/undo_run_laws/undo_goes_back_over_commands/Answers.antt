use Rattle.run_laws.proofs.UndoRunLemmas.{undo_goes_back_over_commands}
use Rattle.run_laws.proofs.undo_run_laws.undo_goes_back_over_commands.Goals as goal

pub returns : goal.returns
returns c =
    let alone = c.other_documents_are_left_alone.ensures in
    let fit = c.undo_and_redo_are_never_too_long.ensures in
    undo_goes_back_over_commands
    (record {
      fits = c.plans_are_fit.ensures.in_range;
      keeps = c.soundness_is_kept.ensures.by_commands;
      sound = c.session_is_sound.ensures.in_every_state;
      stays_sound = c.session_is_sound.ensures.in_every_state_from;
      queries = c.queries_leave_the_session.ensures.law;
      messages = alone.messages;
      opening = alone.opening;
      closing = alone.closing;
      undo_fits = fit.undo;
      redo_fits = fit.redo;
      there_and_back = c.undo_and_redo_messages_lead_there_and_back.ensures;
      there = c.undo_messages_go_back.ensures;
      earlier = c.undo_goes_back_in_every_run.ensures.runs;
    })
