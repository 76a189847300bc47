use Rattle.run_laws.proofs.SavePointLemmas.{unmodified_is_the_saved_text, get_modify_tells}
use Rattle.run_laws.proofs.save_point_laws.an_unmodified_document_has_its_saved_text.Goals as goal

pub returns : goal.returns
returns c =
    let earlier = c.earlier_texts_are_kept.ensures in
    let back = c.undo_and_redo_give_back_the_text.ensures in
    let append = c.a_change_is_appended.ensures in
    let seals = c.seals_and_groups.ensures in
    let fit = c.plans_are_fit.ensures in
    record {
      text = unmodified_is_the_saved_text
          (record {
            begun = earlier.begun;
            joined = earlier.joined;
            container_begun = earlier.container_begun;
            container_joined = earlier.container_joined;
            undo = earlier.undo;
            redo = earlier.redo;
            seals = earlier.seals;
            cells = c.positions_after_a_step.ensures.cells_follow_bytes;
            undo_made = back.undo;
            redo_made = back.redo;
            undo_then_redo = back.undo_then_redo;
            not_collecting = append.not_collecting;
            appended_keeps = append.others;
            append_joins = append.joins;
            joins_none = append.joins_none;
            append_counts = append.count;
            sealed = seals.seals;
            group_begun = seals.group_begun;
            group_ended = seals.group_ended;
            fits = fit.in_range;
            edit_fits = fit.edit_steps;
            undo_fits = fit.undo_steps;
            redo_fits = fit.redo_steps;
          })
          c.soundness_is_kept.ensures.by_commands;
      told = get_modify_tells;
    }
