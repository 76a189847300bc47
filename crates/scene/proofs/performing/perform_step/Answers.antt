use Rattle.scene.proofs.Names.{◌≡◌, ◌+◌, ◌++◌, ◌∙◌, length, sym, ap, arith, subst, [], append-nil, edits_of, growth, TextStep, Document, text_of, lines_in, heard, before_note, after_note, document_after, need_of_step, length_text, step_edits, watchers, kept_scene, IsWatched, bits_of, all_bits, outline_movement, bits_behind, IsPerformed}
use Rattle.scene.proofs.ToldSoFar.{heard_last, last_fit}
use Rattle.scene.proofs.KindLemmas.{unheard_after}
use Rattle.scene.proofs.StepScenes.{same_scene, short_enough, all_can, views_after, watched_after}
use Rattle.scene.proofs.ChangeNotes.{bits_more, performed_few}
use Rattle.scene.proofs.ChangeSteps.{some_has, step_same, small_fits, outline_movement_is}
use Rattle.scene.proofs.performing.perform_step.Goals as goal

pub tell_after_change-requires-clause-can : goal.tell_after_change-requires-clause-can
tell_after_change-requires-clause-can c =
    let s = c.requires.can.0 in
    let can = c.requires.can.1 in
    let d = c.args.document.now.document in
    let turn = c.args.turn in
    let W = watchers d c.args.views.now in
    let who = bits_of turn.direction in
    let tb = c.tell_before_change-hears.ensures s can.at in
    let after = c.make_change-change.ensures.document s can.at in
    let text = length_text d in
    let short = short_enough d (length d.cells + (need_of_step d.line_end_types s).text) can.room.width in
    let numbers = small_fits d.line_end_types s (text_of d) can.fits (omega arith) in
    let changed = c.is_changed-changed.result in
    let bits = bits_behind turn changed in
    let grown = growth (lines_in d) (lines_in (document_after s d)) in
    let few = performed_few turn.direction turn.several turn.last changed (TextStep s) (kept_scene c.args.document.now c.args.views.now c.args.notes.now) in
    let n = can.notes in
    let before = tb.notes ∙ sym (append-nil (c.args.notes.now.notes ++ heard W (before_note who s))) in
    rw (after, c.line_count-old_lines.ensures.count, rw after at c.line_count-lines.ensures.count) (
      s,
      text_of d,
      can.at,
      record {
        fits = can.fits;
        place = numbers.0;
        count = numbers.1;
        unheard = λ no. unheard_after W s who (all_bits who) bits grown (bits_more turn.direction turn.several turn.last changed) (tb.unheard no);
        shared = tb.shared;
        room = last_fit (c.args.notes.now.notes ++ heard W (before_note who s) ++ []) (heard W (after_note bits grown s)) c.args.notes.now c.tell_before_change-hears.new.notes before tb.capacity (omega arith);
      },
    )

pub follow_change-requires : goal.follow_change-requires
follow_change-requires c =
    let s = c.requires.can.0 in
    let can = c.requires.can.1 in
    let d = c.args.document.now.document in
    let M = c.movement_of_change-movement.ensures ∙ ap outline_movement (some_has _ _ (TextStep s) can.at c.requires.outline) ∙ outline_movement_is s in
    let E : edits_of c.make_change-change.result ≡ step_edits s d = ap edits_of (c.make_change-change.ensures.lines s can.at) in
    let V : c.views.result.now ≡ d.views = c.views.ensures ∙ ap (λ (x : Document). x.views) (c.make_change-change.ensures.document s can.at) in
    record { can = rw (M, E, V) (all_can s d c.args.views.now can.watched can.fits c.moves_are_those_of_steps.ensures.fit c.edits_of_steps.ensures.few can.room.width) }

pub returns : goal.returns
returns c =
    let s = c.requires.can.0 in
    let can = c.requires.can.1 in
    let d = c.args.document.now.document in
    let turn = c.args.turn in
    let W = watchers d c.args.views.now in
    let tb = c.tell_before_change-hears.ensures s can.at in
    let after = c.make_change-change.ensures.document s can.at in
    let lines = rw after at c.line_count-lines.ensures.count in
    let grown = growth (lines_in d) (lines_in (document_after s d)) in
    let M = c.movement_of_change-movement.ensures ∙ ap outline_movement (some_has _ _ (TextStep s) can.at c.requires.outline) ∙ outline_movement_is s in
    let E : edits_of c.make_change-change.result ≡ step_edits s d = ap edits_of (c.make_change-change.ensures.lines s can.at) in
    let V : c.views.result.now ≡ d.views = c.views.ensures ∙ ap (λ (x : Document). x.views) after in
    let follow = rw (M, E, V) at c.follow_change.ensures in
    let put = (rw (after, c.line_count-old_lines.ensures.count, lines) at c.tell_after_change.ensures) s can.at in
    let before = tb.notes ∙ sym (append-nil (c.args.notes.now.notes ++ heard W (before_note (bits_of turn.direction) s))) in
    λ step e. subst (λ x. IsPerformed turn c.args.lines_changed c.is_changed-changed.result c.args.document.now c.args.views.now c.args.notes.now c.make_change-change.new.self c.follow_change.new.views c.tell_after_change.new.notes (TextStep x)) (step_same _ s step can.at e) (record {
      lines = rw (c.line_count-old_lines.ensures.count, lines) at c.is_changed-changed.ensures;
      scene = same_scene _ _ _ _ _ _ after (views_after s d c.args.views.now can.watched can.fits c.follow_change.new.views c.moves_are_those_of_steps.ensures.view follow)
          (heard_last (c.args.notes.now.notes ++ heard W (before_note (bits_of turn.direction) s) ++ []) (heard W (after_note (bits_behind turn c.is_changed-changed.result) grown s)) c.tell_before_change-hears.new.notes c.tell_after_change.new.notes before put);
      watched = subst (λ x. IsWatched x c.follow_change.new.views) (sym after)
          (watched_after s d c.args.views.now can.watched can.fits c.follow_change.new.views c.moves_are_those_of_steps.ensures.view follow d.history c.steps_keep_views_standing.ensures);
      room = c.make_change-change.ensures.room s can.at;
      rooms = record { memory = c.make_change-change.ensures.memory.others; capacity = ap (λ g. g.capacity) put ∙ tb.capacity; table = c.follow_change.ensures.stay };
      held = ap (λ g. g.held) put ∙ tb.held;
    })
