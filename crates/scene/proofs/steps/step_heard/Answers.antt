use Rattle.scene.proofs.Names.{◌≡◌, ◌+◌, ◌++◌, ◌∙◌, eqb-true, length, sym, ap, arith, subst, edits_of, growth, Document, text_of, lines_in, heard, before_note, after_note, document_after, step_in, need_of, step_edits, watchers, IsWatched, left_note, FitsWidth}
use Rattle.scene.proofs.ToldSoFar.{heard_last, last_fit, length_parts}
use Rattle.scene.proofs.KindLemmas.{can_tell, none_by_notes}
use Rattle.scene.proofs.StepScenes.{on_text, lent_fits, lent_text, small_step, same_scene, short_enough, all_can, views_after, watched_after}
use Rattle.scene.proofs.steps.step_heard.Goals as goal

pub tell_before-hears-requires : goal.tell_before-hears-requires
tell_before-hears-requires c =
    let d = c.args.document.now.document in
    let s = step_in c.args.step (text_of d) in
    let W = watchers d c.args.views.now in
    let p = length_parts c.args.notes.now.notes (heard W (before_note c.args.bits.before s)) (left_note c.args.is_left W)
    (heard W (after_note c.args.bits.after (growth (lines_in d) (lines_in (document_after s d))) s)) in
    let r = c.requires.notes.0 in
    record {
      fits = c.requires.fits;
      small = small_step d.line_end_types c.args.step (length d.cells) c.requires.fits (short_enough d (length d.cells + (need_of d.line_end_types c.args.step).text) c.requires.room.width);
      named = c.requires.watched.named;
      notes = omega arith;
      full = λ full.
          let e = eqb-true (length c.args.notes.now.notes) c.args.notes.now.capacity.notes full in
          none_by_notes W s c.args.bits.before c.args.bits.after (growth (lines_in d) (lines_in (document_after s d))) (omega arith) (omega arith);
      texts = c.requires.notes.1;
    }

pub tell_made-requires-clause-can : goal.tell_made-requires-clause-can
tell_made-requires-clause-can c =
    let d = c.args.document.now.document in
    let s = step_in c.args.step (text_of d) in
    let told = c.tell_before-hears.ensures in
    let after = rw told.document at c.step-change.ensures.document in
    let W = watchers d c.args.views.now in
    let grown = growth (lines_in d) (lines_in (document_after s d)) in
    let earlier = c.args.notes.now.notes ++ heard W (before_note c.args.bits.before s) ++ left_note c.args.is_left W in
    let fit = last_fit earlier (heard W (after_note c.args.bits.after grown s)) c.args.notes.now c.tell_before-hears.new.notes told.notes told.capacity c.requires.notes.0 in
    let can = can_tell c.tell_before-hears.result c.args.bits.before c.args.bits.after c.args.bits.after grown c.args.step (text_of d) W c.tell_before-hears.new.notes
    (λ m h. h) (on_text c.args.step d c.requires.fits) told.unheard told.shared fit in
    rw (after, rw told.document at c.line_count-old_lines.ensures.count, rw after at c.line_count-lines.ensures.count) (text_of d, can)

pub follow_change-requires : goal.follow_change-requires
follow_change-requires c =
    let d = c.args.document.now.document in
    let s = step_in c.args.step (text_of d) in
    let on = on_text c.args.step d c.requires.fits in
    let same = c.tell_before-hears.ensures.document in
    let E : edits_of c.step-change.result ≡ step_edits s d = ap edits_of (rw same at c.step-change.ensures.lines) in
    let V : c.views.result.now ≡ d.views = c.views.ensures ∙ ap (λ (x : Document). x.views) (rw same at c.step-change.ensures.document) in
    record {
      can = rw (c.movement_of.ensures (text_of d) on, E, V) (all_can s d c.args.views.now c.requires.watched (lent_fits c.args.step (text_of d) on)
          c.moves_are_those_of_steps.ensures.fit c.edits_of_steps.ensures.few (subst (λ n. FitsWidth d (length d.cells + n)) (lent_text d.line_end_types c.args.step (text_of d)) c.requires.room.width));
    }

pub returns : goal.returns
returns c =
    let d = c.args.document.now.document in
    let s = step_in c.args.step (text_of d) in
    let on = on_text c.args.step d c.requires.fits in
    let told = c.tell_before-hears.ensures in
    let after = rw told.document at c.step-change.ensures.document in
    let W = watchers d c.args.views.now in
    let grown = growth (lines_in d) (lines_in (document_after s d)) in
    let earlier = c.args.notes.now.notes ++ heard W (before_note c.args.bits.before s) ++ left_note c.args.is_left W in
    let fit = last_fit earlier (heard W (after_note c.args.bits.after grown s)) c.args.notes.now c.tell_before-hears.new.notes told.notes told.capacity c.requires.notes.0 in
    let can = can_tell c.tell_before-hears.result c.args.bits.before c.args.bits.after c.args.bits.after grown c.args.step (text_of d) W c.tell_before-hears.new.notes
    (λ m h. h) on told.unheard told.shared fit in
    let put = (rw (after, rw told.document at c.line_count-old_lines.ensures.count, rw after at c.line_count-lines.ensures.count) at c.tell_made.ensures.told) (text_of d) can in
    let E : edits_of c.step-change.result ≡ step_edits s d = ap edits_of (rw told.document at c.step-change.ensures.lines) in
    let V : c.views.result.now ≡ d.views = c.views.ensures ∙ ap (λ (x : Document). x.views) after in
    let follow = rw (c.movement_of.ensures (text_of d) on, E, V) at c.follow_change.ensures in
    let fits = lent_fits c.args.step (text_of d) on in
    record {
      scene = same_scene _ _ _ _ _ _ after (views_after s d c.args.views.now c.requires.watched fits c.follow_change.new.views c.moves_are_those_of_steps.ensures.view follow)
          (heard_last earlier (heard W (after_note c.args.bits.after grown s)) c.tell_before-hears.new.notes c.tell_made.new.notes told.notes put);
      watched = subst (λ x. IsWatched x c.follow_change.new.views) (sym after)
          (watched_after s d c.args.views.now c.requires.watched fits c.follow_change.new.views c.moves_are_those_of_steps.ensures.view follow d.history c.steps_keep_views_standing.ensures);
      room = rw told.document at c.step-change.ensures.room;
      rooms = record { memory = rw told.document at c.step-change.ensures.memory.others; capacity = ap (λ g. g.capacity) put ∙ told.capacity; table = c.follow_change.ensures.stay };
      held = ap (λ g. g.held) put ∙ told.held;
    }
