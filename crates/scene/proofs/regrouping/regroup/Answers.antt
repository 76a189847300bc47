use Rattle.scene.proofs.Regrouped.{regrouped_can_all, regrouped_views, regrouped_watched}
use Rattle.scene.proofs.regrouping.regroup.Goals as goal

pub follow-requires : goal.follow-requires
follow-requires c =
    let laws = c.edits_of_settings.ensures in
    let small = c.document_is_small.ensures in
    rw (c.views.ensures, c.requires.edits) (regrouped_can_all c.args.document.now.document c.args.types c.args.views.now c.requires.watched laws.fit laws.few small.text small.width)

pub returns-clause-views : goal.returns-clause-views
returns-clause-views c =
    regrouped_views c.args.document.now.document c.args.types c.args.views.now c.requires.watched c.follow.new.views c.rows_that_meet.ensures.flags c.edits_of_settings.ensures.flags
    (rw (c.views.ensures, c.requires.edits) at c.follow.ensures)

pub returns-clause-watched : goal.returns-clause-watched
returns-clause-watched c = λ rows.
    regrouped_watched c.args.document.now.document c.args.types c.args.views.now c.requires.watched c.follow.new.views c.rows_that_meet.ensures.flags c.edits_of_settings.ensures.flags
    (rw (c.views.ensures, c.requires.edits) at c.follow.ensures) rows c.rows_match_lines.ensures.flags_regrouped
