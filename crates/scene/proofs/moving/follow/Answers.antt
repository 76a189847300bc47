use Rattle.scene.proofs.Names.{refl, sym, ap, ◌∙◌, get_or, drop_all}
use Rattle.std.specs.Option.{option_copied_mut}
use Rattle.scene.proofs.Pending.{drop_next}
use Rattle.scene.proofs.Staying.{views_same}
use Rattle.scene.proofs.Followed.{next_can, follow_one, follow_missing, follow_all}
use Rattle.scene.proofs.moving.follow.Goals as goal
use Rattle.scene.proofs.moving.follow.Goals.{in-Some, in_default}

pub loop-id-init : goal.loop-id-init
loop-id-init c = record { can = c.requires; views = refl; stay = views_same }

pub moved-requires : goal.moved-requires
moved-requires c =
    let so = rw (drop_next c.args.ids.now c.loop-id.id-index c.loop-id-test.true) at c.loop-id.invariant in
    let can = next_can _ _ _ _ (get_or c.args.ids.now c.loop-id.id-index 0) _ _ so c.in-Some.view.now (sym c.get_mut.ensures.value ∙ ap option_copied_mut c.in-Some.is) in
    record { anchor = can.anchor; caret = can.caret; target_start = can.target_start; target_end = can.target_end; lines = can.lines; few = can.few }

pub loop-id-preserved : goal.loop-id-preserved
loop-id-preserved c =
    let so = rw (drop_next c.args.ids.now c.loop-id.id-index c.loop-id-test.true) at c.loop-id.invariant in
    let id = get_or c.args.ids.now c.loop-id.id-index 0 in
    elim c.match-get_mut.branch [
      | in-Some w ↦
          follow_one _ _ _ _ id _ _ so w.in-Some.view.now w.moved.new.self _ (sym c.get_mut.ensures.value ∙ ap option_copied_mut w.in-Some.is) w.moved.ensures w.views-is
      | in_default w ↦ follow_missing _ _ _ _ id _ _ so _ (sym c.get_mut.ensures.value ∙ ap option_copied_mut w.in_default.is) w.views-is
    ]

pub returns : goal.returns
returns c = follow_all _ _ _ _ _ (rw (drop_all c.loop-id.id-index c.args.ids.now c.loop-id-test.false) at c.loop-id.invariant)
