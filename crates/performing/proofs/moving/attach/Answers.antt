use Rattle.performing.proofs.SessionLemmas.{ap, sym, ◌∙◌, attached_so, attached_stays}
use Rattle.ed_view.specs.Flags.{kept_capacity}
use Rattle.performing.proofs.moving.attach.Goals as goal

pub returns : goal.returns
returns c =
    let made = c.attach_to.ensures.view c.at-document.result.now.document (sym c.id.ensures) (sym c.line_count.ensures.count) in
    let can = c.requires.can in let there = c.at-document.ensures in let at = c.at_mut-sender.ensures.value in
    record {
      attached = attached_so can c.at-document.result.now there c.at_mut-sender.result.now c.attach_to.new.self at made c.move_view.new.documents c.move_view.ensures.moved c.move_view.ensures.stays.next;
      stays = attached_stays can c.at-document.result.now there c.at_mut-sender.result.now c.attach_to.new.self at made (c.attach_to.ensures.width ∙ c.is_large.ensures)
          (c.attach_to.ensures.capacity ∙ ap (λ b. kept_capacity c.at_mut-sender.result.now.large b c.at_mut-sender.result.now.capacity) (sym c.attach_to.ensures.width)) c.move_view.new.documents c.move_view.ensures.stays
          c.move_view.ensures.moved;
    }
