use Rattle.performing.proofs.SessionLemmas.{refl, ap, sym, subst, Session, documents_in, held_less, released, HaveWidths, documents_alone, one_left, released_so}
use Rattle.scene.specs.proved.ViewWidths.{one_place, widths_changed, widths_living}
use Rattle.performing.proofs.sessions.release.Goals as goal

pub returns : goal.returns
returns c =
    let s = c.args.state.now in let kept = c.requires.kept in let done = c.release.ensures in
    let changed = released_so c.the_living_are_left.ensures kept c.args.document c.release.new.self done.documents done.next in
    record {
      changed = changed;
      stays = documents_alone kept c.release.new.self (one_left c.args.document released (λ d. refl) s.documents c.release.new.self kept.documents done.documents done.others done.rest done.next done.capacity)
          (subst (λ ds. HaveWidths ds s.views) (sym (ap (λ (x : Session). x.documents) changed)) (widths_living _ s.views (widths_changed (held_less c.args.document) (one_place released (λ d. (refl, refl)) c.args.document) (documents_in s.documents) s.views kept.widths)));
    }
