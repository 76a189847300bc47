use Rattle.performing.proofs.SessionLemmas.{◌≡◌, ◌+◌, ap, sym, ◌∙◌, refl, subst, Create, Kept, document_of, new_document, new_kept, with_held_by_callers, few_ids, session_more, stays_more}
use Rattle.performing.proofs.sessions.create.Goals as goal

pub add-requires : goal.add-requires
add-requires c = record { few = few_ids c.requires.kept c.requires.few }

pub returns : goal.returns
returns c =
    let s = c.args.state.now in let kept = c.requires.kept in let k = c.hold.new.self in let table = c.add.new.documents in let n = s.documents.next in
    let made = c.in_ok-new.ensures ∙ ap (λ id. new_kept id c.args.options) c.next.ensures.next in
    let new = c.hold.ensures ∙ ap (λ (k : Kept). with_held_by_callers (k.document.held_by_callers + 1) k) made in
    record {
      changed = session_more kept k table c.in_ok-add.ensures.added (let d = new_document n c.args.options in record d { held_by_callers = 1 }) (ap document_of new);
      same = tt;
      stays = stays_more kept k table c.in_ok-add.ensures.added (Create c.args.options) (ap (λ (k : Kept). k.document.id) new) refl c.in_ok-add.ensures.grows
          (subst (λ (k : Kept). k ≡ record (new_kept n 0) { document = k.document }) (sym new) refl);
    }
