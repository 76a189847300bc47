-- Each id is given once: the id of a document that was dropped, or of a view that was closed, is never given again, and no two
-- views opened in a run have the same id.
use Rattle.std.specs.Prelude.{◌≡◌, ℕ, ◌<◌, ◌≤◌, List, [], ◌∷◌, None}
use Rattle.ed_types.specs.declared.script.Command.{Command}
use Rattle.ed_types.specs.declared.script.Outcome.{Outcome}
use Rattle.ed_types.specs.declared.script.Outcome.TheVariants.{Opened, Closed, Replied, Refused, Expected}
use Rattle.ed_model.specs.Session.{document_at, view_at}
use Rattle.ed_model.specs.SoundLaws.{IsSound, Rise}
use Rattle.ed_model.specs.Run.{Running, run_to, outcomes}

-- an id below the next one that no document has is the id of no document after a run
abbrev pub DocumentIdsNeverComeBack : Type 0
DocumentIdsNeverComeBack =
    (files : List (List ℕ)) (commands : List Command) (s : Running) (id : ℕ) →
    IsSound s.session → id < s.session.next_document → document_at s.session.documents id ≡ None →
    document_at (run_to files commands s).session.documents id ≡ None

-- the same for views
abbrev pub ViewIdsNeverComeBack : Type 0
ViewIdsNeverComeBack =
    (files : List (List ℕ)) (commands : List Command) (s : Running) (id : ℕ) →
    id < s.session.next_view → view_at s.session.views id ≡ None →
    view_at (run_to files commands s).session.views id ≡ None

-- the next ids never decrease
abbrev pub NextIdsNeverFall : Type 0
NextIdsNeverFall =
    (files : List (List ℕ)) (commands : List Command) (s : Running) →
    (s.session.next_document ≤ (run_to files commands s).session.next_document) × (s.session.next_view ≤ (run_to files commands s).session.next_view)

-- the ids of the views that were opened, in order
abbrev pub opened_ids : List Outcome → List ℕ
opened_ids [] = []
opened_ids (Opened id ∷ os) = id ∷ opened_ids os
opened_ids (Closed ∷ os) = opened_ids os
opened_ids (Replied reply ∷ os) = opened_ids os
opened_ids (Refused refusal ∷ os) = opened_ids os
opened_ids (Expected met value ∷ os) = opened_ids os

-- the views that a run opens have rising ids, from the next id on
abbrev pub OpenedIdsRise : Type 0
OpenedIdsRise =
    (files : List (List ℕ)) (commands : List Command) (s : Running) →
    Rise s.session.next_view (run_to files commands s).session.next_view (opened_ids (outcomes files commands s))
