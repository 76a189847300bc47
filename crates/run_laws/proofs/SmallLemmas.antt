-- Refusals and references.
use Rattle.run_laws.proofs.Names.{◌≡◌, ℕ, ◌+◌, ◌<◌, List, [], ◌∷◌, length, subst, arith, Option, Some, None, Err, AllByRecursion, OutOfMemory, Session, View, Document, view_at, IsSound, IsSoundDocument, IsViewOn, ListsItsViews, closed_view, Answered, nat_le, nat_lt, ◌||◌, TooMany, Result, Refusal}
use Rattle.run_laws.specs.RefusalLaws.{MessagesNeverWantMemory, OpeningNeverWantsMemory, ClosingNeverWantsMemory}
use Rattle.run_laws.specs.HeldLaws.{WithoutViewsAllAreHeld}
use Rattle.run_laws.proofs.TableWays.{of_table}
use Rattle.run_laws.proofs.Choices.{either}

pub messages_never_want_memory : MessagesNeverWantMemory
messages_never_want_memory s view m =
    of_table (λ (x : Answered). x ≡ Err OutOfMemory → ⊥) (λ refusal other e. other (let same : refusal ≡ OutOfMemory = cc in same)) s view m (λ v kind d p sent e. cc)

pub opening_never_wants_memory : OpeningNeverWantsMemory
opening_never_wants_memory s =
    either (λ (x : Result (Session × ℕ) Refusal). x ≡ Err OutOfMemory → ⊥)
    (nat_le s.limits.views (length s.views) || nat_lt s.limits.ids s.next_view || nat_lt s.limits.ids s.next_document) (Err TooMany) _ (λ e. cc) (λ e. cc)

pub closing_never_wants_memory : ClosingNeverWantsMemory
closing_never_wants_memory s view = go (view_at s.views view)
  where
    go : (o : Option View) → closed_view s o ≡ Err OutOfMemory → ⊥
    go None e = cc
    go (Some v) e = cc

-- callers hold a document that lists no view, since it has a reference
held_alone : (ids : List ℕ) (held_by_callers : ℕ) (document : ℕ) → AllByRecursion (IsViewOn [] document) ids → 0 < length ids + held_by_callers → 0 < held_by_callers
held_alone [] held_by_callers document all some = omega arith
held_alone (id ∷ ids) held_by_callers document all some = absurd (let e = all.0.1 in cc)

all_held : (s : Session) (ds : List Document) → AllByRecursion (IsSoundDocument s.limits) ds → AllByRecursion (ListsItsViews []) ds → AllByRecursion (λ (d : Document). 0 < d.held_by_callers) ds
all_held s [] sound lists = tt
all_held s (d ∷ ds) sound lists = (held_alone d.views d.held_by_callers d.id lists.0 sound.0.referenced, all_held s ds sound.1 lists.1)

pub without_views_all_are_held : (s : Session) → IsSound s → WithoutViewsAllAreHeld s
without_views_all_are_held s h none = all_held s s.documents h.documents (subst (λ (vs : List View). AllByRecursion (ListsItsViews vs) s.documents) none h.lists)
