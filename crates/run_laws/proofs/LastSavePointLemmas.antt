-- The last save point of a run: each document has one, and from it on the law of the save point holds.
use Rattle.run_laws.proofs.Names.{◌≡◌, ℕ, ◌==◌, Bool, true, false, List, [], ◌∷◌, length, refl, ap, ◌∙◌, sym, subst, inl, inr, Option, Some, None, Err, ◌⊎◌, not, ◌&&◌, option_or, eqb-true, eq-eqb, and_parts, or_cases, or_parts, Kind, SetSavePoint, EmptyUndoBuffer, Message, NoSuchDocument, Command, SendMessage, kind_of, flag, at_save_point, Session, View, Document, view_at, document_at, text_of, new_session, with_document, changed_document, table, request, table_from_view, table_from_kind, table_from_document, answered, plan_of, Answered, IsSound, CommandKeepsSound, NewSessionIsSound, PlansFit, Running, starting, after_command, after_message, run_to, document_id, replaced_found, is_saving, SetsNoSavePoint, KeepsTheSavePoint, UnmodifiedIsTheSavedText, GetModifyTells, text_if_there, text_at}
use Rattle.run_laws.specs.LastSavePointLaws.{is_view_of, is_saving_message, sets_save_point, is_created, gives_save_point, SavePoint, save_point_if, last_save_point, AllIsCollected, HasTextOf, SavedIsUnmodified, UnmodifiedIsTold, UnmodifiedIsTheLastSavedText, ToldUnmodifiedIsTheLastSavedText}
use Rattle.ed_model.specs.declared.plan.DocumentChange.TheVariants as document_change
use Rattle.run_laws.proofs.TableWays.{table_at}
use Rattle.run_laws.proofs.Going.{From}
use Rattle.run_laws.proofs.IdLemmas.{Any, command_goes_on}
use Rattle.run_laws.proofs.SavePointLemmas.{get_modify_value}

-- A document that was just given a save point counts as unmodified.

saving_is : (kind : Kind) → is_saving kind ≡ true → (kind ≡ SetSavePoint) ⊎ (kind ≡ EmptyUndoBuffer)
saving_is SetSavePoint e = inl refl
saving_is EmptyUndoBuffer e = inr refl
saving_is _ e = cc

created_is_unmodified : PlansFit → (files : List (List ℕ)) (c : Command) (s : Running) (id : ℕ) (d : Document) → IsSound s.session
    → is_created (document_at s.session.documents id) (document_at (after_command files c s).0.session.documents id) ≡ true
    → document_at (after_command files c s).0.session.documents id ≡ Some d → at_save_point d.history ≡ true
created_is_unmodified fits files c s id d sound created there =
    go (document_at s.session.documents id) (document_at (after_command files c s).0.session.documents id) refl created
  where
    go : (o p : Option Document) → document_at s.session.documents id ≡ o → is_created o p ≡ true → at_save_point d.history ≡ true
    go None p gone e =
        let new : From Any s.session.next_document None d =
        subst (λ (o : Option Document). From Any s.session.next_document o d) gone (command_goes_on fits files c s sound id d there) in
        subst (λ (x : Document). at_save_point x.history ≡ true) (sym new.1.1) refl
    go (Some x) p gone e = absurd (cc)

-- one document replaced
put_in_place : (ds : List Document) (id : ℕ) (old new d : Document) → document_at ds id ≡ Some old → new.id ≡ old.id → at_save_point new.history ≡ true
    → document_at (with_document new ds) id ≡ Some d → at_save_point d.history ≡ true
put_in_place ds id old new d found same at there =
    let is : new.id ≡ id = same ∙ document_id ds id old found in
    let here : document_at (with_document new ds) id ≡ Some new = replaced_found ds id old new is found in
    let both : new ≡ d = cc in
    subst (λ (x : Document). at_save_point x.history ≡ true) both at

-- SETSAVEPOINT and EMPTYUNDOBUFFER
message_saves : (s : Session) (view : ℕ) (m : Message) (id : ℕ) (d : Document) → (is_view_of id (view_at s.views view) && is_saving_message (kind_of m.number)) ≡ true
    → document_at (after_message s (table s view m)).0.session.documents id ≡ Some d → at_save_point d.history ≡ true
message_saves s view m id d saves there = at_view (view_at s.views view) (kind_of m.number) refl refl saves
  where
    by : (x : Answered) → table s view m ≡ x → document_at (after_message s x).0.session.documents id ≡ Some d
    by x e = subst (λ (y : Answered). document_at (after_message s y).0.session.documents id ≡ Some d) e there

    at_document : (v : View) (kind : Kind) → view_at s.views view ≡ Some v → kind_of m.number ≡ Some kind → v.document ≡ id → (kind ≡ SetSavePoint) ⊎ (kind ≡ EmptyUndoBuffer)
        → (o : Option Document) → document_at s.documents v.document ≡ o → at_save_point d.history ≡ true
    at_document v kind sees is on which None gone =
        let refused : table s view m ≡ Err NoSuchDocument = ap (table_from_view s m) sees ∙ ap (table_from_kind s v m) is ∙ ap (table_from_document s v kind m) gone in
        let stays : document_at s.documents id ≡ Some d = by (Err NoSuchDocument) refused in
        let none : document_at s.documents id ≡ None = ap (document_at s.documents) (sym on) ∙ gone in
        absurd (cc)
    at_document v kind sees is on (inl save) (Some c) finds =
        let r = request s v c m in
        put_in_place s.documents id c (changed_document m.text document_change.SetSavePoint c) d (ap (document_at s.documents) (sym on) ∙ finds) refl
        (eq-eqb (length c.history.past) (length c.history.past) refl)
        (by (answered SetSavePoint r (plan_of SetSavePoint r)) (table_at s view m v SetSavePoint c sees (is ∙ ap Some save) finds))
    at_document v kind sees is on (inr empty) (Some c) finds =
        let r = request s v c m in
        put_in_place s.documents id c (changed_document m.text document_change.ForgetHistory c) d (ap (document_at s.documents) (sym on) ∙ finds) refl refl
        (by (answered EmptyUndoBuffer r (plan_of EmptyUndoBuffer r)) (table_at s view m v EmptyUndoBuffer c sees (is ∙ ap Some empty) finds))

    at_view : (o : Option View) (k : Option Kind) → view_at s.views view ≡ o → kind_of m.number ≡ k → (is_view_of id o && is_saving_message k) ≡ true → at_save_point d.history ≡ true
    at_view None k sees is e = absurd (cc)
    at_view (Some v) None sees is e = let no = (and_parts (v.document == id) false e).1 in absurd (cc)
    at_view (Some v) (Some kind) sees is e =
        let parts = and_parts (v.document == id) (is_saving kind) e in
        at_document v kind sees is (eqb-true v.document id parts.0) (saving_is kind parts.1) (document_at s.documents v.document) refl

set_is_unmodified : (files : List (List ℕ)) (c : Command) (s : Running) (id : ℕ) (d : Document) → sets_save_point id s.session c ≡ true
    → document_at (after_command files c s).0.session.documents id ≡ Some d → at_save_point d.history ≡ true
set_is_unmodified files (SendMessage view m) s id d sets there = message_saves s.session view m id d sets there
set_is_unmodified files _ s id d sets there = absurd (cc)

pub saved_is_unmodified : PlansFit → SavedIsUnmodified
saved_is_unmodified fits files c s id d sound gives there =
    let t = (after_command files c s).0 in
    elim (or_cases (is_created (document_at s.session.documents id) (document_at t.session.documents id)) (sets_save_point id s.session c) gives) [
      | inl created ↦ created_is_unmodified fits files c s id d sound created there
      | inr sets ↦ set_is_unmodified files c s id d sets there
    ]

-- GETMODIFY then answers 0.

pub unmodified_is_told : UnmodifiedIsTold
unmodified_is_told s view m v d done is sees finds e at = get_modify_value s view m v d done is sees finds e ∙ ap (λ (b : Bool). flag (not b)) at

-- Commands that give no save point.

module _ (files : List (List ℕ)) (id : ℕ) where
  abbrev GivesNone : List Command → Running → Type 0
  GivesNone [] s = Unit {0}
  GivesNone (c ∷ cs) s = let t = (after_command files c s).0 in (gives_save_point id s.session c t.session ≡ false) × GivesNone cs t

  not_given : (b : Bool) (t : Running) (cs : List Command) → save_point_if b t cs ≡ None → b ≡ false
  not_given true t cs e = absurd (cc)
  not_given false t cs e = refl

  gives_none : (cs : List Command) (s : Running) → last_save_point files id cs s ≡ None → GivesNone cs s
  gives_none [] s e = tt
  gives_none (c ∷ cs) s e = go (last_save_point files id cs (after_command files c s).0) refl e (gives_none cs (after_command files c s).0)
    where
      t : Running
      t = (after_command files c s).0

      go : (o : Option SavePoint) → last_save_point files id cs t ≡ o → option_or o (save_point_if (gives_save_point id s.session c t.session) t cs) ≡ None
          → (last_save_point files id cs t ≡ None → GivesNone cs t) → GivesNone (c ∷ cs) s
      go None none f rest = (not_given (gives_save_point id s.session c t.session) t cs f, rest none)
      go (Some last) some f rest = absurd (cc)

  sets_none : (c : Command) (s : Session) → sets_save_point id s c ≡ false → SetsNoSavePoint id s c
  sets_none (SendMessage view m) s e = λ v kind sees on is.
      let at_view : ((v.document == id) && is_saving_message (kind_of m.number)) ≡ false =
      subst (λ (o : Option View). (is_view_of id o && is_saving_message (kind_of m.number)) ≡ false) sees e in
      let at_kind : ((v.document == id) && is_saving kind) ≡ false = subst (λ (k : Option Kind). ((v.document == id) && is_saving_message k) ≡ false) is at_view in
      subst (λ (b : Bool). (b && is_saving kind) ≡ false) (eq-eqb v.document id on) at_kind
  sets_none _ s e = tt

  keeps_save_point : (cs : List Command) (s : Running) → GivesNone cs s → AllIsCollected files id cs s → KeepsTheSavePoint files id cs s
  keeps_save_point [] s none all = tt
  keeps_save_point (c ∷ cs) s none all =
      let t = (after_command files c s).0 in
      let neither = or_parts (is_created (document_at s.session.documents id) (document_at t.session.documents id)) (sets_save_point id s.session c) none.0 in
      (sets_none c s.session neither.1, all.0, keeps_save_point cs t none.1 all.1)

  not_created : (o p : Option Document) → o ≡ None → is_created o p ≡ false → p ≡ None
  not_created None None e f = refl
  not_created None (Some d) e f = absurd (cc)
  not_created (Some c) p e f = absurd (cc)

  still_none : (cs : List Command) (s : Running) → GivesNone cs s → document_at s.session.documents id ≡ None → document_at (run_to files cs s).session.documents id ≡ None
  still_none [] s none gone = gone
  still_none (c ∷ cs) s none gone =
      let t = (after_command files c s).0 in
      let neither = or_parts (is_created (document_at s.session.documents id) (document_at t.session.documents id)) (sets_save_point id s.session c) none.0 in
      still_none cs t none.1 (not_created (document_at s.session.documents id) (document_at t.session.documents id) gone neither.0)

  -- The text of the last save point.

  text_of_the_last : PlansFit → UnmodifiedIsTheSavedText → CommandKeepsSound → (cs : List Command) (s : Running) (d : Document) (last : SavePoint) → IsSound s.session
      → document_at (run_to files cs s).session.documents id ≡ Some d → at_save_point d.history ≡ true → last_save_point files id cs s ≡ Some last
      → AllIsCollected files id last.since last.state → text_of d ≡ text_at last.state.session id
  text_of_the_last fits law keeps [] s d last sound there at is = absurd (cc)
  text_of_the_last fits law keeps (c ∷ cs) s d last sound there at is =
      go (last_save_point files id cs t) refl is (λ found. text_of_the_last fits law keeps cs t d last (keeps files c s sound) there at found)
    where
      t : Running
      t = (after_command files c s).0

      from_here : GivesNone cs t → gives_save_point id s.session c t.session ≡ true → AllIsCollected files id cs t → (o : Option Document) → document_at t.session.documents id ≡ o → text_of d ≡ text_if_there o
      from_here none gives all None gone = let no = still_none cs t none gone in absurd (cc)
      from_here none gives all (Some e) found =
          law files cs t id e d (keeps files c s sound) found (saved_is_unmodified fits files c s id e sound gives found)
          (keeps_save_point cs t none all) there at

      given : (b : Bool) → gives_save_point id s.session c t.session ≡ b → GivesNone cs t → save_point_if b t cs ≡ Some last
          → AllIsCollected files id last.since last.state → text_of d ≡ text_at last.state.session id
      given true gives none f =
          let here : SavePoint = record { state = t; since = cs } in
          let same : here ≡ last = cc in
          subst (λ (k : SavePoint). AllIsCollected files id k.since k.state → text_of d ≡ text_at k.state.session id) same
          (λ all. from_here none gives all (document_at t.session.documents id) refl)
      given false gives none f = absurd (cc)

      go : (o : Option SavePoint) → last_save_point files id cs t ≡ o → option_or o (save_point_if (gives_save_point id s.session c t.session) t cs) ≡ Some last
          → (last_save_point files id cs t ≡ Some last → AllIsCollected files id last.since last.state → text_of d ≡ text_at last.state.session id)
          → AllIsCollected files id last.since last.state → text_of d ≡ text_at last.state.session id
      go None none f rest = given (gives_save_point id s.session c t.session) refl (gives_none cs t none) f
      go (Some k) some f rest = rest (some ∙ f)

pub unmodified_is_the_last_saved_text : PlansFit → UnmodifiedIsTheSavedText → CommandKeepsSound → NewSessionIsSound → UnmodifiedIsTheLastSavedText
unmodified_is_the_last_saved_text fits law keeps new files commands limits id d there at = go (last_save_point files id commands (starting (new_session limits))) refl
  where
    go : (o : Option SavePoint) → last_save_point files id commands (starting (new_session limits)) ≡ o → HasTextOf files id d o
    go None none =
        let no = still_none files id commands (starting (new_session limits)) (gives_none files id commands (starting (new_session limits)) none) refl in
        absurd (cc)
    go (Some last) some = text_of_the_last files id fits law keeps commands (starting (new_session limits)) d last (new limits) there at some

pub told_unmodified_is_the_last_saved_text : UnmodifiedIsTheLastSavedText → GetModifyTells → ToldUnmodifiedIsTheLastSavedText
told_unmodified_is_the_last_saved_text law tells files commands limits view v d sees finds told =
    law files commands limits v.document d finds
    (tells (run_to files commands (starting (new_session limits))).session view told.0 v d told.1 told.2 sees finds told.3 told.4)
