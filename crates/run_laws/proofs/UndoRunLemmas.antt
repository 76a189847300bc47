-- UNDO and REDO between other commands: each UNDO and REDO is answered, and all other commands leave the document alone.
use Rattle.run_laws.proofs.Names.{◌≡◌, ℕ, zero, suc, ◌≤◌, cond, Bool, true, false, List, [], ◌∷◌, length, refl, ap, ◌∙◌, sym, subst, arith, inl, inr, Some, Ok, Err, Kind, Undo, Redo, Message, TooLong, Command, LoadFile, SendMessage, Outcome, Response, kind_of, Plan, History, Change, can_undo, can_redo, undo_changes, redo_changes, Session, View, Document, view_at, document_at, text_of, new_session, limit_of, Request, size, stays_within, act_on_history, text_steps, table, answered, plan_of, request, Answered, LeavesSession, QueriesLeaveTheSession, IsSound, CommandKeepsSound, IsSoundInEveryState, undone_text, PlansFit, Running, starting, after_command, after_message, set_text_message, run_to, found_below, same_document, IsSoundInEveryStateFrom}
use Rattle.ed_model.specs.RunUndoLaws.{UndoGoesBackInEveryRun}
use Rattle.ed_model.specs.UndoMessageLaws.{IsNeverTooLong, UndoIsNeverTooLong, RedoIsNeverTooLong}
use Rattle.ed_model.specs.RepeatedUndoLaws.{IsLeftAlone, LeavesAlone, MessagesLeaveOtherDocumentsAlone, OpeningLeavesDocumentsAlone, ClosingLeavesDocumentsAlone, AreAnswered, HasText, UndosGoBackThenRedosGoOn, UndoMessagesGoBack}
use Rattle.run_laws.specs.UndoRunLaws.{Acts, GoesToOthers, GoesAside, Act, UndoGoesBackOverCommands}
use Rattle.ed_model.specs.declared.plan.Plan.TheVariants as plan
use Rattle.run_laws.proofs.TableWays.{of_table, table_at, OfMessages, of_command}
use Rattle.run_laws.proofs.IdLemmas.{next_ids_never_fall, still_there, there_before}

-- The laws that these proofs use.
pub record Cited : Type 0 where
  pub fits : PlansFit
  pub keeps : CommandKeepsSound
  pub sound : IsSoundInEveryState
  pub stays_sound : IsSoundInEveryStateFrom
  pub queries : QueriesLeaveTheSession
  pub messages : MessagesLeaveOtherDocumentsAlone
  pub opening : OpeningLeavesDocumentsAlone
  pub closing : ClosingLeavesDocumentsAlone
  pub undo_fits : UndoIsNeverTooLong
  pub redo_fits : RedoIsNeverTooLong
  pub there_and_back : UndosGoBackThenRedosGoOn
  pub there : UndoMessagesGoBack
  pub earlier : UndoGoesBackInEveryRun

-- UNDO and REDO are answered.

abbrev DoneOrTooLong : Answered → Type 0
DoneOrTooLong (Ok done) = Unit {0}
DoneOrTooLong (Err TooLong) = Unit {0}
DoneOrTooLong (Err other) = ⊥

acts_or_too_long : (kind : Kind) (r : Request) (can : Bool) (changes : List Change) (act : Plan) → DoneOrTooLong (answered kind r (act_on_history r can changes act))
acts_or_too_long kind r false changes act = tt
acts_or_too_long kind r true changes act = go r.document.read_only (stays_within (limit_of r.session.limits r.document) (size r) (text_steps changes))
  where
    go : (b within : Bool) → DoneOrTooLong (answered kind r (cond b (Ok plan.Attempt) (cond within (Ok act) (Err TooLong))))
    go true within = tt
    go false true = tt
    go false false = tt

done_unless_too_long : (x : Answered) → DoneOrTooLong x → (x ≡ Err TooLong → ⊥) → (done : Session × Response) × (x ≡ Ok done)
done_unless_too_long (Ok done) h fits = (done, refl)
done_unless_too_long (Err TooLong) h fits = absurd (fits refl)
done_unless_too_long (Err other) h fits = absurd h

-- a kind of message that is always answered, if its view and document exist
abbrev IsAlwaysAnswered : Kind → Type 0
IsAlwaysAnswered kind =
    (s : Session) (view : ℕ) (m : Message) (v : View) (d : Document) → IsSound s → kind_of m.number ≡ Some kind → view_at s.views view ≡ Some v → document_at s.documents v.document ≡ Some d
    → (done : Session × Response) × (table s view m ≡ Ok done)

-- UNDO or REDO, whose plan acts on the history, is answered
is_answered : (kind : Kind) (can : History → Bool) (changes : History → List Change) (act : Plan)
    → ((r : Request) → plan_of kind r ≡ act_on_history r (can r.document.history) (changes r.document.history) act) → IsNeverTooLong kind → IsAlwaysAnswered kind
is_answered kind can changes act plans fits s view m v d sound is sees finds =
    let r = request s v d m in
    done_unless_too_long (table s view m)
    (subst DoneOrTooLong (sym (table_at s view m v kind d sees is finds ∙ ap (answered kind r) (plans r))) (acts_or_too_long kind r (can d.history) (changes d.history) act))
    (fits s view m sound is)

-- Commands that do not concern the document leave it alone.

alone_same : (id : ℕ) (s : Session) (d e : Document) → document_at s.documents id ≡ Some d → document_at s.documents id ≡ Some e → IsLeftAlone d e
alone_same id s d e found still = let same : d ≡ e = cc in subst (IsLeftAlone d) same (record { text = refl; history = refl; read_only = refl })

abbrev LeavesItAlone : ℕ → Session → Session → Type 0
LeavesItAlone id s t = (d e : Document) → document_at s.documents id ≡ Some d → document_at t.documents id ≡ Some e → IsLeftAlone d e

-- a message to a view of another document, or to no view
others_alone : MessagesLeaveOtherDocumentsAlone → (id : ℕ) (s : Session) (view : ℕ) (m : Message) → IsSound s → GoesToOthers id s view
    → (done : Session × Response) → table s view m ≡ Ok done → LeavesItAlone id s done.0
others_alone law id s view m sound others done is =
    of_table (λ (x : Answered). x ≡ Ok done → LeavesItAlone id s done.0) (λ refusal other e. absurd (cc)) s view m
    (λ v kind c p sent e d f found still. law s view m v done sound sent.sees is id d f (λ same. others v sent.sees (sym same)) found still) is

aside_alone : Cited → (files : List (List ℕ)) (id : ℕ) (c : Command) (s : Running) → IsSound s.session → GoesAside id s.session c → LeavesItAlone id s.session (after_command files c s).0.session
aside_alone laws files id c s sound aside =
    of_command (λ (x : Running × Outcome). LeavesItAlone id s.session x.0.session) files s (λ refusal. alone_same id s.session)
    (λ done is d e found still. laws.opening s.session done is id d e (λ none. none) found still)
    (λ view t is d e found still. laws.closing s.session t view sound is id d e (λ none. none) found still)
    (λ value. alone_same id s.session) c (go c aside)
  where
    go : (c : Command) → GoesAside id s.session c
        → OfMessages (λ view m. (done : Session × Response) → table s.session view m ≡ Ok done → LeavesItAlone id s.session done.0) c
    go (LoadFile view file) others = λ bytes. others_alone laws.messages id s.session view (set_text_message bytes) sound others
    go (SendMessage view m) (inl others) = others_alone laws.messages id s.session view m sound others
    go (SendMessage view m) (inr query) = λ done is d e found still.
        let same : done.0 ≡ s.session = subst (LeavesSession s.session) is (laws.queries s.session view m query.0 query.1 query.2) in
        alone_same id s.session d e found (ap (λ (t : Session). document_at t.documents id) (sym same) ∙ still)
    go _ aside = tt

alone_through : (id : ℕ) (s t u : Session) (l : LeavesAlone id s t) (x : Document) → document_at u.documents id ≡ Some x → IsLeftAlone l.after x → LeavesAlone id s u
alone_through id s t u l x found left = record {
  before = l.before;
  after = x;
  found = l.found;
  still_found = found;
  left = record { text = left.text ∙ l.left.text; history = left.history ∙ l.left.history; read_only = left.read_only ∙ l.left.read_only };
}

alone_here : (id : ℕ) (s : Session) (x : Document) → document_at s.documents id ≡ Some x → LeavesAlone id s s
alone_here id s x found = record { before = x; after = x; found = found; still_found = found; left = record { text = refl; history = refl; read_only = refl } }

-- a number of messages of this kind, answered one after another
abbrev Chain : Kind → ℕ → ℕ → Session → Session → Type 0
Chain kind id k s t = (ms : List (ℕ × Message)) × (length ms ≡ k) × AreAnswered kind id ms s t

module _ (laws : Cited) (files : List (List ℕ)) (kind : Kind) (answers : IsAlwaysAnswered kind) (id : ℕ) where
  acts_next : (k : ℕ) (c : Command) (cs : List Command) (origin : Session) (s : Running) (e : Document) → IsSound s.session → LeavesAlone id origin s.session → Acts kind id s.session c
      → document_at (run_to files cs (after_command files c s).0).session.documents id ≡ Some e
      → ((o : Session) → LeavesAlone id o (after_command files c s).0.session → Chain kind id k o (run_to files cs (after_command files c s).0).session)
      → Chain kind id (suc k) origin (run_to files cs (after_command files c s).0).session
  acts_next k (SendMessage view m) cs origin s e sound alone acts end rest =
      let v = acts.1.0 in
      let here : document_at s.session.documents v.document ≡ Some alone.after = ap (document_at s.session.documents) acts.1.2 ∙ alone.still_found in
      let done = answers s.session view m v alone.after sound acts.0 acts.1.1 here in
      let next : (after_command files (SendMessage view m) s).0.session ≡ done.0.0 = ap (λ (x : Answered). (after_message s.session x).0.session) done.1 in
      let there = still_there laws.fits laws.keeps files (SendMessage view m) cs s id alone.after e sound alone.still_found end in
      let after = rest (after_command files (SendMessage view m) s).0.session (alone_here id (after_command files (SendMessage view m) s).0.session there.0 there.1) in (
        (view, m) ∷ after.0,
        ap suc after.1,
        (
          s.session,
          alone,
          done.0,
          record { is_kind = acts.0; view = v; found = acts.1.1; document = acts.1.2; answered = done.1 },
          subst (λ (x : Session). AreAnswered kind id after.0 x (run_to files cs (after_command files (SendMessage view m) s).0).session) next after.2,
        ),
      )
  acts_next k _ cs origin s e sound alone acts end rest = absurd acts

  aside_next : (c : Command) (cs : List Command) (origin : Session) (s : Running) (e : Document) → IsSound s.session → (alone : LeavesAlone id origin s.session) → GoesAside id s.session c
      → document_at (run_to files cs (after_command files c s).0).session.documents id ≡ Some e → LeavesAlone id origin (after_command files c s).0.session
  aside_next c cs origin s e sound alone aside end =
      let there = still_there laws.fits laws.keeps files c cs s id alone.after e sound alone.still_found end in
      alone_through id origin s.session (after_command files c s).0.session alone there.0 there.1
      (aside_alone laws files id c s sound aside alone.after there.0 alone.still_found there.1)

  chained : (cs : List Command) (k : ℕ) (origin : Session) (s : Running) (e : Document) → IsSound s.session → LeavesAlone id origin s.session → Act files kind id k cs s
      → document_at (run_to files cs s).session.documents id ≡ Some e → Chain kind id k origin (run_to files cs s).session
  chained [] zero origin s e sound alone act end = ([], refl, alone)
  chained [] (suc k) origin s e sound alone act end = absurd act
  chained (c ∷ cs) zero origin s e sound alone act end =
      chained cs zero origin (after_command files c s).0 e (laws.keeps files c s sound) (aside_next c cs origin s e sound alone act.0 end) act.1 end
  chained (c ∷ cs) (suc k) origin s e sound alone (inl act) end =
      acts_next k c cs origin s e sound alone act.0 end (λ o l. chained cs k o (after_command files c s).0 e (laws.keeps files c s sound) l act.1 end)
  chained (c ∷ cs) (suc k) origin s e sound alone (inr act) end =
      chained cs (suc k) origin (after_command files c s).0 e (laws.keeps files c s sound) (aside_next c cs origin s e sound alone act.0 end) act.1 end

text_there : (id : ℕ) (s : Session) (e : Document) (text : List ℕ) → document_at s.documents id ≡ Some e → HasText id s text → text_of e ≡ text
text_there id s e text found has = let same : has.0 ≡ e = same_document (document_at s.documents id) has.0 e has.1 found in ap text_of (sym same) ∙ has.2

pub undo_goes_back_over_commands : Cited → UndoGoesBackOverCommands
undo_goes_back_over_commands laws files limits before undos redos id k d found written depth enough act =
    let start = starting (new_session limits) in
    let s = run_to files before start in
    let t = run_to files undos s in
    let sound : IsSound s.session = laws.sound files before limits in
    let sound_after : IsSound t.session = laws.stays_sound files undos s sound in
    let undo = is_answered Undo can_undo undo_changes plan.Undo (λ r. refl) laws.undo_fits in
    let redo = is_answered Redo can_redo redo_changes plan.Redo (λ r. refl) laws.redo_fits in (
      (λ e end.
          let chain = chained laws files Undo undo id undos k s.session s e sound (alone_here id s.session d found) act end in
          let text = laws.there s.session t.session id d chain.0 found written depth (subst (λ n. n ≤ length d.history.past) (sym chain.1) enough) chain.2 in
          laws.earlier files before limits id d found k enough
          ∙ ap Some (sym (text_there id t.session e _ end text ∙ ap (λ n. undone_text n d.history.past (text_of d)) chain.1))),
      (λ again e end.
          let below = found_below 0 s.session.next_document s.session.documents id d sound.document_ids found in
          let rises = (next_ids_never_fall files undos s).0 in
          let there = there_before laws.fits laws.keeps files redos t id e sound_after (omega arith) end in
          let back = chained laws files Undo undo id undos k s.session s there.0 sound (alone_here id s.session d found) act there.1 in
          let on = chained laws files Redo redo id redos k t.session t e sound_after (alone_here id t.session there.0 there.1) again end in
          let u = run_to files redos t in
          let texts = laws.there_and_back s.session t.session u.session id d back.0 on.0 sound found written depth (subst (λ n. n ≤ length d.history.past) (sym back.1) enough) back.2 (on.1 ∙ sym back.1) on.2 in
          text_there id u.session e (text_of d) end texts.1),
    )
