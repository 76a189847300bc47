-- Recordings: a view that records keeps recording, each message is recorded once, and the messages that it recorded can be sent again.
use Rattle.run_laws.proofs.Names.{◌≡◌, ℕ, ◌==◌, cond, Bool, true, false, List, [], ◌∷◌, ◌++◌, length, map, refl, ap, ◌∙◌, sym, subst, arith, ◌≤◌, inl, inr, Some, Ok, ◌⊎◌, IfOk, ℤ, ◌&&◌, filter, flat_map, option_map, AllByRecursion, eqb-true, eq-eqb, and_parts, StartRecord, StopRecord, Outcome, marks_of, Kind, Message, Notice, Response, kind_of, ViewChange, Plan, Session, Document, View, view_at, with_view, Request, Planned, levels, view_after, changed_lines, changed_view, table, answered, with_recording, plan_of, performed_for, request, Answered, IsSound, attached_to, record_note, LeavesSession, QueriesLeaveTheSession, Running, starting, after_command, after_message, outcomes, run_to, MessageKeepsSound, IsSoundInEveryStateFrom, view_id, put_found, mapped_found, found_once, view_after_id, changed_lines_id, changed_view_id, Sending, sent, not_recording, without_recording, CanStandBetween, RecordingsCanBeReplayed, RecordsOneAtMost, RepliesRecordOneMessage, RunsRecordOneMessageAReply, IfOk-at_ok, map-map, map_where, all_weaker}
use Rattle.ed_model.specs.Recording.{told_message, recorded_messages, replies_in, sent_to}
use Rattle.ed_model.specs.declared.plan.ViewChange.TheVariants as view_change
use Rattle.ed_model.specs.declared.plan.Plan.TheVariants as plan
use Rattle.ed_model.specs.Notes as notes
use Rattle.run_laws.proofs.Walks.{step_keeps, sender_keeps, lines_keep, performed_views}
use Rattle.run_laws.proofs.TableWays.{of_table, table_at, of_any_command, Sent, of_answer}
use Rattle.run_laws.proofs.PlanShapes.{Leave, KeepsTo, leave_of, recorded_is_not_about_recording}
use Rattle.run_laws.proofs.NoteLemmas.{NoRecords, plans_tell_no_record}
use Rattle.run_laws.proofs.RecordingLemmas.{Same, Like, table_after_both}

-- The view exists and records.
abbrev Records : ℕ → List View → Type 0
Records k views = (v : View) × (view_at views k ≡ Some v) × (v.records ≡ true)

changed_records : (f : View → View) → ((v : View) → (f v).id ≡ v.id) → ((v : View) → (f v).records ≡ v.records) → (views : List View) (k : ℕ) → Records k views → Records k (map f views)
changed_records f same alike views k h = (f h.0, mapped_found (λ (v : View). v.id) f same views k ∙ ap (option_map f) h.1, alike h.0 ∙ h.2)

put_records : (new : View) (views : List View) (k : ℕ) → new.id ≡ k → new.records ≡ true → Records k views → Records k (with_view new views)
put_records new views k is records h = (new, put_found (λ (v : View). v.id) views k h.0 new is h.1, records)

sender_records : (f : View → View) → ((v : View) → (f v).id ≡ v.id) → ((v : View) → (f v).records ≡ v.records) → (sender : ℕ) (views : List View) (k : ℕ) → Records k views
    → Records k (map (λ (v : View). cond (v.id == sender) (f v) v) views)
sender_records f same alike sender views k h =
    changed_records (λ (v : View). cond (v.id == sender) (f v) v) (sender_keeps (λ (w : View). w.id) f same sender) (sender_keeps (λ (w : View). w.records) f alike sender) views k h

view_change_records : (levels : List ℕ) (what : ViewChange) (v : View) (l : Leave) (answer : ℤ) → l.recording ≡ false → KeepsTo l (plan.ChangeView what answer) → (changed_view levels what v).records ≡ v.records
view_change_records levels (view_change.SetRecording on) v l answer barred keeps = absurd (cc)
view_change_records levels _ v l answer barred keeps = refl

-- the sender keeps recording
performed_records : (r : Request) (p : Plan) (l : Leave) → l.recording ≡ false → KeepsTo l p → r.view.records ≡ true → Records r.view.id r.session.views → Records r.view.id (performed_for r p).0.views
performed_records r p l barred keeps e h =
    performed_views r (Records r.view.id)
    (λ step d vs is k. changed_records (view_after step d) (view_after_id step d) (step_keeps (λ (w : View). w.records) (λ step d w. refl) step d) vs r.view.id k)
    (λ place vs k. sender_records (λ (v : View). record v { anchor = place; caret = place }) (λ v. refl) (λ v. refl) r.view.id vs r.view.id k)
    (λ start past vs k. sender_records (λ (v : View). record v { target_start = start; target_end = past }) (λ v. refl) (λ v. refl) r.view.id vs r.view.id k)
    (λ change k.
    changed_records (changed_lines change r.document) (changed_lines_id change r.document) (lines_keep (λ (w : View). w.records) (λ w flags. refl) change r.document) r.session.views r.view.id k)
    p
    (λ what value is k.
    put_records (changed_view (levels r) what r.view) r.session.views r.view.id (changed_view_id (levels r) what r.view)
    (view_change_records (levels r) what r.view l value barred (subst (KeepsTo l) is keeps) ∙ e) k)
    (λ what value d is attaches k. put_records (attached_to d r.view) r.session.views r.view.id refl e k)
    h

-- The message that a reply records.

abbrev is_own_record : ℕ → Notice → Bool
is_own_record view n = n.code == notes.macro_record && n.view == view

others_skipped : (view : ℕ) (ns rest : List Notice) → NoRecords ns → filter (is_own_record view) (ns ++ rest) ≡ filter (is_own_record view) rest
others_skipped view [] rest none = refl
others_skipped view (n ∷ ns) rest none = rw none.0 (others_skipped view ns rest none.1)

abbrev if_recorded : Bool → Message → List Message → List Message
if_recorded true m ms = m ∷ ms
if_recorded false m ms = ms

recorded_first : (view : ℕ) (kind : Kind) (r : Request) (reply : Response) (replies : List Response) → NoRecords reply.notes
    → recorded_messages view (with_recording kind r reply ∷ replies) ≡ if_recorded ((r.view.records && (marks_of kind).r) && (r.view.id == view)) r.message (recorded_messages view replies)
recorded_first view kind r reply replies none = go (r.view.records && (marks_of kind).r)
  where
    rest : List Notice
    rest = flat_map (λ (x : Response). x.notes) replies

    here : (b : Bool) → map told_message (cond b (record_note r ∷ filter (is_own_record view) (reply.notes ++ rest)) (filter (is_own_record view) (reply.notes ++ rest)))
        ≡ if_recorded b r.message (recorded_messages view replies)
    here true = ap (λ ns. r.message ∷ map told_message ns) (others_skipped view reply.notes rest none)
    here false = ap (map told_message) (others_skipped view reply.notes rest none)

    go : (b : Bool) → recorded_messages view (cond b (record reply { notes = record_note r ∷ reply.notes }) reply ∷ replies) ≡ if_recorded (b && (r.view.id == view)) r.message (recorded_messages view replies)
    go true = here (r.view.id == view)
    go false = ap (map told_message) (others_skipped view reply.notes rest none)

-- The result of one message: either nothing is recorded and the session stays,
-- or the message went to the view, which recorded it and keeps recording.
abbrev Stepped : ℕ → Session → Sending → Answered → Type 0
Stepped view s m x =
    (((os : List Outcome) → recorded_messages view (replies_in ((after_message s x).1 ∷ os)) ≡ recorded_messages view (replies_in os)) × ((after_message s x).0.session ≡ s))
    ⊎ (((os : List Outcome) → recorded_messages view (replies_in ((after_message s x).1 ∷ os)) ≡ m.1 ∷ recorded_messages view (replies_in os)) × (m.0 ≡ view) × Records view (after_message s x).0.session.views)

message_steps : QueriesLeaveTheSession → (view : ℕ) (s : Session) (m : Sending) → CanStandBetween view m → Records view s.views → Stepped view s m (table s m.0 m.1)
message_steps leave view s m may records =
    of_table (Stepped view s m) (λ refusal other. inl (λ os. refl, refl)) s m.0 m.1
    (λ v kind d p sent. go v kind d p sent ((v.records && (marks_of kind).r) && (v.id == view)) refl (may kind sent.is))
  where
    first : (kind : Kind) (r : Request) (p : Plan) (os : List Outcome) (b : Bool) → ((r.view.records && (marks_of kind).r) && (r.view.id == view)) ≡ b
        → recorded_messages view (replies_in ((after_message r.session (answered kind r (Ok p))).1 ∷ os)) ≡ if_recorded b r.message (recorded_messages view (replies_in os))
    first kind r p os b e =
        recorded_first view kind r (performed_for r p).1 (replies_in os) (plans_tell_no_record r p) ∙ ap (λ x. if_recorded x r.message (recorded_messages view (replies_in os))) e

    go : (v : View) (kind : Kind) (d : Document) (p : Plan) → Sent s m.0 m.1 v kind d p → (b : Bool) → ((v.records && (marks_of kind).r) && (v.id == view)) ≡ b
        → ((marks_of kind).q ≡ true) ⊎ ((m.0 ≡ view) × ((marks_of kind).r ≡ true)) → Stepped view s m (answered kind (request s v d m.1) (Ok p))
    go v kind d p sent true e k =
        let r = request s v d m.1 in
        let parts = and_parts (v.records && (marks_of kind).r) (v.id == view) e in
        let inner = and_parts v.records (marks_of kind).r parts.0 in
        let at = eqb-true v.id view parts.1 in
        inr (
          (λ os. first kind r p os true e),
          sym (view_id s.views m.0 v sent.sees) ∙ at,
          subst (λ n. Records n (performed_for r p).0.views) at
              (performed_records r p (leave_of kind) (recorded_is_not_about_recording kind inner.1) sent.keeps inner.0 (subst (λ n. Records n s.views) (sym at) records)),
        )
    go v kind d p sent false e (inl query) =
        let r = request s v d m.1 in
        inl (
          (λ os. first kind r p os false e),
          subst (LeavesSession s) (table_at s m.0 m.1 v kind d sent.sees sent.is sent.finds ∙ ap (answered kind r) sent.plans) (leave s m.0 m.1 kind sent.is query),
        )
    go v kind d p sent false e (inr to) =
        let here : view_at s.views view ≡ Some v = ap (view_at s.views) (sym to.0) ∙ sent.sees in
        let same : records.0 ≡ v = cc in
        let on : v.records ≡ true = ap (λ (x : View). x.records) (sym same) ∙ records.2 in
        let yes : ((v.records && (marks_of kind).r) && (v.id == view)) ≡ true = rw (on, to.1, eq-eqb v.id view (view_id s.views m.0 v sent.sees ∙ to.0)) refl in
        absurd (cc)

-- The recorded messages, sent again.
messages_replayed : QueriesLeaveTheSession → (view : ℕ) (ms : List Sending) (s t : Running) → AllByRecursion (CanStandBetween view) ms → Records view s.session.views → Same view s.session t.session
    → Same view (run_to [] (map sent ms) s).session (run_to [] (map (sent_to view) (recorded_messages view (replies_in (outcomes [] (map sent ms) s)))) t).session
messages_replayed leave view [] s t all records h = h
messages_replayed leave view (m ∷ ms) s t all records h =
    go (message_steps leave view s.session m all.0 records) (λ u k same. messages_replayed leave view ms (after_command [] (sent m) s).0 u all.1 k same)
  where
    next : Running
    next = (after_command [] (sent m) s).0

    after : List Message → Running → Session
    after with_recording u = (run_to [] (map (sent_to view) with_recording) u).session

    rest : List Message
    rest = recorded_messages view (replies_in (outcomes [] (map sent ms) next))

    go : Stepped view s.session m (table s.session m.0 m.1) → ((u : Running) → Records view next.session.views → Same view next.session u.session → Same view (run_to [] (map sent ms) next).session (after rest u))
        → Same view (run_to [] (map sent ms) next).session (after (recorded_messages view (replies_in ((after_command [] (sent m) s).1 ∷ outcomes [] (map sent ms) next))) t)
    go (inl left) on =
        subst (λ with_recording. Same view (run_to [] (map sent ms) next).session (after with_recording t)) (sym (left.0 (outcomes [] (map sent ms) next)))
        (on t (subst (λ (x : Session). Records view x.views) (sym left.1) records) (subst (λ (x : Session). Same view x t.session) (sym left.1) h))
    go (inr kept) on =
        subst (λ with_recording. Same view (run_to [] (map sent ms) next).session (after with_recording t)) (sym (kept.0 (outcomes [] (map sent ms) next)))
        (on (after_command [] (sent_to view m.1) t).0 kept.2
        (subst (λ n. Same view (after_message s.session (table s.session n m.1)).0.session (after_message t.session (table t.session view m.1)).0.session) (sym kept.1)
        (table_after_both view s.session t.session m.1 h)))

-- STARTRECORD and STOPRECORD.

-- only the sender changes, and only in whether it records
record IsSet (s : Session) (view : ℕ) (on : Bool) (t : Session) : Type 0 where
  sender : View
  found : view_at s.views view ≡ Some sender
  same : t ≡ record s { views = with_view (record sender { records = on }) s.views }

message_sets : (s : Session) (view : ℕ) (m : Message) (on : Bool) (done : Session × Response) → kind_of m.number ≡ Some (cond on StartRecord StopRecord) → table s view m ≡ Ok done
    → IsSet s view on done.0
message_sets s view m on done e is =
    IfOk-at_ok (λ (done : Session × Response). IsSet s view on done.0) is
    (of_table Sets (λ refusal other. tt) s view m
    (λ v kind d p sent.
    let r = request s v d m in
    let same : kind ≡ cond on StartRecord StopRecord = (let there = sent.is in cc) in
    subst (λ (o : Planned). Sets (answered kind r o)) sent.plans (subst (λ (k : Kind). Sets (answered k r (plan_of k r))) (sym same) (go on v d sent.sees))))
  where
    Sets : Answered → Type 0
    Sets x = IfOk x (λ (done : Session × Response). IsSet s view on done.0)

    go : (b : Bool) (v : View) (d : Document) → view_at s.views view ≡ Some v
        → (let k = cond b StartRecord StopRecord in IfOk (answered k (request s v d m) (plan_of k (request s v d m))) (λ (done : Session × Response). IsSet s view b done.0))
    go true v d sees = record { sender = v; found = sees; same = refl }
    go false v d sees = record { sender = v; found = sees; same = refl }

-- setting whether the view records changes nothing else
set_like : (view : ℕ) (v : View) (on : Bool) (views : List View) → v.id ≡ view → AllByRecursion (λ (w : View). w.id ≡ view → w ≡ v) views
    → Like view (with_view (record v { records = on }) views) views
set_like view v on views is once =
    map-map (not_recording view) (λ (w : View). cond (w.id == v.id) (record v { records = on }) w) views
    ∙ map_where _ (not_recording view) views (all_weaker (λ (w : View). w.id ≡ view → w ≡ v) _ (λ w same. go w same (w.id == v.id) refl) views once)
  where
    go : (w : View) → (w.id ≡ view → w ≡ v) → (b : Bool) → (w.id == v.id) ≡ b → not_recording view (cond b (record v { records = on }) w) ≡ not_recording view w
    go w once true t =
        let at : (v.id == view) ≡ true = eq-eqb v.id view is in
        let same : w ≡ v = once (eqb-true w.id v.id t ∙ is) in
        let flag : cond (v.id == view) false on ≡ cond (v.id == view) false v.records = rw at refl in
        ap (λ b. record v { records = b }) flag ∙ ap (not_recording view) (sym same)
    go w once false t = refl

-- a view that stops recording does not record
stopped_is : (view : ℕ) (v : View) (views : List View) → v.id ≡ view → AllByRecursion (λ (w : View). w.id ≡ view → w ≡ v) views
    → map (not_recording view) views ≡ with_view (record v { records = false }) views
stopped_is view v views is once =
    map_where (not_recording view) (λ (w : View). cond (w.id == v.id) (record v { records = false }) w) views
    (all_weaker (λ (w : View). w.id ≡ view → w ≡ v) _ (λ w same. go w same (w.id == v.id) refl) views once)
  where
    go : (w : View) → (w.id ≡ view → w ≡ v) → (b : Bool) → (w.id == v.id) ≡ b → not_recording view w ≡ cond b (record v { records = false }) w
    go w once true t =
        let at : (v.id == view) ≡ true = eq-eqb v.id view is in
        let same : w ≡ v = once (eqb-true w.id v.id t ∙ is) in
        let flag : cond (v.id == view) false v.records ≡ false = rw at refl in
        ap (not_recording view) same ∙ ap (λ b. record v { records = b }) flag
    go w once false t =
        let no : (w.id == view) ≡ false = ap (λ n. w.id == n) (sym is) ∙ t in
        let flag : cond (w.id == view) false w.records ≡ w.records = rw no refl in
        ap (λ b. record w { records = b }) flag

begun_records : (s t : Session) (view : ℕ) → IsSet s view true t → Records view t.views
begun_records s t view h =
    let v = h.sender in
    subst (λ (x : Session). Records view x.views) (sym h.same)
    (record v { records = true }, put_found (λ (v : View). v.id) s.views view v (record v { records = true }) (view_id s.views view v h.found) h.found, refl)

begun_same : (s t : Session) (view : ℕ) → IsSound s → IsSet s view true t → Same view t s
begun_same s t view sound h =
    let v = h.sender in
    subst (λ (x : Session). Same view x s) (sym h.same)
    (record {
      same = refl;
      views = set_like view h.sender true s.views (view_id s.views view h.sender h.found) (found_once (λ (v : View). v.id) 0 s.next_view s.views view h.sender sound.view_ids h.found);
    })

ended_same : (s t u : Session) (view : ℕ) → IsSound s → IsSet s view false t → Same view s u → without_recording view u ≡ t
ended_same s t u view sound h k =
    ap (without_recording view) k.same
    ∙ ap (λ vs. record s { views = vs }) (sym k.views ∙ stopped_is view h.sender s.views (view_id s.views view h.sender h.found) (found_once (λ (v : View). v.id) 0 s.next_view s.views view h.sender sound.view_ids h.found))
    ∙ sym h.same

pub recordings_can_be_replayed : QueriesLeaveTheSession → MessageKeepsSound → IsSoundInEveryStateFrom → RecordingsCanBeReplayed
recordings_can_be_replayed leave keeps sound_runs s view start stop messages begun ended sound is_start starts may is_stop stops =
    let set = message_sets s view start true begun is_start starts in
    let sound_begun : IsSound begun.0 = subst (λ x. IfOk x (λ (done : Session × Response). IsSound done.0)) starts (keeps s view start sound) in
    let between = (run_to [] (map sent messages) (starting begun.0)).session in
    let sound_between = sound_runs [] (map sent messages) (starting begun.0) sound_begun in
    let unset = message_sets between view stop false ended is_stop stops in
    let replayed = messages_replayed leave view messages (starting begun.0) (starting s) may (begun_records s begun.0 view set) (begun_same s begun.0 view sound set) in
    ended_same between ended.0 _ view sound_between unset replayed

-- A reply records at most one message for a view.

one_at_most : (b : Bool) (m : Message) → length (if_recorded b m []) ≤ 1
one_at_most true m = omega arith
one_at_most false m = omega arith

pub replies_record_one_message : RepliesRecordOneMessage
replies_record_one_message s sender view m =
    of_answer (λ (done : Session × Response). RecordsOneAtMost view done.1) s sender m
    (λ v kind d p sent.
    let r = request s v d m in
    subst (λ (ms : List Message). length ms ≤ 1) (sym (recorded_first view kind r (performed_for r p).1 [] (plans_tell_no_record r p)))
    (one_at_most ((v.records && (marks_of kind).r) && (v.id == view)) m))

pub runs_record_one_message_a_reply : RunsRecordOneMessageAReply
runs_record_one_message_a_reply files [] s view = tt
runs_record_one_message_a_reply files (c ∷ cs) s view =
    let t = (after_command files c s).0 in
    let rest = runs_record_one_message_a_reply files cs t view in
    of_any_command (λ (x : Running × Outcome). AllByRecursion (RecordsOneAtMost view) (replies_in (x.1 ∷ outcomes files cs t))) files s
    (λ refusal. rest) (λ done e. rest) (λ closing t e. rest) (λ value. rest) c (λ sender m done e. (replies_record_one_message s.session sender view m done e, rest))
