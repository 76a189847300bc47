-- Repeated UNDO and REDO messages.
use Rattle.ed_model.proofs.Names.{◌≡◌, ℕ, zero, suc, ◌+◌, ◌<◌, ◌≤◌, true, false, nat_lt, ◌&&◌, List, [], ◌∷◌, length, refl, ap, ◌∙◌, sym, arith, Some, ◌==◌, lt-ltb, Undo, Redo, Message, History, Transaction, undone, undone_to, redone, redone_from, can_undo, can_redo, Session, Document, document_at, text_of, Scene, after_undo, after_redo, undone_text, redone_text, undos, redos, IsUndone, IsRedone, LeavesAlone, AreAnswered, UndosGoBackThenRedosGoOn, UndoMessagesGoBack, document_sound, same_document, sealed_length}
use Rattle.ed_model.proofs.UndoLemmas.{undos_go_back}
use Rattle.ed_model.proofs.UndoMessageLemmas.{undone_document, redone_document, undo_undoes, redo_redoes}
use Rattle.ed_model.proofs.SoundHistory.{undone_then_redone_is_the_same}

-- The numbers of transactions after undo and redo.

undone_from : (h : History) (ts : List Transaction) → 0 < length ts → ((undone_to h ts).depth ≡ h.depth) × (suc (length (undone_to h ts).past) ≡ length ts) × (length (undone_to h ts).future ≡ suc (length h.future))
undone_from h [] some = absurd (omega arith)
undone_from h (t ∷ ts) some = (refl, ap suc (sealed_length ts), refl)

redone_to : (h : History) (ts : List Transaction) → 0 < length ts → ((redone_from h ts).depth ≡ h.depth) × (suc (length (redone_from h ts).future) ≡ length ts)
redone_to h [] some = absurd (omega arith)
redone_to h (t ∷ ts) some = (refl, refl)

can_act : (depth n : ℕ) → depth ≡ 0 → 0 < n → (depth == 0 && nat_lt 0 n) ≡ true
can_act depth n e some = rw (e, lt-ltb 0 n some) refl

-- A document in the state of a scene's document: it has its text and its history, and is not read-only.
record StandsAt (scene : Scene) (d : Document) : Type 0 where
  text : text_of d ≡ text_of scene.document
  history : d.history ≡ scene.document.history
  written : d.read_only ≡ false

-- the document with this id exists, and is in that state
abbrev IsThere : ℕ → Scene → Session → Type 0
IsThere id scene s = (d : Document) × (document_at s.documents id ≡ Some d) × StandsAt scene d

left_there : (id : ℕ) (scene : Scene) (s t : Session) → IsThere id scene s → LeavesAlone id s t → IsThere id scene t
left_there id scene s t there left =
    let same : left.before ≡ there.0 = same_document (document_at s.documents id) left.before there.0 left.found there.1 in
    let stands : StandsAt scene left.before = rw same there.2 in
    (left.after, left.still_found, record { text = left.left.text ∙ stands.text; history = left.left.history ∙ stands.history; written = left.left.read_only ∙ stands.written })

undone_there : (scene : Scene) (d e : Document) → StandsAt scene d → IsUndone d e → StandsAt (after_undo scene) e
undone_there scene d e stands is = record {
  text = is.texts 0 ∙ ap (λ (h : History). undone_text 1 h.past (text_of d)) stands.history ∙ ap (undone_text 1 scene.document.history.past) stands.text ∙ sym ((undone_document scene).texts 0);
  history = is.history ∙ ap undone stands.history;
  written = is.read_only ∙ stands.written;
}

redone_there : (scene : Scene) (d e : Document) → StandsAt scene d → IsRedone d e → StandsAt (after_redo scene) e
redone_there scene d e stands is = record {
  text = is.texts 0 ∙ ap (λ (h : History). redone_text 1 h.future (text_of d)) stands.history ∙ ap (redone_text 1 scene.document.history.future) stands.text ∙ sym ((redone_document scene).texts 0);
  history = is.history ∙ ap redone stands.history;
  written = is.read_only ∙ stands.written;
}

-- Each answered message changes the document as undo or redo changes the scene.

undos_there : (id : ℕ) (sent : List (ℕ × Message)) (scene : Scene) (s t : Session) → IsThere id scene s → scene.document.history.depth ≡ 0
    → length sent ≤ length scene.document.history.past → AreAnswered Undo id sent s t → IsThere id (undos (length sent) scene) t
undos_there id [] scene s t there depth enough left = left_there id scene s t there left
undos_there id (m ∷ rest) scene s t there depth enough h =
    let between = h.0 in
    let at = left_there id scene s between there h.1 in
    let done = h.2 in
    let is = h.3 in
    let past : 0 < length scene.document.history.past = omega arith in
    let can : can_undo at.0.history ≡ true = rw at.2.history (can_act scene.document.history.depth (length scene.document.history.past) depth past) in
    let made = undo_undoes between m.0 m.1 is.view at.0 done is.is_kind is.found (ap (document_at between.documents) is.document ∙ at.1) can at.2.written is.answered in
    let numbers = undone_from scene.document.history scene.document.history.past past in
    undos_there id rest (after_undo scene) done.0 t
    (made.0, sym (ap (document_at done.0.documents) is.document) ∙ made.1, undone_there scene at.0 made.0 at.2 made.2)
    (numbers.0 ∙ depth) (omega (arith, numbers.1)) h.4

redos_there : (id : ℕ) (sent : List (ℕ × Message)) (scene : Scene) (s t : Session) → IsThere id scene s → scene.document.history.depth ≡ 0
    → length sent ≤ length scene.document.history.future → AreAnswered Redo id sent s t → IsThere id (redos (length sent) scene) t
redos_there id [] scene s t there depth enough left = left_there id scene s t there left
redos_there id (m ∷ rest) scene s t there depth enough h =
    let between = h.0 in
    let at = left_there id scene s between there h.1 in
    let done = h.2 in
    let is = h.3 in
    let future : 0 < length scene.document.history.future = omega arith in
    let can : can_redo at.0.history ≡ true = rw at.2.history (can_act scene.document.history.depth (length scene.document.history.future) depth future) in
    let made = redo_redoes between m.0 m.1 is.view at.0 done is.is_kind is.found (ap (document_at between.documents) is.document ∙ at.1) can at.2.written is.answered in
    let numbers = redone_to scene.document.history scene.document.history.future future in
    redos_there id rest (after_redo scene) done.0 t
    (made.0, sym (ap (document_at done.0.documents) is.document) ∙ made.1, redone_there scene at.0 made.0 at.2 made.2)
    (numbers.0 ∙ depth) (omega (arith, numbers.1)) h.4

-- after k undos the future has k transactions more
undos_count : (k : ℕ) (scene : Scene) → k ≤ length scene.document.history.past
    → ((undos k scene).document.history.depth ≡ scene.document.history.depth) × (k ≤ length (undos k scene).document.history.future)
undos_count k scene enough = let more = go k scene enough in (more.0, omega (arith, more.1))
  where
    go : (k : ℕ) (scene : Scene) → k ≤ length scene.document.history.past
        → ((undos k scene).document.history.depth ≡ scene.document.history.depth) × (length (undos k scene).document.history.future ≡ k + length scene.document.history.future)
    go zero scene enough = (refl, omega arith)
    go (suc k) scene enough =
        let numbers = undone_from scene.document.history scene.document.history.past (omega arith) in
        let rest = go k (after_undo scene) (omega (arith, numbers.1)) in
        (rest.0 ∙ numbers.0, omega (arith, rest.1, numbers.2))

pub undos_go_back_then_redos_go_on : UndosGoBackThenRedosGoOn
undos_go_back_then_redos_go_on s t u id d ms ns sound found written depth enough back same on =
    let scene : Scene = record { document = d; views = []; notes = [] } in
    let k : ℕ = length ms in
    let undone_at = undos_there id ms scene s t (d, found, record { text = refl; history = refl; written = written }) depth enough back in
    let count = undos_count k scene enough in
    let redone_at = redos_there id ns (undos k scene) t u undone_at (count.0 ∙ depth) (omega (arith, count.1)) on in
    let again = (undone_then_redone_is_the_same s.limits scene k (document_sound s.limits s.documents id d sound.documents found) enough).0 in
    let all : text_of (redos (length ns) (undos k scene)).document ≡ text_of d = ap (λ n. text_of (redos n (undos k scene)).document) same ∙ again in
    ((undone_at.0, undone_at.1, undone_at.2.text ∙ undos_go_back k scene), (redone_at.0, redone_at.1, redone_at.2.text ∙ all))

pub undo_messages_go_back : UndoMessagesGoBack
undo_messages_go_back s t id d ms found written depth enough back =
    let scene : Scene = record { document = d; views = []; notes = [] } in
    let at = undos_there id ms scene s t (d, found, record { text = refl; history = refl; written = written }) depth enough back in
    (at.0, at.1, at.2.text ∙ undos_go_back (length ms) scene)
