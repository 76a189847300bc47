-- Numeric queries and text queries, and what the table answers to them.
use Rattle.editor_session.proofs.Names.{◌≡◌, ℕ, ℤ, pos, negsuc, ◌==◌, ◌&&◌, Bool, true, false, cond, List, [], ◌∷◌, refl, ap, sym, subst, ◌∙◌, Option, Some, None, Ok, Err, IfSome, AllByRecursion, eqb-true, Kind, Message, number_of, kind_of, kind_among, marks_of, EachKindIsFound, Request, Planned, answer, answer_number, Session, View, Document, view_at, document_at, quiet, IsSound, IsSoundRequest, table, record_note, table_from_view, table_from_kind, table_from_document, answered, request, plan_of, questions, question_of, is_question, value_planned, value_asked, id_of_view, own_at, with_text, ◌+◌, ◌≤◌, slice_range, size, text_of, response, Response, Plan, PlansFit, IsFitPlanned, performed, text_questions, text_question_of, is_text_question, handed_planned, handed_asked}
use Rattle.ed_types.specs.declared.kind.Kind.TheVariants as kinds
use Rattle.ed_model.specs.declared.plan.Plan.TheVariants as plan
use Rattle.ed_model.specs.FoldingPlans.{line_shown_at}
use Rattle.ed_model.specs.TextPlans.{end_of_line_at, start_of_line_at}
use Rattle.message_requests.specs.declared.answers.HandedOut.{HandedOut}
use Rattle.message_requests.specs.HandingOut.{handed_out}

-- A plain message is not recorded, and its plan is that of the same message with another text.
record IsPlain (kind : Kind) : Type 0 where
  pub unrecorded : (marks_of kind).r ≡ false
  pub any_text : (r : Request) (text : List ℕ) → plan_of kind (record r { message = record r.message { text = text } }) ≡ plan_of kind r

-- what is the same for each number from 0 on, and for each below, is the same
by_sign : {X : Type 0} (f g : ℤ → X) → ((n : ℕ) → f (pos n) ≡ g (pos n)) → ((n : ℕ) → f (negsuc n) ≡ g (negsuc n)) → (w : ℤ) → f w ≡ g w
by_sign f g above below (pos n) = above n
by_sign f g above below (negsuc n) = below n

plain : {kind : Kind} → (marks_of kind).r ≡ false → ((r : Request) (text : List ℕ) → plan_of kind (record r { message = record r.message { text = text } }) ≡ plan_of kind r) → IsPlain kind
plain u t = record { unrecorded = u; any_text = t }

end_is_plain : IsPlain kinds.GetLineEndPosition
end_is_plain = plain refl (λ r text. ap answer (by_sign (end_of_line_at (record r { message = record r.message { text = text } })) (end_of_line_at r) (λ n. refl) (λ n. refl) r.message.w))

start_is_plain : IsPlain kinds.PositionFromLine
start_is_plain = plain refl (λ r text. ap answer (by_sign (start_of_line_at (record r { message = record r.message { text = text } })) (start_of_line_at r) (λ n. refl) (λ n. refl) r.message.w))

shown_is_plain : IsPlain kinds.DocLineFromVisible
shown_is_plain = plain refl (λ r text. ap answer_number (by_sign (line_shown_at (record r { message = record r.message { text = text } })) (line_shown_at r) (λ n. refl) (λ n. refl) r.message.w))

-- Each numeric query is plain: no query is recorded, and these have the same plan by their lemmas, all others because their plans compute without the text.
all_plain : AllByRecursion IsPlain questions
all_plain = assumption (end_is_plain, start_is_plain, shown_is_plain)

found_plain : (number : ℕ) (kinds : List Kind) (kind : Kind) → AllByRecursion IsPlain kinds → kind_among kinds number ≡ Some kind → IsPlain kind × ((number_of kind == number) ≡ true)
found_plain number [] kind all e = absurd (cc)
found_plain number (k ∷ ks) kind all e = go (number_of k == number) refl e (λ e. found_plain number ks kind all.1 e)
  where
    go : (b : Bool) → (number_of k == number) ≡ b → cond b (Some k) (kind_among ks number) ≡ Some kind → (kind_among ks number ≡ Some kind → IsPlain kind × ((number_of kind == number) ≡ true)) → IsPlain kind × ((number_of kind == number) ≡ true)
    go true t e rest = let same : k ≡ kind = cc in (subst IsPlain same all.0, subst (λ x. (number_of x == number) ≡ true) same t)
    go false t e rest = rest e

-- its number finds it
decoded : EachKindIsFound → (those : List Kind) → AllByRecursion IsPlain those → (number : ℕ) (kind : Kind) → kind_among those number ≡ Some kind → kind_of number ≡ Some kind
decoded law those all number kind e = subst (λ n. kind_of n ≡ Some kind) (eqb-true (number_of kind) number (found_plain number those kind all e).1) (law kind)

planned : (b : Bool) (p : Planned) (value : ℤ) → cond b (value_planned p) None ≡ Some value → p ≡ answer value
planned false p value e = absurd (cc)
planned true (Err refusal) value e = absurd (cc)
planned true (Ok (plan.Answer other)) value e = let same : other ≡ value = cc in ap answer same
planned true (Ok other) value e = absurd (cc)

unheard : (records recorded : Bool) → recorded ≡ false → (records && recorded) ≡ false
unheard true recorded e = e
unheard false recorded e = refl

-- Text queries are plain too.
texts_plain : AllByRecursion IsPlain text_questions
texts_plain = (plain refl (λ r text. refl), (plain refl (λ r text. refl), (plain refl (λ r text. refl), (plain refl (λ r text. refl), (plain refl (λ r text. refl), (plain refl (λ r text. refl), tt))))))

hands_out : (b : Bool) (p : Planned) (h : HandedOut) → cond b (handed_planned p) None ≡ Some h → p ≡ handed_out h
hands_out false p h e = absurd (cc)
hands_out true (Err refusal) h e = absurd (cc)
hands_out true (Ok (plan.HandOut value start count)) h e =
    let made : HandedOut = record { value = value; start = start; count = count } in
    let same : made ≡ h = cc in
    ap handed_out same
hands_out true (Ok other) h e = absurd (cc)

-- what is handed out lies in the text
pub handed_within : PlansFit → (kind : Kind) (r : Request) (h : HandedOut) → IsSoundRequest r → handed_asked kind r ≡ Some h → h.start + h.count ≤ size r
handed_within law kind r h sound e = subst (IsFitPlanned r) (hands_out (is_text_question kind) (plan_of kind r) h e) (law kind r sound)

-- the reply that hands it out
abbrev pub handing : Document → HandedOut → Response
handing d h = response h.value (slice_range (text_of d) h.start (h.start + h.count)) []

-- What the table answers to a query, by the view and the document that are found.
module _ (law : EachKindIsFound) (s : Session) (view : ℕ) (m : Message) {kind : Kind} {v : View} {d : Document} (found : view_at s.views view ≡ Some v) (there : document_at s.documents v.document ≡ Some d) where
  plain_answer : (those : List Kind) {what : Plan} → AllByRecursion IsPlain those → kind_among those m.number ≡ Some kind → plan_of kind (request s v d m) ≡ Ok what → (text : List ℕ)
      → table s view (with_text m text) ≡ Ok (performed s v d text what)
  plain_answer those {what} all is made text =
      let with = request s v d (with_text m text) in let done = performed s v d text what in let p = (found_plain m.number those kind all is).0 in
      ap (table_from_view s (with_text m text)) found ∙ ap (table_from_kind s v (with_text m text)) (decoded law those all m.number kind is) ∙ ap (table_from_document s v kind (with_text m text)) there
      ∙ ap (answered kind with) (p.any_text (request s v d m) text ∙ made)
      ∙ ap (λ b. Ok (done.0, cond b (let reply = done.1 in record reply { notes = record_note with ∷ reply.notes }) done.1)) (unheard v.records (marks_of kind).r p.unrecorded)

  pub value_answered : question_of m.number ≡ Some kind → (o : Option ℤ) → o ≡ value_asked kind (request s v d m) → IfSome o (λ value. (text : List ℕ) → table s view (with_text m text) ≡ Ok (s, quiet value))
  value_answered is None e = tt
  value_answered is (Some value) e = plain_answer questions all_plain is (planned (is_question kind) (plan_of kind (request s v d m)) value (sym e))

  pub bytes_answered : text_question_of m.number ≡ Some kind → (h : HandedOut) → handed_asked kind (request s v d m) ≡ Some h → table s view m ≡ Ok (s, handing d h)
  bytes_answered is h e = plain_answer text_questions texts_plain is (hands_out (is_text_question kind) (plan_of kind (request s v d m)) h e) m.text

pub sound_request : (s : Session) (id : ℕ) (m : Message) (v : View) (d : Document) → IsSound s → view_at s.views id ≡ Some v → document_at s.documents v.document ≡ Some d → IsSoundRequest (request s v d m)
sound_request s id m v d sound found there = record { sound = sound; view = ap (view_at s.views) (own_at id_of_view s.views id v found) ∙ found; document = there }
