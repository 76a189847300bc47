-- The code's rule of joining is the definitions' rule.
use Rattle.undo_history.proofs.Names.{◌≡◌, ◌≤◌, ◌<◌, ◌-◌, ℕ, List, [], ◌∷◌, length, take, get_or, refl, ap, sym, subst, ◌∙◌, arith, reverse, Bool, true, false, inl, inr, Option, Some, None, option_map, ◌||◌, ◌&&◌, nat_lt, not, cond_both, cases_Bool, Change, TextStep, ContainerStep, goes_on, goes_on_after, belongs, latest_text_step, Transaction, History, joins, joins_last, at_save_point, first_changes, StepKind, Insert, Delete, ChangeKind, Text, Container, StepRecord, step_of, Entry, alone, joined, pushed, transactions, entries_in, past_of, LastIsOpen, change_of, history_of, outline, outline_of, steps_go_on, belongs_after, no_step}
use Rattle.ed_model.specs.Steps as model
use Rattle.undo_history.proofs.Parts.{entry_at}
use Rattle.undo_history.proofs.Reading.{last_first}

pub goes_on_by_outlines : (step earlier : model.Step) → goes_on step earlier ≡ steps_go_on (outline_of step) (outline_of earlier)
goes_on_by_outlines (model.Insert p bs) (model.Insert q cs) = refl
goes_on_by_outlines (model.Insert p bs) (model.Delete q cs) = refl
goes_on_by_outlines (model.Delete p bs) (model.Insert q cs) = refl
goes_on_by_outlines (model.Delete p bs) (model.Delete q cs) = refl

or_true : (b : Bool) → b || true ≡ true
or_true true = refl
or_true false = refl

or_false : (b : Bool) → b || false ≡ b
or_false true = refl
or_false false = refl

after_text : (kind : StepKind) (place : ℕ) (bytes : List ℕ) (earlier : model.Step) →
    goes_on_after (step_of kind place bytes) (Some earlier) ≡ steps_go_on (outline kind place (length bytes)) (outline_of earlier)
after_text Insert place bytes earlier = goes_on_by_outlines (model.Insert place bytes) earlier
after_text Delete place bytes earlier = goes_on_by_outlines (model.Delete place bytes) earlier

pub belongs_by_outlines : (kind : ChangeKind) (bytes : List ℕ) (cs : List Change) → belongs (change_of kind bytes) cs ≡ belongs_after kind (length bytes) (option_map outline_of (latest_text_step cs))
belongs_by_outlines (Text kind place) bytes [] = or_true (goes_on_after (step_of kind place bytes) None)
belongs_by_outlines (Text kind place) bytes (TextStep step ∷ cs) = or_false (goes_on_after (step_of kind place bytes) (Some step)) ∙ after_text kind place bytes step
belongs_by_outlines (Text kind place) bytes (ContainerStep token coalesce ∷ cs) = belongs_by_outlines (Text kind place) bytes cs
belongs_by_outlines (Container c t) bytes [] = or_true c
belongs_by_outlines (Container c t) bytes (TextStep step ∷ cs) = or_false c
belongs_by_outlines (Container c t) bytes (ContainerStep token coalesce ∷ cs) = belongs_by_outlines (Container c t) bytes cs

-- Whether a change joins.

joins_pushed : (later : Bool) (x : Change) (h : History) (e : Entry) (ts : List Transaction) →
    not e.is_sealed && not (at_save_point h) && (nat_lt 0 h.depth || later || belongs x (first_changes (pushed e ts))) ≡ joins_last later x h (pushed e ts)
joins_pushed later x h e [] = refl
joins_pushed later x h e (t ∷ ts) = elim (cases_Bool e.starts) [ inl y ↦ rw y | inr n ↦ rw n ]

pub joins_here : (later : Bool) (x : Change) (rs : List StepRecord) (bytes : List ℕ) (past depth : ℕ) (save_point : Option ℕ) (collecting : Bool) → 0 < past → past ≤ length rs →
    let h = history_of (entries_in rs bytes) past save_point depth collecting in
    not (get_or rs (past - 1) no_step).is_sealed && not (at_save_point h) && (nat_lt 0 depth || later || belongs x (first_changes h.past)) ≡ joins later x h
joins_here later x rs bytes past depth save_point collecting p l =
    let h = history_of (entries_in rs bytes) past save_point depth collecting in
    let e = entry_at rs bytes (past - 1) in
    let first = last_first rs bytes (past - 1) past (omega arith) (omega arith) in
    ap (λ t. not e.is_sealed && not (at_save_point h) && (nat_lt 0 depth || later || belongs x (first_changes (transactions t)))) first
    ∙ joins_pushed later x h e (transactions (reverse (take (past - 1) (entries_in rs bytes))))
    ∙ ap (λ t. joins_last later x h (transactions t)) (sym first)

-- a step that is not sealed leaves its transaction open
pub open_here : (rs : List StepRecord) (bytes : List ℕ) (past : ℕ) → 0 < past → past ≤ length rs → (get_or rs (past - 1) no_step).is_sealed ≡ false → LastIsOpen (past_of rs bytes past)
open_here rs bytes past p l unsealed =
    subst (λ t. LastIsOpen (transactions t)) (sym (last_first rs bytes (past - 1) past (omega arith) (omega arith)))
    (open_pushed (entry_at rs bytes (past - 1)) (transactions (reverse (take (past - 1) (entries_in rs bytes)))) unsealed) where
      open_pushed : (e : Entry) (ts : List Transaction) → e.is_sealed ≡ false → LastIsOpen (pushed e ts)
      open_pushed e [] h = h
      open_pushed e (t ∷ ts) h = cond_both e.starts (alone e ∷ t ∷ ts) (joined e t ∷ ts) LastIsOpen (λ _. h) (λ _. h)
