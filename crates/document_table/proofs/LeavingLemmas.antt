-- The documents of a table after one was replaced or dropped.
use Rattle.std.proofs.Common.{◌≡◌, ◌≢◌, ℕ, ◌==◌, Bool, true, false, cond, List, [], ◌∷◌, Some, None, refl, sym, ap, ◌∙◌, option_map, eq-eqb}
use Rattle.std.specs.Prelude.{not, nat_lt, find}
use Rattle.std.proofs.lemmas.Bool.{eqb-true, ne_eqb}
use Rattle.ed_model.specs.Session.{Document, references}
use Rattle.document.specs.Kept.{Kept, document_of}
use Rattle.id_table.specs.Entries.{Entry, entry, value_at, with_value_at, without_id}
use Rattle.document_table.specs.Leaving.{document_in, documents_in, let_go, KeepsRest}

-- The documents alone.

with_document_in : (id : ℕ) (w : Kept) (es : List (Entry Kept)) → documents_in (with_value_at id w es) ≡ with_value_at id w.document (documents_in es)
with_document_in id w [] = refl
with_document_in id w (e ∷ es) = by_test (e.id == id) (with_document_in id w es)
  where
    by_test : (b : Bool) → documents_in (with_value_at id w es) ≡ with_value_at id w.document (documents_in es)
        → document_in (cond b (entry id w) e) ∷ documents_in (with_value_at id w es) ≡ cond b (entry id w.document) (document_in e) ∷ with_value_at id w.document (documents_in es)
    by_test true more = ap (λ (rest : List (Entry Document)). entry id w.document ∷ rest) more
    by_test false more = ap (λ (rest : List (Entry Document)). document_in e ∷ rest) more

without_document_in : (id : ℕ) (es : List (Entry Kept)) → documents_in (without_id id es) ≡ without_id id (documents_in es)
without_document_in id [] = refl
without_document_in id (e ∷ es) = by_test (e.id == id) (without_document_in id es)
  where
    by_test : (b : Bool) → documents_in (without_id id es) ≡ without_id id (documents_in es)
        → documents_in (cond (not b) (e ∷ without_id id es) (without_id id es)) ≡ cond (not b) (document_in e ∷ without_id id (documents_in es)) (without_id id (documents_in es))
    by_test true more = more
    by_test false more = ap (λ (rest : List (Entry Document)). document_in e ∷ rest) more

document_at_id : (id : ℕ) (es : List (Entry Kept)) → value_at (documents_in es) id ≡ option_map document_of (value_at es id)
document_at_id id [] = refl
document_at_id id (e ∷ es) = by_test (e.id == id) (document_at_id id es)
  where
    by_test : (b : Bool) → value_at (documents_in es) id ≡ option_map document_of (value_at es id)
        → option_map (λ (f : Entry Document). f.value) (cond b (Some (document_in e)) (find (λ (f : Entry Document). f.id == id) (documents_in es))) ≡ option_map document_of (option_map (λ (f : Entry Kept). f.value) (cond b (Some e) (find (λ (f : Entry Kept). f.id == id) es)))
    by_test true more = refl
    by_test false more = more

-- Entries at other ids, and at this one.

without_written : (id : ℕ) (w : Kept) (es : List (Entry Kept)) → without_id id (with_value_at id w es) ≡ without_id id es
without_written id w [] = refl
without_written id w (e ∷ es) = by_test (e.id == id) refl (without_written id w es)
  where
    by_test : (b : Bool) → (e.id == id) ≡ b → without_id id (with_value_at id w es) ≡ without_id id es
        → without_id id (cond b (entry id w) e ∷ with_value_at id w es) ≡ cond (not b) (e ∷ without_id id es) (without_id id es)
    by_test true t more = rw (eq-eqb id id refl) more
    by_test false t more = rw t (ap (λ (rest : List (Entry Kept)). e ∷ rest) more)

pub other_with : (id other : ℕ) (w : Kept) (es : List (Entry Kept)) → other ≢ id → value_at (with_value_at id w es) other ≡ value_at es other
other_with id other w [] differs = refl
other_with id other w (e ∷ es) differs = by_test (e.id == id) refl (other_with id other w es differs)
  where
    by_test : (b : Bool) → (e.id == id) ≡ b → value_at (with_value_at id w es) other ≡ value_at es other
        → value_at (cond b (entry id w) e ∷ with_value_at id w es) other ≡ value_at (e ∷ es) other
    by_test true t more =
        let here : e.id ≡ id = eqb-true e.id id t in
        rw (ne_eqb id other (λ k. differs (sym k)), ne_eqb e.id other (λ k. differs (sym k ∙ here))) more
    by_test false t more = by_other (e.id == other) more
      where
        by_other : (b : Bool) → value_at (with_value_at id w es) other ≡ value_at es other
            → option_map (λ (f : Entry Kept). f.value) (cond b (Some e) (find (λ (f : Entry Kept). f.id == other) (with_value_at id w es))) ≡ option_map (λ (f : Entry Kept). f.value) (cond b (Some e) (find (λ (f : Entry Kept). f.id == other) es))
        by_other true more = refl
        by_other false more = more

other_without : (id other : ℕ) (es : List (Entry Kept)) → other ≢ id → value_at (without_id id es) other ≡ value_at es other
other_without id other [] differs = refl
other_without id other (e ∷ es) differs = by_test (e.id == id) refl (other_without id other es differs)
  where
    by_test : (b : Bool) → (e.id == id) ≡ b → value_at (without_id id es) other ≡ value_at es other
        → value_at (cond (not b) (e ∷ without_id id es) (without_id id es)) other ≡ value_at (e ∷ es) other
    by_test true t more =
        let here : e.id ≡ id = eqb-true e.id id t in
        rw (ne_eqb e.id other (λ k. differs (sym k ∙ here))) more
    by_test false t more = by_other (e.id == other) more
      where
        by_other : (b : Bool) → value_at (without_id id es) other ≡ value_at es other
            → option_map (λ (f : Entry Kept). f.value) (cond b (Some e) (find (λ (f : Entry Kept). f.id == other) (without_id id es))) ≡ option_map (λ (f : Entry Kept). f.value) (cond b (Some e) (find (λ (f : Entry Kept). f.id == other) es))
        by_other true more = refl
        by_other false more = more

pub other_gone : (id other : ℕ) (w : Kept) (es : List (Entry Kept)) → other ≢ id → value_at (without_id id (with_value_at id w es)) other ≡ value_at es other
other_gone id other w es differs = other_without id other (with_value_at id w es) differs ∙ other_with id other w es differs

here_with : (id : ℕ) (w : Kept) (es : List (Entry Kept)) → value_at (with_value_at id w es) id ≡ option_map (λ (k : Kept). w) (value_at es id)
here_with id w [] = refl
here_with id w (e ∷ es) = by_test (e.id == id) refl (here_with id w es)
  where
    by_test : (b : Bool) → (e.id == id) ≡ b → value_at (with_value_at id w es) id ≡ option_map (λ (k : Kept). w) (value_at es id)
        → value_at (cond b (entry id w) e ∷ with_value_at id w es) id ≡ option_map (λ (k : Kept). w) (option_map (λ (f : Entry Kept). f.value) (cond b (Some e) (find (λ (f : Entry Kept). f.id == id) es)))
    by_test true t more = rw (eq-eqb id id refl) refl
    by_test false t more = rw t more

none_without : (id : ℕ) (es : List (Entry Kept)) → value_at (without_id id es) id ≡ None
none_without id [] = refl
none_without id (e ∷ es) = by_test (e.id == id) refl (none_without id es)
  where
    by_test : (b : Bool) → (e.id == id) ≡ b → value_at (without_id id es) id ≡ None
        → value_at (cond (not b) (e ∷ without_id id es) (without_id id es)) id ≡ None
    by_test true t more = more
    by_test false t more = rw t more

pub rest_with : (id : ℕ) (was left : Kept) (d : Document) (es : List (Entry Kept)) → value_at es id ≡ Some was → left ≡ record was { document = d } → KeepsRest id es (with_value_at id left es)
rest_with id was left d es found e = rw (here_with id left es, found) (rw e refl)

pub rest_without : (id : ℕ) (left : Kept) (es : List (Entry Kept)) → KeepsRest id es (without_id id (with_value_at id left es))
rest_without id left es = rw (none_without id (with_value_at id left es)) tt

-- What is left.

pub nothing_there : (id : ℕ) (change : Document → Document) (es : List (Entry Kept)) → value_at es id ≡ None → documents_in es ≡ let_go id change (documents_in es)
nothing_there id change es none = rw (document_at_id id es, none) refl

pub still_there : (id : ℕ) (change : Document → Document) (es : List (Entry Kept)) (was left : Kept) → value_at es id ≡ Some was → left.document ≡ change was.document → nat_lt 0 (references left.document) ≡ true
    → documents_in (with_value_at id left es) ≡ let_go id change (documents_in es)
still_there id change es was left found changed held =
    rw (document_at_id id es, found, ← changed, held) (with_document_in id left es)

pub gone : (id : ℕ) (change : Document → Document) (es : List (Entry Kept)) (was left : Kept) → value_at es id ≡ Some was → left.document ≡ change was.document → nat_lt 0 (references left.document) ≡ false
    → documents_in (without_id id (with_value_at id left es)) ≡ let_go id change (documents_in es)
gone id change es was left found changed held =
    rw (document_at_id id es, found, ← changed, held) (ap documents_in (without_written id left es) ∙ without_document_in id es)
