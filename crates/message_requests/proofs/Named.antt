-- The table of documents has under an id the document that the model finds by this id.
use Rattle.std.proofs.Common.{◌≡◌, ℕ, ◌+◌, ◌<◌, ◌≤◌, Bool, true, false, cond, List, [], ◌∷◌, map, refl, subst, arith}
use Rattle.std.specs.Prelude.{ℤ, pos, negsuc, ◌==◌, Some, None, find, option_map}
use Rattle.std.specs.List.{AllByRecursion}
use Rattle.std.proofs.lemmas.Bool.Decides.{nat_tests}
use Rattle.ed_model.specs.Numbers.{within}
use Rattle.ed_model.specs.Session.{Session, Document, document_at}
use Rattle.ed_model.specs.SoundLaws.{Rise, IsSound}
use Rattle.ed_model.specs.SessionPlans.{document_named}
use Rattle.id_table.specs.Entries.{Entry, value_at, value_of}
use Rattle.document.specs.Kept.{Kept, document_of}
use Rattle.message_requests.specs.proved.Ranges.{outside}

pub named : (entries : List (Entry Kept)) (id : ℕ) → AllByRecursion (λ (e : Entry Kept). e.id ≡ e.value.document.id) entries
    → option_map document_of (value_at entries id) ≡ document_at (map (λ (e : Entry Kept). e.value.document) entries) id
named [] id all = refl
named (e ∷ es) id all = go (e.id == id) refl (named es id all.1)
  where
    go : (b : Bool) → (e.id == id) ≡ b → option_map document_of (value_at es id) ≡ document_at (map (λ (e : Entry Kept). e.value.document) es) id
        → option_map document_of (option_map value_of (cond b (Some e) (find (λ (e : Entry Kept). e.id == id) es)))
        ≡ cond (e.value.document.id == id) (Some e.value.document) (document_at (map (λ (e : Entry Kept). e.value.document) es) id)
    go true t rest = let same : (e.value.document.id == id) ≡ true = subst (λ k. (k == id) ≡ true) all.0 t in rw same refl
    go false t rest = let same : (e.value.document.id == id) ≡ false = subst (λ k. (k == id) ≡ false) all.0 t in rw same rest

none_above : (low high n : ℕ) (documents : List Document) → Rise low high (map (λ (d : Document). d.id) documents) → high ≤ n → document_at documents n ≡ None
none_above low high n [] rise h = refl
none_above low high n (d ∷ ds) rise h =
    let below : d.id < high = rise.1 in
    let other : (d.id == n) ≡ false = grind (arith, nat_tests) in
    rw other (none_above (d.id + 1) high n ds rise.2 h)

pub not_named : (s : Session) (w : ℤ) → IsSound s → within 0 s.next_document w ≡ None → document_named s w ≡ None
not_named s (negsuc n) sound e = refl
not_named s (pos n) sound e =
    let far = outside s.next_document n e in
    none_above 0 s.next_document n s.documents sound.document_ids (omega (arith, far))
