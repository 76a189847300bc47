-- What holds of a session between its calls goes on holding.
use Rattle.editor_session.proofs.Names.{◌≡◌, ℕ, false, length, refl, ap, sym, ◌∙◌, subst, Ok, Err, IfOk, OnOk, OnErr, Result, nat_le, nat_lt, Refusal, is_allowed, IsSound, OpeningKeepsSound, ClosingKeepsSound, opened, closed, AreNamed, session_in, SessionState, IsKept, DocumentsAreNamed, HaveWidths, documents_in, Entry, KeptView, length-map}
use Rattle.std.specs.declared.alloc.AllocError.{AllocError}
use Rattle.editor_session.specs.Opening.{with_view_on_new}

pub kept_with : (old new : SessionState) → IsKept old → IsSound (session_in new) → new.limits ≡ old.limits → DocumentsAreNamed new.documents.entries → AreNamed new.views.entries
    → HaveWidths (documents_in new.documents) new.views → IsKept new
kept_with old new kept sound same documents views widths = record { sound = sound; limits = ap is_allowed same ∙ kept.limits; documents = documents; views = views; widths = widths }

-- A view opened.

pub opened_is : (s : SessionState) → nat_le s.limits.views (length s.views.entries) ≡ false → nat_lt s.limits.ids s.views.next ≡ false → nat_lt s.limits.ids s.documents.next ≡ false
    → opened (session_in s) ≡ Ok (with_view_on_new (session_in s), s.views.next)
opened_is s few b c = let a = ap (nat_le s.limits.views) (length-map s.views.entries (λ (x : Entry KeptView). x.value.view)) ∙ few in rw (a, b, c) refl

pub kept_after_opening : OpeningKeepsSound → (old new : SessionState) (result : Result ℕ AllocError) → IsKept old → opened (session_in old) ≡ Ok (with_view_on_new (session_in old), old.views.next)
    → OnOk result (session_in new ≡ with_view_on_new (session_in old)) → OnErr result (session_in new ≡ session_in old) → new.limits ≡ old.limits → DocumentsAreNamed new.documents.entries → AreNamed new.views.entries
    → HaveWidths (documents_in new.documents) new.views → IsKept new
kept_after_opening law old new (Ok id) kept is done same limits documents views widths =
    kept_with old new kept (subst IsSound (sym done) (subst (λ t. IfOk t (λ done. IsSound done.0)) is (law (session_in old) kept.sound))) limits documents views widths
kept_after_opening law old new (Err e) kept is done same limits documents views widths = kept_with old new kept (subst IsSound (sym same) kept.sound) limits documents views widths

pub kept_after_closing : ClosingKeepsSound → (old new : SessionState) (view : ℕ) (result : Result (Unit {0}) Refusal) → IsKept old
    → OnOk result (closed (session_in old) view ≡ Ok (session_in new)) → OnErr result (session_in new ≡ session_in old) → new.limits ≡ old.limits → DocumentsAreNamed new.documents.entries → AreNamed new.views.entries
    → HaveWidths (documents_in new.documents) new.views → IsKept new
kept_after_closing law old new view (Ok u) kept done same limits documents views widths =
    kept_with old new kept (subst (λ t. IfOk t IsSound) done (law (session_in old) view kept.sound)) limits documents views widths
kept_after_closing law old new view (Err e) kept done same limits documents views widths = kept_with old new kept (subst IsSound (sym same) kept.sound) limits documents views widths
