-- The view and the document that a request is asked of are those that are found.
use Rattle.std.proofs.Common.{◌≡◌, ℕ, List, ap, Some, unwrap_or}
use Rattle.ed_model.specs.Session.{View, Document, view_at, document_at, new_view, new_document}
use Rattle.performing.specs.Asked.{view_asked, document_asked}

pub view_asked_at : (views : List View) (id : ℕ) (v : View) → view_at views id ≡ Some v → view_asked views id ≡ v
unfolding view_asked
view_asked_at views id v found = ap (λ o. unwrap_or o (new_view 0 (new_document 0 0))) found

pub document_asked_at : (documents : List Document) (id : ℕ) (d : Document) → document_at documents id ≡ Some d → document_asked documents id ≡ d
unfolding document_asked
document_asked_at documents id d found = ap (λ o. unwrap_or o (new_document 0 0)) found
