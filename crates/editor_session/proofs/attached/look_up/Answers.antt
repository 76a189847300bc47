use Rattle.editor_session.proofs.Names.{◌≡◌, ℕ, ◌==◌, ap, sym, ◌∙◌, Option, Some, None, refl, IsSome, View, document_at, view_at, IsSoundView, found_all, value_at, Kept, KeptView, session_in, SessionState, IsKept, view_in, id_of_view, document_of, id_of_document, found_some, found_none, own_at, option_copied}
use Rattle.editor_session.proofs.attached.look_up.Goals as goal

module _ (s : SessionState) (view : ℕ) (kept : IsKept s) (v : KeptView) (seen : value_at s.views.entries view ≡ Some v) where
  view_is : view_at (session_in s).views view ≡ Some v.view
  view_is = found_some view_in id_of_view s.views.entries view v kept.views seen

  own_view : view_at (session_in s).views v.view.id ≡ Some v.view
  own_view = ap (view_at (session_in s).views) (own_at id_of_view (session_in s).views view v.view view_is) ∙ view_is

  document_is : (id : ℕ) (k : Kept) → id ≡ v.view.document → value_at s.documents.entries id ≡ Some k → document_at (session_in s).documents v.view.document ≡ Some k.document
  document_is id k is at = ap (document_at (session_in s).documents) (sym is) ∙ found_some document_of id_of_document s.documents.entries id k kept.documents at

  -- in a sound session it is there
  document_is_there : (id : ℕ) → id ≡ v.view.document → value_at s.documents.entries id ≡ None → ⊥
  document_is_there id is none =
      let sound = found_all (IsSoundView (session_in s).documents) (λ (w : View). w.id == view) (session_in s).views v.view kept.sound.views view_is in
      let there : document_at (session_in s).documents v.view.document ≡ Some sound.document = sound.found in
      let gone : document_at (session_in s).documents v.view.document ≡ None = ap (document_at (session_in s).documents) (sym is) ∙ found_none document_of id_of_document s.documents.entries id kept.documents none in
      absurd (cc)

  document_there : (id : ℕ) → id ≡ v.view.document → IsSome (value_at s.documents.entries id)
  document_there id is = go (value_at s.documents.entries id) refl
    where
      go : (o : Option Kept) → value_at s.documents.entries id ≡ o → IsSome o
      go None none = absurd (document_is_there id is none)
      go (Some k) there = refl

pub returns-in_default-clause-none : goal.returns-in_default-clause-none
returns-in_default-clause-none c = found_none view_in id_of_view c.args.state.now.views.entries c.args.view c.requires.kept.views (sym c.get.ensures ∙ ap option_copied c.in_default.is)

pub at-document-requires : goal.at-document-requires
at-document-requires c =
    record { there = document_there c.args.state.now c.args.view c.requires.kept c.in-Some.view.now (sym c.get.ensures ∙ ap option_copied c.in-Some.is) c.document.result c.document.ensures }

pub returns-clause-view : goal.returns-clause-view
returns-clause-view c = view_is c.args.state.now c.args.view c.requires.kept c.in-Some.view.now (sym c.get.ensures ∙ ap option_copied c.in-Some.is)

pub returns-clause-own : goal.returns-clause-own
returns-clause-own c = own_view c.args.state.now c.args.view c.requires.kept c.in-Some.view.now (sym c.get.ensures ∙ ap option_copied c.in-Some.is)

pub returns-clause-document : goal.returns-clause-document
returns-clause-document c =
    document_is c.args.state.now c.args.view c.requires.kept c.in-Some.view.now (sym c.get.ensures ∙ ap option_copied c.in-Some.is) c.document.result c.at-document.result.now c.document.ensures
    c.at-document.ensures
