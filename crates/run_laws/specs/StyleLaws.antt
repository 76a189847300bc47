-- A document that keeps no styles (SC_DOCUMENTOPTION_STYLES_NONE) has none.
use Rattle.std.specs.Prelude.{◌≡◌, ℕ, true, Some}
use Rattle.std.specs.List.{AllByRecursion}
use Rattle.ed_model.specs.Text.{Cell}
use Rattle.ed_model.specs.Session.{Session, Document, document_at, keeps_no_styles}
use Rattle.run_laws.specs.Reached.{InEveryState}

-- if the document keeps no styles, every cell has style 0
abbrev pub HasNoStyles : Document → Type 0
HasNoStyles d = keeps_no_styles d ≡ true → AllByRecursion (λ (c : Cell). c.style ≡ 0) d.cells

abbrev pub DocumentsWithoutStylesHaveNone : Type 0
DocumentsWithoutStylesHaveNone = InEveryState (λ (s : Session). (id : ℕ) (d : Document) → document_at s.documents id ≡ Some d → HasNoStyles d)
