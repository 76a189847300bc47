-- Cells whose styles change: their bytes stay, and so do the other parts of the document.
use Rattle.document.proofs.Names.{◌≡◌, ℕ, List, length, sym, subst, ◌∙◌, arith, Buffer, bytes_of, IsIndexOf, AreTogether, TextParts}

-- the parts of a document whose cells have other styles
pub parts_restyled : (options : ℕ) (p : TextParts) (new : Buffer) → AreTogether options p → bytes_of new.cells ≡ bytes_of p.cells.cells → length new.cells ≡ length p.cells.cells → AreTogether options (record p { cells = new })
parts_restyled options p new parts bytes as_long = record {
  indexed = subst (λ (text : List ℕ). IsIndexOf text p.places.index) (sym bytes) parts.indexed;
  row_count = parts.row_count;
  indicator_count = parts.indicator_count ∙ sym as_long;
  width = parts.width;
  fits = omega (arith, parts.fits, as_long);
}
