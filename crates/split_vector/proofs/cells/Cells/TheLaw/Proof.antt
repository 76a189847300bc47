-- A `&` to the places reaches each item. Assumes `Logic`.
use Rattle.split_vector.proofs.HandNames.{[], ◌++◌, Incl-trans, meet_⊑_left, RattleType, RawPtr, Laws, copy_shared, field_copy, of_Lends, cells_of}
use Rattle.core.specs.contracts.marker.PhantomData as marker
use Rattle.split_vector.specs.contracts.cells.Cells as C
use Rattle.split_vector.proofs.cells.Cells.TheLaw.Statement.{statement}
use Rattle.split_vector.proofs.Sharing.{cells_lent_laws, Lends-cells}

pub shares : (R : RattleType) (L : Laws R) → statement R L
shares R L = of_Lends (C.struct R) (C.the_codes R.Denot R.coded (marker.the_row RawPtr).coded) (C.the_heap R) (C.the_lent R)
    (λ d p. cells_lent_laws R L.shr_laws d.at (cells_of d.left d.spare d.right)) (copy_shared (marker.the_field RawPtr) (field_copy (marker.the_type RawPtr) tt), tt)
    (λ M 𝓤 𝓛 d p. Lends-cells 𝓛 (C.the_row R).lives R L (Incl-trans (meet_⊑_left (R.lives ++ []) _) (meet_⊑_left R.lives [])) d.at (cells_of d.left d.spare d.right))
