-- A block with no item behind the gap, as the allocator makes it larger: an array of its items, and room. Assumes `Logic`.
--     opened, closed      the cells and the right to give them back are such a block, and back
use Rattle.split_vector.proofs.HandNames.{◌≡◌, refl, sym, ap, ◌∙◌, ℕ, ◌+◌, ◌-◌, ◌*◌, ◌<◌, arith, List, [], ◌∷◌, ◌++◌, map, length, Ura, Ty, ty_array, ent, sep, Fml, froom, Logic, sem, ‵, ◌⊛◌, ◌$◌, ◌∵◌, !, qed, move, use1, use2, split, fsplit, fjoin, rewrite, done, full_share, Array, part_at, Ptr, block_ptr, Some, append-nil, length-map, array_of, block_with_items, El, R, el_x, elτ, as_raw, as_written, cells_of, deed_owns, slots}
use Rattle.split_vector.proofs.Items.{none}
use Rattle.split_vector.proofs.Memory.{Place, sz, deed_made, deed_used, cut, glue, of_room, to_room, of_array, to_array}

ends : {X : Type 0} (xs : List X) (n : ℕ) (ys : List X) → length ys ≡ 0 → cells_of xs n ys ≡ map Some xs ++ none n
ends xs n [] e = ap (λ l. map Some xs ++ l) (append-nil (none n))
ends xs n (y ∷ ys) e = absurd (omega arith)

module _ (E : El) {M : Type 1} {𝓤 : Ura M} (𝓛 : Logic 𝓤) (t : Ty → Ptr → Fml) (b o : ℕ) (xs : List (el_x E)) (n : ℕ) (ys : List (el_x E)) (len size : ℕ)
    (many : len ≡ length xs) (all : len + n ≡ size) (last : length ys ≡ 0) (some : 0 < size) where
  abbrev p : Ptr
  p = block_ptr b o

  abbrev Row : ℕ → List (Place E) → Fml
  Row = slots (R E) b

  abbrev at : ℕ
  at = o + len * sz E

  behind : at ≡ length (map Some xs) * sz E + o
  behind = let e = ap (λ k. k * sz E) (many ∙ sym (length-map xs Some)) in omega (arith, e)

  abbrev Block : Fml
  Block = block_with_items t (R E) p len size xs

  pub opened : ent 𝓤 (sep 𝓤 (sem 𝓛 (Row o (cells_of xs n ys))) (sem 𝓛 (deed_owns (R E) t p size))) (sem 𝓛 Block)
  opened =
      qed 𝓛 (‵ (Row o (cells_of xs n ys)) ∷ ‵ (deed_owns (R E) t p size) ∷ []) ∵
      rewrite ! 0 (λ (l : List (Place E)). ‵ (Row o l)) (ends xs n ys last) refl $
      use1 𝓛 (‵ (Row o (map Some xs)) ⊛ ‵ (Row at (none n))) (cut E 𝓛 b (map Some xs) (none n) o at behind) $ split ! $
      use1 𝓛 (‵ (part_at (Array (R E) len) full_share xs b o)) (to_array E 𝓛 b xs len o (sym many)) $ move ! (1 ∷ []) $
      use1 𝓛 (‵ (froom (ty_array (elτ E) n) b at)) (to_room E 𝓛 b n at) $
      rewrite ! 0 (λ (k : ℕ). ‵ (froom (ty_array (elτ E) k) b at)) {x = size - len} (omega (arith, all)) refl $ as_raw ! (ty_array (elτ E) (size - len)) b at $
      move ! (2 ∷ []) $ use1 𝓛 (‵ (t (array_of (R E) size) p)) (deed_used E 𝓛 t p size some) $ move ! (1 ∷ 0 ∷ []) $ fjoin ! $ move ! (1 ∷ 0 ∷ []) $ fjoin ! $ done !

  pub closed : ent 𝓤 (sem 𝓛 Block) (sep 𝓤 (sem 𝓛 (Row o (cells_of xs n ys))) (sem 𝓛 (deed_owns (R E) t p size)))
  closed =
      qed 𝓛 (‵ Block ∷ []) ∵ fsplit ! $ use1 𝓛 (‵ (Row o (map Some xs))) (of_array E 𝓛 b xs len o) $ move ! (1 ∷ []) $ fsplit ! $
      as_written ! (ty_array (elτ E) (size - len)) b at $ rewrite ! 0 (λ (k : ℕ). ‵ (froom (ty_array (elτ E) k) b at)) {x = n} (omega (arith, all)) refl $
      use1 𝓛 (‵ (Row at (none n))) (of_room E 𝓛 b n at) $ move ! (2 ∷ 0 ∷ []) $
      use2 𝓛 (‵ (Row o (map Some xs ++ none n))) (glue E 𝓛 b (map Some xs) (none n) o at behind) $
      rewrite ! 0 (λ (l : List (Place E)). ‵ (Row o l)) (sym (ends xs n ys last)) refl $ move ! (1 ∷ []) $
      use1 𝓛 (‵ (deed_owns (R E) t p size)) (deed_made E 𝓛 t p size some) $ move ! (1 ∷ 0 ∷ []) $ done !
