-- What the walks of the unsafe functions share. Assumes `Logic`.
--     word_had, word_made, mark_had, mark_made      a value of one pointer, and one of no bytes
--     slot_out, slot_in      one place is taken out of the row, or put back
--     run_seen      a run of places is seen
--     cut, glue      a row is two rows side by side
--     of_room, to_room      room for an array is a row of empty places
--     of_array, to_array      an array is a row of its items
--     run_out, run_in      the items beside the gap, as an array, move over it
use Rattle.split_vector.proofs.HandNames.{◌≡◌, refl, sym, ap, subst, ◌∙◌, ℕ, zero, suc, ◌+◌, ◌-◌, ◌*◌, ◌<◌, ◌≤◌, ◌^◌, arith, zero-mul, suc-mul, Bool, true, false, not, List, [], ◌∷◌, ◌++◌, map, length, take, set, get_or, replicate, take-append-drop, length-take, Ura, full_share, Ty, ty_array, Val, vstruct, vcons, vnil, of_list, SProp, ent, sep, emp, ex, guard, via, snd∗, id⊢, mono_r, Fml, Lft, ftrue, fsep, fat, froom, Logic, sem, Array, row, whole_out, whole_in, length-map, length-replicate, given, learn, fact, fact_i, Item, Goal, Seq, Step, step, prop, ‵, raw, some, ◌⊛◌, ◌$◌, ◌∵◌, !, qed, by, move, keep, use0, use1, use2, pick, split, split3, check, show, frame, fsplit, fjoin, fpick, fpack, feq_i, feq_l, rewrite, done, RattleType, Valss, Typed, Is, shows, param, layout, Laws, param_laws, lone, part_at, mem, Ptr, RawPtr, block_ptr, ptr_val, makes_shadow, elements_shared, nothing, peeks, Shape, Struct, within, Tuple, tuple_type, Option, Some, None, type_size, El, R, el_x, elτ, Good, word, memory_before_copy, memory_after_copy, LiesApart, Run, run_start, cells_of, deed_owns, slot, slots, slot_lent, slots_lent}
use lib.ListN.{drop}
use lib.Seq.{drop-cons, set_split}
use types.SemTy.{cells}
use mir.Raw.{raw as raw_ty}
use Rattle.core.proofs.ptr.Rows as arrays
use Rattle.split_vector.proofs.Items.{none, cells_long, around, cells_around, around_long, spread}
use types.Kit.{drop as skip}
use denote.Struct.Owning.{shape}
use denote.Struct.Declared as Declared
use borrow.Table.OneValue.{part_in, part_out}
use Rattle.split_vector.specs.contracts.cells.Cells as C-type
use Rattle.split_vector.specs.contracts.cells.Base as B-type

module _ (E : El) where
  abbrev pub Cr : RattleType
  Cr = C-type.the_row (R E)

  abbrev pub Bs : RattleType
  Bs = B-type.the_row (R E)

  -- the one field of `Cells`, which takes no bytes
  abbrev pub Mark : RattleType
  Mark = Struct (shape (C-type.the_type (R E)))

  abbrev pub sz : ℕ
  sz = type_size (R E)

  abbrev pub Place : Type 0
  Place = Option (el_x E)

  abbrev pub None_of : Place
  None_of = None

  -- the cells of d, as one list
  abbrev pub all_of : Cr.Denot → List Place
  all_of d = cells_of d.left d.spare d.right

  pub all_long : (d : Cr.Denot) → length (all_of d) ≡ length d.left + d.spare + length d.right
  all_long d = cells_long d.left d.spare d.right

  abbrev pub ty_raw : ℕ → Ty
  ty_raw n = raw_ty (ty_array (lone (R E).mir) n)

abbrev one_field : Shape
one_field = record { name = []; args = []; types = []; fields = RawPtr ∷ [] }

abbrev pub Word : RattleType
Word = Struct one_field

abbrev pub mark : Val
mark = vstruct (vcons (vstruct vnil) vnil)

pub mark_made : (E : El) {M : Type 1} {𝓤 : Ura M} (𝓛 : Logic 𝓤) → ent 𝓤 (emp 𝓤) (sem 𝓛 ((Mark E).own_val (tt, tt) (mark ∷ [])))
mark_made E 𝓛 = makes_shadow 𝓛 ((Mark E).own_val (tt, tt) (mark ∷ [])) (λ vss. (tt, ((λ uss. (tt, tt)), tt))) ((vstruct vnil ∷ [], tt), (refl, ((tt, (refl, tt)), tt)))

module _ {M : Type 1} {𝓤 : Ura M} {𝓛 : Logic 𝓤} {K : Type 0} {Γ : List (Item 𝓤)} {G : Goal 𝓤 𝓛.H} where
  pub word_had : K → (c : Ptr) (vs : List Val) → (vs ≡ word c ∷ [] → Seq K 𝓛 Γ G) → Seq K 𝓛 (‵ (Word.own_val (c, tt) vs) ∷ Γ) G
  word_had t c vs k = fpick t (λ vss. fsplit t $ feq_l t (λ ev. fsplit t $ feq_l t (λ e. skip t $ k (subst (λ (ws : List Val). vs ≡ vstruct (of_list (ws ++ [])) ∷ []) e ev))))

  pub word_made : K → (c : Ptr) → Step K 𝓛 (‵ (Word.own_val (c, tt) (word c ∷ [])) ∷ Γ) G Γ G
  word_made t c = step (λ s.
      nothing t $ feq_i t (List Val) (ptr_val c ∷ []) (ptr_val c ∷ []) refl $ fjoin t $ feq_i t (List Val) (word c ∷ []) (word c ∷ []) refl $ fjoin t $
      fpack t (Valss (RawPtr ∷ [])) (within one_field (c, tt) (word c ∷ [])) (ptr_val c ∷ [], tt) $ s)

  pub mark_had : K → (E : El) (vs : List Val) → (vs ≡ mark ∷ [] → Seq K 𝓛 Γ G) → Seq K 𝓛 (‵ ((Mark E).own_val (tt, tt) vs) ∷ Γ) G
  mark_had t E vs k = fpick t (λ vss. fsplit t $ feq_l t (λ ev. fsplit t $ fpick t (λ uss. fsplit t $ feq_l t (λ e. skip t $ skip t $
      k (subst (λ (ws : List Val). vs ≡ vstruct (of_list (ws ++ [])) ∷ []) e ev)))))

module _ {M : Type 1} {𝓤 : Ura M} {𝓛 : Logic 𝓤} {K : Type 0} {Γ : List (Item 𝓤)} where
  -- an `ensures` of two facts
  pub says_both : K → {φ ψ : Type 0} {P : SProp 𝓤} → φ → ψ → Step K 𝓛 Γ (prop P) Γ (prop (sep 𝓤 P (sep 𝓤 (fact 𝓤 φ) (fact 𝓤 ψ))))
  says_both t {φ} {ψ} {P} x y = step (λ s. record {
    prf = via 𝓤 P s.prf (qed 𝓛 (raw P ∷ []) {P = sep 𝓤 P (sep 𝓤 (fact 𝓤 φ) (fact 𝓤 ψ))} (
        frame ! $ use0 𝓛 (raw (fact 𝓤 ψ)) (fact_i 𝓤 ψ (emp 𝓤) y) $ use0 𝓛 (raw (fact 𝓤 φ)) (fact_i 𝓤 φ (emp 𝓤) x) $ done !));
  })

module _ (i : ℕ) (Y : RattleType) (L : Laws Y) {M : Type 1} {𝓤 : Ura M} (𝓛 : Logic 𝓤) where
  open 𝓛 use {H}

  pub value_out : (x : Y.Denot) (b o : ℕ) → ent 𝓤 (sem 𝓛 (part_at (param i Y) full_share x b o)) (ex 𝓤 (λ (v : Val). guard 𝓤 (Good (layout Y) v) (sep 𝓤 (H.at full_share (layout Y) b o v) (sem 𝓛 (Y.own_val x (v ∷ []))))))
  value_out x b o = qed 𝓛 (‵ (part_at (param i Y) full_share x b o) ∷ []) ∵
      use1 𝓛 (some (λ (v : Val). ‵ (fat full_share (layout Y) b o v) ⊛ ‵ (Y.own_val x (v ∷ [])))) (part_out 𝓛 (param i Y) refl full_share x b o) $ pick ! (λ v. split ! $ move ! (1 ∷ []) $
      peeks ! (param i Y) (Is (param i Y)) (shows 𝓛 (param i Y)) x (v ∷ []) (λ p.
      show ! (λ (w : Val). guard 𝓤 (Good (layout Y) w) (sep 𝓤 (H.at full_share (layout Y) b o w) (sem 𝓛 (Y.own_val x (w ∷ []))))) v $ check ! (((param_laws i Y L).lawful 𝓛).typed x (v ∷ []) p).0 $ move ! (1 ∷ 0 ∷ []) $ done !))

  pub value_in : (x : Y.Denot) (b o : ℕ) (v : Val) → ent 𝓤 (sep 𝓤 (H.at full_share (layout Y) b o v) (sem 𝓛 (Y.own_val x (v ∷ [])))) (sem 𝓛 (part_at (param i Y) full_share x b o))
  value_in x b o v = part_in 𝓛 (param i Y) refl full_share x b o v

abbrev pub three_val : Val → Val → Val → Val
three_val u v w = vstruct (vcons u (vcons v (vcons w vnil)))

pub three_of : {M : Type 1} {𝓤 : Ura M} (𝓛 : Logic 𝓤) (R S T : RattleType) (x : R.Denot) (y : S.Denot) (z : T.Denot) (u v w : Val)
    → ent 𝓤 (sep 𝓤 (sem 𝓛 (R.own_val x (u ∷ []))) (sep 𝓤 (sem 𝓛 (S.own_val y (v ∷ []))) (sem 𝓛 (T.own_val z (w ∷ []))))) (sem 𝓛 ((Tuple (R ∷ S ∷ T ∷ [])).own_val (x, y, z) (three_val u v w ∷ [])))
three_of 𝓛 R S T x y z u v w =
    qed 𝓛 (‵ (R.own_val x (u ∷ [])) ∷ ‵ (S.own_val y (v ∷ [])) ∷ ‵ (T.own_val z (w ∷ [])) ∷ []) ∵ nothing ! $ move ! (3 ∷ 0 ∷ []) $ fjoin ! $ move ! (2 ∷ 0 ∷ []) $ fjoin ! $ move ! (1 ∷ 0 ∷ []) $ fjoin ! $
    feq_i ! (List Val) (three_val u v w ∷ []) (three_val u v w ∷ []) refl $ fjoin ! $
    fpack ! (Valss (R ∷ S ∷ T ∷ [])) (within (Declared.shape (tuple_type (R ∷ S ∷ T ∷ []))) (x, (y, (z, tt))) (three_val u v w ∷ [])) (u ∷ [], (v ∷ [], (w ∷ [], tt))) $ done !

alone : (τ : Ty) (vs : List Val) → Typed (τ ∷ []) vs → (v : Val) × ((vs ≡ v ∷ []) × Good τ v)
alone τ [] t = absurd t
alone τ (v ∷ []) t = (v, (refl, t.0))
alone τ (v ∷ w ∷ vs) t = absurd t.1

module _ (Y : RattleType) (L : Laws Y) {M : Type 1} {𝓤 : Ura M} {𝓛 : Logic 𝓤} {K : Type 0} {Γ : List (Item 𝓤)} {G : Goal 𝓤 𝓛.H} where
  -- what is owned of a value is one machine value, of its type
  pub tells : K → (x : Y.Denot) (vs : List Val) → ((v : Val) → vs ≡ v ∷ [] → Good (layout Y) v → Seq K 𝓛 (‵ (Y.own_val x (v ∷ [])) ∷ Γ) G) → Seq K 𝓛 (‵ (Y.own_val x vs) ∷ Γ) G
  tells t x vs k =
      peeks t (param 0 Y) (Is (param 0 Y)) (shows 𝓛 (param 0 Y)) x vs (λ is.
      let one = alone (layout Y) vs (((param_laws 0 Y L).lawful 𝓛).typed x vs is) in
      rewrite t 0 (λ (us : List Val). ‵ (Y.own_val x us)) one.1.0 refl $ k one.0 one.1.0 one.1.1)

module _ (E : El) {M : Type 1} {𝓤 : Ura M} (𝓛 : Logic 𝓤) (t : Ty → Ptr → Fml) (p : Ptr) where
  pub deed_made : (n : ℕ) → 0 < n → ent 𝓤 (sem 𝓛 (t (ty_raw E n) p)) (sem 𝓛 (deed_owns (R E) t p n))
  deed_made zero lt = absurd (omega arith)
  deed_made (suc n) lt = id⊢ 𝓤 _

  pub deed_used : (n : ℕ) → 0 < n → ent 𝓤 (sem 𝓛 (deed_owns (R E) t p n)) (sem 𝓛 (t (ty_raw E n) p))
  deed_used zero lt = absurd (omega arith)
  deed_used (suc n) lt = id⊢ 𝓤 _

module _ (E : El) {M : Type 1} {𝓤 : Ura M} (𝓛 : Logic 𝓤) (b : ℕ) where
  open 𝓛 use {H}

  abbrev s : ℕ
  s = sz E

  abbrev Row : ℕ → List (Place E) → Fml
  Row = slots (R E) b

  pub cut : (xs ys : List (Place E)) (o at : ℕ) → at ≡ length xs * s + o → ent 𝓤 (sem 𝓛 (Row o (xs ++ ys))) (sep 𝓤 (sem 𝓛 (Row o xs)) (sem 𝓛 (Row at ys)))
  cut [] ys o at e = qed 𝓛 (‵ (Row o ys) ∷ []) ∵ rewrite ! 0 (λ (k : ℕ). ‵ (Row k ys)) {x = at} (omega (arith, zero-mul s)) refl $ nothing ! $ done !
  cut (x ∷ xs) ys o at e = let more : at ≡ suc (length xs) * s + o = e in qed 𝓛 (‵ (Row o (x ∷ xs ++ ys)) ∷ []) ∵ fsplit ! $ move ! (1 ∷ []) $
      use1 𝓛 (‵ (Row (o + s) xs) ⊛ ‵ (Row at ys)) (cut xs ys (o + s) at (omega (arith, suc-mul (length xs) s))) $ split ! $ move ! (2 ∷ 0 ∷ []) $ fjoin ! $ done !

  pub glue : (xs ys : List (Place E)) (o at : ℕ) → at ≡ length xs * s + o → ent 𝓤 (sep 𝓤 (sem 𝓛 (Row o xs)) (sem 𝓛 (Row at ys))) (sem 𝓛 (Row o (xs ++ ys)))
  glue [] ys o at e = qed 𝓛 (‵ ftrue ∷ ‵ (Row at ys) ∷ []) ∵ skip ! $ rewrite ! 0 (λ (k : ℕ). ‵ (Row k ys)) {x = o} (omega (arith, zero-mul s)) refl $ done !
  glue (x ∷ xs) ys o at e = let more : at ≡ suc (length xs) * s + o = e in qed 𝓛 (‵ (Row o (x ∷ xs)) ∷ ‵ (Row at ys) ∷ []) ∵ fsplit ! $ move ! (1 ∷ 2 ∷ []) $
      use2 𝓛 (‵ (Row (o + s) (xs ++ ys))) (glue xs ys (o + s) at (omega (arith, suc-mul (length xs) s))) $ move ! (1 ∷ 0 ∷ []) $ fjoin ! $ done !

  module _ (o : ℕ) (cs : List (Place E)) (i : ℕ) where
    -- the places but for the i-th
    abbrev pub Besides : Fml
    Besides = fsep (Row o (take i cs)) (Row (i * s + o + s) (drop (suc i) cs))

    before : i ≤ length cs → i * s + o ≡ length (take i cs) * s + o
    before le = let long : i ≡ length (take i cs) = omega (arith, length-take i cs) in ap (λ k. k * s + o) long

    pub slot_out : i < length cs → ent 𝓤 (sem 𝓛 (Row o cs)) (sep 𝓤 (sem 𝓛 (slot (R E) b (i * s + o) (get_or cs i None))) (sem 𝓛 Besides))
    slot_out lt = qed 𝓛 (‵ (Row o cs) ∷ []) ∵
        rewrite ! 0 (λ (l : List (Place E)). ‵ (Row o l)) (sym (take-append-drop i cs) ∙ ap (λ l. take i cs ++ l) (drop-cons cs i None lt)) refl $
        use1 𝓛 (‵ (Row o (take i cs)) ⊛ ‵ (Row (i * s + o) (get_or cs i None ∷ drop (suc i) cs))) (cut (take i cs) (get_or cs i None ∷ drop (suc i) cs) o (i * s + o) (before (omega arith))) $
        split ! $ move ! (1 ∷ []) $ fsplit ! $ move ! (2 ∷ 1 ∷ []) $ fjoin ! $ move ! (1 ∷ []) $ done !

    pub slot_in : i < length cs → (c : Place E) → ent 𝓤 (sep 𝓤 (sem 𝓛 (slot (R E) b (i * s + o) c)) (sem 𝓛 Besides)) (sem 𝓛 (Row o (set cs i c)))
    slot_in lt c = qed 𝓛 (‵ (slot (R E) b (i * s + o) c) ∷ ‵ Besides ∷ []) ∵ move ! (1 ∷ []) $ fsplit ! $ move ! (2 ∷ 1 ∷ []) $ fjoin ! $ move ! (1 ∷ 0 ∷ []) $
        use2 𝓛 (‵ (Row o (take i cs ++ c ∷ drop (suc i) cs))) (glue (take i cs) (c ∷ drop (suc i) cs) o (i * s + o) (before (omega arith))) $
        rewrite ! 0 (λ (l : List (Place E)). ‵ (Row o l)) (sym (set_split cs i c lt)) refl $ done !

  pub to_cells : (xs : List (el_x E)) (o : ℕ) → ent 𝓤 (sem 𝓛 (Row o (map Some xs))) (sem 𝓛 (cells (mem (R E)) xs b o))
  to_cells [] o = id⊢ 𝓤 (emp 𝓤)
  to_cells (x ∷ xs) o = mono_r 𝓤 (sem 𝓛 (part_at (R E) full_share x b o)) (to_cells xs (o + s))

  pub of_cells : (xs : List (el_x E)) (o : ℕ) → ent 𝓤 (sem 𝓛 (cells (mem (R E)) xs b o)) (sem 𝓛 (Row o (map Some xs)))
  of_cells [] o = id⊢ 𝓤 (emp 𝓤)
  of_cells (x ∷ xs) o = mono_r 𝓤 (sem 𝓛 (part_at (R E) full_share x b o)) (of_cells xs (o + s))

  pub of_room : (n o : ℕ) → ent 𝓤 (H.room (ty_array (elτ E) n) b o) (sem 𝓛 (Row o (replicate n None)))
  of_room zero o = qed 𝓛 (‵ (froom (ty_array (elτ E) 0) b o) ∷ []) ∵ keep ! [] $ done !
  of_room (suc n) o = qed 𝓛 (‵ (froom (ty_array (elτ E) (suc n)) b o) ∷ []) ∵
      use1 𝓛 (‵ (froom (elτ E) b o) ⊛ ‵ (froom (ty_array (elτ E) n) b (o + s))) (𝓛.laws.room_uncons (elτ E) n b o) $ split ! $
      use1 𝓛 (‵ (slot (R E) b o None)) (𝓛.laws.room-raw (elτ E) b o) $ frame ! $ by ! (of_room n (o + s))

  pub to_room : (n o : ℕ) → ent 𝓤 (sem 𝓛 (Row o (replicate n None))) (H.room (ty_array (elτ E) n) b o)
  to_room zero o = 𝓛.laws.room_nil (elτ E) b o
  to_room (suc n) o = qed 𝓛 (‵ (slot (R E) b o None) ∷ ‵ (Row (o + s) (replicate n None)) ∷ []) ∵
      use1 𝓛 (‵ (froom (elτ E) b o)) (𝓛.laws.raw-room (elτ E) b o) $ move ! (1 ∷ []) $
      use1 𝓛 (‵ (froom (ty_array (elτ E) n) b (o + s))) (to_room n (o + s)) $ move ! (1 ∷ []) $ by ! (𝓛.laws.room_cons (elτ E) n b o)

  pub slot_room : (c : Place E) (o : ℕ) → ent 𝓤 (sem 𝓛 (slot (R E) b o c)) (sem 𝓛 (slot (R E) b o None))
  slot_room None o = id⊢ 𝓤 _
  slot_room (Some x) o = qed 𝓛 (‵ (slot (R E) b o (Some x)) ∷ []) ∵
      use1 𝓛 (some (λ (v : Val). given (Good (elτ E) v) (‵ (fat full_share (elτ E) b o v) ⊛ ‵ (E.row.own_val x (v ∷ []))))) (value_out 0 E.row E.laws 𝓛 x b o) $
      pick ! (λ v. learn ! (λ good. split ! $ keep ! (0 ∷ []) $
      use1 𝓛 (‵ (froom (elτ E) b o)) (𝓛.laws.at_room (elτ E) b o v) $ by ! (𝓛.laws.room-raw (elτ E) b o)))

  -- a cell that held an item holds none
  pub forgets : (cs : List (Place E)) (o : ℕ) → ent 𝓤 (sem 𝓛 (Row o cs)) (sem 𝓛 (Row o (replicate (length cs) None)))
  forgets [] o = id⊢ 𝓤 _
  forgets (c ∷ cs) o = qed 𝓛 (‵ (slot (R E) b o c) ∷ ‵ (Row (o + s) cs) ∷ []) ∵
      use1 𝓛 (‵ (slot (R E) b o None)) (slot_room c o) $ move ! (1 ∷ []) $ use1 𝓛 (‵ (Row (o + s) (replicate (length cs) None))) (forgets cs (o + s)) $ move ! (1 ∷ 0 ∷ []) $ done !

  -- a row of items is an array of them, and back
  abbrev E' : arrays.El
  E' = record { row = E.row; laws = E.laws }

  pub to_array : (xs : List (el_x E)) (n o : ℕ) → length xs ≡ n → ent 𝓤 (sem 𝓛 (Row o (map Some xs))) (sem 𝓛 (part_at (Array (R E) n) full_share xs b o))
  to_array xs n o e = qed 𝓛 (‵ (Row o (map Some xs)) ∷ []) ∵
      use1 𝓛 (‵ (cells (mem (R E)) xs b o)) (to_cells xs o) $ use1 𝓛 (‵ (row (R E) full_share xs b o)) (whole_out 𝓛 (R E) xs b o) $ by ! (arrays.whole E' 𝓛 full_share n xs b o e)

  pub of_array : (xs : List (el_x E)) (n o : ℕ) → ent 𝓤 (sem 𝓛 (part_at (Array (R E) n) full_share xs b o)) (sem 𝓛 (Row o (map Some xs)))
  of_array xs n o = qed 𝓛 (‵ (part_at (Array (R E) n) full_share xs b o) ∷ []) ∵
      use1 𝓛 (given (length xs ≡ n) (‵ (row (R E) full_share xs b o))) (arrays.apart E' 𝓛 full_share n xs b o) $ learn ! (λ _.
      use1 𝓛 (‵ (cells (mem (R E)) xs b o)) (whole_in 𝓛 (R E) xs b o) $ by ! (of_cells xs o))

  abbrev Values : List (el_x E) → ℕ → ℕ → Fml
  Values xs n o = part_at (Array (R E) n) full_share xs b o

  abbrev Space : ℕ → ℕ → Fml
  Space n o = froom (ty_array (elτ E) n) b o

  module _ (d : (Cr E).Denot) (o : ℕ) where
    abbrev xs : List (el_x E)
    xs = d.left

    abbrev n : ℕ
    n = d.spare

    abbrev ys : List (el_x E)
    ys = d.right

    -- the items in reach of the gap are forgotten
    pub widened : (i j : ℕ) → i ≤ length d.left → j ≤ length d.right → ent 𝓤 (sem 𝓛 (Row o (all_of E d))) (sem 𝓛 (Row o (cells_of (take i xs) (n + (length xs - i) + j) (drop j ys))))
    widened i j p q =
        let mid = around xs n ys i j in let wide = n + (length xs - i) + j in let long : length mid ≡ wide = around_long xs n ys i j p q in
        let front : length (map Some (take i xs)) ≡ i = omega (arith, length-map (take i xs) Some, length-take i xs) in
        let at = i * s + o in let at' = wide * s + at in let a : at ≡ length (map Some (take i xs)) * s + o = ap (λ k. k * s + o) (sym front) in
        let a' : at' ≡ length mid * s + at = ap (λ k. k * s + at) (sym long) in let a'' : at' ≡ length (none wide) * s + at = ap (λ k. k * s + at) (sym (length-replicate wide (None_of E))) in
        qed 𝓛 (‵ (Row o (all_of E d)) ∷ []) ∵ rewrite ! 0 (λ (l : List (Place E)). ‵ (Row o l)) (cells_around xs n ys i j) refl $
        use1 𝓛 (‵ (Row o (map Some (take i xs))) ⊛ ‵ (Row at (mid ++ map Some (drop j ys)))) (cut (map Some (take i xs)) (mid ++ map Some (drop j ys)) o at a) $ split ! $ move ! (1 ∷ []) $
        use1 𝓛 (‵ (Row at mid) ⊛ ‵ (Row at' (map Some (drop j ys)))) (cut mid (map Some (drop j ys)) at at' a') $ split ! $
        use1 𝓛 (‵ (Row at (replicate (length mid) None))) (forgets mid at) $ rewrite ! 0 (λ (k : ℕ). ‵ (Row at (replicate k None))) long refl $
        use2 𝓛 (‵ (Row at (none wide ++ map Some (drop j ys)))) (glue (none wide) (map Some (drop j ys)) at at' a'') $ move ! (1 ∷ 0 ∷ []) $
        by ! (glue (map Some (take i xs)) (none wide ++ map Some (drop j ys)) o at a)

  -- a run beside the gap comes out of the row as an array, with the gap as room, and goes back on the other side of the room
  module _ (o count : ℕ) (p : Run (el_x E)) (e : count ≡ length p.1) where
    abbrev low : ℕ
    low = length p.0 * s + o

    abbrev top : ℕ
    top = p.2 * s + (count * s + low)

    -- where the run begins, on the left of the gap and on the right
    abbrev pub begin : Bool → ℕ
    begin true = low
    begin false = p.2 * s + low

    pub begins : (on_left : Bool) (from : ℕ) → from ≡ run_start on_left p → from * s + o ≡ begin on_left
    begins true from is = ap (λ k. k * s + o) is
    begins false from is = let wide = ap (λ (k : ℕ). k * s) is ∙ arrays.add_times (length p.0) p.2 s in omega (arith, wide)

    pub begin_apart : (up : Bool) → count * s < 2 ^ 64 → LiesApart (R E) up p.2 count (block_ptr b (begin up)) (block_ptr b (begin (not up)))
    begin_apart true wide = (refl, wide)
    begin_apart false wide = (refl, wide)

    -- what the move does not touch
    abbrev pub Outside : Fml
    Outside = fsep (Row o (map Some p.0)) (Row top (map Some p.3))

    run_long : length (map Some p.1) ≡ count
    run_long = length-map p.1 Some ∙ sym e

    room_long : length (none {X = el_x E} p.2) ≡ p.2
    room_long = length-replicate p.2 (None_of E)

    front : low ≡ length (map Some p.0) * s + o
    front = ap (λ k. k * s + o) (sym (length-map p.0 Some))

    -- the two rows in the middle, which are the run and the gap in either order, come out and go back
    parts_out : (us vs : List (Place E)) (mid : ℕ) → mid ≡ length us * s + low → top ≡ length vs * s + mid
        → ent 𝓤 (sem 𝓛 (Row o (map Some p.0 ++ (us ++ (vs ++ map Some p.3))))) (sep 𝓤 (sem 𝓛 (Row low us)) (sep 𝓤 (sem 𝓛 (Row mid vs)) (sem 𝓛 Outside)))
    parts_out us vs mid m t =
        qed 𝓛 (‵ (Row o (map Some p.0 ++ (us ++ (vs ++ map Some p.3)))) ∷ []) ∵
        use1 𝓛 (‵ (Row o (map Some p.0)) ⊛ ‵ (Row low (us ++ (vs ++ map Some p.3)))) (cut (map Some p.0) (us ++ (vs ++ map Some p.3)) o low front) $ split ! $ move ! (1 ∷ []) $
        use1 𝓛 (‵ (Row low us) ⊛ ‵ (Row mid (vs ++ map Some p.3))) (cut us (vs ++ map Some p.3) low mid m) $ split ! $ move ! (1 ∷ []) $
        use1 𝓛 (‵ (Row mid vs) ⊛ ‵ (Row top (map Some p.3))) (cut vs (map Some p.3) mid top t) $ split ! $
        move ! (3 ∷ 1 ∷ []) $ fjoin ! $ move ! (2 ∷ 1 ∷ []) $ done !

    parts_in : (us vs : List (Place E)) (mid : ℕ) → mid ≡ length us * s + low → top ≡ length vs * s + mid
        → ent 𝓤 (sep 𝓤 (sem 𝓛 (Row low us)) (sep 𝓤 (sem 𝓛 (Row mid vs)) (sem 𝓛 Outside))) (sem 𝓛 (Row o (map Some p.0 ++ (us ++ (vs ++ map Some p.3)))))
    parts_in us vs mid m t =
        qed 𝓛 (‵ (Row low us) ∷ ‵ (Row mid vs) ∷ ‵ Outside ∷ []) ∵ move ! (2 ∷ []) $ fsplit ! $ move ! (3 ∷ 1 ∷ []) $
        use2 𝓛 (‵ (Row mid (vs ++ map Some p.3))) (glue vs (map Some p.3) mid top t) $ move ! (2 ∷ 0 ∷ []) $
        use2 𝓛 (‵ (Row low (us ++ (vs ++ map Some p.3)))) (glue us (vs ++ map Some p.3) low mid m) $ move ! (1 ∷ 0 ∷ []) $
        by ! (glue (map Some p.0) (us ++ (vs ++ map Some p.3)) o low front)

    pub run_out : (up : Bool) → ent 𝓤 (sem 𝓛 (Row o (spread up p))) (sep 𝓤 (sem 𝓛 (memory_before_copy (R E) up p.2 count (block_ptr b (begin up)) (block_ptr b (begin (not up))) p.1)) (sem 𝓛 Outside))
    run_out true =
        let mid : ℕ = count * s + low in
        qed 𝓛 (‵ (Row o (spread true p)) ∷ []) ∵
        use1 𝓛 (‵ (Row low (map Some p.1)) ⊛ ‵ (Row mid (none p.2)) ⊛ ‵ Outside) (parts_out (map Some p.1) (none p.2) mid (ap (λ k. k * s + low) (sym run_long)) (ap (λ k. k * s + mid) (sym room_long))) $ split3 ! $
        use1 𝓛 (‵ (Values p.1 count low)) (to_array p.1 count low (sym e)) $ move ! (1 ∷ []) $ use1 𝓛 (‵ (Space p.2 mid)) (to_room p.2 mid) $ move ! (1 ∷ 0 ∷ []) $ fjoin ! $ done !
    run_out false =
        let mid : ℕ = p.2 * s + low in
        qed 𝓛 (‵ (Row o (spread false p)) ∷ []) ∵
        use1 𝓛 (‵ (Row low (none p.2)) ⊛ ‵ (Row mid (map Some p.1)) ⊛ ‵ Outside) (parts_out (none p.2) (map Some p.1) mid (ap (λ k. k * s + low) (sym room_long)) (let g = ap (λ k. k * s + mid) (sym run_long) in omega (arith, g))) $ split3 ! $
        use1 𝓛 (‵ (Space p.2 low)) (to_room p.2 low) $ move ! (1 ∷ []) $ use1 𝓛 (‵ (Values p.1 count mid)) (to_array p.1 count mid (sym e)) $ fjoin ! $ done !

    pub run_in : (up : Bool) → ent 𝓤 (sep 𝓤 (sem 𝓛 (memory_after_copy (R E) up p.2 count (block_ptr b (begin up)) (block_ptr b (begin (not up))) p.1)) (sem 𝓛 Outside)) (sem 𝓛 (Row o (spread (not up) p)))
    run_in true =
        let mid : ℕ = p.2 * s + low in
        qed 𝓛 (‵ (fsep (Values p.1 count mid) (Space p.2 low)) ∷ ‵ Outside ∷ []) ∵ fsplit ! $ use1 𝓛 (‵ (Row mid (map Some p.1))) (of_array p.1 count mid) $ move ! (1 ∷ []) $
        use1 𝓛 (‵ (Row low (none p.2))) (of_room p.2 low) $
        by ! (parts_in (none p.2) (map Some p.1) mid (ap (λ k. k * s + low) (sym room_long)) (let g = ap (λ k. k * s + mid) (sym run_long) in omega (arith, g)))
    run_in false =
        let mid : ℕ = count * s + low in
        qed 𝓛 (‵ (fsep (Values p.1 count low) (Space p.2 mid)) ∷ ‵ Outside ∷ []) ∵ fsplit ! $ use1 𝓛 (‵ (Row low (map Some p.1))) (of_array p.1 count low) $ move ! (1 ∷ []) $
        use1 𝓛 (‵ (Row mid (none p.2))) (of_room p.2 mid) $ move ! (1 ∷ 0 ∷ []) $
        by ! (parts_in (map Some p.1) (none p.2) mid (ap (λ k. k * s + low) (sym run_long)) (ap (λ k. k * s + mid) (sym room_long)))

  module _ (κ : Lft) where
    abbrev Seen : ℕ → List (Place E) → Fml
    Seen o cs = slots_lent (R E) b o cs κ

    from_on : (cs : List (Place E)) (i o at : ℕ) → i ≤ length cs → at ≡ i * s + o → ent 𝓤 (sem 𝓛 (Seen o cs)) (sem 𝓛 (Seen at (drop i cs)))
    from_on cs zero o at le e = let same : o ≡ at = omega (arith, zero-mul s) in subst (λ k. ent 𝓤 (sem 𝓛 (Seen o cs)) (sem 𝓛 (Seen k cs))) same (id⊢ 𝓤 _)
    from_on [] (suc i) o at le e = absurd (omega arith)
    from_on (c ∷ cs) (suc i) o at le e =
        via 𝓤 (sem 𝓛 (Seen (o + s) cs)) (snd∗ 𝓤 (sem 𝓛 (slot_lent (R E) b o c κ)) (sem 𝓛 (Seen (o + s) cs))) (from_on cs i (o + s) at (omega arith) (omega (arith, suc-mul i s)))

    up_to : (xs : List (el_x E)) (rest : List (Place E)) (o : ℕ) → ent 𝓤 (sem 𝓛 (Seen o (map Some xs ++ rest))) (sem 𝓛 (elements_shared (R E) xs b o κ))
    up_to [] rest o = qed 𝓛 (‵ (Seen o rest) ∷ []) ∵ keep ! [] $ done !
    up_to (x ∷ xs) rest o = mono_r 𝓤 (sem 𝓛 (slot_lent (R E) b o (Some x) κ)) (up_to xs rest (o + s))

    pub run_seen : (o : ℕ) (cs : List (Place E)) (i n : ℕ) (xs : List (el_x E)) → i ≤ length cs → take n (drop i cs) ≡ map Some xs
        → ent 𝓤 (sem 𝓛 (Seen o cs)) (sem 𝓛 (elements_shared (R E) xs b (i * s + o) κ))
    run_seen o cs i n xs le e = qed 𝓛 (‵ (Seen o cs) ∷ []) ∵ use1 𝓛 (‵ (Seen (i * s + o) (drop i cs))) (from_on cs i o (i * s + o) le refl) $
        rewrite ! 0 (λ (l : List (Place E)). ‵ (Seen (i * s + o) l)) (sym (take-append-drop n (drop i cs)) ∙ ap (λ l. l ++ drop n (drop i cs)) e) refl $ by ! (up_to xs (drop n (drop i cs)) (i * s + o))
