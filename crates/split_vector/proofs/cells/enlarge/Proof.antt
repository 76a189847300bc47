-- `enlarge` hands the allocator the items as an array with room behind it, and splits what it returns into cells again. Assumes `Logic`.
use Rattle.split_vector.proofs.HandNames.{◌≡◌, refl, sym, subst, true, false, ℕ, ◌+◌, ◌-◌, ◌*◌, ◌<◌, ◌≤◌, ◌^◌, arith, List, [], ◌∷◌, ◌++◌, T, lit<, length, Ura, Ty, Fn, Body, named, w64, inst_fn, Val, vptr, vint, vstruct, vcons, vnil, has_ty, WT, SProp, ent, never_e, ex, Fml, Lft, Share, Incl-trans, ftrue, flft, Memory, Routine, Env, Calls, Loops, Wp, WpFn, after_seq, at_return, Logic, sem, Fun, fact, ◌⊑◌, tables, FmC, Item, any_q, ⋆, ‵, raw, ◌⊛◌, later, await, at_ret, ◌$◌, ◌∵◌, !, qed, by, move, keep, use0, use1, use2, split, split3, join, group, rewrite, fsplit, fsplit3, fjoin, feq_l, flt_l, flt_i, suffices, frame, done, whole, sub, agg, live, vrt, in_variant, stop, fld, lit, of_opd, and_then, no_more, first, blocks, exec, switches_on, returns, enter, alloc_all, pass_all, free_all, look_at, get, get_in, get_tag, sets, sets_last, lands_last, is, env, yes, no, RattleType, owns, Is, hidden_shr, layout, Ptr, block_ptr, null_ptr, Bor, ShrRef, RefOf, usize, plain, nothing, owned, Struct, Struct-Makes, Tuple, calls_at_last, Clauses, Ended, Triple, Stays, stay_dropped, walk_of, ends_at, Goes-dropped, IfOk, OnErr, Ok, Err, FitsInBlock, block_with_items, resized_if_ok, El, R, Al, Answer, Answer-typed, Goes-blank, token, P, after, head, arm_body, Good, first_Good, word, word-Good, ok_of, err_of, cells_own, deed_owns, slots, heard, regoal, prop, proved_at, drop}
use types.Kit.{Post as After}
use denote.Struct.Declared as Declared
use Rattle.core.specs.contracts.result.Result as RS
use Rattle.core.specs.contracts.alloc.AllocError as AE
use Rattle.core.proofs.alloc.Resizes.{Flagged, Grows, Resizes, Resizes-gives, Resizes-goes, at_resizes, flagged, resize_key}
use Rattle.core.proofs.slots.Leases.{args}
use Rattle.core.proofs.atomic.Steps.{fm as calls_hold}
use Rattle.split_vector.proofs.Memory.{all_of, all_long, Cr, Bs, Mark, sz, mark, mark_had, mark_made, word_had, word_made, says_both, three_val, three_of}
use Rattle.split_vector.proofs.Whole.{opened, closed}
use Rattle.split_vector.specs.contracts.cells.Deed as D-type
use Rattle.split_vector.specs.contracts.cells.enlarge as F
use Rattle.split_vector.proofs.cells.enlarge.Statement.{statement}
use Rattle.split_vector.proofs.cells.enlarge.Code as code

module _ (E : El) (Z : Al) where
  abbrev function : Fn
  function = inst_fn (args E Z) code.function

  abbrev ended : Ended
  ended = F.ended E.row Z.row Z.g Z.d Z.drops

  abbrev clauses : {M : Type 1} {𝓤 : Ura M} (𝓛 : Logic 𝓤) → (Memory → SProp 𝓤) → (Routine → Fun 𝓤) → Clauses 𝓤 ended
  clauses 𝓛 = F.clauses E.row Z.row Z.g Z.d Z.drops 𝓛

  abbrev Dd : RattleType
  Dd = D-type.the_row (R E) (P E Z) Z.g

  abbrev stayed : Stays ended.signature.params ended.kept
  stayed = (
    stay_dropped (RefOf (0 ∷ []) tt (plain (λ _. P E Z)) (λ _. tt)) yes,
    (
      stay_dropped (plain (λ _. Bs E)) no,
      (
        stay_dropped (plain (λ _. usize)) yes,
        (
          stay_dropped (plain (λ _. usize)) yes,
          (
            stay_dropped (plain (λ _. usize)) yes,
            (stay_dropped (plain (λ _. Cr E)) no, (stay_dropped (plain (λ _. Dd)) no, tt)),
          ),
        ),
      ),
    ),
  )

  abbrev Larger : RattleType
  Larger = RS.the_row (Bs E) AE.the_row

  abbrev Out : RattleType
  Out = Tuple (Larger ∷ Cr E ∷ Dd ∷ [])

  abbrev Asks : Z.row.Denot → Ptr → ℕ → ℕ → ℕ → (Cr E).Denot → Dd.Denot → Type 0
  Asks a x len old new cells deed = (cells.at ≡ x) × (len ≡ length cells.left) × (len + cells.spare ≡ old) × (length cells.right ≡ 0) × (0 < old) × (old ≤ new) × FitsInBlock (R E) new × (deed.at ≡ x) × (deed.len ≡ old) × (deed.alloc ≡ a)

  -- what the result t says if the block grew, and if it did not
  abbrev Grown : Z.row.Denot → ℕ → ℕ → (Cr E).Denot → Out.Denot → Type 0
  Grown a len new cells t = IfOk t.0 (λ y. (t.1.at ≡ y.ptr) × (t.1.left ≡ cells.left) × (t.1.spare ≡ new - len) × (t.1.right ≡ cells.right) × (t.2.at ≡ y.ptr) × (t.2.len ≡ new) × (t.2.alloc ≡ a))

  abbrev AsBefore : Z.row.Denot → Ptr → ℕ → (Cr E).Denot → Out.Denot → Type 0
  AsBefore a x old cells t = OnErr t.0 ((t.1.at ≡ x) × (t.1.left ≡ cells.left) × (t.1.spare ≡ cells.spare) × (t.1.right ≡ cells.right) × (t.2.at ≡ x) × (t.2.len ≡ old) × (t.2.alloc ≡ a))

module _ (E : El) (Z : Al) {M : Type 1} {𝓤 : Ura M} (𝓛 : Logic 𝓤) (at_mem : Memory → SProp 𝓤) (run : Routine → Fun 𝓤) (C : Calls 𝓤 𝓛.H) (Λ : Loops 𝓤 𝓛.H) (fm : FmC 𝓤 𝓛.H 𝓛.laws C)
    (callee : Triple 𝓤 (C (resize_key Z E.row 2)) (Resizes Z E.row (Grows E.row) 𝓛 at_mem run)) (κ κ₁ κ₂ : Lft) (q q₁ q₂ : Share) (short : κ ⊑ κ₂) (reach : κ₁ ⊑ E.row.lives) (within : κ₂ ⊑ Z.row.lives)
    (rb ro : ℕ) (a : Z.row.Denot) (len old new : ℕ) (cells : (Cr E).Denot) (deed : (Dd E Z).Denot) (us0 us1 us2 us3 us4 us5 us6 : List Val) where
  open 𝓛 use {H, A}

  abbrev self : Bor Z.row.Denot
  self = record { ref_ptr = (rb, ro); now = a }

  abbrev based : Ptr → (Bs E).Denot
  based x = record { ptr = x }

  abbrev others : Item 𝓤
  others = ‵ (flft κ₁ q₁) ⊛ ‵ (flft κ₂ q₂) ⊛ ‵ ftrue

  abbrev bound : Ptr → (walk_of 𝓛 (ended E Z) (stayed E Z) (clauses E Z 𝓛 at_mem run)).Ghost
  bound x = (((κ, (κ₁, (κ₂, tt))), (q, (q₁, (q₂, tt))), (short, tt), (self, (based x, (len, (old, (new, (cells, (deed, tt))))))), (us0, (us1, (us2, (us3, (us4, (us5, (us6, tt)))))))), tt)

  abbrev Post : Ptr → Val → SProp 𝓤
  Post x = (walk_of 𝓛 (ended E Z) (stayed E Z) (clauses E Z 𝓛 at_mem run)).post (bound x)

  exits : (x : Ptr) (t : (Out E Z).Denot) (v : Val) → Grown E Z a len new cells t → AsBefore E Z a x old cells t
      → ent 𝓤 (⋆ 𝓛 (‵ ((Out E Z).own_val t (v ∷ [])) ∷ ‵ (flft κ q) ∷ ‵ (flft κ₁ q₁) ∷ (‵ (flft κ₂ q₂) ⊛ ‵ ftrue) ∷ [])) (Post x v)
  exits x t v ok err =
      qed 𝓛 (‵ ((Out E Z).own_val t (v ∷ [])) ∷ ‵ (flft κ q) ∷ ‵ (flft κ₁ q₁) ∷ (‵ (flft κ₂ q₂) ⊛ ‵ ftrue) ∷ []) ∵
      suffices ! _ (ends_at 𝓛 (ended E Z) (stayed E Z) (clauses E Z 𝓛 at_mem run) (bound x) v t (tt, (tt, (tt, (tt, (tt, (tt, (tt, tt))))))) (tt, (tt, (tt, (tt, (tt, (tt, (tt, tt)))))))) $ says_both ! ok err $
      move ! (2 ∷ 3 ∷ []) $ join ! $ move ! (2 ∷ 0 ∷ []) $ join ! $ frame ! $ nothing ! $ nothing ! $ fjoin ! $ nothing ! $ fjoin ! $ nothing ! $ fjoin ! $ nothing ! $ fjoin ! $ nothing ! $ fjoin ! $ nothing ! $ fjoin ! $ nothing ! $ fjoin ! $ done !

  abbrev Had : List (Item 𝓤)
  Had = ‵ (cells_own (R E) cells.at (all_of E cells)) ∷ ‵ (deed_owns (R E) (token Z deed.alloc) deed.at deed.len) ∷ ‵ (hidden_shr (P E Z) κ a rb ro) ∷ ‵ (flft κ q) ∷ others ∷ []

  abbrev tk : Ty → Ptr → Fml
  tk = token Z a

  -- a Result as it is returned, with its cells and its deed
  back : (r : (Larger E Z).Denot) (rv : Val) (b o n size : ℕ) → let d : (Cr E).Denot = record { mark = record {}; at = block_ptr b o; left = cells.left; spare = n; right = cells.right } in
      let e : (Dd E Z).Denot = record { mark = record {}; at = block_ptr b o; len = size; alloc = a } in
      len ≡ length cells.left → len + n ≡ size → length cells.right ≡ 0 → 0 < size → size * sz E < 2 ^ 63
      → ent 𝓤 (⋆ 𝓛 (‵ ((Larger E Z).own_val r (rv ∷ [])) ∷ ‵ (block_with_items tk (R E) (block_ptr b o) len size cells.left) ∷ [])) (sem 𝓛 ((Out E Z).own_val (r, d, e) (three_val rv mark mark ∷ [])))
  back r rv b o n size many all last some fits =
      let d : (Cr E).Denot = record { mark = record {}; at = block_ptr b o; left = cells.left; spare = n; right = cells.right } in
      let e : (Dd E Z).Denot = record { mark = record {}; at = block_ptr b o; len = size; alloc = a } in
      let long : size ≡ length (all_of E d) = omega (arith, all_long E d, many, all, last) in
      qed 𝓛 (‵ ((Larger E Z).own_val r (rv ∷ [])) ∷ ‵ (block_with_items tk (R E) (block_ptr b o) len size cells.left) ∷ []) ∵ move ! (1 ∷ []) $
      use1 𝓛 (‵ (slots (R E) b o (all_of E d)) ⊛ ‵ (deed_owns (R E) tk (block_ptr b o) size)) (closed E 𝓛 tk b o cells.left n cells.right len size many all last some) $ split ! $ move ! (1 ∷ []) $
      use0 𝓛 (‵ ((Mark E).own_val (tt, tt) (mark ∷ []))) (mark_made E 𝓛) $ fjoin ! $ move ! (1 ∷ []) $
      flt_i ! (length (all_of E d) * sz E) (2 ^ 63) (subst (λ k. k * sz E < 2 ^ 63) long fits) $ fjoin ! $ use0 𝓛 (‵ ((Mark E).own_val (tt, tt) (mark ∷ []))) (mark_made E 𝓛) $ fjoin ! $
      move ! (2 ∷ 0 ∷ 1 ∷ []) $ by ! (three_of 𝓛 (Larger E Z) (Cr E) (Dd E Z) r d e rv mark mark)

  walk : (x : Ptr) → Asks E Z a x len old new cells deed → len < 2 ^ 64 → old < 2 ^ 64 → new < 2 ^ 64
      → ent 𝓤 (⋆ 𝓛 Had) (WpFn 𝓤 H C Λ (function E Z) (vptr rb ro ∷ word x ∷ vint w64 len ∷ vint w64 old ∷ vint w64 new ∷ mark ∷ mark ∷ []) (Post x))
  walk null_ptr asked fl fo fn = qed 𝓛 Had ∵ rewrite ! 0 (λ (c : Ptr). ‵ (cells_own (R E) c (all_of E cells))) asked.0 refl $ keep ! (0 ∷ []) $ by ! (never_e 𝓤 _)
  walk (block_ptr b o) asked fl fo fn =
      let x : Ptr = block_ptr b o in
      qed 𝓛 Had ∵ enter ! C Λ (function E Z) (vptr rb ro ∷ word x ∷ vint w64 len ∷ vint w64 old ∷ vint w64 new ∷ mark ∷ mark ∷ []) _ $
      alloc_all ! (λ l. pass_all ! refl ((tt, tt), (word-Good [] x, ((tt, record { fits = fl }), ((tt, record { fits = fo }), ((tt, record { fits = fn }), ((tt, (tt, tt)), ((tt, (tt, tt)), tt))))))) $
      let En : Env 𝓤 H = env (function E Z).locals l in
      let both : Body = head (after 2 (function E Z).body) in
      let Then : After 𝓤 H = any_q (after_seq 𝓤 H (Wp 𝓤 H C Λ En (after 3 (function E Z).body) (at_return 𝓤 H En (Post x))) (at_return 𝓤 H En (Post x))) in
      let Rz = Resizes Z E.row (Grows E.row) 𝓛 at_mem run in
      let y : Rz.Ghost = at_resizes Z E.row (Grows E.row) 𝓛 at_mem run κ κ₁ q q₁ (rb, ro) a b o len old new cells.left in
      let answer : Answer.Denot → Fml = resized_if_ok tk (R E) x len old new cells.left in
      rewrite ! 0 (λ (c : Ptr). ‵ (cells_own (R E) c (all_of E cells))) asked.0 refl $ fsplit ! $ flt_l ! (λ fit.
      rewrite ! 1 (λ (d : Z.row.Denot × Ptr × ℕ). ‵ (deed_owns (R E) (token Z d.0) d.1 d.2)) (λ i. (asked.9 i, asked.7 i, asked.8 i)) refl $
      use2 𝓛 (‵ (block_with_items tk (R E) x len old cells.left)) (opened E 𝓛 tk b o cells.left cells.spare cells.right len old asked.1 asked.2 asked.3 asked.4) $
      move ! (3 ∷ []) $ split ! $ move ! (2 ∷ 3 ∷ 4 ∷ 0 ∷ []) $
      group ! 4 $ use1 𝓛 (raw (Rz.pre y)) (Resizes-goes Z E.row (Grows E.row) 𝓛 at_mem run κ κ₁ q q₁ (rb, ro) a b o len old new cells.left (Incl-trans short within) reach (omega (arith, asked.2), asked.5, asked.6.0) fl fo fn) $
      first ! $ blocks ! $ calls_at_last ! fm Rz callee y (and_then ! (get ! refl) (and_then ! (get_in ! (fld ! refl (stop !)) (sub ! 0 refl (whole !))) (and_then ! (get ! refl) (and_then ! (get ! refl) (and_then ! (get ! refl) (no_more !)))))) (λ v.
      use1 𝓛 (later (raw (ex 𝓤 (Flagged 𝓛 answer v)) ⊛ ‵ (flft κ q) ⊛ ‵ (flft κ₁ q₁))) (Resizes-gives Z E.row (Grows E.row) 𝓛 at_mem run κ κ₁ q q₁ (rb, ro) a b o len old new cells.left v) $ await ! tt $ split3 ! $
      flagged ! v answer
      (λ b' o' e.
      let p : Ptr = block_ptr b' o' in
      let rv : Val = live 0 (vcons (word p) vnil) in
      let good : Good (layout (Larger E Z)) rv = first_Good (layout (Bs E)) (word p) (word-Good [] p) in
      let made : Val = three_val rv mark mark in
      let typed : Good (layout (Out E Z)) made = (tt, (good.1, ((tt, tt), ((tt, tt), tt)))) in
      lands_last ! refl (subst (λ (u : Val). T (has_ty (layout Answer) u) × WT u) (sym e) (Answer-typed true b' o')) $ exec ! C Λ En (after 1 (function E Z).body) (at_ret En (Post x)) $
      sets ! (is ! (of_opd ! (get ! refl)) e) refl (Answer-typed true b' o') $
      first ! $ switches_on ! (get_tag ! (vrt ! refl (fld ! refl (stop !))) (whole !)) $ exec ! C Λ En (arm_body 0 both) Then $
      sets ! (of_opd ! (get_in ! (vrt ! refl (fld ! refl (stop !))) (in_variant ! 0 0 refl refl (whole !)))) refl (tt, tt) $
      sets ! (agg ! (and_then ! (get ! refl) (no_more !))) refl (word-Good [] p) $ sets ! (agg ! (and_then ! (lit ! tt) (and_then ! (get ! refl) (no_more !)))) refl good $
      sets ! (agg ! (no_more !)) refl (tt, tt) $ sets ! (agg ! (and_then ! (get ! refl) (no_more !))) refl (tt, (tt, tt)) $
      sets ! (agg ! (no_more !)) refl (tt, tt) $ sets ! (agg ! (and_then ! (get ! refl) (no_more !))) refl (tt, (tt, tt)) $
      sets_last ! (agg ! (and_then ! (get ! refl) (and_then ! (get ! refl) (and_then ! (get ! refl) (no_more !))))) refl typed $
      exec ! C Λ En (after 3 (function E Z).body) (at_ret En (Post x)) $ sets ! (of_opd ! (get ! refl)) refl typed $
      returns ! (look_at ! 0 refl) $ free_all ! refl $ keep ! (0 ∷ 1 ∷ 2 ∷ 3 ∷ []) $
      word_made ! p $ use1 𝓛 (‵ ((Larger E Z).own_val (Ok (based p)) (rv ∷ []))) (ok_of 𝓛 (Bs E) AE.the_row (based p) (word p)) $
      use2 𝓛 (‵ ((Out E Z).own_val (Ok (based p), record { mark = record {}; at = p; left = cells.left; spare = new - len; right = cells.right }, record { mark = record {}; at = p; len = new; alloc = a }) (made ∷ [])))
      (back (Ok (based p)) rv b' o' (new - len) new asked.1 (omega (arith, asked.2, asked.5)) asked.3 (omega (arith, asked.4, asked.5)) asked.6.0) $
      by ! (exits x (Ok (based p), record { mark = record {}; at = p; left = cells.left; spare = new - len; right = cells.right }, record { mark = record {}; at = p; len = new; alloc = a }) made (refl, refl, refl, refl, refl, refl, refl) tt))
      (λ e.
      let Refusal : RattleType = Struct (Declared.shape AE.the_type) in
      let rv : Val = live 1 (vcons (vstruct vnil) vnil) in
      let good : Good (layout (Larger E Z)) rv = (tt, (record { fits = lit< tt }, (tt, tt))) in
      let made : Val = three_val rv mark mark in
      let typed : Good (layout (Out E Z)) made = (tt, (good.1, ((tt, tt), ((tt, tt), tt)))) in
      lands_last ! refl (subst (λ (u : Val). T (has_ty (layout Answer) u) × WT u) (sym e) (Answer-typed false 0 0)) $ exec ! C Λ En (after 1 (function E Z).body) (at_ret En (Post x)) $
      sets ! (is ! (of_opd ! (get ! refl)) e) refl (Answer-typed false 0 0) $
      first ! $ switches_on ! (get_tag ! (vrt ! refl (fld ! refl (stop !))) (whole !)) $ exec ! C Λ En (arm_body 1 both) Then $
      sets ! (of_opd ! (get_in ! (vrt ! refl (fld ! refl (stop !))) (in_variant ! 1 0 refl refl (whole !)))) refl (tt, tt) $
      sets ! (agg ! (and_then ! (lit ! tt) (and_then ! (get ! refl) (no_more !)))) refl good $
      sets ! (agg ! (no_more !)) refl (tt, tt) $ sets ! (agg ! (and_then ! (get ! refl) (no_more !))) refl (tt, (tt, tt)) $
      sets ! (agg ! (no_more !)) refl (tt, tt) $ sets ! (agg ! (and_then ! (get ! refl) (no_more !))) refl (tt, (tt, tt)) $
      sets_last ! (agg ! (and_then ! (get ! refl) (and_then ! (get ! refl) (and_then ! (get ! refl) (no_more !))))) refl typed $
      exec ! C Λ En (after 3 (function E Z).body) (at_ret En (Post x)) $ sets ! (of_opd ! (get ! refl)) refl typed $
      returns ! (look_at ! 0 refl) $ free_all ! refl $ keep ! (0 ∷ 1 ∷ 2 ∷ 3 ∷ []) $
      owned ! Refusal (Is Refusal) (Struct-Makes 𝓛 (Declared.shape AE.the_type) tt) tt (vstruct vnil ∷ []) (tt, (refl, tt)) $
      use1 𝓛 (‵ ((Larger E Z).own_val (Err (record {})) (rv ∷ []))) (err_of 𝓛 (Bs E) AE.the_row (record {}) (vstruct vnil)) $
      use2 𝓛 (‵ ((Out E Z).own_val (Err (record {}), record { mark = record {}; at = x; left = cells.left; spare = cells.spare; right = cells.right }, record { mark = record {}; at = x; len = old; alloc = a }) (made ∷ [])))
      (back (Err (record {})) rv b o cells.spare old asked.1 asked.2 asked.3 asked.4 (let long : length (all_of E cells) ≡ old = omega (arith, all_long E cells, asked.1, asked.2, asked.3) in subst (λ k. k * sz E < 2 ^ 63) long fit)) $
      by ! (exits x (Err (record {}), record { mark = record {}; at = x; left = cells.left; spare = cells.spare; right = cells.right }, record { mark = record {}; at = x; len = old; alloc = a }) made tt (refl, refl, refl, refl, refl, refl, refl))))))

pub enlarge_spec : {M : Type 1} → statement M
enlarge_spec 𝓤 𝓛 𝓜 𝓡 wired X W LX LW g d dd met md =
    let E : El = record { row = X; laws = LX } in let Z : Al = record { row = W; laws = LW; g = g; d = d; drops = dd } in
    let 𝓣 = tables 𝓤 𝓛.H 𝓜 𝓡 𝓡.env in let fn = function E Z in let number = Goes-dropped 𝓛 3 (plain (λ _. usize)) yes (λ κs x f. refl) in
    proved_at 𝓛 (ended E Z) (stayed E Z) (clauses E Z 𝓛 𝓜.mem 𝓡.returns) 𝓜 𝓡
    (Goes-dropped 𝓛 3 (RefOf (0 ∷ []) tt (plain (λ _. P E Z)) (λ _. tt)) yes (λ κs x f. refl), (Goes-dropped 𝓛 3 (plain (λ _. Bs E)) no (λ κs x f. refl), (number, (number, (number, (Goes-blank 𝓛 3 (plain (λ _. Cr E)) no (λ κs x f. tt), (Goes-blank 𝓛 3 (plain (λ _. Dd E Z)) no (λ κs x f. tt), tt)))))))
    (F.Key.name (args E Z)) fn (code.unfolded 𝓤 𝓛.H 𝓜 𝓡 wired (X, (W, tt)) d dd) (λ z are.
    let κs = z.0.0 in let qs = z.0.1 in let me = z.0.3.0.ref_ptr in let a = z.0.3.0.now in let x = z.0.3.1.0.ptr in let len = z.0.3.1.1.0 in let old = z.0.3.1.1.1.0 in let new = z.0.3.1.1.1.1.0 in
    let cells = z.0.3.1.1.1.1.1.0 in let deed = z.0.3.1.1.1.1.1.1.0 in let vss = z.0.4 in let Asked = Asks E Z a x len old new cells deed in
    qed 𝓛 (((‵ (flft κs.0 qs.0) ⊛ (‵ (flft κs.1.0 qs.1.0) ⊛ (‵ (flft κs.1.1.0 qs.1.1.0) ⊛ ‵ ftrue))) ⊛ ‵ (owns (ShrRef (named 0) κs.0 (P E Z) ∷ Bs E ∷ usize ∷ usize ∷ usize ∷ Cr E ∷ Dd E Z ∷ []) z.0.3 vss))
    ∷ (raw (fact 𝓤 (κs.1.0 ⊑ X.lives)) ⊛ (raw (fact 𝓤 (κs.1.1.0 ⊑ W.lives)) ⊛ raw (fact 𝓤 Asked))) ∷ []) ∵
    move ! (1 ∷ []) $ split3 ! $ heard ! (κs.1.0 ⊑ X.lives) (λ reach. heard ! (κs.1.1.0 ⊑ W.lives) (λ within. heard ! Asked (λ asked.
    split ! $ split ! $ move ! (2 ∷ []) $ fsplit3 ! $ fsplit ! $ feq_l ! (λ e0. move ! (1 ∷ []) $ word_had ! x vss.1.0 (λ e1. move ! (1 ∷ []) $ fsplit3 ! $ drop ! $ drop ! $ fsplit3 ! $ drop ! $
    fsplit ! $ mark_had ! E vss.1.1.1.1.1.0 (λ e5. move ! (1 ∷ []) $ fsplit ! $ fsplit ! $ mark_had ! E vss.1.1.1.1.1.1.0 (λ e6. keep ! (2 ∷ 0 ∷ 3 ∷ 4 ∷ 5 ∷ []) $
    regoal ! (λ (us : List Val). prop (WpFn 𝓤 𝓛.H 𝓣.C 𝓣.Λ fn us ((walk_of 𝓛 (ended E Z) (stayed E Z) (clauses E Z 𝓛 𝓜.mem 𝓡.returns)).post z)))
    (λ i. e0 i ++ (e1 i ++ (are.1.1.0.0 i ++ (are.1.1.1.0.0 i ++ (are.1.1.1.1.0.0 i ++ (e5 i ++ (e6 i ++ []))))))) refl $
    by ! (walk E Z 𝓛 𝓜.mem 𝓡.returns 𝓣.C 𝓣.Λ (calls_hold 𝓛 𝓜 𝓡) (met.grow dd X LX) κs.0 κs.1.0 κs.1.1.0 qs.0 qs.1.0 qs.1.1.0 z.0.2.0 reach within me.0 me.1 a len old new cells deed
    vss.0 vss.1.0 vss.1.1.0 vss.1.1.1.0 vss.1.1.1.1.0 vss.1.1.1.1.1.0 vss.1.1.1.1.1.1.0 x asked are.1.1.0.1 are.1.1.1.0.1 are.1.1.1.1.0.1)))))))))
