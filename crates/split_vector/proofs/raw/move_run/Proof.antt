-- `move_run` moves the values one by one: from the last on if it moves them up, and else from the first on. Assumes `Logic`.
use Rattle.split_vector.proofs.HandNames.{◌≡◌, refl, sym, subst, Bool, true, false, not, List, [], ◌∷◌, ℕ, zero, suc, ◌+◌, ◌-◌, ◌*◌, ◌≤◌, ◌<◌, ◌^◌, arith, Ura, T, ltb→lt, nltb→le, lit<, length, full_share, Ty, Fn, Body, Args, a_type, w64, ty_int, ty_array, inst_fn, Val, vunit, vbool, vint, vptr, SProp, ent, sep, never_e, Lft, Share, Fml, ftrue, ffalse, fsep, fat, flft, froom, ◌⊑◌, Memory, Routine, Env, Out, Wp, WpFn, Tables, at_return, after_seq, after_block, after_turn, Logic, sem, Fun, fact, tables, tables_of, WpFn-mono, Item, Sq, any_q, runs, ‵, raw, ◌⊛◌, some, given, at_ret, ◌$◌, ◌∵◌, !, qed, by, move, keep, drop, use1, use2, join, split, split3, pick, learn, rewrite, fsplit, fjoin, feq_i, suffices, done, stop, look, load, lit, size_lit, bin, unit_lit, of_opd, init, assigns_last, first, blocks, skips, jumps, branches, exec, returns, enter, forget, loops, again, Below, alloc_all, pass_all, free_all, look_at, get, through, sets, sets_last, env, holding, forget_but, take_at, give_at, RattleType, owns, yes, bool, usize, Array, row, part_at, layouts, Ptr, RawPtr, block_ptr, null_ptr, ptr_val, rawptr_vals, rawptr_Tells, plain, heard, nothing, Ended, Clauses, triple_of, entered, Stays, stay_dropped, walk_of, ends_at, walked, Goes-dropped, walk_Meets, points_to, memory_before_copy, memory_after_copy, el_own, sz, el_out, el_in, apart, times_below, one_below, one_more, LiesApart}
use mathlib.Core.WellFounded.InvImage
use lib.WfN.{lt-wf_rel}
use denote.Plain.{bool_vals, bool_Tells, uint_vals, uint_Tells}
use Rattle.core.proofs.ptr.Rows.{El, R, el_x, elτ, Good, whole}
use Rattle.core.proofs.ptr.Plans.{Plan, up_Plan, down_Plan}
use Rattle.core.proofs.slots.Bodies.{after, head}
use Rattle.split_vector.specs.contracts.raw.move_run as F
use Rattle.split_vector.specs.contracts.raw.move_run.Key.{name as #self}
use Rattle.split_vector.proofs.raw.move_run.Statement as stated
use Rattle.split_vector.proofs.raw.move_run.Code as code

-- which value the i-th step moves
abbrev index : Bool → ℕ → ℕ → ℕ
index true n i = n - 1 - i
index false n i = i

index_up : (up : Bool) (n i : ℕ) → T up → n - 1 - i ≡ index up n i
index_up true n i t = refl
index_up false n i t = absurd t

index_down : (up : Bool) (n i : ℕ) → T (not up) → i ≡ index up n i
index_down true n i t = absurd t
index_down false n i t = refl

index_below : (up : Bool) (n i : ℕ) → i < n → index up n i < n
index_below true n i h = omega arith
index_below false n i h = h

module _ (E : El) where
  abbrev args : Args
  args = layouts (a_type ∷ []) (E.row, tt)

  abbrev fn' : Fn
  fn' = inst_fn args code.function

  abbrev turn : Body
  turn = head (head (head (after 1 fn'.body)))

  abbrev ended : Ended
  ended = F.ended E.row

  abbrev stayed : Stays ended.signature.params ended.kept
  stayed = (stay_dropped (plain (λ _. RawPtr)) yes, (stay_dropped (plain (λ _. RawPtr)) yes, (stay_dropped (plain (λ _. usize)) yes, (stay_dropped (plain (λ _. bool)) yes, tt))))

module _ (E : El) {M : Type 1} {𝓤 : Ura M} (𝓛 : Logic 𝓤) (at_mem : Memory → SProp 𝓤) (run : Routine → Fun 𝓤) (𝓣 : Tables 𝓤 𝓛.H) (κ : Lft) (q : Share) where
  open 𝓛 use {H, A}

  abbrev held : Clauses 𝓤 (ended E)
  held = F.clauses E.row 𝓛 at_mem run

  abbrev τ : Ty
  τ = elτ E

  abbrev s : ℕ
  s = sz E

  abbrev bound : Bool → Ptr → Ptr → ℕ → ℕ × List (el_x E) → (walk_of 𝓛 (ended E) (stayed E) held).Ghost
  bound up src dst n g = (((κ, tt), (q, tt), tt, (src, (dst, (n, (up, tt)))), (ptr_val src ∷ [], (ptr_val dst ∷ [], (vint w64 n ∷ [], (vbool up ∷ [], tt))))), g)

  abbrev Goes : Bool → Ptr → Ptr → ℕ → ℕ × List (el_x E) → SProp 𝓤
  Goes up src dst n g = WpFn 𝓤 H 𝓣.C 𝓣.Λ (fn' E) (ptr_val src ∷ ptr_val dst ∷ vint w64 n ∷ vbool up ∷ []) ((walk_of 𝓛 (ended E) (stayed E) held).post (bound up src dst n g))

  module _ (up : Bool) (bs os bd od n : ℕ) (g : ℕ × List (el_x E)) (fn : n < 2 ^ 64) (fb : n * s < 2 ^ 64) (From : Fml) where
    abbrev To : Fml
    To = memory_after_copy (R E) up g.0 n (block_ptr bs os) (block_ptr bd od) g.1

    abbrev Post : Val → SProp 𝓤
    Post = (walk_of 𝓛 (ended E) (stayed E) held).post (bound up (block_ptr bs os) (block_ptr bd od) n g)

    exits : ent 𝓤 (sep 𝓤 (sem 𝓛 To) (A.lft κ q)) (Post vunit)
    exits =
        qed 𝓛 (‵ To ∷ ‵ (flft κ q) ∷ []) ∵ suffices ! _ (ends_at 𝓛 (ended E) (stayed E) held (bound up (block_ptr bs os) (block_ptr bd od) n g) vunit tt (tt, (tt, (tt, (tt, tt)))) (tt, (tt, (tt, (tt, tt))))) $
        feq_i ! (List Val) (vunit ∷ []) (vunit ∷ []) refl $ nothing ! $ nothing ! $ fjoin ! $ nothing ! $ fjoin ! $ nothing ! $ fjoin ! $ nothing ! $ fjoin ! $ join ! $ nothing ! $ move ! (3 ∷ 0 ∷ []) $ join ! $ join ! $ done !

    -- how many have moved
    abbrev Moved : Type 0
    Moved = (i : ℕ) × (i ≤ n)

    abbrev Nearer : Moved → Moved → Type 0
    Nearer t u = n - t.0 < n - u.0

    module _ (plan : Plan E 𝓛 bs os bd od n (index up n) From To) where
      module _ (l : ℕ → ℕ) where
        abbrev En : Env 𝓤 H
        En = env (fn' E).locals l

        abbrev Now : Moved → List (Item 𝓤)
        Now t = raw (plan.St t.0) ∷ ‵ (flft κ q) ∷ holding 𝓛 En ((1, vptr bs os) ∷ (2, vptr bd od) ∷ (3, vint w64 n) ∷ (4, vbool up) ∷ (5, vint w64 t.0) ∷ [])

        -- the same, and the index is known
        abbrev Picked : Moved → ℕ → List (Item 𝓤)
        Picked t j = raw (plan.St t.0) ∷ ‵ (flft κ q) ∷ holding 𝓛 En ((1, vptr bs os) ∷ (2, vptr bd od) ∷ (3, vint w64 n) ∷ (4, vbool up) ∷ (5, vint w64 t.0) ∷ (8, vint w64 j) ∷ [])

        abbrev Turned : Moved → Out → SProp 𝓤
        Turned t = after_turn 𝓤 H (Below 𝓛 Nearer Now t) (after_block 𝓤 H (after_seq 𝓤 H (Wp 𝓤 H 𝓣.C 𝓣.Λ En (after 2 (fn' E).body) (at_return 𝓤 H En Post)) (at_return 𝓤 H En Post)))

        moves : (t : Moved) → t.0 < n → Sq 𝓛 (Picked t (index up n t.0)) (runs 𝓣.C 𝓣.Λ En (after 4 (turn E)) (any_q (Turned t)))
        unfolding after_turn
        moves t h =
            let i : ℕ = t.0 in let j : ℕ = index up n i in let below : j < n = index_below up n i h in let fs : s < 2 ^ 64 = one_below n s (2 ^ 64) (omega arith) fb in
            let fj : j < 2 ^ 64 = omega arith in let fi : i + 1 < 2 ^ 64 = omega arith in let fm : j * s < 2 ^ 64 = times_below j n s (2 ^ 64) (omega arith) fb in
            sets ! (of_opd ! (get ! refl)) refl (tt, record { fits = fj }) $ first ! $ blocks ! $
            sets ! (bin ! (get ! refl) (size_lit ! (record { fits = fs })) (record { fits = fm })) refl (tt, record { fits = fm }) $ sets ! (bin ! (get ! refl) (get ! refl) tt) refl (tt, tt) $
            sets ! (bin ! (get ! refl) (size_lit ! (record { fits = fs })) (record { fits = fm })) refl (tt, record { fits = fm }) $ sets ! (bin ! (get ! refl) (get ! refl) tt) refl (tt, tt) $
            use1 𝓛 (‵ (part_at (R E) full_share (plan.el i h) bs (j * s + os)) ⊛ raw (plan.P i)) (plan.out i h) $ split ! $
            use1 𝓛 (some (λ (v : Val). given (Good E v) (‵ (fat full_share τ bs (j * s + os) v) ⊛ ‵ (el_own E (plan.el i h) (v ∷ []))))) (el_out E 𝓛 full_share (plan.el i h) bs (j * s + os)) $ pick ! (λ v. learn ! (λ good. split ! $
            sets ! (of_opd ! (load ! (through ! refl (stop !)) (look ! 0 refl))) refl good $ forget ! 0 refl $ move ! (0 ∷ 2 ∷ []) $
            use2 𝓛 (‵ (froom τ bd (j * s + od)) ⊛ raw (plan.Q i)) (plan.mid i h) $ split ! $
            assigns_last ! (of_opd ! (get ! refl)) (through ! refl (stop !)) (init ! 0 refl good) $
            exec ! 𝓣.C 𝓣.Λ En (after 6 (turn E)) (any_q (Turned t)) $ sets_last ! (bin ! (get ! refl) (lit ! tt) (record { fits = fi })) refl (tt, record { fits = fi }) $
            move ! (0 ∷ 2 ∷ []) $ use2 𝓛 (‵ (part_at (R E) full_share (plan.el i h) bd (j * s + od))) (el_in E 𝓛 full_share (plan.el i h) bd (j * s + od) v) $ use2 𝓛 (raw (plan.St (suc i))) (plan.put i h) $
            forget_but ! En (1 ∷ 2 ∷ 3 ∷ 4 ∷ 5 ∷ []) refl $ take_at ! 5 $ rewrite ! 0 (λ (k : ℕ). ‵ (fat full_share (ty_int w64) (l 5) zero (vint w64 k))) (one_more i) refl $ give_at ! 5 $
            again ! Nearer Now t (suc i, omega arith) (omega arith)))

        picks : (t : Moved) (j : ℕ) → j ≡ index up n t.0 → t.0 < n → Sq 𝓛 (Picked t j) (runs 𝓣.C 𝓣.Λ En (after 4 (turn E)) (any_q (Turned t)))
        picks t j e h = subst (λ (k : ℕ). Sq 𝓛 (Picked t k) (runs 𝓣.C 𝓣.Λ En (after 4 (turn E)) (any_q (Turned t)))) (sym e) (moves t h)

        turns : (t : Moved) → Sq 𝓛 (Now t) (runs 𝓣.C 𝓣.Λ En (turn E) (any_q (Turned t)))
        unfolding after_turn
        turns t =
            let i : ℕ = t.0 in let le = t.1 in
            sets ! (bin ! (get ! refl) (get ! refl) tt) refl (tt, tt) $ first ! $ branches ! (get ! refl)
            (λ less. let h : i < n = ltb→lt i n less in let f₀ : n - 1 < 2 ^ 64 = omega arith in let fu : n - 1 - i < 2 ^ 64 = omega arith in let fd : i < 2 ^ 64 = omega arith in
            skips ! $ exec ! 𝓣.C 𝓣.Λ En (after 2 (turn E)) (any_q (Turned t)) $ sets ! (of_opd ! (get ! refl)) refl (tt, tt) $ first ! $ branches ! (get ! refl)
            (λ is_up. sets ! (bin ! (get ! refl) (lit ! tt) (omega arith)) refl (tt, record { fits = f₀ }) $ sets_last ! (bin ! (get ! refl) (get ! refl) (omega arith)) refl (tt, record { fits = fu }) $
            exec ! 𝓣.C 𝓣.Λ En (after 4 (turn E)) (any_q (Turned t)) $ forget_but ! En (1 ∷ 2 ∷ 3 ∷ 4 ∷ 5 ∷ 8 ∷ []) refl $ picks t (n - 1 - i) (index_up up n i is_up) h)
            (λ is_down. sets_last ! (of_opd ! (get ! refl)) refl (tt, record { fits = fd }) $
            exec ! 𝓣.C 𝓣.Λ En (after 4 (turn E)) (any_q (Turned t)) $ forget_but ! En (1 ∷ 2 ∷ 3 ∷ 4 ∷ 5 ∷ 8 ∷ []) refl $ picks t i (index_down up n i is_down) h))
            (λ over. let ge = nltb→le i n over in let all : i ≡ n = omega arith in
            jumps ! $ exec ! 𝓣.C 𝓣.Λ En (after 2 (fn' E).body) (at_ret En Post) $ rewrite ! 0 (λ (k : ℕ). raw (plan.St k)) all refl $ use1 𝓛 (‵ To) plan.end $
            sets ! (of_opd ! (unit_lit !)) refl (tt, tt) $ returns ! (look_at ! 0 refl) $ free_all ! refl $ by ! exits)

      runs_by : ent 𝓤 (sep 𝓤 (sem 𝓛 From) (A.lft κ q)) (Goes up (block_ptr bs os) (block_ptr bd od) n g)
      runs_by =
          qed 𝓛 (‵ From ∷ ‵ (flft κ q) ∷ []) ∵ use1 𝓛 (raw (plan.St 0)) plan.start $ enter ! 𝓣.C 𝓣.Λ (fn' E) (vptr bs os ∷ vptr bd od ∷ vint w64 n ∷ vbool up ∷ []) _ $
          alloc_all ! (λ l. pass_all ! refl ((tt, tt), ((tt, tt), ((tt, record { fits = fn }), ((tt, tt), tt)))) $
          sets ! (of_opd ! (lit ! tt)) refl (tt, record { fits = lit< tt }) $
          first ! $ blocks ! $ loops ! 𝓣 Nearer (InvImage.wf (λ (t : Moved). n - t.0) lt-wf_rel.wf) (Now l) (turns l) (0, omega arith))

  -- a row of values is as long as it says, and so it can be moved by a plan
  sized : (up : Bool) (bs os bd od k n : ℕ) (xs : List (el_x E)) (Room : Fml) → n < 2 ^ 64 → n * s < 2 ^ 64
      → (length xs ≡ n → Plan E 𝓛 bs os bd od n (index up n) (fsep (part_at (Array (R E) n) full_share xs bs os) Room) (memory_after_copy (R E) up k n (block_ptr bs os) (block_ptr bd od) xs))
      → ent 𝓤 (sep 𝓤 (sem 𝓛 (fsep (part_at (Array (R E) n) full_share xs bs os) Room)) (A.lft κ q)) (Goes up (block_ptr bs os) (block_ptr bd od) n (k, xs))
  sized up bs os bd od k n xs Room fn fb plan =
      qed 𝓛 (‵ (fsep (part_at (Array (R E) n) full_share xs bs os) Room) ∷ ‵ (flft κ q) ∷ []) ∵ fsplit ! $
      use1 𝓛 (given (length xs ≡ n) (‵ (row (R E) full_share xs bs os))) (apart E 𝓛 full_share n xs bs os) $ learn ! (λ ln.
      use1 𝓛 (‵ (part_at (Array (R E) n) full_share xs bs os)) (whole E 𝓛 full_share n xs bs os ln) $ fjoin ! $ by ! (runs_by up bs os bd od n (k, xs) fn fb _ (plan ln)))

  abbrev Runs : Bool → ℕ → ℕ → List (el_x E) → Ptr → Ptr → Type 1
  Runs up k n xs src dst = ent 𝓤 (sep 𝓤 (sem 𝓛 (memory_before_copy (R E) up k n src dst xs)) (A.lft κ q)) (Goes up src dst n (k, xs))

  by_way : (up : Bool) (k n : ℕ) (xs : List (el_x E)) (src dst : Ptr) → n < 2 ^ 64 → LiesApart (R E) up k n src dst → Runs up k n xs src dst
  by_way true k n xs null_ptr dst fn said = qed 𝓛 ((‵ ffalse ⊛ ‵ ffalse) ∷ ‵ (flft κ q) ∷ []) ∵ split ! $ keep ! (0 ∷ []) $ by ! (never_e 𝓤 _)
  by_way true k n xs (block_ptr b o) dst fn said =
      subst (Runs true k n xs (block_ptr b o)) (sym said.0) (sized true b o b (k * s + o) k n xs (froom (ty_array τ k) b (n * s + o)) fn said.1 (λ ln. up_Plan E 𝓛 n xs ln k b o))
  by_way false k n xs src null_ptr fn said = qed 𝓛 ((‵ (points_to (Array (R E) n) src xs) ⊛ ‵ ffalse) ∷ ‵ (flft κ q) ∷ []) ∵ split ! $ keep ! (1 ∷ []) $ by ! (never_e 𝓤 _)
  by_way false k n xs src (block_ptr b o) fn said =
      subst (λ (z : Ptr). Runs false k n xs z (block_ptr b o)) (sym said.0) (sized false b (k * s + o) b o k n xs (froom (ty_array τ k) b o) fn said.1 (λ ln. down_Plan E 𝓛 n xs ln k b o))

  walk : (up : Bool) (src dst : Ptr) (n : ℕ) (g : ℕ × List (el_x E)) → n < 2 ^ 64 → ent 𝓤 ((walk_of 𝓛 (ended E) (stayed E) held).pre (bound up src dst n g)) (Goes up src dst n g)
  walk up src dst n g fn =
      qed 𝓛 (((‵ (flft κ q) ⊛ ‵ ftrue) ⊛ ‵ (owns (RawPtr ∷ RawPtr ∷ usize ∷ bool ∷ []) (src, (dst, (n, (up, tt)))) (bound up src dst n g).0.4))
      ∷ (raw (fact 𝓤 (κ ⊑ E.row.lives)) ⊛ raw (fact 𝓤 (LiesApart (R E) up g.0 n src dst)) ⊛ ‵ (memory_before_copy (R E) up g.0 n src dst g.1)) ∷ []) ∵
      split ! $ split ! $ keep ! (3 ∷ 0 ∷ []) $ split3 ! $ drop ! $ heard ! (LiesApart (R E) up g.0 n src dst) (λ said. by ! (by_way up g.0 n g.1 src dst fn said))

pub move_run_spec : {M : Type 1} → stated.statement M
unfolding tables_of
move_run_spec 𝓤 𝓛 𝓜 𝓡 wired X L =
    let E : El = record { row = X; laws = L } in
    let A = 𝓛.A in
    let 𝓣 : Tables 𝓤 𝓛.H = tables_of 𝓤 𝓛.H 𝓜 (tables 𝓤 𝓛.H 𝓜 𝓡 𝓡.env) in
    let held' = F.clauses X 𝓛 𝓜.mem 𝓡.returns in
    let gone = λ (Y : RattleType). Goes-dropped 𝓛 1 (plain (λ _. Y)) yes in
    entered 𝓤 𝓛.H (triple_of 𝓛 (F.signature X) (F.spec X 𝓛 𝓜.mem 𝓡.returns)) 𝓣.C 𝓣.Λ (#self (args E)) (fn' E) (code.unfolded 𝓤 𝓛.H 𝓜 𝓡 wired (X, tt))
    (walk_Meets 𝓛 (ended E) (stayed E) (gone RawPtr (λ κs x f. refl), (gone RawPtr (λ κs x f. refl), (gone usize (λ κs x f. refl), (gone bool (λ κs x f. refl), tt)))) held' (WpFn 𝓤 𝓛.H 𝓣.C 𝓣.Λ (fn' E)) (WpFn-mono 𝓤 𝓛.H 𝓛.laws 𝓣 (fn' E))
    (walked 𝓛 (ended E) (stayed E) held' (WpFn 𝓤 𝓛.H 𝓣.C 𝓣.Λ (fn' E)) (λ κs. (rawptr_vals, (rawptr_vals, (uint_vals w64, (bool_vals, tt))))) (λ κs. (rawptr_Tells, (rawptr_Tells, (uint_Tells w64, (bool_Tells, tt)))))
    (λ κs qs bounds a g are. walk E 𝓛 𝓜.mem 𝓡.returns 𝓣 κs.0 qs.0 a.1.1.1.0 a.0 a.1.0 a.1.1.0 g are.1.1.0.1)))
