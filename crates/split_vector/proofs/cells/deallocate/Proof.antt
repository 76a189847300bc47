-- `deallocate` makes the block of its empty places, and hands it back with the allocator's token. Assumes `Logic`.
use Rattle.split_vector.proofs.HandNames.{◌≡◌, refl, sym, ap, subst, ◌∙◌, ℕ, ◌+◌, ◌*◌, ◌<◌, ◌^◌, arith, List, [], ◌∷◌, ◌++◌, named, w64, inst_fn, Val, vptr, vint, vunit, SProp, never, id⊢, ftrue, froom, flft, Env, WpFn, sem, fact, tables, ‵, raw, ◌⊛◌, given, later, await, learn, at_ret, ◌$◌, ◌∵◌, !, qed, move, keep, use1, split, join, group, rewrite, fsplit, fsplit3, fjoin, feq_i, feq_l, suffices, done, whole, sub, stop, fld, unit_lit, of_opd, and_then, no_more, first, blocks, exec, returns, enter, alloc_all, pass_all, free_all, look_at, get, get_in, sets, is, env, yes, no, RattleType, owns, Ptr, block_ptr, ptr_val, in_a_block, ShrRef, RefOf, plain, nothing, Stays, stay_dropped, walk_of, ends_at, Goes-dropped, Goes-blank, after, word, word-Good, flt_l, bin, usize, None, El, R, elτ, as_raw, cells_own, slots, Incl-trans, T, length, replicate, ty_unit, ty_array, has_ty, WT, align, capped, capped_fits, ◌⊑◌, size_word, align_word, lands_last, calls_at_last, Al, token, Gives, at_gives, Gives-goes, Gives-Gives, uncapped, block_ty, block_size, block_align, P, deed_owns, heard, regoal, prop, proved_at, split3, drop}
use Rattle.split_vector.proofs.Memory.{all_of, all_long, deed_used, ty_raw, forgets, to_room, Cr, Bs, sz, mark, mark_had, word_had}
use Rattle.core.proofs.slots.Leases.{args}
use Rattle.core.proofs.atomic.Steps.{fm}
use Rattle.split_vector.specs.contracts.cells.Deed as D-type
use Rattle.split_vector.specs.contracts.cells.deallocate as F
use Rattle.split_vector.proofs.cells.deallocate.Statement.{statement}
use Rattle.split_vector.proofs.cells.deallocate.Code as code

pub deallocate_spec : {M : Type 1} → statement M
deallocate_spec 𝓤 𝓛 𝓜 𝓡 wired X W LX LW g d dd met md =
    let E : El = record { row = X; laws = LX } in let Z : Al = record { row = W; laws = LW; g = g; d = d; drops = dd } in let Dd : RattleType = D-type.the_row (R E) (P E Z) g in
    let 𝓣 = tables 𝓤 𝓛.H 𝓜 𝓡 𝓡.env in let fn = inst_fn (args E Z) code.function in let ended = F.ended X W g d dd in let c = F.clauses X W g d dd 𝓛 𝓜.mem 𝓡.returns in
    let hs : Stays ended.signature.params ended.kept = (stay_dropped (RefOf (0 ∷ []) tt (plain (λ _. P E Z)) (λ _. tt)) yes, (stay_dropped (plain (λ _. Bs E)) no, (stay_dropped (plain (λ _. usize)) yes, (stay_dropped (plain (λ _. Cr E)) no, (stay_dropped (plain (λ _. Dd)) no, tt))))) in
    proved_at 𝓛 ended hs c 𝓜 𝓡
    (Goes-dropped 𝓛 3 (RefOf (0 ∷ []) tt (plain (λ _. P E Z)) (λ _. tt)) yes (λ κs x f. refl), (Goes-dropped 𝓛 3 (plain (λ _. Bs E)) no (λ κs x f. refl), (Goes-dropped 𝓛 3 (plain (λ _. usize)) yes (λ κs x f. refl), (Goes-blank 𝓛 3 (plain (λ _. Cr E)) no (λ κs x f. tt), (Goes-blank 𝓛 3 (plain (λ _. Dd)) no (λ κs x f. tt), tt)))))
    (F.Key.name (args E Z)) fn (code.unfolded 𝓤 𝓛.H 𝓜 𝓡 wired (X, (W, tt)) d dd) (λ z are.
    let κs = z.0.0 in let qs = z.0.1 in let me = z.0.3.0.ref_ptr in let a = z.0.3.0.now in let base = z.0.3.1.0 in let len = z.0.3.1.1.0 in let cells = z.0.3.1.1.1.0 in let deed = z.0.3.1.1.1.1.0 in
    let Post : Val → SProp 𝓤 = (walk_of 𝓛 ended hs c).post z in
    let Asked : Type 0 = (cells.at ≡ base.ptr) × (length cells.left + cells.spare + length cells.right ≡ len) × (0 < len) × (deed.at ≡ base.ptr) × (deed.len ≡ len) × (deed.alloc ≡ a) in
    qed 𝓛 (((‵ (flft κs.0 qs.0) ⊛ (‵ (flft κs.1.0 qs.1.0) ⊛ (‵ (flft κs.1.1.0 qs.1.1.0) ⊛ ‵ ftrue))) ⊛ ‵ (owns (ShrRef (named 0) κs.0 (P E Z) ∷ Bs E ∷ usize ∷ Cr E ∷ Dd ∷ []) z.0.3 z.0.4))
    ∷ (raw (fact 𝓤 (κs.1.0 ⊑ X.lives)) ⊛ (raw (fact 𝓤 (κs.1.1.0 ⊑ W.lives)) ⊛ raw (fact 𝓤 Asked))) ∷ []) ∵
    move ! (1 ∷ []) $ split3 ! $ drop ! $ heard ! (κs.1.1.0 ⊑ W.lives) (λ within. heard ! Asked (λ asked.
    split ! $ split ! $ move ! (2 ∷ []) $ fsplit3 ! $ fsplit ! $ feq_l ! (λ e0. move ! (1 ∷ []) $ word_had ! base.ptr z.0.4.1.0 (λ e1. move ! (1 ∷ []) $ fsplit3 ! $ drop ! $
    fsplit ! $ mark_had ! E z.0.4.1.1.1.0 (λ e3. move ! (1 ∷ []) $ fsplit ! $ fsplit ! $ mark_had ! E z.0.4.1.1.1.1.0 (λ e4. keep ! (2 ∷ 0 ∷ 3 ∷ 4 ∷ 5 ∷ []) $
    regoal ! (λ (us : List Val). prop (WpFn 𝓤 𝓛.H 𝓣.C 𝓣.Λ fn us Post)) (λ i. e0 i ++ (e1 i ++ (are.1.1.0.0 i ++ (e3 i ++ (e4 i ++ []))))) refl $
    enter ! 𝓣.C 𝓣.Λ fn (vptr me.0 me.1 ∷ word base.ptr ∷ vint w64 len ∷ mark ∷ mark ∷ []) Post $ alloc_all ! (λ l. pass_all ! refl ((tt, tt), (word-Good [] base.ptr, ((tt, record { fits = are.1.1.0.1 }), ((tt, (tt, tt)), ((tt, (tt, tt)), tt))))) $
    let En : Env 𝓤 𝓛.H = env fn.locals l in
    let long : length (all_of E cells) ≡ len = all_long E cells ∙ asked.1 in let s = sz E in let al : ℕ = capped (align (elτ E)) in
    rewrite ! 0 (λ (c : Ptr). ‵ (cells_own (R E) c (all_of E cells))) asked.0 refl $
    in_a_block ! base.ptr (λ p. cells_own (R E) p (all_of E cells)) (id⊢ 𝓤 (never 𝓤)) (λ b o e. fsplit ! $ flt_l ! (λ fit.
    let small : len * s < 2 ^ 63 = subst (λ k. k * s < 2 ^ 63) long fit in let bytes : len * s < 2 ^ 64 = omega arith in
    let y : (Gives Z 𝓛 𝓜.mem 𝓡.returns).Ghost = at_gives Z 𝓛 𝓜.mem 𝓡.returns κs.0 qs.0 me a b o (len * s) al (block_ty E len) in
    rewrite ! 1 (λ (d : Z.row.Denot × Ptr × ℕ). ‵ (deed_owns (R E) (token Z d.0) d.1 d.2)) (λ i. (asked.5 i, (asked.3 ∙ e) i, asked.4 i)) refl $
    move ! (1 ∷ []) $ use1 𝓛 (raw (sem 𝓛 (token Z a (ty_raw E len) (block_ptr b o)))) (deed_used E 𝓛 (token Z a) (block_ptr b o) len asked.2) $ move ! (1 ∷ []) $
    use1 𝓛 (‵ (slots (R E) b o (replicate (length (all_of E cells)) None))) (forgets E 𝓛 b (all_of E cells) o) $ rewrite ! 0 (λ (k : ℕ). ‵ (slots (R E) b o (replicate k None))) long refl $
    use1 𝓛 (‵ (froom (ty_array (elτ E) len) b o)) (to_room E 𝓛 b len o) $ as_raw ! (ty_array (elτ E) len) b o $ first ! $ blocks ! $
    sets ! (is ! (of_opd ! (get_in ! (fld ! refl (stop !)) (sub ! 0 refl (whole !)))) (ap ptr_val e)) refl (tt, tt) $
    sets ! (is ! (bin ! (get ! refl) (size_word !) (record { fits = subst (λ (k : ℕ). k < 2 ^ 64) (sym (uncapped len s bytes)) bytes })) (ap (vint w64) (uncapped len s bytes))) refl (tt, record { fits = bytes }) $
    group ! 4 $ use1 𝓛 (raw ((Gives Z 𝓛 𝓜.mem 𝓡.returns).pre y)) (Gives-goes Z 𝓛 𝓜.mem 𝓡.returns κs.0 qs.0 me a (Incl-trans z.0.2.0 within) b o (len * s) al (block_ty E len) (block_size E len bytes) (block_align E len) bytes (capped_fits (align (elτ E)))) $
    calls_at_last ! (fm 𝓛 𝓜 𝓡) (Gives Z 𝓛 𝓜.mem 𝓡.returns) (met.deallocate dd) y (and_then ! (get ! refl) (and_then ! (get ! refl) (and_then ! (get ! refl) (and_then ! (align_word !) (no_more !))))) (λ v.
    use1 𝓛 (later (given (v ≡ vunit) (‵ (flft κs.0 qs.0)))) (Gives-Gives Z 𝓛 𝓜.mem 𝓡.returns κs.0 qs.0 me a b o (len * s) al (block_ty E len) v) $ await ! tt $ learn ! (λ done_with.
    lands_last ! refl (subst (λ (u : Val). T (has_ty ty_unit u) × WT u) (sym done_with) (tt, tt)) $ exec ! 𝓣.C 𝓣.Λ En (after 1 fn.body) (at_ret En Post) $
    sets ! (of_opd ! (unit_lit !)) refl (tt, tt) $ returns ! (look_at ! 0 refl) $ free_all ! refl $ keep ! (0 ∷ 1 ∷ []) $
    suffices ! _ (ends_at 𝓛 ended hs c z vunit tt (tt, (tt, (tt, (tt, (tt, tt))))) (tt, (tt, (tt, (tt, (tt, tt)))))) $
    join ! $ feq_i ! (List Val) (vunit ∷ []) (vunit ∷ []) refl $ nothing ! $ nothing ! $ fjoin ! $ nothing ! $ fjoin ! $ nothing ! $ fjoin ! $ nothing ! $ fjoin ! $ nothing ! $ fjoin ! $ join ! $
    move ! (1 ∷ 0 ∷ []) $ join ! $ nothing ! $ move ! (1 ∷ 0 ∷ []) $ done !))))))))))))
