-- `move_over` hands the items beside the gap and the room of the gap to the loop, and puts both back. Assumes `Logic`.
use Rattle.split_vector.proofs.HandNames.{◌≡◌, refl, sym, subst, ap, ◌∙◌, not, List, [], ◌∷◌, ◌++◌, ℕ, ◌+◌, ◌*◌, ◌<◌, ◌^◌, arith, T, length, full_share, SProp, emp, never, id⊢, ftrue, fsep, fat, flft, named, w64, ty_unit, inst_fn, Val, vptr, vbool, vint, vunit, has_ty, WT, Env, WpFn, ◌⊑◌, fact, fact_i, tables, Item, ‵, raw, ◌⊛◌, some, later, at_ret, ◌$◌, ◌∵◌, !, qed, move, keep, use0, use1, use2, split, join, pick, rewrite, fsplit, fsplit3, fjoin, fjoin3, feq_i, feq_l, flt_l, flt_i, suffices, frame, await, done, whole, sub, stop, fld, size_word, unit_lit, no_more, and_then, of_opd, bin, first, blocks, exec, returns, enter, alloc_all, pass_all, free_all, look_at, get, get_in, is, sets, lands_last, env, take_at, give_at, bool, usize, unit, yes, no, layout, owns, Ptr, RawPtr, block_ptr, in_a_block, rawptr_vals, MutRef, pure_i, plain, heard, nothing, only, opens, closes, calls_at_last, triple_of, says, Stays, stay_dropped, stay_ref, walk_of, ends_at, Goes-dropped, Goes-ref, memory_before_copy, memory_after_copy, El, R, args, times_below, uncapped, after, word, word-Good, CanMove, LiesApart, beside, slots, cells_own, regoal, prop, proved_at}
use types.Kit.{drop as let_go}
use Rattle.core.proofs.atomic.Steps.{fm}
use Rattle.split_vector.proofs.Items.{cells_spread, run_starts, spread, spread_long}
use Rattle.split_vector.proofs.Memory.{Cr, Bs, sz, Place, all_of, word_had, Outside, begin, begins, begin_apart, run_out, run_in}
use Rattle.split_vector.specs.contracts.raw.move_run as callee
use Rattle.split_vector.proofs.raw.move_run.Met.{met}
use Rattle.split_vector.specs.contracts.cells.Cells.move_over as F
use Rattle.split_vector.proofs.cells.Cells.move_over.Statement.{statement}
use Rattle.split_vector.proofs.cells.Cells.move_over.Code as code

pub move_over_spec : {M : Type 1} → statement M
move_over_spec 𝓤 𝓛 𝓜 𝓡 wired X LX =
    let E : El = record { row = X; laws = LX } in let 𝓣 = tables 𝓤 𝓛.H 𝓜 𝓡 𝓡.env in let fn = inst_fn (args E) code.function in let ended = F.ended X in let c = F.clauses X 𝓛 𝓜.mem 𝓡.returns in
    let hs : Stays ended.signature.params ended.kept =
    (stay_ref (0 ∷ []) tt (plain (λ _. Cr E)), (stay_dropped (plain (λ _. Bs E)) no, (stay_dropped (plain (λ _. usize)) yes, (stay_dropped (plain (λ _. usize)) yes, (stay_dropped (plain (λ _. usize)) yes, (stay_dropped (plain (λ _. bool)) yes, tt)))))) in
    let number = Goes-dropped 𝓛 2 (plain (λ _. usize)) yes (λ κs x f. refl) in
    proved_at 𝓛 ended hs c 𝓜 𝓡 (Goes-ref 𝓛 2 0 tt (plain (λ _. Cr E)), (Goes-dropped 𝓛 2 (plain (λ _. Bs E)) no (λ κs x f. refl), (number, (number, (number, (Goes-dropped 𝓛 2 (plain (λ _. bool)) yes (λ κs x f. refl), tt))))))
    (F.Key.name (args E)) fn (code.unfolded 𝓤 𝓛.H 𝓜 𝓡 wired (X, tt)) (λ z are.
    let κs = z.0.0 in let qs = z.0.1 in let rb = z.0.3.0.ref_ptr.0 in let ro = z.0.3.0.ref_ptr.1 in let d = z.0.3.0.now in let base = z.0.3.1.0 in let from = z.0.3.1.1.0 in let to = z.0.3.1.1.1.0 in let count = z.0.3.1.1.1.1.0 in let up = z.0.3.1.1.1.1.1.0 in let parts = z.1 in
    let Post : Val → SProp 𝓤 = (walk_of 𝓛 ended hs c).post z in let G = triple_of 𝓛 (callee.signature X) (callee.spec X 𝓛 𝓜.mem 𝓡.returns) in let token : Item 𝓤 = ‵ (flft κs.1.0 qs.1.0) ⊛ ‵ ftrue in
    let Asked : Type 0 = (base.ptr ≡ d.at) × CanMove up d.left d.spare d.right from to count parts in
    qed 𝓛 (((‵ (flft κs.0 qs.0) ⊛ token) ⊛ ‵ (owns (MutRef (named 0) κs.0 (Cr E) ∷ Bs E ∷ usize ∷ usize ∷ usize ∷ bool ∷ []) z.0.3 z.0.4)) ∷ (raw (fact 𝓤 (κs.1.0 ⊑ X.lives)) ⊛ raw (fact 𝓤 Asked)) ∷ []) ∵
    move ! (1 ∷ []) $ split ! $ heard ! (κs.1.0 ⊑ X.lives) (λ lives. heard ! Asked (λ asked.
    let s = sz E in let n : ℕ = parts.2 in
    let new : (Cr E).Denot = record { mark = d.mark; at = d.at; left = (beside (not up) parts).0; spare = n; right = (beside (not up) parts).2 } in
    let was : all_of E d ≡ spread up parts = cells_spread up parts d.left d.spare d.right asked.1.0 in
    let will : all_of E new ≡ spread (not up) parts = cells_spread (not up) parts new.left new.spare new.right (refl, refl, refl) in
    let long : length (all_of E d) ≡ length parts.0 + length parts.1 + n + length parts.3 = ap length was ∙ spread_long up parts in
    let same : length (all_of E d) ≡ length (all_of E new) = long ∙ sym (ap length will ∙ spread_long (not up) parts) in
    split ! $ split ! $ move ! (2 ∷ []) $ fsplit ! $ fsplit3 ! $ feq_l ! (λ passed. move ! (2 ∷ []) $ fsplit ! $ word_had ! base.ptr z.0.4.1.0 (λ e1. fsplit ! $ let_go ! $ fsplit ! $ let_go ! $ fsplit ! $ let_go ! $ fsplit ! $ feq_l ! (λ e5. keep ! (1 ∷ 2 ∷ 3 ∷ 4 ∷ []) $
    regoal ! (λ (us : List Val). prop (WpFn 𝓤 𝓛.H 𝓣.C 𝓣.Λ fn us Post)) (λ i. passed i ++ (e1 i ++ (are.1.1.0.0 i ++ (are.1.1.1.0.0 i ++ (are.1.1.1.1.0.0 i ++ (e5 i ++ [])))))) refl $
    let fits_from = are.1.1.0.1 in let fits_to = are.1.1.1.0.1 in let fits_count = are.1.1.1.1.0.1 in
    enter ! 𝓣.C 𝓣.Λ fn (vptr rb ro ∷ word base.ptr ∷ vint w64 from ∷ vint w64 to ∷ vint w64 count ∷ vbool up ∷ []) Post $
    alloc_all ! (λ l. pass_all ! refl ((tt, tt), (word-Good [] base.ptr, ((tt, record { fits = fits_from }), ((tt, record { fits = fits_to }), ((tt, record { fits = fits_count }), ((tt, tt), tt)))))) $
    let En : Env 𝓤 𝓛.H = env fn.locals l in
    opens ! tt (Cr E) {h = d} rb ro (λ vs. move ! (1 ∷ []) $ fsplit ! $ move ! (1 ∷ []) $
    in_a_block ! d.at (λ p. cells_own (R E) p (all_of E d)) (id⊢ 𝓤 (never 𝓤)) (λ b o e. fsplit ! $ flt_l ! (λ small.
    let far : from * s < 2 ^ 63 = times_below from (length (all_of E d)) s (2 ^ 63) (omega (arith, asked.1.1, run_starts up parts, long)) small in let far' : from * s < 2 ^ 64 = omega arith in
    let far₁ : to * s < 2 ^ 63 = times_below to (length (all_of E d)) s (2 ^ 63) (omega (arith, asked.1.2, run_starts (not up) parts, long)) small in let far₁' : to * s < 2 ^ 64 = omega arith in
    let wide : count * s < 2 ^ 63 = times_below count (length (all_of E d)) s (2 ^ 63) (omega (arith, asked.1.3, long)) small in let wide' : count * s < 2 ^ 64 = omega arith in
    let src : ℕ = begin E 𝓛 b o count parts asked.1.3 up in let dst : ℕ = begin E 𝓛 b o count parts asked.1.3 (not up) in
    take_at ! 2 $ rewrite ! 0 (λ (p : Ptr). ‵ (fat full_share (layout (Bs E)) (l 2) 0 (word p))) (asked.0 ∙ e) refl $ give_at ! 2 $ first ! $ blocks ! $
    sets ! (is ! (bin ! (get ! refl) (size_word !) (record { fits = subst (λ (k : ℕ). k < 2 ^ 64) (sym (uncapped from s far')) far' })) (ap (vint w64) (uncapped from s far'))) refl (tt, record { fits = far' }) $
    sets ! (is ! (bin ! (get_in ! (fld ! refl (stop !)) (sub ! 0 refl (whole !))) (get ! refl) tt) (ap (vptr b) (begins E 𝓛 b o count parts asked.1.3 up from asked.1.1))) refl (tt, tt) $
    sets ! (is ! (bin ! (get ! refl) (size_word !) (record { fits = subst (λ (k : ℕ). k < 2 ^ 64) (sym (uncapped to s far₁')) far₁' })) (ap (vint w64) (uncapped to s far₁'))) refl (tt, record { fits = far₁' }) $
    sets ! (is ! (bin ! (get_in ! (fld ! refl (stop !)) (sub ! 0 refl (whole !))) (get ! refl) tt) (ap (vptr b) (begins E 𝓛 b o count parts asked.1.3 (not up) to asked.1.2))) refl (tt, tt) $
    rewrite ! 0 (λ (cs : List (Place E)). ‵ (slots (R E) b o cs)) was refl $
    use1 𝓛 (‵ (memory_before_copy (R E) up n count (block_ptr b src) (block_ptr b dst) parts.1) ⊛ ‵ (Outside E 𝓛 b o count parts asked.1.3)) (run_out E 𝓛 b o count parts asked.1.3 up) $ split ! $
    -- [the items and the room; the other cells; the mark; its cell; the open borrow, in three entries; the token of T]
    let y : G.Ghost = (((κs.1.0, tt), (qs.1.0, tt), tt, (block_ptr b src, (block_ptr b dst, (count, (up, tt)))), (rawptr_vals (block_ptr b src), (rawptr_vals (block_ptr b dst), (vint w64 count ∷ [], (vbool up ∷ [], tt))))), (n, parts.1)) in
    let Ok : Type 0 = LiesApart (R E) up n count (block_ptr b src) (block_ptr b dst) in
    use0 𝓛 (raw (fact 𝓤 Ok)) (fact_i 𝓤 Ok (emp 𝓤) (begin_apart E 𝓛 b o count parts asked.1.3 up wide')) $ join ! $ use0 𝓛 (raw (fact 𝓤 (κs.1.0 ⊑ X.lives))) (fact_i 𝓤 (κs.1.0 ⊑ X.lives) (emp 𝓤) lives) $ join ! $
    pure_i ! (owns (RawPtr ∷ RawPtr ∷ usize ∷ bool ∷ []) y.0.3 y.0.4) (tt, (tt, ((tt, tt), (tt, tt)))) (refl, (refl, ((refl, fits_count), (refl, tt)))) $ move ! (8 ∷ 0 ∷ []) $ join ! $ join ! $
    use1 𝓛 (raw (G.pre y)) (id⊢ 𝓤 _) $
    calls_at_last ! (fm 𝓛 𝓜 𝓡) G (met 𝓤 𝓛 𝓜 𝓡 (code.calls-split_vector::raw::move_run 𝓡.env wired) X LX) y (and_then ! (get ! refl) (and_then ! (get ! refl) (and_then ! (get ! refl) (and_then ! (get ! refl) (no_more !))))) (λ v.
    use1 𝓛 (later (some (λ (r : Unit {0}). (token ⊛ ‵ (unit.own_val r (v ∷ []))) ⊛ some (λ (ends : Unit {0} × (Unit {0} × (Unit {0} × (Unit {0} × Unit {0})))). ‵ (fsep ftrue (fsep ftrue (fsep ftrue (fsep ftrue ftrue)))) ⊛ ‵ (memory_after_copy (R E) up n count (block_ptr b src) (block_ptr b dst) parts.1))))) (id⊢ 𝓤 _) $
    await ! tt $ pick ! (λ r. split ! $ split ! $ move ! (1 ∷ []) $ feq_l ! (λ is_unit. move ! (1 ∷ []) $ pick ! (λ ends. split ! $ let_go ! $
    lands_last ! refl (subst (λ (u : Val). T (has_ty ty_unit u) × WT u) (sym (ap only is_unit)) (tt, tt)) $ exec ! 𝓣.C 𝓣.Λ En (after 1 fn.body) (at_ret En Post) $ sets ! (of_opd ! (unit_lit !)) refl (tt, tt) $
    move ! (0 ∷ 2 ∷ []) $ use2 𝓛 (‵ (slots (R E) b o (spread (not up) parts))) (run_in E 𝓛 b o count parts asked.1.3 up) $ rewrite ! 0 (λ (cs : List (Place E)). ‵ (slots (R E) b o cs)) {x = all_of E new} (sym will) refl $
    flt_i ! (length (all_of E new) * s) (2 ^ 63) (subst (λ k. k * s < 2 ^ 63) same small) $ fjoin ! $
    rewrite ! 0 (λ (p : Ptr). ‵ (cells_own (R E) p (all_of E new))) (sym e) refl $ move ! (2 ∷ 0 ∷ []) $ fjoin ! $ move ! (2 ∷ 0 ∷ 3 ∷ 4 ∷ 5 ∷ []) $ closes ! tt (Cr E) new vs rb ro $
    returns ! (look_at ! 0 refl) $ free_all ! refl $ keep ! (0 ∷ 1 ∷ 2 ∷ 3 ∷ []) $ feq_i ! (List Val) (vunit ∷ []) (vunit ∷ []) refl $ move ! (1 ∷ 2 ∷ 3 ∷ 4 ∷ 0 ∷ []) $
    suffices ! _ (ends_at 𝓛 ended hs c z vunit tt (new, (tt, (tt, (tt, (tt, (tt, tt)))))) (tt, (tt, (tt, (tt, (tt, (tt, tt))))))) $ says ! refl $
    move ! (2 ∷ 3 ∷ []) $ join ! $ frame ! $ feq_i ! (List Val) z.0.4.0 (vptr rb ro ∷ []) passed $ fjoin3 ! $ nothing ! $ nothing ! $ fjoin ! $ nothing ! $ fjoin ! $ nothing ! $ fjoin ! $ nothing ! $ fjoin ! $ nothing ! $ fjoin ! $ move ! (1 ∷ 0 ∷ []) $ fjoin ! $ done !))))))))))))))
