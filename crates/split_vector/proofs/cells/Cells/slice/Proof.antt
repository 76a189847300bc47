-- `slice` shows a run of values that the places lend. Assumes `Logic`.
use Rattle.split_vector.proofs.HandNames.{◌≡◌, refl, sym, ap, subst, ◌∙◌, ℕ, ◌+◌, ◌*◌, ◌<◌, ◌^◌, arith, List, [], ◌∷◌, ◌++◌, full_share, named, w64, inst_fn, Val, vptr, vint, SProp, never, id⊢, ftrue, fat, flft, Env, WpFn, fact, tables, prop, ‵, raw, ◌⊛◌, at_ret, ◌$◌, ◌∵◌, !, qed, move, keep, drop, use1, split, join, rewrite, regoal, fsplit, fjoin, feq_i, feq_l, suffices, frame, done, whole, sub, agg, stop, fld, of_opd, and_then, no_more, first, blocks, exec, returns, enter, alloc_all, pass_all, free_all, look_at, get, get_in, sets, sets_last, is, env, yes, no, owns, layout, Ptr, in_a_block, ShrRef, RefOf, plain, nothing, heard, says, Stays, stay_dropped, walk_of, ends_at, Goes-dropped, ◌⊑◌, after, word, word-Good, length, length-take, length-drop, flt_l, flt_i, bin, take_at, give_at, usize, Some, length-map, El, R, args, times_below, IsRun, cells_lent, slice_val, elements_shared, size_word, uncapped, proved_at}
use denote.Opens.{hide, unhide}
use lib.ListN.{drop as drop_l}
use Rattle.split_vector.proofs.Memory.{all_of, Cr, Bs, sz, word_had, run_seen}
use Rattle.split_vector.specs.contracts.cells.Cells.slice as F
use Rattle.split_vector.proofs.cells.Cells.slice.Statement.{statement}
use Rattle.split_vector.proofs.cells.Cells.slice.Code as code

pub slice_spec : {M : Type 1} → statement M
slice_spec 𝓤 𝓛 𝓜 𝓡 wired X LX =
    let E : El = record { row = X; laws = LX } in let 𝓣 = tables 𝓤 𝓛.H 𝓜 𝓡 𝓡.env in let fn = inst_fn (args E) code.function in let ended = F.ended X in let c = F.clauses X 𝓛 𝓜.mem 𝓡.returns in
    let hs : Stays ended.signature.params ended.kept = (stay_dropped (RefOf (0 ∷ []) tt (plain (λ _. Cr E)) (λ _. tt)) yes, (stay_dropped (plain (λ _. Bs E)) no, (stay_dropped (plain (λ _. usize)) yes, (stay_dropped (plain (λ _. usize)) yes, tt)))) in
    let number = Goes-dropped 𝓛 2 (plain (λ _. usize)) yes (λ κs x f. refl) in
    proved_at 𝓛 ended hs c 𝓜 𝓡 (Goes-dropped 𝓛 2 (RefOf (0 ∷ []) tt (plain (λ _. Cr E)) (λ _. tt)) yes (λ κs x f. refl), (Goes-dropped 𝓛 2 (plain (λ _. Bs E)) no (λ κs x f. refl), (number, (number, tt)))) (F.Key.name (args E)) fn (code.unfolded 𝓤 𝓛.H 𝓜 𝓡 wired (X, tt)) (λ z are.
    let κs = z.0.0 in let qs = z.0.1 in let d = z.0.3.0.now in let base = z.0.3.1.0 in let from = z.0.3.1.1.0 in let len = z.0.3.1.1.1.0 in let me : Val = vptr z.0.3.0.ref_ptr.0 z.0.3.0.ref_ptr.1 in
    let Post : Val → SProp 𝓤 = (walk_of 𝓛 ended hs c).post z in let Asked : Type 0 = (base.ptr ≡ d.at) × IsRun (all_of E d) from len in
    qed 𝓛 (((‵ (flft κs.0 qs.0) ⊛ (‵ (flft κs.1.0 qs.1.0) ⊛ ‵ ftrue)) ⊛ ‵ (owns (ShrRef (named 0) κs.0 (Cr E) ∷ Bs E ∷ usize ∷ usize ∷ []) z.0.3 z.0.4)) ∷ (raw (fact 𝓤 (κs.1.0 ⊑ X.lives)) ⊛ raw (fact 𝓤 Asked)) ∷ []) ∵
    move ! (1 ∷ []) $ split ! $ drop ! $ heard ! Asked (λ asked.
    let xs = asked.1.1.0 in let filled = asked.1.1.1 in let within = asked.1.0 in
    let long : length xs ≡ len = omega (arith, ap length filled, length-map xs Some, length-take len (drop_l from (all_of E d)), length-drop from (all_of E d)) in
    split ! $ split ! $ move ! (2 ∷ []) $ fsplit ! $ fsplit ! $ feq_l ! (λ e0. move ! (1 ∷ []) $ fsplit ! $ word_had ! base.ptr z.0.4.1.0 (λ e1. keep ! (1 ∷ 2 ∷ 3 ∷ []) $
    regoal ! (λ (us : List Val). prop (WpFn 𝓤 𝓛.H 𝓣.C 𝓣.Λ fn us Post)) (λ i. e0 i ++ (e1 i ++ (are.1.1.0.0 i ++ (are.1.1.1.0.0 i ++ [])))) refl $
    let fits_from = are.1.1.0.1 in let fits_len = are.1.1.1.0.1 in
    enter ! 𝓣.C 𝓣.Λ fn (me ∷ word base.ptr ∷ vint w64 from ∷ vint w64 len ∷ []) Post $ alloc_all ! (λ l. pass_all ! refl ((tt, tt), (word-Good [] base.ptr, ((tt, record { fits = fits_from }), ((tt, record { fits = fits_len }), tt)))) $
    let En : Env 𝓤 𝓛.H = env fn.locals l in
    unhide ! $ fsplit ! $ drop ! $ in_a_block ! d.at (λ p. cells_lent (R E) p (all_of E d) κs.0) (id⊢ 𝓤 (never 𝓤)) (λ b o e. fsplit ! $ flt_l ! (λ small.
    let s = sz E in
    let far : from * s < 2 ^ 64 = omega (arith, times_below from (length (all_of E d)) s (2 ^ 63) (omega arith) small) in
    take_at ! 2 $ rewrite ! 0 (λ (p : Ptr). ‵ (fat full_share (layout (Bs E)) (l 2) 0 (word p))) (asked.0 ∙ e) refl $ give_at ! 2 $ first ! $ blocks ! $
    sets ! (is ! (bin ! (get ! refl) (size_word !) (record { fits = subst (λ (k : ℕ). k < 2 ^ 64) (sym (uncapped from s far)) far })) (ap (vint w64) (uncapped from s far))) refl (tt, record { fits = far }) $
    sets ! (bin ! (get_in ! (fld ! refl (stop !)) (sub ! 0 refl (whole !))) (get ! refl) tt) refl (tt, tt) $
    let at : ℕ × ℕ = (b, from * s + o) in
    use1 𝓛 (‵ (elements_shared (R E) xs b (from * s + o) κs.0)) (run_seen E 𝓛 b κs.0 o (all_of E d) from len xs (omega arith) filled) $ hide ! $
    sets_last ! (agg ! (and_then ! (get ! refl) (and_then ! (get ! refl) (no_more !)))) refl (tt, (tt, (record { fits = fits_len }, tt))) $
    exec ! 𝓣.C 𝓣.Λ En (after 1 fn.body) (at_ret En Post) $ sets ! (of_opd ! (get ! refl)) refl (tt, (tt, (record { fits = fits_len }, tt))) $
    flt_i ! (length xs * s) (2 ^ 63) (times_below (length xs) (length (all_of E d)) s (2 ^ 63) (omega arith) small) $ flt_i ! (length xs) (2 ^ 64) (omega arith) $ fjoin ! $
    feq_i ! (List Val) (slice_val at len ∷ []) (slice_val at (length xs) ∷ []) (ap (λ k. slice_val at k ∷ []) (sym long)) $ fjoin ! $ fjoin ! $
    returns ! (look_at ! 0 refl) $ free_all ! refl $ suffices ! _ (ends_at 𝓛 ended hs c z (slice_val at len) (record { ref_ptr = at; now = xs }) (tt, (tt, (tt, (tt, tt)))) (tt, (tt, (tt, (tt, tt))))) $ says ! filled $
    move ! (1 ∷ 2 ∷ []) $ join ! $ frame ! $ nothing ! $ nothing ! $ fjoin ! $ nothing ! $ fjoin ! $ nothing ! $ fjoin ! $ nothing ! $ fjoin ! $ done !)))))))
