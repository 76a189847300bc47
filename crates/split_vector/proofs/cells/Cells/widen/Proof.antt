-- `widen` runs no code: the items beside the gap are forgotten. Assumes `Logic`.
use Rattle.split_vector.proofs.HandNames.{◌≡◌, refl, sym, subst, ◌+◌, ◌-◌, ◌*◌, ◌<◌, ◌≤◌, ◌^◌, arith, List, [], ◌∷◌, ◌++◌, named, w64, inst_fn, Val, vptr, vint, vunit, SProp, never, id⊢, ftrue, flft, WpFn, fact, tables, prop, ‵, raw, ◌⊛◌, ◌$◌, ◌∵◌, !, qed, move, keep, drop, use1, split, join, rewrite, regoal, fsplit, fsplit3, fjoin, fjoin3, feq_i, feq_l, suffices, frame, done, unit_lit, of_opd, returns, enter, alloc_all, pass_all, free_all, look_at, sets, yes, owns, Ptr, in_a_block, MutRef, plain, nothing, heard, opens, closes, says, Stays, stay_dropped, stay_ref, walk_of, ends_at, Goes-dropped, Goes-ref, ◌⊑◌, length, take, length-take, length-drop, flt_l, flt_i, usize, El, R, args, slots, cells_own, proved_at}
use lib.ListN.{drop as drop_l}
use Rattle.split_vector.proofs.Memory.{widened, all_of, all_long, Cr, sz}
use Rattle.split_vector.specs.contracts.cells.Cells.widen as F
use Rattle.split_vector.proofs.cells.Cells.widen.Statement.{statement}
use Rattle.split_vector.proofs.cells.Cells.widen.Code as code

pub widen_spec : {M : Type 1} → statement M
widen_spec 𝓤 𝓛 𝓜 𝓡 wired X LX =
    let E : El = record { row = X; laws = LX } in let 𝓣 = tables 𝓤 𝓛.H 𝓜 𝓡 𝓡.env in let fn = inst_fn (args E) code.function in let ended = F.ended X in let c = F.clauses X 𝓛 𝓜.mem 𝓡.returns in
    let hs : Stays ended.signature.params ended.kept = (stay_ref (0 ∷ []) tt (plain (λ _. Cr E)), (stay_dropped (plain (λ _. usize)) yes, (stay_dropped (plain (λ _. usize)) yes, tt))) in
    let number = Goes-dropped 𝓛 2 (plain (λ _. usize)) yes (λ κs x f. refl) in
    proved_at 𝓛 ended hs c 𝓜 𝓡 (Goes-ref 𝓛 2 0 tt (plain (λ _. Cr E)), (number, (number, tt))) (F.Key.name (args E)) fn (code.unfolded 𝓤 𝓛.H 𝓜 𝓡 wired (X, tt)) (λ z are.
    let κs = z.0.0 in let qs = z.0.1 in let rb = z.0.3.0.ref_ptr.0 in let ro = z.0.3.0.ref_ptr.1 in let d = z.0.3.0.now in let left = z.0.3.1.0 in let after_gap = z.0.3.1.1.0 in
    let Post : Val → SProp 𝓤 = (walk_of 𝓛 ended hs c).post z in let Asked : Type 0 = (left ≤ length d.left) × (after_gap ≤ length d.right) in let s = sz E in
    let new : (Cr E).Denot = record { mark = d.mark; at = d.at; left = take left d.left; spare = d.spare + (length d.left - left) + after_gap; right = drop_l after_gap d.right } in
    qed 𝓛 (((‵ (flft κs.0 qs.0) ⊛ (‵ (flft κs.1.0 qs.1.0) ⊛ ‵ ftrue)) ⊛ ‵ (owns (MutRef (named 0) κs.0 (Cr E) ∷ usize ∷ usize ∷ []) z.0.3 z.0.4)) ∷ (raw (fact 𝓤 (κs.1.0 ⊑ X.lives)) ⊛ raw (fact 𝓤 Asked)) ∷ []) ∵
    move ! (1 ∷ []) $ split ! $ drop ! $ heard ! Asked (λ asked.
    let same : length (all_of E d) ≡ length (all_of E new) = omega (arith, asked.0, asked.1, all_long E d, all_long E new, length-take left d.left, length-drop after_gap d.right) in
    split ! $ split ! $ move ! (2 ∷ []) $ fsplit ! $ fsplit3 ! $ feq_l ! (λ passed. keep ! (0 ∷ 1 ∷ 3 ∷ 4 ∷ []) $
    regoal ! (λ (us : List Val). prop (WpFn 𝓤 𝓛.H 𝓣.C 𝓣.Λ fn us Post)) (λ i. passed i ++ (are.1.0.0 i ++ (are.1.1.0.0 i ++ []))) refl $
    enter ! 𝓣.C 𝓣.Λ fn (vptr rb ro ∷ vint w64 left ∷ vint w64 after_gap ∷ []) Post $ alloc_all ! (λ l. pass_all ! refl ((tt, tt), ((tt, record { fits = are.1.0.1 }), ((tt, record { fits = are.1.1.0.1 }), tt))) $
    opens ! tt (Cr E) {h = d} rb ro (λ vs. move ! (1 ∷ []) $ fsplit ! $ move ! (1 ∷ []) $
    in_a_block ! d.at (λ p. cells_own (R E) p (all_of E d)) (id⊢ 𝓤 (never 𝓤)) (λ b o e. fsplit ! $ flt_l ! (λ small.
    use1 𝓛 (‵ (slots (R E) b o (all_of E new))) (widened E 𝓛 b d o left after_gap asked.0 asked.1) $
    flt_i ! (length (all_of E new) * s) (2 ^ 63) (subst (λ k. k * s < 2 ^ 63) same small) $ fjoin ! $
    rewrite ! 0 (λ (p : Ptr). ‵ (cells_own (R E) p (all_of E new))) (sym e) refl $ move ! (1 ∷ 0 ∷ []) $ fjoin ! $ move ! (1 ∷ 0 ∷ []) $ closes ! tt (Cr E) new vs rb ro $
    sets ! (of_opd ! (unit_lit !)) refl (tt, tt) $ returns ! (look_at ! 0 refl) $ free_all ! refl $ feq_i ! (List Val) (vunit ∷ []) (vunit ∷ []) refl $ move ! (1 ∷ 2 ∷ 3 ∷ 4 ∷ 0 ∷ []) $
    suffices ! _ (ends_at 𝓛 ended hs c z vunit tt (new, (tt, (tt, tt))) (tt, (tt, (tt, tt)))) $ says ! refl $
    move ! (2 ∷ 3 ∷ []) $ join ! $ frame ! $ feq_i ! (List Val) z.0.4.0 (vptr rb ro ∷ []) passed $ fjoin3 ! $ nothing ! $ nothing ! $ fjoin ! $ nothing ! $ fjoin ! $ move ! (1 ∷ 0 ∷ []) $ fjoin ! $ done !)))))))
