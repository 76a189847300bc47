-- `no_cells` owns nothing, and its address is that of a local. Assumes `Logic`.
use Rattle.split_vector.proofs.HandNames.{refl, SProp, ◌*◌, ◌^◌, arith, List, [], ◌∷◌, ◌++◌, inst_fn, Val, vptr, WpFn, tables, prop, ‵, raw, ◌⊛◌, ◌$◌, ◌∵◌, !, qed, move, keep, use0, use3, split, regoal, fjoin, suffices, frame, done, agg, stop, and_then, no_more, returns, enter, alloc_all, pass_all, free_all, look_at, get, sets, yes, RattleType, owns, layout, Ptr, block_ptr, RefOf, plain, nothing, Tuple, says, Stays, stay_dropped, walk_of, ends_at, Goes-dropped, Good, word, word-Good, length, flt_i, addr, zero-mul, El, R, Al, P, proved_at, alive, types_at}
use types.Run.{from as start}
use Rattle.core.proofs.slots.Leases.{args}
use Rattle.split_vector.proofs.Memory.{all_of, Cr, Bs, Mark, sz, mark, mark_made, word_made, three_val, three_of}
use Rattle.split_vector.specs.contracts.cells.Deed as D-type
use Rattle.split_vector.specs.contracts.cells.no_cells as F
use Rattle.split_vector.proofs.cells.no_cells.Statement.{statement}
use Rattle.split_vector.proofs.cells.no_cells.Code as code

pub no_cells_spec : {M : Type 1} → statement M
no_cells_spec 𝓤 𝓛 𝓜 𝓡 wired X W LX LW g d dd met md =
    let E : El = record { row = X; laws = LX } in let Z : Al = record { row = W; laws = LW; g = g; d = d; drops = dd } in
    let 𝓣 = tables 𝓤 𝓛.H 𝓜 𝓡 𝓡.env in let fn = inst_fn (args E Z) code.function in let ended = F.ended X W g d dd in let c = F.clauses X W g d dd 𝓛 𝓜.mem 𝓡.returns in
    let hs : Stays ended.signature.params ended.kept = (stay_dropped (RefOf (0 ∷ []) tt (plain (λ _. P E Z)) (λ _. tt)) yes, tt) in
    proved_at 𝓛 ended hs c 𝓜 𝓡 (Goes-dropped 𝓛 3 (RefOf (0 ∷ []) tt (plain (λ _. P E Z)) (λ _. tt)) yes (λ κs x f. refl), tt) (F.Key.name (args E Z)) fn (code.unfolded 𝓤 𝓛.H 𝓜 𝓡 wired (X, (W, tt)) d dd) (λ z are.
    let κs = z.0.0 in let a = z.0.3.0.now in let Post : Val → SProp 𝓤 = (walk_of 𝓛 ended hs c).post z in
    let Dd : RattleType = D-type.the_row (R E) (P E Z) g in let Three : RattleType = Tuple (Bs E ∷ Cr E ∷ Dd ∷ []) in let me : Val = vptr z.0.3.0.ref_ptr.0 z.0.3.0.ref_ptr.1 in
    qed 𝓛 ((raw (alive 𝓛 ended.signature κs z.0.1) ⊛ ‵ (owns (types_at ended.signature.params κs) z.0.3 z.0.4)) ∷ raw ((c κs z.0.3).requires z.1) ∷ []) ∵ split ! $ keep ! (0 ∷ []) $
    regoal ! (λ (us : List Val). prop (WpFn 𝓤 𝓛.H 𝓣.C 𝓣.Λ fn us Post)) (λ i. are.0.0 i ++ []) refl $ enter ! 𝓣.C 𝓣.Λ fn (me ∷ []) Post $ alloc_all ! (λ l. pass_all ! refl ((tt, tt), tt) $
    let p : Ptr = block_ptr (l 2) 0 in
    let base : (Bs E).Denot = record { ptr = p } in
    let cells : (Cr E).Denot = record { mark = record {}; at = p; left = []; spare = 0; right = [] } in
    let deed : Dd.Denot = record { mark = record {}; at = p; len = 0; alloc = a } in
    let made : Val = three_val (word p) mark mark in
    let typed : Good (layout Three) made = (tt, ((tt, tt), ((tt, tt), ((tt, tt), tt)))) in
    sets ! (agg ! (no_more !)) refl (tt, tt) $ sets ! (addr ! (start ! (stop !))) refl (tt, tt) $
    sets ! (agg ! (and_then ! (get ! refl) (no_more !))) refl (word-Good [] p) $
    sets ! (agg ! (no_more !)) refl (tt, tt) $ sets ! (agg ! (and_then ! (get ! refl) (no_more !))) refl (tt, (tt, tt)) $
    sets ! (agg ! (no_more !)) refl (tt, tt) $ sets ! (agg ! (and_then ! (get ! refl) (no_more !))) refl (tt, (tt, tt)) $
    sets ! (agg ! (and_then ! (get ! refl) (and_then ! (get ! refl) (and_then ! (get ! refl) (no_more !))))) refl typed $
    nothing ! $ use0 𝓛 (‵ ((Mark E).own_val (tt, tt) (mark ∷ []))) (mark_made E 𝓛) $ fjoin ! $
    nothing ! $ flt_i ! (length (all_of E cells) * sz E) (2 ^ 63) (omega (arith, zero-mul (sz E))) $ fjoin ! $
    use0 𝓛 (‵ ((Mark E).own_val (tt, tt) (mark ∷ []))) (mark_made E 𝓛) $ fjoin ! $ word_made ! p $
    use3 𝓛 (‵ (Three.own_val (base, cells, deed) (made ∷ []))) (three_of 𝓛 (Bs E) (Cr E) Dd base cells deed (word p) mark mark) $
    returns ! (look_at ! 0 refl) $ free_all ! refl $ suffices ! _ (ends_at 𝓛 ended hs c z made (base, cells, deed) (tt, tt) (tt, tt)) $ says ! (refl, refl, refl, refl, refl, refl, refl) $
    move ! (1 ∷ []) $ frame ! $ nothing ! $ nothing ! $ fjoin ! $ done !))
