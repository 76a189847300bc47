-- `allocate` cuts the new block into empty places, and keeps the right to free it. Assumes `Logic`.
use Rattle.split_vector.proofs.HandNames.{refl, sym, ap, subst, append-nil, true, false, ℕ, ◌*◌, ◌<◌, ◌^◌, arith, List, [], ◌∷◌, ◌++◌, lit<, Body, named, w64, inst_fn, Val, vptr, vint, vstruct, vcons, vnil, SProp, ftrue, flft, Env, WpFn, fact, tables, ‵, raw, ◌⊛◌, later, await, at_ret, ◌$◌, ◌∵◌, !, qed, move, keep, use0, use1, use2, use3, split, join, fsplit, rewrite, fjoin, suffices, frame, done, whole, agg, stop, fld, lit, of_opd, and_then, no_more, first, exec, returns, enter, alloc_all, pass_all, free_all, look_at, get, get_in, sets, sets_last, is, env, yes, RattleType, owns, layout, Ptr, block_ptr, ShrRef, RefOf, plain, nothing, Tuple, says, Stays, stay_dropped, walk_of, ends_at, Goes-dropped, after, Good, word, word-Good, length, flt_i, bin, usize, None, El, R, elτ, as_written, slots, deed_owns, Incl-trans, replicate, ty_array, align, capped, capped_fits, Wp, after_seq, at_return, ◌⊑◌, any_q, live, vrt, in_variant, size_word, align_word, switches_on, get_tag, lands_as, Is, owned, Struct, Struct-Makes, calls_at, Ok, Err, FitsInBlock, token, Al, Answer-typed, Takes, at_takes, Answered, Takes-goes, Takes-gives, answers, uncapped, block_ty, block_size, block_align, P, head, arm_body, ok_of, err_of, first_Good, heard, regoal, prop, proved_at, split3, drop}
use Rattle.split_vector.proofs.Memory.{all_of, all_long, deed_made, of_room, Place, Cr, Bs, Mark, sz, mark, mark_made, word_made, three_val, three_of}
use types.Kit.{Post as After}
use denote.Struct.Declared as Declared
use Rattle.core.specs.contracts.result.Result as RS
use Rattle.core.specs.contracts.alloc.AllocError as AE
use Rattle.core.proofs.slots.Leases.{args}
use Rattle.core.proofs.atomic.Steps.{fm}
use Rattle.split_vector.specs.contracts.cells.Deed as D-type
use Rattle.split_vector.specs.contracts.cells.allocate as F
use Rattle.split_vector.proofs.cells.allocate.Statement.{statement}
use Rattle.split_vector.proofs.cells.allocate.Code as code

pub allocate_spec : {M : Type 1} → statement M
allocate_spec 𝓤 𝓛 𝓜 𝓡 wired X W LX LW g d dd met md =
    let E : El = record { row = X; laws = LX } in let Z : Al = record { row = W; laws = LW; g = g; d = d; drops = dd } in
    let 𝓣 = tables 𝓤 𝓛.H 𝓜 𝓡 𝓡.env in let fn = inst_fn (args E Z) code.function in let ended = F.ended X W g d dd in let c = F.clauses X W g d dd 𝓛 𝓜.mem 𝓡.returns in
    let hs : Stays ended.signature.params ended.kept = (stay_dropped (RefOf (0 ∷ []) tt (plain (λ _. P E Z)) (λ _. tt)) yes, (stay_dropped (plain (λ _. usize)) yes, tt)) in
    proved_at 𝓛 ended hs c 𝓜 𝓡 (Goes-dropped 𝓛 3 (RefOf (0 ∷ []) tt (plain (λ _. P E Z)) (λ _. tt)) yes (λ κs x f. refl), (Goes-dropped 𝓛 3 (plain (λ _. usize)) yes (λ κs x f. refl), tt)) (F.Key.name (args E Z)) fn (code.unfolded 𝓤 𝓛.H 𝓜 𝓡 wired (X, (W, tt)) d dd) (λ z are.
    let κs = z.0.0 in let qs = z.0.1 in let me = z.0.3.0.ref_ptr in let a = z.0.3.0.now in let len = z.0.3.1.0 in let Post : Val → SProp 𝓤 = (walk_of 𝓛 ended hs c).post z in
    let Dd : RattleType = D-type.the_row (R E) (P E Z) g in let Three : RattleType = Tuple (Bs E ∷ Cr E ∷ Dd ∷ []) in let Out : RattleType = RS.the_row Three AE.the_row in
    let Asked : Type 0 = FitsInBlock (R E) len × (0 < len) in
    qed 𝓛 (((‵ (flft κs.0 qs.0) ⊛ (‵ (flft κs.1.0 qs.1.0) ⊛ (‵ (flft κs.1.1.0 qs.1.1.0) ⊛ ‵ ftrue))) ⊛ ‵ (owns (ShrRef (named 0) κs.0 (P E Z) ∷ usize ∷ []) z.0.3 z.0.4))
    ∷ (raw (fact 𝓤 (κs.1.0 ⊑ X.lives)) ⊛ (raw (fact 𝓤 (κs.1.1.0 ⊑ W.lives)) ⊛ raw (fact 𝓤 Asked))) ∷ []) ∵
    move ! (1 ∷ []) $ split3 ! $ drop ! $ heard ! (κs.1.1.0 ⊑ W.lives) (λ within. heard ! Asked (λ asked.
    let s = sz E in let small : len * s < 2 ^ 63 = asked.0.0 in let bytes : len * s < 2 ^ 64 = omega arith in
    split ! $ split ! $ move ! (2 ∷ []) $ fsplit ! $ fsplit ! $ drop ! $ keep ! (0 ∷ 2 ∷ 3 ∷ []) $
    regoal ! (λ (us : List Val). prop (WpFn 𝓤 𝓛.H 𝓣.C 𝓣.Λ fn us Post)) (λ i. are.0.0 i ++ (are.1.0.0 i ++ [])) refl $
    enter ! 𝓣.C 𝓣.Λ fn (vptr me.0 me.1 ∷ vint w64 len ∷ []) Post $ alloc_all ! (λ l. pass_all ! refl ((tt, tt), ((tt, record { fits = are.1.0.1 }), tt)) $
    let En : Env 𝓤 𝓛.H = env fn.locals l in
    let both : Body = head (after 2 fn.body) in
    let Then : After 𝓤 𝓛.H = any_q (after_seq 𝓤 𝓛.H (Wp 𝓤 𝓛.H 𝓣.C 𝓣.Λ En (after 3 fn.body) (at_return 𝓤 𝓛.H En Post)) (at_return 𝓤 𝓛.H En Post)) in
    let al : ℕ = capped (align (elτ E)) in
    let y : (Takes Z 𝓛 𝓜.mem 𝓡.returns).Ghost = at_takes Z 𝓛 𝓜.mem 𝓡.returns κs.0 qs.0 me a (len * s) al (block_ty E len) in
    sets ! (is ! (bin ! (get ! refl) (size_word !) (record { fits = subst (λ (k : ℕ). k < 2 ^ 64) (sym (uncapped len s bytes)) bytes })) (ap (vint w64) (uncapped len s bytes))) refl (tt, record { fits = bytes }) $
    use2 𝓛 (raw ((Takes Z 𝓛 𝓜.mem 𝓡.returns).pre y)) (Takes-goes Z 𝓛 𝓜.mem 𝓡.returns κs.0 qs.0 me a (Incl-trans z.0.2.0 within) (len * s) al (block_ty E len) (block_size E len bytes) (block_align E len) bytes (capped_fits (align (elτ E)))) $
    calls_at ! (fm 𝓛 𝓜 𝓡) (Takes Z 𝓛 𝓜.mem 𝓡.returns) (met.allocate dd) y (and_then ! (get ! refl) (and_then ! (get ! refl) (and_then ! (align_word !) (no_more !)))) (λ v.
    use1 𝓛 (later (raw (Answered Z 𝓛 𝓜.mem 𝓡.returns a (block_ty E len) v) ⊛ ‵ (flft κs.0 qs.0))) (Takes-gives Z 𝓛 𝓜.mem 𝓡.returns κs.0 qs.0 me a (len * s) al (block_ty E len) v) $ await ! tt $ split ! $
    answers Z ! 𝓜.mem 𝓡.returns a (block_ty E len) v
    (λ b o e.
    let p : Ptr = block_ptr b o in
    let base : (Bs E).Denot = record { ptr = p } in
    let cells : (Cr E).Denot = record { mark = record {}; at = p; left = []; spare = len; right = [] } in
    let deed : Dd.Denot = record { mark = record {}; at = p; len = len; alloc = a } in
    let made : Val = three_val (word p) mark mark in
    let typed : Good (layout Three) made = (tt, ((tt, tt), ((tt, tt), ((tt, tt), tt)))) in
    let ok = first_Good (layout Three) made typed in
    lands_as ! e refl (Answer-typed true b o) $ first ! $ switches_on ! (get_tag ! (vrt ! refl (fld ! refl (stop !))) (whole !)) $ exec ! 𝓣.C 𝓣.Λ En (arm_body 0 both) Then $
    sets ! (of_opd ! (get_in ! (vrt ! refl (fld ! refl (stop !))) (in_variant ! 0 0 refl refl (whole !)))) refl (tt, tt) $ sets ! (of_opd ! (get ! refl)) refl (tt, tt) $
    sets ! (agg ! (and_then ! (get ! refl) (no_more !))) refl (word-Good [] p) $
    sets ! (agg ! (no_more !)) refl (tt, tt) $ sets ! (agg ! (and_then ! (get ! refl) (no_more !))) refl (tt, (tt, tt)) $
    sets ! (agg ! (no_more !)) refl (tt, tt) $ sets ! (agg ! (and_then ! (get ! refl) (no_more !))) refl (tt, (tt, tt)) $
    sets ! (agg ! (and_then ! (get ! refl) (and_then ! (get ! refl) (and_then ! (get ! refl) (no_more !))))) refl typed $
    sets_last ! (agg ! (and_then ! (lit ! tt) (and_then ! (get ! refl) (no_more !)))) refl ok $
    exec ! 𝓣.C 𝓣.Λ En (after 3 fn.body) (at_ret En Post) $ sets ! (of_opd ! (get ! refl)) refl ok $
    move ! (1 ∷ []) $ use1 𝓛 (‵ (deed_owns (R E) (token Z a) p len)) (deed_made E 𝓛 (token Z a) p len asked.1) $ use0 𝓛 (‵ ((Mark E).own_val (tt, tt) (mark ∷ []))) (mark_made E 𝓛) $ fjoin ! $ move ! (1 ∷ []) $
    as_written ! (ty_array (elτ E) len) b o $ use1 𝓛 (‵ (slots (R E) b o (replicate len None))) (of_room E 𝓛 b len o) $
    rewrite ! 0 (λ (cs : List (Place E)). ‵ (slots (R E) b o cs)) {x = all_of E cells} (sym (append-nil (replicate len None))) refl $
    flt_i ! (length (all_of E cells) * s) (2 ^ 63) (subst (λ k. k * s < 2 ^ 63) (omega (arith, all_long E cells)) small) $ fjoin ! $
    use0 𝓛 (‵ ((Mark E).own_val (tt, tt) (mark ∷ []))) (mark_made E 𝓛) $ fjoin ! $ word_made ! p $
    use3 𝓛 (‵ (Three.own_val (base, cells, deed) (made ∷ []))) (three_of 𝓛 (Bs E) (Cr E) Dd base cells deed (word p) mark mark) $
    use1 𝓛 (‵ (Out.own_val (Ok (base, cells, deed)) (live 0 (vcons made vnil) ∷ []))) (ok_of 𝓛 Three AE.the_row (base, cells, deed) made) $
    returns ! (look_at ! 0 refl) $ free_all ! refl $ keep ! (0 ∷ 1 ∷ 2 ∷ []) $
    suffices ! _ (ends_at 𝓛 ended hs c z (live 0 (vcons made vnil)) (Ok (base, cells, deed)) (tt, (tt, tt)) (tt, (tt, tt))) $ says ! (refl, refl, refl, refl, refl, refl, refl) $ move ! (1 ∷ 2 ∷ []) $ join ! $ frame ! $ nothing ! $ nothing ! $ fjoin ! $ nothing ! $ fjoin ! $ done !)
    (λ e.
    let Refusal : RattleType = Struct (Declared.shape AE.the_type) in
    let none : Val = live 1 (vcons (vstruct vnil) vnil) in
    lands_as ! e refl (Answer-typed false 0 0) $ first ! $ switches_on ! (get_tag ! (vrt ! refl (fld ! refl (stop !))) (whole !)) $ exec ! 𝓣.C 𝓣.Λ En (arm_body 1 both) Then $
    sets ! (of_opd ! (get_in ! (vrt ! refl (fld ! refl (stop !))) (in_variant ! 1 0 refl refl (whole !)))) refl (tt, tt) $
    sets_last ! (agg ! (and_then ! (lit ! tt) (and_then ! (get ! refl) (no_more !)))) refl (tt, (record { fits = lit< tt }, (tt, tt))) $
    exec ! 𝓣.C 𝓣.Λ En (after 3 fn.body) (at_ret En Post) $ sets ! (of_opd ! (get ! refl)) refl (tt, (record { fits = lit< tt }, (tt, tt))) $
    owned ! Refusal (Is Refusal) (Struct-Makes 𝓛 (Declared.shape AE.the_type) tt) tt (vstruct vnil ∷ []) (tt, (refl, tt)) $
    use1 𝓛 (‵ (Out.own_val (Err (record {})) (none ∷ []))) (err_of 𝓛 Three AE.the_row (record {}) (vstruct vnil)) $
    returns ! (look_at ! 0 refl) $ free_all ! refl $ keep ! (0 ∷ 1 ∷ 2 ∷ []) $
    suffices ! _ (ends_at 𝓛 ended hs c z none (Err (record {})) (tt, (tt, tt)) (tt, (tt, tt))) $ says ! tt $ move ! (1 ∷ 2 ∷ []) $ join ! $ frame ! $ nothing ! $ nothing ! $ fjoin ! $ nothing ! $ fjoin ! $ done !))))))
