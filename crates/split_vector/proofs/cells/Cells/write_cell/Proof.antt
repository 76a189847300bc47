-- `write_cell` puts an item into one cell. Assumes `Logic`.
use Rattle.split_vector.proofs.HandNames.{◌≡◌, refl, sym, ap, subst, ◌∙◌, ◌+◌, ◌*◌, ◌<◌, ◌^◌, arith, List, [], ◌∷◌, ◌++◌, full_share, named, w64, inst_fn, Val, vptr, vint, vunit, SProp, never, id⊢, ftrue, fat, flft, Env, WpFn, fact, tables, prop, ‵, raw, ◌⊛◌, at_ret, ◌$◌, ◌∵◌, !, qed, move, keep, drop, use1, use2, split, join, rewrite, regoal, fsplit, fsplit3, fjoin, fjoin3, feq_i, feq_l, suffices, frame, done, whole, sub, init, stop, fld, unit_lit, of_opd, assigns_last, first, blocks, exec, returns, enter, alloc_all, pass_all, free_all, look_at, get, get_in, through, sets, env, yes, no, owns, layout, Ptr, in_a_block, MutRef, plain, nothing, heard, opens, closes, says, Stays, stay_dropped, stay_ref, walk_of, ends_at, Goes-dropped, Goes-ref, ◌⊑◌, after, word, word-Good, length, set, get_or, length-set, flt_l, flt_i, bin, size_lit, take_at, give_at, usize, Some, None, El, R, args, elτ, times_below, one_below, as_written, slot, slots, cells_own, IsWritten, proved_at}
use Rattle.split_vector.proofs.Memory.{all_of, all_long, slot_room, Cr, Bs, sz, Place, word_had, value_in, tells, Besides, slot_out, slot_in}
use Rattle.split_vector.specs.contracts.cells.Cells.write_cell as F
use Rattle.split_vector.proofs.cells.Cells.write_cell.Statement.{statement}
use Rattle.split_vector.proofs.cells.Cells.write_cell.Code as code

pub write_cell_spec : {M : Type 1} → statement M
write_cell_spec 𝓤 𝓛 𝓜 𝓡 wired X LX =
    let E : El = record { row = X; laws = LX } in let 𝓣 = tables 𝓤 𝓛.H 𝓜 𝓡 𝓡.env in let fn = inst_fn (args E) code.function in let ended = F.ended X in let c = F.clauses X 𝓛 𝓜.mem 𝓡.returns in
    let hs : Stays ended.signature.params ended.kept = (stay_ref (0 ∷ []) tt (plain (λ _. Cr E)), (stay_dropped (plain (λ _. Bs E)) no, (stay_dropped (plain (λ _. usize)) yes, (stay_dropped (plain (λ _. R E)) no, tt)))) in
    proved_at 𝓛 ended hs c 𝓜 𝓡 (Goes-ref 𝓛 2 0 tt (plain (λ _. Cr E)), (Goes-dropped 𝓛 2 (plain (λ _. Bs E)) no (λ κs x f. refl), (Goes-dropped 𝓛 2 (plain (λ _. usize)) yes (λ κs x f. refl), (Goes-dropped 𝓛 2 (plain (λ _. R E)) no (λ κs x f. refl), tt)))) (F.Key.name (args E)) fn (code.unfolded 𝓤 𝓛.H 𝓜 𝓡 wired (X, tt)) (λ z are.
    let κs = z.0.0 in let qs = z.0.1 in let rb = z.0.3.0.ref_ptr.0 in let ro = z.0.3.0.ref_ptr.1 in let d = z.0.3.0.now in let base = z.0.3.1.0 in let place = z.0.3.1.1.0 in let item = z.0.3.1.1.1.0 in let held = z.1 in
    let Post : Val → SProp 𝓤 = (walk_of 𝓛 ended hs c).post z in let Asked : Type 0 = (base.ptr ≡ d.at) × IsWritten d.left d.spare d.right place item held in
    let new : (Cr E).Denot = record { mark = d.mark; at = d.at; left = held.0; spare = held.1; right = held.2 } in
    qed 𝓛 (((‵ (flft κs.0 qs.0) ⊛ (‵ (flft κs.1.0 qs.1.0) ⊛ ‵ ftrue)) ⊛ ‵ (owns (MutRef (named 0) κs.0 (Cr E) ∷ Bs E ∷ usize ∷ R E ∷ []) z.0.3 z.0.4)) ∷ (raw (fact 𝓤 (κs.1.0 ⊑ X.lives)) ⊛ raw (fact 𝓤 Asked)) ∷ []) ∵
    move ! (1 ∷ []) $ split ! $ drop ! $ heard ! Asked (λ asked.
    let within : place < length (all_of E d) = omega (arith, asked.1.0, all_long E d) in let written : set (all_of E d) place (Some item) ≡ all_of E new = asked.1.1 in
    split ! $ split ! $ move ! (2 ∷ []) $ fsplit ! $ fsplit3 ! $ feq_l ! (λ passed. move ! (2 ∷ []) $ fsplit ! $ word_had ! base.ptr z.0.4.1.0 (λ e1. fsplit ! $ drop ! $ fsplit ! $
    tells X LX ! item z.0.4.1.1.1.0 (λ v_item e3 good_item. keep ! (2 ∷ 3 ∷ 4 ∷ 0 ∷ 5 ∷ []) $
    regoal ! (λ (us : List Val). prop (WpFn 𝓤 𝓛.H 𝓣.C 𝓣.Λ fn us Post)) (λ i. passed i ++ (e1 i ++ (are.1.1.0.0 i ++ (e3 i ++ [])))) refl $
    enter ! 𝓣.C 𝓣.Λ fn (vptr rb ro ∷ word base.ptr ∷ vint w64 place ∷ v_item ∷ []) Post $ alloc_all ! (λ l. pass_all ! refl ((tt, tt), (word-Good [] base.ptr, ((tt, record { fits = are.1.1.0.1 }), (good_item, tt)))) $
    let En : Env 𝓤 𝓛.H = env fn.locals l in
    opens ! tt (Cr E) {h = d} rb ro (λ vs. move ! (1 ∷ []) $ fsplit ! $ move ! (1 ∷ []) $
    in_a_block ! d.at (λ p. cells_own (R E) p (all_of E d)) (id⊢ 𝓤 (never 𝓤)) (λ b o e. fsplit ! $ flt_l ! (λ small.
    let s = sz E in let tiny : s < 2 ^ 64 = omega (arith, one_below (length (all_of E d)) s (2 ^ 63) (omega arith) small) in
    let far : place * s < 2 ^ 64 = omega (arith, times_below place (length (all_of E d)) s (2 ^ 63) (omega arith) small) in
    take_at ! 2 $ rewrite ! 0 (λ (p : Ptr). ‵ (fat full_share (layout (Bs E)) (l 2) 0 (word p))) (asked.0 ∙ e) refl $ give_at ! 2 $ first ! $ blocks ! $
    sets ! (bin ! (get ! refl) (size_lit ! (record { fits = tiny })) (record { fits = far })) refl (tt, record { fits = far }) $
    sets ! (bin ! (get_in ! (fld ! refl (stop !)) (sub ! 0 refl (whole !))) (get ! refl) tt) refl (tt, tt) $
    use1 𝓛 (‵ (slot (R E) b (place * s + o) (get_or (all_of E d) place None)) ⊛ ‵ (Besides E 𝓛 b o (all_of E d) place)) (slot_out E 𝓛 b o (all_of E d) place within) $ split ! $ use1 𝓛 (‵ (slot (R E) b (place * s + o) None)) (slot_room E 𝓛 b (get_or (all_of E d) place None) (place * s + o)) $ as_written ! (elτ E) b (place * s + o) $
    -- [the room; the other places; the mark; its cell; the open borrow; obs; auth; what the item owns]
    sets ! (of_opd ! (get ! refl)) refl good_item $ assigns_last ! (of_opd ! (get ! refl)) (through ! refl (stop !)) (init ! 0 refl good_item) $
    exec ! 𝓣.C 𝓣.Λ En (after 1 fn.body) (at_ret En Post) $ sets ! (of_opd ! (unit_lit !)) refl (tt, tt) $
    move ! (0 ∷ 7 ∷ []) $ use2 𝓛 (‵ (slot (R E) b (place * s + o) (Some item))) (value_in 0 X LX 𝓛 item b (place * s + o) v_item) $
    use2 𝓛 (‵ (slots (R E) b o (set (all_of E d) place (Some item)))) (slot_in E 𝓛 b o (all_of E d) place within (Some item)) $ rewrite ! 0 (λ (cs : List (Place E)). ‵ (slots (R E) b o cs)) {x = all_of E new} written refl $
    flt_i ! (length (all_of E new) * s) (2 ^ 63) (subst (λ k. k * s < 2 ^ 63) (sym (length-set (all_of E d) place (Some item)) ∙ ap length written) small) $ fjoin ! $
    rewrite ! 0 (λ (p : Ptr). ‵ (cells_own (R E) p (all_of E new))) (sym e) refl $ move ! (1 ∷ 0 ∷ []) $ fjoin ! $ move ! (1 ∷ 0 ∷ []) $ closes ! tt (Cr E) new vs rb ro $
    returns ! (look_at ! 0 refl) $ free_all ! refl $ feq_i ! (List Val) (vunit ∷ []) (vunit ∷ []) refl $ move ! (1 ∷ 2 ∷ 3 ∷ 4 ∷ 0 ∷ []) $
    suffices ! _ (ends_at 𝓛 ended hs c z vunit tt (new, (tt, (tt, (tt, tt)))) (tt, (tt, (tt, (tt, tt))))) $ says ! refl $
    move ! (2 ∷ 3 ∷ []) $ join ! $ frame ! $ feq_i ! (List Val) z.0.4.0 (vptr rb ro ∷ []) passed $ fjoin3 ! $ nothing ! $ nothing ! $ fjoin ! $ nothing ! $ fjoin ! $ nothing ! $ fjoin ! $ move ! (1 ∷ 0 ∷ []) $ fjoin ! $ done !)))))))))
