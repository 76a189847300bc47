-- The names that the proofs by hand cite, of steps, memory and triples. Declares nothing.
pub use Prim.Native.Nat.{ℕ, zero, suc, ◌+◌, ◌-◌, ◌*◌, ◌<◌, ◌≤◌, ◌^◌}
pub use base.Fml.{Fml, Lft, ftrue, fsep, fat, froom, Incl, ffalse, Incl-trans, Share, flft}
pub use base.Fraction.{full_share}
pub use base.Logic.{SProp, ent, sep, emp, ex, guard, via, snd∗, id⊢, mono_r, never, never_e}
pub use contract.BorrowLft.{meet_⊑_left, ◌⊑◌}
pub use contract.Monad.{fact, fact_i, Fun}
pub use contract.Running.{tables}
unfoldable pub use contract.Running.{tables_of}
pub use denote.Array.{Array}
pub use denote.Builtin.{bool, usize, unit, RefOf}
pub use denote.Exit.{yes, no}
pub use denote.Index.{row, whole_out, whole_in}
pub use denote.Laws.{Typed, Is, shows}
pub use denote.Memory.{lone, part_at, mem, hidden_shr}
pub use denote.Param.{param, layout, layouts}
pub use denote.Param.Laws.{Laws, param_laws}
pub use denote.Param.Shared.{copy_shared}
pub use denote.RattleType.{RattleType, Valss, RowLaws, owns}
pub use denote.RawPtr.{Ptr, RawPtr, block_ptr, ptr_val, null_ptr, in_a_block, rawptr_vals, rawptr_Tells}
pub use denote.Ref.{MutRef, Bor, ShrRef}
pub use denote.Shadow.{makes_shadow, pure_i}
pub use denote.SharingLaws.{beside_shr_laws, nothing_shr_laws, said_shr_laws}
pub use denote.Signature.{plain, types_at}
pub use denote.Slice.{elements_shared, slice_val}
pub use denote.Steps.{nothing, peeks, heard, only, opens, closes, owned}
pub use denote.Struct.Laws.{field_copy}
pub use denote.Struct.Lending.{Lends, Lends-both, Lends-nothing, Lends-said, Lends-false, of_Lends}
pub use denote.Struct.Struct.{Shape, Struct, within, Struct-Makes}
pub use denote.Struct.Tuple.{Tuple, tuple_type}
pub use denote.Triple.Call.{calls_at_last, calls_at}
pub use denote.Triple.Clauses.{Clauses, Ended}
pub use denote.Triple.Entry.{alive}
pub use denote.Triple.Spec.{triple_of}
pub use denote.Triple.Statement.{Triple}
pub use denote.Triple.Table.{entered}
pub use denote.Triple.Walked.{says, Stays, stay_dropped, stay_ref, walk_of, ends_at, Goes-dropped, Goes-ref, walk_Meets, walked}
pub use lib.Dec.{T, lit<, ltb→lt, nltb→le}
pub use lib.ListN.{length, take, set, get_or, replicate, take-append-drop, length-take, length-drop, length-set}
pub use mathlib.Core.Bool.{Bool, true, false, not}
pub use mathlib.Core.List.{List, [], ◌∷◌, ◌++◌, map}
pub use mathlib.Core.Path.{◌≡◌, refl, sym, ap, subst, ◌∙◌}
pub use mir.MapTy.{inst_fn}
pub use mir.Syntax.{Ty, ty_array, Fn, named, w64, ty_unit, Body, Args, a_type, ty_int}
pub use mir.Val.{Val, vstruct, vcons, vnil, of_list, vptr, vbool, vint, vunit, has_ty, WT}
pub use native.Mathlib.Nat.{zero-mul, suc-mul}
pub use native.Mathlib.Omega.{arith}
pub use prog.Capped.{capped_fits}
pub use prog.Memory.{Memory, align, capped}
pub use prog.Routine.{Routine}
pub use prog.Wp.{Env, WpFn, Tables, Calls, Loops, Wp, after_seq, at_return, Out, after_block}
unfoldable pub use prog.Wp.{after_turn}
pub use seplogic.Ra.Ura.{Ura}
pub use sound.WpLaws.{WpFn-mono, FmC}
pub use types.ByLocal.{alloc_all, pass_all, free_all, look_at, get, get_in, is, sets, lands_last, env, take_at, give_at, sets_last, through, get_tag, lands_as, holding, forget_but}
pub use types.Kit.{regoal, given, learn, Item, Goal, Seq, Step, step, prop, ‵, raw, some, ◌⊛◌, ◌$◌, ◌∵◌, !, qed, by, move, keep, use0, use1, use2, pick, split, split3, check, show, frame, fsplit, fjoin, fpick, fpack, feq_i, feq_l, rewrite, done, ⋆, later, at_ret, join, fsplit3, fjoin3, flt_l, flt_i, suffices, await, drop, use3, any_q, group, Sq, runs}
pub use types.Logic.{Logic, sem}
pub use types.Match.{live, vrt, in_variant}
pub use types.Part.{whole, sub, agg}
pub use types.Run.{stop, fld, size_word, unit_lit, no_more, and_then, of_opd, bin, first, blocks, exec, returns, enter, init, assigns_last, size_lit, lit, align_word, switches_on, addr, look, load, skips, jumps, branches, forget, loops, again, Below}
pub use Rattle.std.proofs.lemmas.List.{length-map, length-replicate, append-nil}
pub use Rattle.std.specs.Mem.{type_size}
pub use Rattle.std.specs.Prelude.{Option, Some, None, IfOk, Ok, Err, OnErr}
pub use Rattle.std.specs.Vec.Ownership.{FitsInBlock}
pub use Rattle.std.proofs.raw_atomic.Walks.{proved_at}
pub use Rattle.std_alloc.proofs.RawLayout.{as_raw, as_written}
pub use Rattle.std_alloc.proofs.RcSteps.{Good, word, word-Good, first_Good}
pub use Rattle.std_alloc.proofs.ResultValues.{ok_of, err_of}
pub use Rattle.std_alloc.proofs.VecSteps.Shapes.{after, head, arm_body}
pub use Rattle.core.proofs.alloc.Calls.{token, Al, Answer-typed, Takes, at_takes, Answered, Takes-goes, Takes-gives, answers, Goes-blank, Gives, at_gives, Gives-goes, Gives-Gives, Answer}
pub use Rattle.core.proofs.mem.Param.{El, R, el_x, elτ, args}
pub use Rattle.core.proofs.ptr.Rows.{times_below, one_below, el_own, sz, el_out, el_in, apart, one_more}
pub use Rattle.core.proofs.slots.Leases.{uncapped, block_ty, block_size, block_align, P}
pub use Rattle.core.specs.Allocator.{array_of, block_with_items, resized_if_ok}
pub use Rattle.core.specs.Ptr.{memory_before_copy, memory_after_copy, points_to}
pub use Rattle.split_vector.specs.Cells.{LiesApart, Run, run_start, CanMove, beside, IsRun, IsWritten}
pub use Rattle.split_vector.specs.Ownership.{cells_of, deed_owns, slot, slots, slot_lent, slots_lent, fit, cells_own, cells_lent}
