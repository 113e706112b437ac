-- The names that the walks cite.
pub use Rattle.std.proofs.Common.{List, [], refl, ◌∷◌, ◌≡◌}
pub use Rattle.std.proofs.alloc.Calls.{Goes-blank, handle_tells, token}
pub use Rattle.std.specs.Prelude.{IsSome, None, Option, Some}
pub use Rattle.std_alloc.proofs.BoxSteps.Form.{B, Bx, D, P, R, args, box_ty, box_typed, handle, word, τ}
pub use Rattle.std_alloc.proofs.BoxSteps.Steps.{box_in, box_out}
pub use Rattle.std_alloc.specs.Box.Ownership.{box_owns}
pub use Rattle.tmw_handles.specs.Slots.{recorder_owned}
pub use base.Fml.{Fml, GName, Lft, Share, flft, fsep, ftrue}
pub use base.Logic.{SProp, emp, ent, fst∗, id⊢, never, sep}
pub use contract.BorrowLft.{◌⊑◌}
pub use contract.Monad.{Fun, fact}
unfoldable pub use contract.Running.{tables, tables_of}
pub use denote.Exit.{no, yes}
pub use denote.RattleType.{RattleType, Valss, owns}
pub use denote.RawPtr.{Ptr, RawPtr, block_ptr, in_a_block, null_ptr, ptr_val, rawptr_Lawful}
pub use denote.Signature.{Slot, mut_ref_to, plain, type_at}
pub use denote.Steps.{heard, nothing, only, opens}
pub use denote.Struct.Owning.{shape, to}
pub use denote.Struct.Struct.{within}
pub use denote.Triple.Call.{calls_at, calls_at_last}
pub use denote.Triple.Clauses.{Clauses, Ended}
pub use denote.Triple.Spec.{triple_of}
pub use denote.Triple.Statement.{Contract, Triple}
pub use denote.Triple.Table.{entered}
pub use denote.Triple.Walked.{Goes-dropped, Goes-spent_ref, Stays, ends_at, says, stay_dropped, walk_Meets, walk_of}
pub use mathlib.Core.List.{◌++◌}
pub use mathlib.Core.Path.{ap, subst, sym, ◌∙◌}
pub use mir.MapTy.{inst_fn}
pub use mir.Syntax.{Args, Body, Dict, Fn, a_type, assign, copy, dcons, dnil, named, place, return, rv_opd, seq}
pub use mir.Val.{Val, WT, has_ty, of_list, vptr, vstruct}
pub use prog.Memory.{Memory}
pub use prog.Routine.{Routine}
pub use prog.Wp.{Calls, Loops, Tables, WpFn}
pub use seplogic.Ra.Ura.{Ura}
pub use sound.WpLaws.{WpFn-mono, fm_of}
pub use types.ByLocal.{alloc_all, env, free_all, get, get_in, lands_as, lands_last, look_at, pass_all, sets, sets_last, through}
pub use types.Kit.{ !, Item, at_ret, await, by, done, drop, feq_i, feq_l, fjoin, fpack, fpick, frame, fsplit, fsplit3, group, join, keep, later, move, pick, qed, raw, rewrite, some, split, split3, suffices, use1, ‵, ⋆, ◌$◌, ◌∵◌, ◌⊛◌}
pub use types.Logic.{Logic, sem}
pub use types.Part.{agg, look_in, sub, whole}
pub use types.Run.{addr, and_then, blocks, enter, exec, first, fld, load, no_more, of_opd, returns, stop}
