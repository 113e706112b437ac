-- The names that the walks cite.
pub use Rattle.tmw_cuts.specs.contracts.ghost_list.GhostList.{the_row as ListOf}
pub use base.Logic.{SProp, ent, fst∗, via}
pub use contract.Lifetimes.{Lfts, Shares}
pub use contract.Monad.{Fun}
unfoldable pub use contract.Running.{tables, tables_of}
pub use denote.Param.{layouts, param}
pub use denote.RattleType.{RattleType, owns}
pub use denote.Shadow.{pure_i}
pub use denote.Triple.Clauses.{Ended}
pub use denote.Triple.Entry.{alive, on_entry}
pub use denote.Triple.Spec.{Meets, triple_of}
pub use denote.Triple.Table.{entered}
pub use denote.Triple.Walked.{Stays, ends_at, says, walk_Meets, walk_of, walked}
pub use mathlib.Core.List.{[], ◌∷◌}
pub use mathlib.Core.Path.{refl}
pub use mir.MapTy.{inst_fn}
pub use mir.Syntax.{Args, Fn, a_type}
pub use mir.Val.{Val, vcons, vnil, vstruct}
pub use prog.Memory.{Memory}
pub use prog.Routine.{Routine}
pub use prog.Wp.{Calls, Loops, Tables, WpFn}
pub use seplogic.Ra.Ura.{Ura}
pub use sound.WpLaws.{WpFn-mono}
pub use types.ByLocal.{alloc_all, free_all, get, look_at, pass_all, sets}
pub use types.Kit.{ !, done, move, qed, raw, suffices, ‵, ◌$◌, ◌∵◌}
pub use types.Logic.{Logic}
pub use types.Part.{agg}
pub use types.Run.{and_then, enter, no_more, returns}

abbrev pub args : RattleType → Args
args T = layouts (a_type ∷ []) (T, tt)

-- the machine value of a list, which holds nothing
abbrev pub empty : Val
empty = vstruct (vcons (vstruct vnil) vnil)
