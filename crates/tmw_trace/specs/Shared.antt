-- What the definitions and contracts of this crate take from the libraries and from the crates below.
pub use Rattle.std.proofs.Common.{[], ap, arith, false, get_or, length-append, length-drop, not, refl, subst, sym, take-append-drop}
pub use Rattle.std.proofs.lemmas.Bool.{and_from, and_parts, eqb-true}
pub use Rattle.std.proofs.lemmas.Fmt.{decimal_injective, length-decimal-le}
pub use Rattle.std.proofs.lemmas.List.Elements.{All-take, recursion_from_All}
pub use Rattle.std.specs.Fmt.{decimal}
pub use Rattle.std.specs.List.{AllByRecursion, flat_map, list_all}
pub use Rattle.tmw_events.proofs.Same.{same_ix}
pub use Rattle.tmw_events.specs.Text.{FitsKind, digit, event_text, kind_text}
pub use Rattle.tmw_events.specs.declared.event.Event.{Event}
pub use Rattle.tmw_events.specs.declared.event.Kind.{Kind}
pub use Rattle.tmw_events.specs.declared.event.Kind.TheVariants.{A, C, K, N, R, T, V, W, X}
pub use Rattle.tmw_events.specs.declared.registers.Registers.{Registers}
pub use Rattle.tmw_lines.proofs.Splits.{free-append, free-decimal, split_free}
pub use Rattle.tmw_lines.specs.FreeParts.{IsFree, is_next}
pub use Rattle.tmw_lines.specs.Grammar.{AllFit, AreLines, Grammar, IsNaming, IsNoHeader, IsNoItem, lines_text}
pub use Rattle.tmw_lines.specs.LineFeeds.{line}
pub use Rattle.tmw_streams.specs.Transfers.{Puts, Tells}
