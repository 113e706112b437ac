-- What the proofs of this crate take from the libraries, from the crates below and from its specs.
pub use Rattle.std.proofs.Common.{IfNone, List, None, Option, Some, [], add-one, ap, append_assoc, arith, codes, drop, drop-cons, get_or, inl, inr, length, length-set, not, refl, rules, set, subst, suc, sym, take, take-append-drop, true, zero, ℕ, ◌*◌, ◌++◌, ◌+◌, ◌-◌, ◌<◌, ◌==◌, ◌^◌, ◌∙◌, ◌∷◌, ◌≡◌, ◌≤◌}
pub use Rattle.std.proofs.lemmas.Bool.{and_from, and_parts, cases_Bool}
pub use Rattle.std.proofs.lemmas.Grind.{common_steps, flat_map-append}
pub use Rattle.std.proofs.lemmas.List.{append-nil, drop-set-lt, get_or-take, length-take-le, take_more, take_more_set, take_rest}
pub use Rattle.std.proofs.lemmas.List.Elements.{All-set, recursion_from_All}
pub use Rattle.std.specs.Fmt.{decimal}
pub use Rattle.std.specs.List.{All, AllByRecursion, position_or_len}
pub use Rattle.tmw_events.specs.Text.{FitsKind, digit, event_text, kind_text}
pub use Rattle.tmw_events.specs.declared.event.Event.{Event}
pub use Rattle.tmw_events.specs.declared.ix.Ix.{Ix}
pub use Rattle.tmw_lines.specs.Grammar.{IsNoHeader, items_text}
pub use Rattle.tmw_lines.specs.LineFeeds.{line}
pub use Rattle.tmw_streams.proofs.Puts.{Puts-front, Puts-more}
pub use Rattle.tmw_streams.specs.Transfers.{Puts, Takes}
pub use Rattle.tmw_trace.specs.Text.{FitsEvent, FitsHeader, header_text, initial_text, numbers_text, trace_grammar, values_text, version_digit}
pub use Rattle.tmw_trace.specs.Version.{are_spoken, are_zeros, is_spoken}
pub use Rattle.tmw_trace.specs.declared.header.Header.{Header}
pub use Rattle.tmw_trace.specs.declared.version.Version.{Version}
