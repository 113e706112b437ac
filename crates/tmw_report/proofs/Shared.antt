-- What the proofs of this crate take from the libraries, from the crates below and from its specs.
pub use Rattle.std.proofs.Common.{Err, List, Ok, Result, Some, [], ap, append-nil, append_assoc, arith, codes, decimal, drop, false, get_or, inl, inr, length, length-take, nat_lt, refl, subst, sym, take, true, ℕ, ◌++◌, ◌+◌, ◌==◌, ◌∙◌, ◌∷◌, ◌≡◌}
pub use Rattle.std.proofs.lemmas.List.{take-take, take_min}
pub use Rattle.tmw_streams.proofs.Puts.{Puts-front, Puts-more}
pub use Rattle.tmw_streams.specs.Transfers.{Puts, Takes}
pub use Rattle.tmw_trace.specs.Text.{trace_grammar, trace_text, version_digit}
pub use Rattle.tmw_report.specs.Quote.{QuotesLine, advice_of, empty_text, escaped, escaped_byte, is_empty_header, number_of, quote_end, quoted, version_in, wrong_of}
pub use Rattle.tmw_report.specs.QuotesHeld.{QuotesHeld, text_of}
pub use Rattle.tmw_report.specs.SendText.{IsSent, fault_of}
