-- What the proofs of this crate take from the libraries, from the crates below and from its specs.
pub use Rattle.std.proofs.Common.{Err, List, None, Ok, Result, Some, [], ap, append-nil, append_assoc, arith, drop, get_or, inl, inr, length, length-append, length-drop, length-set, length-take, not, refl, set, subst, suc, sym, take, take-append-drop, true, ℕ, ◌++◌, ◌+◌, ◌-◌, ◌<◌, ◌==◌, ◌^◌, ◌∙◌, ◌∷◌, ◌≡◌, ◌≤◌}
pub use Rattle.std.proofs.Math.Seq.{drop-append-add, take-add, take-append-add}
pub use Rattle.std.proofs.lemmas.Grind.{flat_map-append}
pub use Rattle.std.proofs.lemmas.List.{drop-drop, drop-set-lt, drop-take, drop_all, get_or-drop, length-take-le, nil_from_length, take-append-le, take_all, take_more, take_more_set, take_rest}
pub use Rattle.std.proofs.lemmas.List.Elements.{All-append, All-push, recursion_from_All}
pub use Rattle.std.specs.List.{AllByRecursion, position_or_len}
pub use Rattle.tmw_streams.proofs.Transfers.{Tells-more, Tells-none}
pub use Rattle.tmw_streams.specs.Streams.{FromSource}
pub use Rattle.tmw_streams.specs.Transfers.{Reads, Tells}
pub use borrow.Rule.Slice.PartMut.{put_mid}
pub use Rattle.tmw_lines.specs.FreeParts.{IsFree, is_next}
pub use Rattle.tmw_lines.specs.GiveItems.{AreGiven, GivesAll, ReadsToFault}
pub use Rattle.tmw_lines.specs.GiveLines.{AreTaken, AreTakenUpTo}
pub use Rattle.tmw_lines.specs.GiveResult.{AreFirst, GivesItems, GivesUpTo, ReadsHeld}
pub use Rattle.tmw_lines.specs.Grammar.{AllFit, AreLines, Grammar, IsNaming, IsNoHeader, IsNoItem, items_text, lines_text}
pub use Rattle.tmw_lines.specs.LineBuffer.{bytes_of}
pub use Rattle.tmw_lines.specs.LineFeeds.{HoldsFront, behind_front, feed_at, front_of, line, line_at}
pub use Rattle.tmw_lines.specs.LinePiece.{IsSeen}
pub use Rattle.tmw_lines.specs.Lines.{FailsAtLine, HasRead, IsReading, ReadsNext, unread}
pub use Rattle.tmw_lines.specs.LongLine.{HasFeed, Skips}
pub use Rattle.tmw_lines.specs.NextLine.{HasLineFault, IsItemLine, ReadsHeader, ReadsLine}
pub use Rattle.tmw_lines.specs.ReadItems.{AreReadFor, FailsBehind, FailsHolding, HasBegunToRead, ReadsItems}
pub use Rattle.tmw_lines.specs.Taker.{Taking}
pub use Rattle.tmw_lines.specs.TextFault.{BeginsWithBad, EndsSoon, HasBadHeader, HasBegun, HasFirstLineFault, HasTextFault, IsBadLine}
pub use Rattle.tmw_lines.specs.declared.lines.Lines.{Lines}
pub use Rattle.tmw_lines.specs.declared.long_line.LineEnd.TheVariants.{End, Failed, Feed}
pub use Rattle.tmw_lines.specs.declared.text_fault.TextFault.{TextFault}
pub use Rattle.tmw_lines.specs.declared.text_fault.TextFault.TheVariants.{BadHeader, BadLine, Cut, Io, Memory, TooLong}
