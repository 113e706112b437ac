-- What the definitions and contracts of this crate take from the libraries and from the crates below.
pub use Rattle.std.specs.Fmt.{decimal}
pub use Rattle.tmw_lines.specs.LineFeeds.{front_of, line, line_at}
pub use Rattle.tmw_lines.specs.declared.text_fault.TextFault.{TextFault}
pub use Rattle.tmw_streams.specs.Streams.{FromSource, ToSink}
pub use Rattle.tmw_streams.specs.Transfers.{Puts, Takes, TakesBeginning, Tells, one_more}
pub use Rattle.tmw_trace.specs.Text.{version_digit}
