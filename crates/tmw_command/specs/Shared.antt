-- What the definitions and contracts of this crate take from the libraries and from the crates below.
pub use Rattle.std.specs.Bool.{MatchBool}
pub use Rattle.tmw_args.specs.declared.bench_options.BenchOptions.{BenchOptions}
pub use Rattle.tmw_args.specs.declared.which_memory.Which.{Which}
pub use Rattle.tmw_counts.specs.CountedPart.{is_open}
pub use Rattle.tmw_defs.specs.declared.criterion.Criterion.TheVariants.{Opacity}
pub use Rattle.tmw_drive_command.specs.DriveRun.{IsHeaderOf, asked_line, driven_line, driven_status, log_text}
pub use Rattle.tmw_report.specs.Lines.{fault_line, report_text}
pub use Rattle.tmw_report.specs.Remark.{IsRemarkedRun, Remarks, RemarksRun, nothing_shown_if}
pub use Rattle.tmw_report.specs.SendText.{IsPut, IsSent}
pub use Rattle.tmw_report.specs.declared.fault.Fault.{Fault}
pub use Rattle.tmw_report.specs.declared.fault.Fault.TheVariants.{Memory}
pub use Rattle.tmw_show.specs.NeededEvents.{IsNeededOf}
pub use Rattle.tmw_show.specs.RunShow.{ShowsBytes, shown_status, shown_text}
pub use Rattle.tmw_streams.specs.Streams.{FromSource, ToSink}
pub use Rattle.tmw_tm.specs.Memory.{MemoryIs, memory_is}
