-- What the definitions and contracts of this crate take from the libraries and from the crates below.
pub use Rattle.serde_json.specs.View.{items_of, view}
pub use Rattle.tmw_args.specs.declared.run_options.RunOptions.{RunOptions}
pub use Rattle.tmw_defs.specs.Opaque.{zeros}
pub use Rattle.tmw_events.specs.declared.registers.Registers.{Registers}
pub use Rattle.tmw_report.specs.CommandRun.{IsCommandRun, failures_after_answer}
pub use Rattle.tmw_report.specs.Lines.{fault_line, report_text, verdict_status}
pub use Rattle.tmw_report.specs.declared.fault.Fault.{Fault}
pub use Rattle.tmw_report.specs.declared.fault.Fault.TheVariants.{Io, Json, Memory, Shape}
pub use Rattle.tmw_streams.specs.Transfers.{Puts, Tells}
pub use Rattle.tmw_tm.specs.Memory.{MemoryIs, memory_is}
pub use Rattle.tmw_workers.specs.declared.ending.Ending.{Ending}
