-- What the proofs of this crate take from the libraries, from the crates below and from its specs.
pub use Rattle.std.proofs.Common.{Err, IsTrue, List, Ok, Result, ap, false, inl, inr, length, refl, rules, subst, sym, true, ℕ, ◌∙◌, ◌≡◌, ◌≤◌}
pub use Rattle.tmw_bench.specs.BenchHeadline.{IsBenched, IsHunted, IsNoBench}
pub use Rattle.tmw_drive_command.proofs.DriveAnswers.{text_over}
pub use Rattle.tmw_report.specs.declared.fault.Fault.TheVariants.{Memory}
pub use Rattle.tmw_runs.specs.Scripts.{script_of, scripts_of}
pub use Rattle.tmw_tm.specs.Memory.{MemoryIs, memory_is}
pub use Rattle.tmw_command.specs.BenchRun.{asks_for_log, hunted_of}
