-- What answers a workload that was read answers the source that told its text.
use Rattle.tmw_command.proofs.Shared.{Err, IsHunted, IsNoBench, IsTrue, List, Memory, MemoryIs, Ok, Result, hunted_of, length, script_of, scripts_of, subst, sym, text_over, ℕ, ◌≡◌, ◌≤◌}
use Rattle.tmw_report.specs.declared.fault.Fault.{Fault}
use Rattle.tmw_workloads.specs.Json.{IsWorkloadText}
use Rattle.tmw_workloads.specs.declared.workload.Workload.{Workload}
use Rattle.std.specs.Prelude.{IfErr, IfOk}
use Rattle.std.proofs.lemmas.List.{length-map}
use Rattle.tmw_args.specs.declared.bench_options.BenchOptions.{BenchOptions}
use Rattle.tmw_defs.specs.declared.criterion.Criterion.TheVariants.{Opacity}
use Rattle.tmw_show.specs.NeededEvents.{IsNeededOf}
use Rattle.tmw_command.specs.RunBench.{AnswersHunt, IsHuntedFrom, IsNoBenchFrom, IsRightFault, fault_of}
use Rattle.tmw_command.specs.declared.bench.hunt_run.HuntRun.{HuntRun}
use Rattle.tmw_workers.specs.declared.fault.BenchFault.{BenchFault}
use Rattle.tmw_bench.specs.declared.hunt_result.HuntResult.{HuntResult}
use Rattle.tmw_options.specs.declared.bench_settings.Settings.{Settings}
use Rattle.tmw_workloads.specs.Workload.{is_workload}
use Rattle.tmw_workers.specs.declared.fault.BenchFault.TheVariants.{Memory as LacksMemory, Registers as LacksRegisters, Ring as HasNoRing, Spawn as LacksThreads}
use Rattle.tmw_events.specs.declared.registers.Registers.{Registers as Width}

module _ (has : ℕ) (Ended : Type 0) (settings : Settings) (bytes : List ℕ) where
  -- the fault is right by which no run was judged to its end
  right-no_bench : (fault : BenchFault) → Ended → IsNoBenchFrom has settings bytes fault → IsRightFault has Ended settings bytes (fault_of fault)
  right-no_bench LacksRegisters ended none = (ended, none)
  right-no_bench (HasNoRing fault) ended none = (ended, fault, none)
  right-no_bench LacksMemory ended none = tt
  right-no_bench LacksThreads ended none = (ended, none)

  pub right-bench : (workload : Workload) (fault : BenchFault) → Ended
      → IsWorkloadText workload.registers.number (scripts_of workload.scripts.items) workload.order.items bytes
      → IsNoBench has workload.registers.number (length workload.scripts.items) settings fault
      → IsRightFault has Ended settings bytes (fault_of fault)
  right-bench workload fault ended text none = right-no_bench fault ended (record {
    registers = workload.registers;
    workload = text_over workload bytes text;
    none = subst (λ (count : ℕ). IsNoBench has workload.registers.number count settings fault) (sym (length-map workload.scripts.items script_of)) none;
  })

-- what threads have made of the text of a workload
hunted-from : (memory : MemoryIs) (workload : Workload) (options : BenchOptions) (bytes : List ℕ) (hunted : HuntResult) (run : HuntRun)
    → IsWorkloadText workload.registers.number (scripts_of workload.scripts.items) workload.order.items bytes
    → workload.registers.number ≤ memory.registers → run.shown.registers ≡ workload.registers → hunted_of run ≡ hunted
    → IsNeededOf Opacity options.why run.shown.registers run.shown.showing run.shown.needed
    → IsHunted memory.gives workload.registers (scripts_of workload.scripts.items) options.settings hunted
    → IsHuntedFrom memory options bytes run
hunted-from memory workload options bytes hunted run text enough registers same needed made = record {
  enough = subst (λ (r : Width). r.number ≤ memory.registers) (sym registers) enough;
  workload = record {
    scripts = scripts_of workload.scripts.items;
    order = workload.order.items;
    is = subst (λ (r : Width). IsTrue (is_workload r.number (scripts_of workload.scripts.items) workload.order.items)) (sym registers) workload.is;
    text = subst (λ (r : Width). IsWorkloadText r.number (scripts_of workload.scripts.items) workload.order.items bytes) (sym registers) text;
  };
  hunted = subst (λ (r : Width). IsHunted memory.gives r (scripts_of workload.scripts.items) options.settings (hunted_of run)) (sym registers)
      (subst (IsHunted memory.gives workload.registers (scripts_of workload.scripts.items) options.settings) (sym same) made);
  needed = needed;
}

-- They answer it, and so does the want of memory for the part of the last window.
pub hunted-answers : (memory : MemoryIs) (workload : Workload) (options : BenchOptions) (Ended : Type 0) (bytes : List ℕ) (hunted : HuntResult)
    (result : Result HuntRun Fault) → Ended
    → IsWorkloadText workload.registers.number (scripts_of workload.scripts.items) workload.order.items bytes
    → workload.registers.number ≤ memory.registers
    → IsHunted memory.gives workload.registers (scripts_of workload.scripts.items) options.settings hunted
    → IfOk result (λ run. run.shown.registers ≡ workload.registers) → IfOk result (λ run. hunted_of run ≡ hunted)
    → IfOk result (λ run. IsNeededOf Opacity options.why run.shown.registers run.shown.showing run.shown.needed)
    → IfErr result (λ fault. fault ≡ Memory) → AnswersHunt memory options Ended bytes result
hunted-answers memory workload options Ended bytes hunted (Ok run) ended text enough made registers same needed none =
    (ended, hunted-from memory workload options bytes hunted run text enough registers same needed made)
hunted-answers memory workload options Ended bytes hunted (Err fault) ended text enough made registers same needed is = rw is tt
