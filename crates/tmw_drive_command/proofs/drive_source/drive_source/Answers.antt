-- The workload that was read was driven, and its log has the header; or it was not, by the fault that is answered.
use Rattle.std.proofs.Common.{List, ap, arith, length, refl, subst, sym, ◌-◌, ◌<◌, ◌^◌}
use Rattle.tmw_defs.specs.Opaque.{zeros}
use Rattle.tmw_counts.specs.CountedPart.{part_by}
use Rattle.tmw_counts.specs.Summary.{IsSummary}
use Rattle.tmw_defs.specs.Verdict.{IsVerdict}
use Rattle.tmw_drive_command.proofs.DriveAnswers.{right-drive, text_over}
use Rattle.tmw_drive_command.specs.DriveRun.{IsHeaderOf}
use Rattle.tmw_events.specs.declared.event.Event.{Event}
use Rattle.tmw_monitor.specs.Fits.{rules_of}
use Rattle.tmw_drive_command.proofs.drive_source.drive_source.Goals as goal

pub returns-in-Err-clause-right : goal.returns-in-Err-clause-right
returns-in-Err-clause-right g c =
    let told = c.in_ok-workload.ensures.right in
    rw c.fault_of.ensures (told.0, told.1, right-drive _ _ c.in_ok-workload.workload told.0 c.in-Err.fault told.2.0 told.2.1 c.in-Err.ensures.too_few.0)

pub returns-clause-right : goal.returns-clause-right
returns-clause-right g c =
    let told = c.in_ok-workload.ensures.right in
    let workload = c.in_ok-workload.workload in
    let by = rules_of workload.registers zeros c.args.bounds in
    let few = c.in-Ok.ensures.few in
    let size = ap (λ (log : List Event). length log) c.deref.ensures.value in
    let low : length c.deref.result.now < 2 ^ 64 - 1 = omega (arith, few, size) in
    let judged : IsVerdict by c.deref.result.now c.in-Ok.outcome.verdict =
    subst (λ (log : List Event). IsVerdict by log c.in-Ok.outcome.verdict) (sym c.deref.ensures.value) c.in-Ok.ensures.verdict in (
      told.0,
      told.1,
      (
        told.2.0,
        record {
          registers = workload.registers;
          enough = c.in-Ok.ensures.enough;
          workload = text_over workload told.0 told.2.1;
          header = subst (λ (log : List Event). IsHeaderOf workload.registers log c.header_of.result) c.deref-2.ensures.value c.header_of.ensures;
          made = c.in-Ok.ensures.driven;
          judged = c.in-Ok.ensures.verdict;
          formed = c.in-Ok.ensures.formed;
          summary = subst (λ (log : List Event). IsSummary (part_by c.in-Ok.outcome.verdict log) c.count_part-summary.result) c.deref.ensures.value
              (c.count_part-summary.ensures by refl low judged);
        },
      ),
    )
