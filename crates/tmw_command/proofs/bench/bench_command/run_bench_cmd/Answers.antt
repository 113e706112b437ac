-- Where the lines found no memory, that fault answers, which is right of all bytes.
use Rattle.tmw_command.proofs.Shared.{Err, Memory, Ok, asks_for_log, false, inl, inr, refl, rules, true, ◌≡◌}
use Rattle.tmw_report.proofs.Remarks.{remarked_run}
use Rattle.tmw_command.proofs.bench.bench_command.run_bench_cmd.Goals as goal

pub returns-in-Ok : goal.returns-in-Ok
returns-in-Ok g c =
    let told = c.in-Ok.ensures.right in
    let is : asks_for_log c.args.options.now ≡ true = search rules in
    rw is (elim c.answer_run.ensures [
      | inl done ↦ remarked_run told.0 (Ok c.in-Ok.found) told.1 told.2 c.in-Ok.ensures.failures done.0 done.1
      | inr done ↦ remarked_run told.0 (Err Memory) told.1 tt c.in-Ok.ensures.failures done.0 done.1
    ])

pub returns-in-Ok-hunt_source : goal.returns-in-Ok-hunt_source
returns-in-Ok-hunt_source g c =
    let told = c.in-Ok-hunt_source.ensures.right in
    let is : asks_for_log c.args.options.now ≡ false = search rules in
    rw is (elim c.answer_hunt.ensures [
      | inl done ↦ remarked_run told.0 (Ok c.in-Ok-hunt_source.found) told.1 told.2 c.in-Ok-hunt_source.ensures.failures done.0 done.1
      | inr done ↦ remarked_run told.0 (Err Memory) told.1 tt c.in-Ok-hunt_source.ensures.failures done.0 done.1
    ])

pub returns-in-Err : goal.returns-in-Err
returns-in-Err g c =
    let told = c.in-Err.ensures.right in
    let is : asks_for_log c.args.options.now ≡ true = search rules in
    rw is (remarked_run told.0 (Err c.in-Err.fault) told.1 told.2 c.in-Err.ensures.failures c.answer_fault.ensures refl)

pub returns-in-Err-hunt_source : goal.returns-in-Err-hunt_source
returns-in-Err-hunt_source g c =
    let told = c.in-Err-hunt_source.ensures.right in
    let is : asks_for_log c.args.options.now ≡ false = search rules in
    let put = c.answer_fault-in-Err-hunt_source.ensures in
    rw is (remarked_run told.0 (Err c.in-Err-hunt_source.fault) told.1 told.2 c.in-Err-hunt_source.ensures.failures put refl)
