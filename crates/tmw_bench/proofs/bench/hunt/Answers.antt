-- The last window of the log is kept.
use Rattle.tmw_bench.proofs.Shared.{Fits, Front, HasBenched, Verdict, ap, front_part, rules_of, scripts_of, subst, sym, verdict-one, zeros, ◌∙◌, ◌≡◌}
use Rattle.tmw_counts.specs.Summary.{IsSummary}
use Rattle.tmw_counts.specs.CountedPart.{part_by}
use Rattle.tmw_monitor.specs.declared.monitor.Monitor.{Monitor}
use Rattle.tmw_window.specs.KeptWindow.{KeepsShown}
use Rattle.tmw_bench.proofs.bench.hunt.Goals as goal

pub returns-clause-ok : goal.returns-clause-ok
returns-clause-ok g c =
    let workload = c.args.workload.now in
    let scripts = scripts_of workload.scripts.items in
    let gives = (goal.Tm-dyn g c.args.memory.now).gives c.args.memory.now.1 in
    let rules = rules_of workload.registers zeros c.args.settings.bounds in
    let carried = c.in_ok-carried.carried in
    let done = c.in_ok-carried.ensures.ok in
    let log = carried.rest.front.judged.items in
    let back = c.into_kept-front.ensures in
    let same = sym (c.monitor.ensures ∙ ap (λ (front : Front). front.monitor) back.front) in
    let shown = c.finish.ensures rules log (subst (λ (m : Monitor). Fits rules log m) same done.kept.fits)
    (subst (λ kept. KeepsShown rules log c.monitor.result.now.verdict kept.window) (sym back.kept)
    (subst (λ (m : Monitor). KeepsShown rules log m.verdict carried.rest.kept.window) same done.kept.keeps_it)) in
    let verdict : carried.rest.front.monitor.verdict ≡ c.finish.result.verdict =
    verdict-one rules log carried.rest.front.monitor.verdict c.finish.result.verdict done.kept.fits.judged shown.judged in record {
      log = log;
      benched = subst (λ (v : Verdict). HasBenched gives workload.registers scripts c.args.settings log v carried.ends.items carried.rounds) verdict
          done.benched;
      shown = shown;
      summary = subst (λ (v : Verdict). IsSummary (part_by v log) c.summary.result) verdict
          (subst (λ (front : Front). IsSummary (front_part front) c.summary.result) back.front c.summary.ensures);
    }
