-- The history of threads that carry out scripts is never malformed.
use Rattle.tmw_runs.proofs.Shared.{BeginsScript, Event, FormedLaw, IsTrue, List, arith, is_well_formed, kinds_of, rules, take, ℕ, ◌≡◌}
use Rattle.tmw_defs.specs.declared.verdict.Verdict.{Verdict}
use Rattle.tmw_defs.specs.declared.verdict.Verdict.TheVariants.{Malformed}
use Rattle.tmw_defs.specs.Verdict.{Rules, IsVerdict}
use Rattle.tmw_runs.proofs.Calls.{are_calls-transactions}
use Rattle.tmw_runs.proofs.TurnsOfRuns.{beginning_turns}
use Rattle.tmw_runs.proofs.WellFormed.{is_well_formed-turns_take}

pub formed_law : FormedLaw BeginsScript
formed_law registers history begins =
    is_well_formed-turns_take registers history (λ thread.
    let (script, asks, begin) = begins thread in
    beginning_turns registers script (kinds_of thread history) (are_calls-transactions registers script asks) begin)

-- where each prefix is well-formed, the verdict does not say that one is malformed
pub never_malformed : (rules : Rules) (history : List Event) (verdict : Verdict)
    → ((m : ℕ) → IsTrue (is_well_formed rules.registers (take m history))) → IsVerdict rules history verdict
    → (m : ℕ) → verdict ≡ Malformed m → ⊥
never_malformed rules history verdict formed told m malformed = grind arith
