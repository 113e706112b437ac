-- A log of rounds is never malformed: each thread's events begin a run of its script, repeated.
use Rattle.tmw_bench.proofs.Shared.{All, Answer, AreWholeRounds, Call, Ending, EndsRound, Event, Headline, IsBeginning, IsFirst, IsInRounds, IsMalformed, IsTrue, IsWholeRun, Kind, List, Malformed, Rules, Verdict, WriterIs, [], ap, append-nil, append_assoc, are_transactions, arith, both_ways, cases_lt, get_or, get_or_past, inl, inr, kinds_of, kinds_of-append, length, no_kinds, refl, rules, script_at, subst, suc, sym, take, zero, ℕ, ◌<◌, ◌∙◌, ◌≡◌, ◌≢◌}
use Rattle.tmw_defs.specs.History.{is_well_formed}
use Rattle.tmw_runs.proofs.LongerRuns.{whole_run-append}
use Rattle.tmw_bench.proofs.InRounds.{some_writer}
use Rattle.tmw_workers.proofs.RunsAgain.{repeated, are_transactions-repeated, beginning-append, repeated-nil}
use Rattle.tmw_workers.specs.declared.ending.Ending.TheVariants.{Done}
use Rattle.tmw_runs.proofs.NeverMalformed.{formed_law}

-- a thread's events of whole rounds are a whole run of its script, repeated
whole_run-rounds : (rules : Rules) (gives : Call → Answer → Type 0) (scripts : List (List (List Kind))) (count : ℕ) (log : List Event)
    → AreWholeRounds rules gives scripts count log → (thread : ℕ) → thread < length scripts
    → IsWholeRun (repeated count (script_at scripts thread)) (kinds_of thread log)
whole_run-rounds rules gives scripts zero log none_done thread low = ap (kinds_of thread) none_done
whole_run-rounds rules gives scripts (suc count) log (before, round, parts, whole, last, told) thread low =
    let more = whole_run-rounds rules gives scripts count before whole thread low in
    grind (arith, script_at, repeated, kinds_of, kinds_of-append, whole_run-append)

begins-ends_round : (script : List (List Kind)) (kinds : List Kind) (start places : ℕ) (ending : Ending) (writer : WriterIs)
    → EndsRound script kinds start places ending writer → IsBeginning script kinds
begins-ends_round script kinds start places ending writer whole =
    grind (arith, append-nil, append_assoc)

-- each thread's events begin a run of its script, repeated
begins-in_rounds : (rules : Rules) (gives : Call → Answer → Type 0) (scripts : List (List (List Kind))) (earlier : ℕ) (log : List Event)
    (ends : List Ending) (writers : List WriterIs) → length writers ≡ length scripts
    → All (λ event. event.thread.number < length scripts) log → IsInRounds rules gives scripts earlier log ends writers
    → (thread : ℕ) → IsBeginning (repeated (suc earlier) (script_at scripts thread)) (kinds_of thread log)
begins-in_rounds rules gives scripts earlier log ends writers counted own rounds thread =
    elim (cases_lt thread (length scripts)) [
      | inl low ↦
          let script = script_at scripts thread in
          let writer = some_writer writers thread (subst (λ (n : ℕ). thread < n) (sym counted) low) in
          let last : IsBeginning script (kinds_of thread rounds.round) =
          begins-ends_round script (kinds_of thread rounds.round) (length rounds.before) (length log) (get_or ends thread Done) (get_or writers thread writer)
          (rounds.ended thread Done writer low) in
          subst (IsBeginning (repeated (suc earlier) script))
          (sym (ap (kinds_of thread) rounds.parts ∙ kinds_of-append thread rounds.before rounds.round))
          (beginning-append (repeated earlier script) script (kinds_of thread rounds.before) (kinds_of thread rounds.round)
          (whole_run-rounds rules gives scripts earlier rounds.before rounds.whole thread low) last)
      | inr past ↦
          let script : repeated (suc earlier) (script_at scripts thread) ≡ []
          = ap (repeated (suc earlier)) (get_or_past scripts thread [] past) ∙ repeated-nil (suc earlier) in
          let none_done : kinds_of thread log ≡ [] = no_kinds (length scripts) thread log own past in
          subst (λ (s : List (List Kind)). IsBeginning s (kinds_of thread log)) (sym script)
          (subst (λ (k : List Kind). IsBeginning [] k) (sym none_done) ([], refl))
    ]

-- each prefix of the log is well-formed
pub well_formed-in_rounds : (rules : Rules) (gives : Call → Answer → Type 0) (scripts : List (List (List Kind))) (earlier : ℕ) (log : List Event)
    (ends : List Ending) (writers : List WriterIs) → ((thread : ℕ) → IsTrue (are_transactions rules.registers (script_at scripts thread)))
    → length writers ≡ length scripts → All (λ event. event.thread.number < length scripts) log
    → IsInRounds rules gives scripts earlier log ends writers
    → (m : ℕ) → IsTrue (is_well_formed rules.registers (take m log))
well_formed-in_rounds rules gives scripts earlier log ends writers asks counted own rounds =
    formed_law rules.registers log (λ thread. (
      repeated (suc earlier) (script_at scripts thread),
      are_transactions-repeated rules.registers (suc earlier) (script_at scripts thread) (asks thread),
      begins-in_rounds rules gives scripts earlier log ends writers counted own rounds thread,
    ))

-- so the verdict on it does not say that it is malformed
pub formed-in_rounds : (rules : Rules) (gives : Call → Answer → Type 0) (scripts : List (List (List Kind))) (earlier : ℕ) (log : List Event)
    (ends : List Ending) (writers : List WriterIs) (verdict : Verdict)
    → ((thread : ℕ) → IsTrue (are_transactions rules.registers (script_at scripts thread)))
    → length writers ≡ length scripts → All (λ event. event.thread.number < length scripts) log
    → IsInRounds rules gives scripts earlier log ends writers → Headline rules log writers log verdict
    → (events : ℕ) → verdict ≢ Malformed events
formed-in_rounds rules gives scripts earlier log ends writers verdict asks counted own rounds headline events malformed =
    let first : IsFirst IsMalformed rules log events = (headline.malformed events).0 malformed in
    both_ways (is_well_formed rules.registers (take events log)) first.here.ill_formed
    (well_formed-in_rounds rules gives scripts earlier log ends writers asks counted own rounds events)
