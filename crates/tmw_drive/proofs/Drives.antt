-- What the players have recorded when the order is done.
use Rattle.tmw_drive.proofs.Shared.{All, All-nil, AllEnd, AllPlay, Answer, Call, Drives, Ending, EndsAs, Event, IsDriven, IsEnding, IsTrue, IsVerdict, Kind, List, None, Option, Player, Plays, Rules, Some, [], append-nil, are_transactions-workload, arith, beginning-plays, cases_lt, get_or, get_or_past, inl, inr, kinds_of, left_of, length, length-order, next_of, no_kinds, not_whole-plays, refl, rules, script_at, subst, sym, true, whole-plays, within-order, ℕ, ◌<◌, ◌^◌, ◌∙◌, ◌≡◌, ◌≤◌}
use Rattle.tmw_runs.specs.AnswersStand.{AllStand}
use Rattle.tmw_runs.specs.Runs.{IsBeginning}
use Rattle.tmw_workloads.specs.Workload.{is_workload}
use Rattle.tmw_runs.proofs.Stands.{so_far_all}
use Rattle.tmw_defs.specs.declared.verdict.Verdict.{Verdict}
use Rattle.tmw_defs.specs.declared.verdict.Verdict.TheVariants.{Malformed}
use Rattle.tmw_drive.proofs.Entries.{length-drives, own-drives}
use Rattle.tmw_workers.specs.declared.ending.Ending.TheVariants.{Done}
use Rattle.tmw_runs.proofs.NeverMalformed.{formed_law, never_malformed}

-- the ending of a player is that of its run
ends_as-plays : (gives : Call → Answer → Type 0) (script : List (List Kind)) (player : Player) (kinds : List Kind) (ending : Ending)
    → Plays gives script player kinds → IsEnding (next_of (left_of script player)) ending → EndsAs script kinds ending
ends_as-plays gives script player kinds ending plays is = by_next (next_of (left_of script player)) refl is
  where
    by_next : (next : Option Kind) → next_of (left_of script player) ≡ next → IsEnding next ending → EndsAs script kinds ending
    by_next None none is = subst (EndsAs script kinds) (sym is) (whole-plays gives script player kinds plays none)
    by_next (Some call) some is =
        subst (EndsAs script kinds) (sym is)
        (beginning-plays gives script player kinds plays, not_whole-plays gives script player kinds call plays some)

some_player : (players : List Player) (place : ℕ) → place < length players → Player
some_player players place low = grind arith

-- the players' log is what the scripts make of the memory
pub is_driven : (gives : Call → Answer → Type 0) (registers : ℕ) (scripts : List (List (List Kind))) (order : List ℕ)
    (players : List Player) (log : List Event) (ends : List Ending) → IsTrue (is_workload registers scripts order)
    → AllPlay gives scripts players log → Drives scripts [] order log → AllEnd scripts players ends
    → IsDriven gives scripts order log ends
is_driven gives registers scripts order players log ends is all drives ended = record {
  driven = drives;
  stands = λ thread. stands_at thread;
  counted = ended.counted ∙ all.counted;
  ended = λ thread fallback low. ends_at thread fallback low;
  own = own;
}
  where
    own : All (λ event. event.thread.number < length scripts) log
    own = own-drives scripts (length scripts) [] order log (within-order registers scripts order is) drives
        (All-nil (λ event. event.thread.number < length scripts))

    stands_at : (thread : ℕ) → AllStand gives true (kinds_of thread log)
    stands_at thread =
        elim (cases_lt thread (length players)) [
          | inl low ↦
              so_far_all gives (kinds_of thread log) _ (all.each thread (some_player players thread low) low).stands
          | inr past ↦
              subst (AllStand gives true) (sym (no_kinds (length scripts) thread log own (subst (λ n. n ≤ thread) all.counted past))) tt
        ]

    ends_at : (thread : ℕ) (fallback : Ending) → thread < length scripts
        → EndsAs (script_at scripts thread) (kinds_of thread log) (get_or ends thread fallback)
    ends_at thread fallback low =
        let below : thread < length players = subst (λ n. thread < n) (sym all.counted) low in
        let within : thread < length ends = subst (λ n. thread < n) (sym ended.counted) below in
        let player = some_player players thread below in
        ends_as-plays gives (script_at scripts thread) (get_or players thread player) (kinds_of thread log) (get_or ends thread fallback)
        (all.each thread player below) (ended.each thread fallback within player)

begins-ends_as : (script : List (List Kind)) (kinds : List Kind) (ending : Ending) → EndsAs script kinds ending → IsBeginning script kinds
begins-ends_as script kinds ending whole = grind (arith, append-nil)

-- each thread's events begin a run of its script
begins-driven : (gives : Call → Answer → Type 0) (scripts : List (List (List Kind))) (order : List ℕ) (log : List Event) (ends : List Ending)
    → IsDriven gives scripts order log ends → (thread : ℕ) → IsBeginning (script_at scripts thread) (kinds_of thread log)
begins-driven gives scripts order log ends driven thread =
    elim (cases_lt thread (length scripts)) [
      | inl low ↦ begins-ends_as (script_at scripts thread) (kinds_of thread log) (get_or ends thread Done) (driven.ended thread Done low)
      | inr past ↦ grind (arith, script_at, get_or_past, kinds_of, no_kinds, length)
    ]

-- no verdict on the log says that it is malformed
pub formed-driven : (gives : Call → Answer → Type 0) (rules : Rules) (scripts : List (List (List Kind))) (order : List ℕ) (log : List Event)
    (ends : List Ending) (verdict : Verdict) → IsTrue (is_workload rules.registers scripts order) → IsDriven gives scripts order log ends
    → IsVerdict rules log verdict → (events : ℕ) → verdict ≡ Malformed events → ⊥
formed-driven gives rules scripts order log ends verdict is driven told =
    never_malformed rules log verdict (formed_law rules.registers log (λ thread. (
      script_at scripts thread,
      are_transactions-workload
          rules.registers scripts order is thread,
      begins-driven gives scripts order log ends driven thread,
    ))) told

-- the log is short enough to be judged
pub length-driven : (gives : Call → Answer → Type 0) (registers : ℕ) (scripts : List (List (List Kind))) (order : List ℕ) (log : List Event)
    (ends : List Ending) → IsTrue (is_workload registers scripts order) → IsDriven gives scripts order log ends → length log ≤ 2 ^ 40
length-driven gives registers scripts order log ends is driven =
    grind (arith, length-drives, length-order)
