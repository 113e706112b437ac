-- From writers that have claimed whole rounds to the log of these rounds.
use Rattle.tmw_bench.proofs.Shared.{All, All-drop, All-take, AllOpaque, AllStand, Answer, AreWholeRounds, Call, Event, HasPlayed, IsWholeRound, IsWholeRun, Kind, List, Rules, [], all_opaque-take, arith, cases_lt, drop, earlier_played, inl, inr, kinds_of, last_bound, last_bound-within, length, length-take-le, made_from, nil_from_length, no_kinds, opaque_at_last, rules, script_at, subst, sym, take, take-append-drop, true, ℕ, ◌<◌, ◌∷◌, ◌≡◌, ◌≤◌}
use Rattle.tmw_bench.proofs.PlacesUpTo.{cutting}

-- What a thread has done in a log whose last round begins at this length.
pub record RoundAt (gives : Call → Answer → Type 0) (script : List (List Kind)) (earlier : List ℕ) (thread : ℕ) (log : List Event) : Type 0 where
  pub before : HasPlayed gives script earlier (made_from thread 0 (take (last_bound earlier) log))
  pub stands : AllStand gives true (kinds_of thread (drop (last_bound earlier) log))
  pub whole : IsWholeRun script (kinds_of thread (drop (last_bound earlier) log))

round_at : (gives : Call → Answer → Type 0) (script : List (List Kind)) (bound : ℕ) (earlier : List ℕ) (thread : ℕ) (log : List Event)
    → HasPlayed gives script (bound ∷ earlier) (made_from thread 0 log) → last_bound earlier ≤ length log
    → RoundAt gives script earlier thread log
round_at gives script bound earlier thread log (old, fresh, split, played, round) within =
    let cut = cutting thread (last_bound earlier) log old fresh within split (earlier_played gives script earlier old played) round.later in
    record {
      before = subst (HasPlayed gives script earlier) cut.0 played;
      stands = subst (AllStand gives true) cut.1 round.stands;
      whole = subst (IsWholeRun script) cut.1 round.whole;
    }

-- the round behind all earlier ones
is_whole_round : (gives : Call → Answer → Type 0) (scripts : List (List (List Kind))) (bound : ℕ) (earlier : List ℕ) (log : List Event)
    → All (λ event. event.thread.number < length scripts) log → last_bound earlier ≤ length log
    → ((thread : ℕ) → thread < length scripts → HasPlayed gives (script_at scripts thread) (bound ∷ earlier) (made_from thread 0 log))
    → IsWholeRound gives scripts (drop (last_bound earlier) log)
is_whole_round gives scripts bound earlier log own within played = record {
  runs = λ thread low. (round_at gives (script_at scripts thread) bound earlier thread log (played thread low) within).whole;
  stands = λ thread.
      elim (cases_lt thread (length scripts)) [
        | inl low ↦ (round_at gives (script_at scripts thread) bound earlier thread log (played thread low) within).stands
        | inr past ↦
            subst (AllStand gives true) (sym (no_kinds (length scripts) thread (drop (last_bound earlier) log)
            (All-drop (λ (event : Event). event.thread.number < length scripts) (last_bound earlier) log own) past)) tt
      ];
}

-- where each writer has claimed whole rounds, and the log ends with the last of them, the log is these rounds
pub are_whole_rounds : (rules : Rules) (gives : Call → Answer → Type 0) (scripts : List (List (List Kind))) (bounds : List ℕ) (log : List Event)
    → All (λ event. event.thread.number < length scripts) log
    → ((thread : ℕ) → thread < length scripts → HasPlayed gives (script_at scripts thread) bounds (made_from thread 0 log))
    → last_bound bounds ≡ length log → AllOpaque rules bounds log → AreWholeRounds rules gives scripts (length bounds) log
are_whole_rounds rules gives scripts [] log own played over opaque = nil_from_length log (sym over)
are_whole_rounds rules gives scripts (bound ∷ earlier) log own played over opaque =
    let start = last_bound earlier in
    let told : AllOpaque rules earlier log = opaque.3 in
    let within = last_bound-within rules earlier log told in
    let before = are_whole_rounds rules gives scripts earlier (take start log)
    (All-take (λ (event : Event). event.thread.number < length scripts) start log own)
    (λ thread low. (round_at gives (script_at scripts thread) bound earlier thread log (played thread low) within).before)
    (sym (length-take-le start log within))
    (all_opaque-take rules earlier log start told (omega arith) within) in (
      take start log,
      drop start log,
      sym (take-append-drop start log),
      before,
      is_whole_round gives scripts bound earlier log own within played,
      opaque_at_last rules bound earlier log opaque over,
    )
