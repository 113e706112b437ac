-- From a settled ring, whose writers have claimed whole rounds and a last one, to the log of these rounds.
use Rattle.tmw_bench.proofs.Shared.{All-drop, All-take, AllOpaque, AllStand, Answer, AreEndings, Call, Ending, EndsRound, Event, HasPlayed, HasPlayedLast, HaveAllPlayedLast, IsInRounds, IsLogOfAll, IsSettled, Kind, List, None, Option, ReaderIs, Refused, Rules, WriterIs, all_opaque-take, arith, cases_lt, drop, earlier_played, ending_of, get_or, inl, inr, kinds_of, last_bound, last_bound-within, length, length-take-le, made_from, no_kinds, rules, script_at, subst, sym, take, take-append-drop, true, ℕ, ◌++◌, ◌<◌, ◌∙◌, ◌≡◌, ◌≤◌}
use Rattle.tmw_workers.specs.Work.{EndsWork, FindsFrom}
use Rattle.tmw_bench.proofs.PlacesUpTo.{cutting}
use Rattle.tmw_bench.proofs.WholeRounds.{are_whole_rounds}

-- the log of a settled ring
pub log_of_all-settled : (scripts : List (List (List Kind))) (reader : ReaderIs) (writers : List WriterIs) (left log : List Event)
    → length writers ≡ length scripts → IsSettled reader writers left → log ≡ reader.taken ++ left → IsLogOfAll scripts log writers
log_of_all-settled scripts reader writers left log counted settled whole = grind arith

-- how the thread has ended, where its writer has seen no further than the log is long
ends_round : (script : List (List Kind)) (kinds : List Kind) (stop : Option Refused) (writer : WriterIs) (start places : ℕ)
    → EndsWork script kinds stop writer → FindsFrom start stop → writer.seen ≤ places
    → EndsRound script kinds start places (ending_of stop) writer
ends_round script kinds stop writer start places ended found seen = grind arith

-- What a thread has done in a log whose last round begins at this length, whether it ended there or not.
record LastAt (gives : Call → Answer → Type 0) (script : List (List Kind)) (bounds : List ℕ) (thread : ℕ) (log : List Event) (stop : Option Refused) (writer : WriterIs) : Type 0 where
  before : HasPlayed gives script bounds (made_from thread 0 (take (last_bound bounds) log))
  found : FindsFrom (last_bound bounds) stop
  stands : AllStand gives true (kinds_of thread (drop (last_bound bounds) log))
  ended : EndsWork script (kinds_of thread (drop (last_bound bounds) log)) stop writer

last_at : (gives : Call → Answer → Type 0) (script : List (List Kind)) (bounds : List ℕ) (thread : ℕ) (log : List Event) (stop : Option Refused)
    (writer : WriterIs) → last_bound bounds ≤ length log → writer.made ≡ made_from thread 0 log
    → HasPlayedLast gives script bounds writer.made stop writer → LastAt gives script bounds thread log stop writer
last_at gives script bounds thread log stop writer within made last =
    let cut = cutting thread (last_bound bounds) log last.old last.fresh within (sym made ∙ last.split)
    (earlier_played gives script bounds last.old last.played) last.later in
    record {
      before = subst (HasPlayed gives script bounds) cut.0 last.played;
      found = last.found;
      stands = subst (AllStand gives true) cut.1 last.stands;
      ended = subst (λ (kinds : List Kind). EndsWork script kinds stop writer) cut.1 last.ended;
    }

pub some_writer : (writers : List WriterIs) (place : ℕ) → place < length writers → WriterIs
some_writer writers place low = grind arith

-- the log, in rounds
pub in_rounds : (rules : Rules) (gives : Call → Answer → Type 0) (scripts : List (List (List Kind))) (bounds : List ℕ) (log : List Event)
    (stops : List (Option Refused)) (ends : List Ending) (writers : List WriterIs) → IsLogOfAll scripts log writers → AllOpaque rules bounds log
    → HaveAllPlayedLast gives scripts bounds stops writers → AreEndings scripts stops ends
    → IsInRounds rules gives scripts (length bounds) log ends writers
in_rounds rules gives scripts bounds log stops ends writers is opaque last endings = record {
  before = take start log;
  round = drop start log;
  parts = sym (take-append-drop start log);
  whole = are_whole_rounds rules gives scripts bounds (take start log)
      (All-take (λ (event : Event). event.thread.number < length scripts) start log is.own)
      (λ thread low. (at thread (some_writer writers thread (below thread low)) low).before)
      (sym (length-take-le start log within)) (all_opaque-take rules bounds log start opaque (omega arith) within);
  stands = λ thread. stands_at thread;
  ended = λ thread fallback writer low.
      let part = at thread writer low in
      let found : FindsFrom (length (take start log)) (get_or stops thread None)
      = subst (λ (n : ℕ). FindsFrom n (get_or stops thread None)) (sym (length-take-le start log within)) part.found in
      subst (λ (ending : Ending). EndsRound (script_at scripts thread) (kinds_of thread (drop start log)) (length (take start log)) (length log)
      ending (get_or writers thread writer)) (sym (endings.each thread fallback low))
      (ends_round (script_at scripts thread) (kinds_of thread (drop start log)) (get_or stops thread None) (get_or writers thread writer)
      (length (take start log)) (length log) part.ended found (is.seen thread writer low));
}
  where
    start : ℕ
    start = last_bound bounds

    within : last_bound bounds ≤ length log
    within = last_bound-within rules bounds log opaque

    below : (thread : ℕ) → thread < length scripts → thread < length writers
    below thread low = subst (λ (n : ℕ). thread < n) (sym last.counted) low

    at : (thread : ℕ) (fallback : WriterIs) → thread < length scripts
        → LastAt gives (script_at scripts thread) bounds thread log (get_or stops thread None) (get_or writers thread fallback)
    at thread fallback low =
        last_at gives (script_at scripts thread) bounds thread log (get_or stops thread None) (get_or writers thread fallback) within
        (is.made thread fallback low) (last.each thread fallback low)

    stands_at : (thread : ℕ) → AllStand gives true (kinds_of thread (drop (last_bound bounds) log))
    stands_at thread =
        elim (cases_lt thread (length scripts)) [
          | inl low ↦ (at thread (some_writer writers thread (below thread low)) low).stands
          | inr past ↦
              subst (AllStand gives true) (sym (no_kinds (length scripts) thread (drop (last_bound bounds) log)
              (All-drop (λ (event : Event). event.thread.number < length scripts) (last_bound bounds) log is.own) past)) tt
        ]
