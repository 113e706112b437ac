-- From the settled ring, what its writers have claimed, and the headline to the whole bench.
use Rattle.tmw_bench.proofs.Shared.{All, AllOpaque, Answer, AreEndings, AreInOrder, Call, Ending, Event, HasBenched, HasNumbers, HaveAllPlayedLast, Headline, IsInRounds, IsLogOfAll, IsSettled, IsTrue, IsVerdict, Kind, List, None, OpaqueSoFar, Option, ReaderIs, ReaderOf, Refused, RingIs, Rules, Some, SomeStopped, Verdict, WriterIs, WriterOf, ap, are_transactions, ending_of, get_or, length, rules_of, script_at, subst, sym, zeros, ℕ, ◌++◌, ◌+◌, ◌<◌, ◌∙◌, ◌≡◌, ◌≢◌, ◌≤◌, ◌⊎◌}
use Rattle.tmw_bench.proofs.InRounds.{in_rounds, log_of_all-settled}
use Rattle.tmw_bench.proofs.NeverMalformed.{formed-in_rounds}
use Rattle.tmw_options.specs.declared.bench_settings.Settings.{Settings}
use Rattle.tmw_events.specs.declared.registers.Registers.{Registers}
use Rattle.tmw_ring_defs.specs.Runs.{IsRunTo}
use Rattle.tmw_ring_defs.specs.declared.ring_size.RingSize.{RingSize}

-- a thread that was stopped has ended so
pub some_stopped-endings : (scripts : List (List (List Kind))) (stops : List (Option Refused)) (ends : List Ending) (thread : ℕ) (refused : Refused)
    → thread < length scripts → get_or stops thread None ≡ Some refused → AreEndings scripts stops ends → SomeStopped ends
some_stopped-endings scripts stops ends thread refused low stopped endings = record {
  thread = thread;
  low = subst (λ (n : ℕ). thread < n) (sym endings.counted) low;
  refused = refused;
  stopped = λ fallback. endings.each thread fallback low ∙ ap ending_of stopped;
}

-- What a ring has made, once its ends have come back: the reader, the writers in their order, and what is left.
pub record HasCome (threads : ℕ) (ring : RingIs) (reader : ReaderIs) (writers : List WriterIs) (left : List Event) : Type 0 where
  pub reader_of : ReaderOf ring reader
  pub writers_of : All (WriterOf ring) writers
  pub order : AreInOrder writers
  pub count : length writers ≡ threads
  pub settled : IsSettled reader writers left

-- one run of the ring's machine leads to the log
run_to : (threads : ℕ) (ring : RingIs) (reader : ReaderIs) (writers : List WriterIs) (left log : List Event)
    → (come : HasCome threads ring reader writers left) → log ≡ reader.taken ++ left → IsRunTo ring.size come.settled.run log
run_to threads ring reader writers left log come is =
    subst (λ (size : RingSize). IsRunTo size come.settled.run log) come.reader_of.1
    (subst (λ (l : List Event). IsRunTo reader.size come.settled.run l) (come.settled.rest ∙ sym is) come.settled.run_to)

-- the bench is over, of which all but the last round are whole
pub is_benched : (gives : Call → Answer → Type 0) (registers : Registers) (scripts : List (List (List Kind))) (settings : Settings) (log : List Event) (verdict : Verdict)
    (ends : List Ending) (begun : ℕ)
    (ring : RingIs) (reader : ReaderIs) (writers : List WriterIs) (left : List Event) (bounds : List ℕ) (stops : List (Option Refused))
    → ((thread : ℕ) → IsTrue (are_transactions registers.number (script_at scripts thread)))
    → HasNumbers settings.cells (length scripts) settings.limit ring.size → HasCome (length scripts) ring reader writers left
    → log ≡ reader.taken ++ left → HaveAllPlayedLast gives scripts bounds stops writers
    → AllOpaque (rules_of registers zeros settings.bounds) bounds log → AreEndings scripts stops ends
    → IsVerdict (rules_of registers zeros settings.bounds) log verdict
    → Headline (rules_of registers zeros settings.bounds) log writers log verdict
    → begun ≡ length bounds + 1 → begun ≤ settings.rounds
    → (begun < settings.rounds → (verdict ≢ OpaqueSoFar) ⊎ SomeStopped ends)
    → HasBenched gives registers scripts settings log verdict ends begun
is_benched gives registers scripts settings log verdict ends begun ring reader writers left bounds stops asks sized come is last opaque endings judged headline counted within over =
    let rules : Rules = rules_of registers zeros settings.bounds in
    let whole : IsLogOfAll scripts log writers = log_of_all-settled scripts reader writers left log come.count come.settled is in
    let parts : IsInRounds rules gives scripts (length bounds) log ends writers =
    in_rounds rules gives scripts bounds log stops ends writers whole opaque last endings in
    record {
      ring = ring;
      sized = sized;
      writers = writers;
      of_ring = come.writers_of;
      order = come.order;
      count = come.count;
      end_count = endings.counted;
      judged = judged;
      headline = headline;
      formed = formed-in_rounds rules gives scripts (length bounds) log ends writers verdict asks come.count whole.own parts headline;
      run = come.settled.run;
      run_to = run_to (length scripts) ring reader writers left log come is;
      gone = come.settled.writers_gone;
      own = whole.own;
      earlier = length bounds;
      rounds = counted;
      within = within;
      in_rounds = parts;
      over = over;
    }
