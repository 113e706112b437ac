-- A watch that is closed, and whose recorders have recorded by turns alone, has a well-formed log.
use Rattle.tmw_c.proofs.Shared.{All, HasEnded, IsByTurns, List, NeverMalformedLaw, Recorder, T, Watch, WriterIs, [], ap, arith, get_or, inl, inr, is_well_formed, kinds_recorded, length, refl, subst, sym, take, writer_of, writers_of, ℕ, ◌<◌, ◌∙◌, ◌∷◌, ◌≡◌, rules}
use Rattle.tmw_runs.proofs.WellFormed.{no_kinds}
use Rattle.std.proofs.lemmas.Bool.{both_ways, cases_lt}
use Rattle.std.proofs.lemmas.List.Elements.{All-map}
use Rattle.std.proofs.lemmas.List.Sorted.{All-permutation}
use Rattle.tmw_defs.specs.ThreadTransactions.{kinds_of}
use Rattle.tmw_defs.specs.Verdict.{IsFirst, IsMalformed}
use Rattle.tmw_events.specs.declared.event.Event.{Event}
use Rattle.tmw_pump.proofs.KindsMade.{kinds_made-made_from}
use Rattle.tmw_ring.specs.WriterKinds.{kinds_made}
use Rattle.tmw_runs.proofs.Completions.{formed_by_turns}

-- a thread that records nothing
silent : (registers : ℕ) → IsByTurns registers []
silent registers = record {
  script = [];
  calls = T ∷ [];
  asks = refl;
  place = 0;
  phase = 0;
  turned = record { run = []; text = []; parts = refl; whole = refl; follows = λ more whole. whole };
}

-- what a writer has recorded, of those that the ring ended with
of_writer : (registers : ℕ) (watch : Watch) (recorders : List Recorder) (log : List Event) → (ended : HasEnded watch recorders log)
    → All (λ recorder. IsByTurns registers (kinds_recorded recorder)) recorders
    → All (λ (writer : WriterIs). IsByTurns registers (kinds_made writer.made)) ended.writers
of_writer registers watch recorders log ended turns =
    All-permutation (λ (writer : WriterIs). IsByTurns registers (kinds_made writer.made)) (writers_of recorders) ended.writers ended.same
    (All-map (λ (writer : WriterIs). IsByTurns registers (kinds_made writer.made)) writer_of recorders turns)

first_of : (writers : List WriterIs) (thread : ℕ) → thread < length writers → WriterIs
first_of [] thread low = absurd (omega (arith, low))
first_of (writer ∷ writers) thread low = writer

by_turns : (registers : ℕ) (watch : Watch) (recorders : List Recorder) (log : List Event) → HasEnded watch recorders log
    → All (λ recorder. IsByTurns registers (kinds_recorded recorder)) recorders → (thread : ℕ) → IsByTurns registers (kinds_of thread log)
by_turns registers watch recorders log ended turns thread =
    let settled = ended.settled in
    let same : settled.log ≡ log = settled.rest ∙ sym ended.whole in
    elim (cases_lt thread (length ended.writers)) [
      | inl low ↦
          let writer : WriterIs = get_or ended.writers thread (first_of ended.writers thread low) in
          let kinds : kinds_made writer.made ≡ kinds_of thread log
          = ap kinds_made (settled.made thread (first_of ended.writers thread low) low) ∙ kinds_made-made_from thread 0 settled.log ∙ ap (kinds_of thread) same
          in
          subst (IsByTurns registers) kinds
          (of_writer registers watch recorders log ended turns thread (first_of ended.writers thread low) low)
      | inr past ↦
          let none : kinds_of thread log ≡ []
          = ap (kinds_of thread) (sym same) ∙ no_kinds (length ended.writers) thread settled.log settled.own past
          in
          subst (IsByTurns registers) (sym none) (silent registers)
    ]

pub never_malformed_closed : NeverMalformedLaw
never_malformed_closed watch recorders log rules verdict ended headline turns at malformed =
    let first : IsFirst IsMalformed rules log at = (headline.malformed at).0 malformed in
    both_ways (is_well_formed rules.registers (take at log)) first.here.ill_formed
    (formed_by_turns rules.registers log (by_turns rules.registers watch recorders log ended turns) at)
