-- What two seats with one part each know once they have met, and what a seat knows once it has found tail, as their writers and
-- their reader see it.
use Rattle.tmw_ring.proofs.Shared.{Answered, Event, HasFoundTail, IsOf, List, Me, Part, Parts, ReaderIs, ReaderMeets, ReaderPart, Reads, SeatsHaveMet, Step, TableId, WriterIs, WriterMeets, WriterPart, Writes, [], ap, arith, length, reader_in, reader_is, refl, second_alone, subst, sym, with_tail, without_second, writer_in, writer_is, ℕ, ◌++◌, ◌∙◌, ◌∷◌, ◌≡◌}

module _ {S : Type 0} where
  -- The seats' parts are put together, find tail, and are cut apart again.
  pub seats_met : (step : Step S) (tail : ℕ) (first second : Part) (one other given joined found one_left other_left : Me S Parts)
      → one ≡ (first ∷ [], []) → other ≡ (second ∷ [], []) → given ≡ (other.0, [])
      → joined ≡ (one.0 ++ given.0, one.1) → HasFoundTail step joined tail found
      → one_left ≡ (without_second found.0, found.1) → other_left ≡ (second_alone found.0, [])
      → SeatsHaveMet first second one_left other_left
  seats_met step tail first second one other given joined found one_left other_left alone other_alone gave join has left right =
      let others : given.0 ≡ second ∷ [] = ap (λ (m : Me S Parts). m.0) gave ∙ ap (λ (m : Me S Parts). m.0) other_alone in
      let all : joined ≡ (first ∷ second ∷ [], []) =
      join ∙ ap (λ (m : Me S Parts). let n : Me S Parts = (m.0 ++ given.0, m.1) in n) alone
      ∙ ap (λ (parts : Parts). let n : Me S Parts = (first ∷ parts, []) in n) others in
      let (run, log, after, is, each) = subst (λ (m : Me S Parts). HasFoundTail step m tail found) all has in
      record {
        run = run;
        log = log;
        one_of = each 0 first refl;
        other_of = each 1 second refl;
        one_after =
            left ∙ ap (λ (m : Me S Parts). let n : Me S Parts = (without_second m.0, m.1) in n) after
            ∙ ap (λ (t : ℕ). let n : Me S Parts = (with_tail t run first ∷ [], []) in n) is;
        other_after =
            right ∙ ap (λ (m : Me S Parts). let n : Me S Parts = (second_alone m.0, []) in n) after
            ∙ ap (λ (t : ℕ). let n : Me S Parts = (with_tail t run second ∷ [], []) in n) is;
      }

  -- A seat with one part has found tail.
  pub found_alone : (step : Step S) (tail : ℕ) (part : Part) (before after : Me S Parts) → before ≡ (part ∷ [], [])
      → HasFoundTail step before tail after
      → (run : List Answered) × (log : List Event) × (tail ≡ length log) × IsOf run log part
      × (after ≡ (with_tail (length log) run part ∷ [], []))
  found_alone step tail part before after alone has =
      let (run, log, left, is, each) = subst (λ (m : Me S Parts). HasFoundTail step m tail after) alone has in (
        run,
        log,
        is,
        each 0 part refl,
        left ∙ ap (λ (t : ℕ). let n : Me S Parts = (with_tail t run part ∷ [], []) in n) is,
      )

  -- What callers see of a writer that has met.
  pub writer_met : (run : List Answered) (log : List Event) (table table_after : TableId) (before after : Me S Parts) (writer : WriterIs)
      → table_after ≡ table → IsOf run log (Writes (writer_in before.0))
      → after ≡ (with_tail (length log) run (Writes (writer_in before.0)) ∷ [], [])
      → writer_is table (writer_in before.0) ≡ writer → WriterMeets run log writer (writer_is table_after (writer_in after.0))
  writer_met run log table table_after before after writer same of is seen =
      let left : writer_in after.0 ≡ writer_in ((with_tail (length log) run (Writes (writer_in before.0)) ∷ [])) =
      ap (λ (m : Me S Parts). writer_in m.0) is in
      subst (λ (w : WriterIs). WriterMeets run log w (writer_is table_after (writer_in after.0))) seen
      (subst (λ (w : WriterPart). WriterMeets run log (writer_is table (writer_in before.0)) (writer_is table_after w)) (sym left) (record {
        table = same;
        size = refl;
        number = refl;
        made = refl;
        logged = of.of_log.0;
        reached = of.of_log.1;
        seen = omega arith;
        knows = refl;
        gone = of.knows;
        run_to = of.run_to;
      }))

  -- What callers see of the reader that has met a writer.
  pub reader_met : (run : List Answered) (log : List Event) (table table_after : TableId) (before after : Me S Parts) (reader : ReaderIs)
      → table_after ≡ table → IsOf run log (Reads (reader_in before.0))
      → after ≡ (with_tail (length log) run (Reads (reader_in before.0)) ∷ [], [])
      → reader_is table (reader_in before.0) ≡ reader → ReaderMeets run log reader (reader_is table_after (reader_in after.0))
  reader_met run log table table_after before after reader same of is seen =
      let met : ReaderPart = record (reader_in before.0) { run = run } in
      let left : reader_in after.0 ≡ met = ap (λ (m : Me S Parts). reader_in m.0) is in
      subst (λ (r : ReaderIs). ReaderMeets run log r (reader_is table_after (reader_in after.0))) seen
      (subst (λ (r : ReaderPart). ReaderMeets run log (reader_is table (reader_in before.0)) (reader_is table_after r)) (sym left) (record {
        same = ap (λ (t : TableId). reader_is t met) same;
        rest = of.of_log.0;
        begins = of.of_log.1;
        gone = of.knows;
        run_to = of.run_to;
      }))
