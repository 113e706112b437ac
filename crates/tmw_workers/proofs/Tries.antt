-- The writer tries, waits, and tries again.
use Rattle.tmw_workers.proofs.Shared.{Err, HasLooked, HasRecorded, HasTried, HasWaited, IfErr, IfOk, IsRefusal, Kind, Ok, Refused, Result, RingIs, WasRefused, WriterIs, WriterOf, arith, sym, ℕ, ◌∙◌, ◌≡◌}

-- A refused call has recorded nothing, and has looked at tail.
pub has_looked-refused : (kind : Kind) (old : WriterIs) (refused : Refused) (new : WriterIs) → IsRefusal kind old refused new
    → (tail : ℕ) × HasLooked tail old new
has_looked-refused kind old refused new is = grind arith

-- A writer that has waited tries once more.
pub tried : (kind : Kind) (start old : WriterIs) (result : Result ℕ Refused) (new : WriterIs) → HasWaited start old
    → IfOk result (λ place. HasRecorded kind place old new) → IfErr result (λ refused. IsRefusal kind old refused new)
    → HasTried kind start result new
tried kind start old (Ok place) new waited ok err = (old, waited, ok)
tried kind start old (Err refused) new waited ok err = (old, waited, err)

pub was_refused-tried : (ring : RingIs) (kind : Kind) (old : WriterIs) (refused : Refused) (new : WriterIs) → WriterOf ring old
    → WriterOf ring new → new.number ≡ old.number → HasTried kind old (Err refused) new → WasRefused kind refused new
was_refused-tried ring kind old refused new old_of new_of number (before, waited, is) =
    record {
      before = before;
      table = waited.table ∙ old_of.0 ∙ sym new_of.0;
      sized = waited.sized ∙ old_of.1 ∙ sym new_of.1;
      number = waited.number ∙ sym number;
      refusal = is;
    }
