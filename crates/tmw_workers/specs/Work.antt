-- What a thread records that carries its script out, and how far it comes.
use Rattle.tmw_workers.specs.Shared.{AllStand, Answer, Call, IsBeginning, IsWholeRun, Kind, Made, Refused, WriterIs, kinds_made}
use Rattle.std.specs.Prelude.{◌≡◌, ◌≤◌, ◌<◌, ◌++◌, ℕ, true, List, [], ◌∷◌, Option, Some, None, All}
use Rattle.tmw_workers.specs.RecordSoon.{WasRefused}
use Rattle.tmw_ring.specs.declared.refused.Refused.TheVariants.{Full, Spent}

-- These events are the run of the script up to the next one, the record of which was refused so. They are no whole run, since no
-- whole run is a proper beginning of another.
pub record StopsBefore (script : List (List Kind)) (kinds : List Kind) (refused : Refused) (writer : WriterIs) : Type 0 where
  pub next : Kind
  pub begins : IsBeginning script (kinds ++ next ∷ [])
  pub refusal : WasRefused next refused writer

-- A thread that was not stopped has recorded a whole run of its script.
abbrev pub EndsWork : List (List Kind) → List Kind → Option Refused → WriterIs → Type 0
EndsWork script kinds None writer = IsWholeRun script kinds
EndsWork script kinds (Some refused) writer = StopsBefore script kinds refused writer

-- the number of places that the refused call found to be claimed
abbrev pub tail_of : Refused → ℕ
tail_of (Full front tail) = tail
tail_of (Spent tail) = tail

-- A refusal, if any, has found no fewer places claimed than this.
abbrev pub FindsFrom : ℕ → Option Refused → Type 0
FindsFrom seen None = Unit {0}
FindsFrom seen (Some refused) = seen ≤ tail_of refused

-- The writer has claimed places more, behind all that it had seen, for a run of the script, or for a beginning of one up to where a
-- record was refused then. Each answer there is one that the memory gives.
pub record HasWorked (gives : Call → Answer → Type 0) (script : List (List Kind)) (old : WriterIs) (stop : Option Refused) (new : WriterIs) : Type 0 where
  pub fresh : List Made
  pub made : new.made ≡ old.made ++ fresh
  pub later : All (λ made. old.seen ≤ made.place) fresh
  pub earlier : All (λ made. made.place < new.seen) fresh
  pub seen : old.seen ≤ new.seen
  pub found : FindsFrom old.seen stop
  pub stands : AllStand gives true (kinds_made fresh)
  pub ended : EndsWork script (kinds_made fresh) stop new
