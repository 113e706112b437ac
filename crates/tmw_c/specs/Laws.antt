-- That at most one kind is asked for, and that what is recorded by turns is never malformed.
use Rattle.tmw_c.specs.Shared.{HasEnded, Headline, IsByTurns, Kind, Malformed, Recorder, Verdict, Watch, writer_of, writers_of}
use Rattle.std.specs.Prelude.{◌≡◌, ◌≢◌, ℕ, List, All}
use Rattle.tmw_c.specs.Kinds.{AsksFor}
use Rattle.tmw_defs.specs.Verdict.{Rules}
use Rattle.tmw_events.specs.declared.event.Event.{Event}
use Rattle.tmw_ring.specs.WriterKinds.{kinds_made}

-- A letter, a register and a value ask for one kind at most.
abbrev pub OneKindLaw : Type 0
OneKindLaw = (registers letter register value : ℕ) (one other : Kind) → AsksFor registers letter register value one
    → AsksFor registers letter register value other → one ≡ other

-- the kinds of all events that a recorder has recorded, in their order
abbrev pub kinds_recorded : Recorder → List Kind
kinds_recorded recorder = kinds_made (writer_of recorder).made

-- A watch's ring has ended, of which each recorder has recorded by turns alone. Then no headline on the whole log, whichever call
-- tells it, has the verdict malformed.
abbrev pub NeverMalformedLaw : Type 0
NeverMalformedLaw = (watch : Watch) (recorders : List Recorder) (log : List Event) (rules : Rules) (verdict : Verdict)
    → HasEnded watch recorders log → Headline rules log (writers_of recorders) log verdict
    → All (λ recorder. IsByTurns rules.registers (kinds_recorded recorder)) recorders
    → (length : ℕ) → verdict ≢ Malformed length
