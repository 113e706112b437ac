-- What a call to pump has done.
use Rattle.tmw_pump.specs.Shared.{Event, ReaderIs}
use Rattle.std.specs.Prelude.{◌≡◌, ◌⊎◌, ◌<◌, ℕ, List, [], ◌∷◌}
use Rattle.tmw_ring.specs.Take.{HasTaken, HasFoundNone}
use Rattle.tmw_pump.specs.Front.{HasJudged, verdict_on}
use Rattle.tmw_pump.specs.declared.front.Front.{Front}
use Rattle.tmw_pump.specs.declared.keep.Keep.{Ghosts}
use Rattle.tmw_pump.specs.declared.pump.Pump.{Pump}
use Rattle.tmw_pump.specs.declared.pumped.Pumped.{Pumped}

-- A pump without what it keeps: the reader by which it takes events, and the judged front.
pub record PumpIs : Type 0 where
  pub reader : ReaderIs
  pub front : Front

-- the reader by which the pump takes events
abbrev pub reader_of : PumpIs → ReaderIs
reader_of pump = pump.reader

-- the judged front of the pump
abbrev pub pump_front : PumpIs → Front
pump_front pump = pump.front

-- the pump without what it keeps
abbrev pub pump_in : {K N : Type 0} {G : Ghosts K N} → Pump K N G → PumpIs
pump_in pump = record { reader = pump.reader; front = pump.front }

-- what the pump keeps
abbrev pub pump_kept : {K N : Type 0} {G : Ghosts K N} → Pump K N G → K
pump_kept pump = pump.kept

-- The reader has taken these events one after another, and has found each of them published when it first asked.
abbrev pub HasTakenAll : ReaderIs → List Event → ReaderIs → Type 0
HasTakenAll old [] new = new ≡ old
HasTakenAll old (event ∷ events) new = (next : ReaderIs) × HasTaken old event next × HasTakenAll next events new

-- So many events more were judged, and the reader has come so far.
pub record HasPumped (count : ℕ) (old : PumpIs) (reader : ReaderIs) (new : Front) : Type 0 where
  pub fresh : List Event
  pub taken : HasTakenAll (reader_of old) fresh reader
  pub judged : HasJudged count (pump_front old) new

-- The call has judged as many events as it was to, or fewer, and then the reader last found that the next place was not published.
-- It has done nothing where it was to judge none.
pub record IsPumped (max : ℕ) (pumped : Pumped) (old new : PumpIs) : Type 0 where
  pub last : ReaderIs
  pub counted : HasPumped pumped.judged old last (pump_front new)
  pub ended : ((pumped.judged ≡ max) × (reader_of new ≡ last)) ⊎ ((pumped.judged < max) × HasFoundNone last (reader_of new))
  pub verdict : pumped.verdict ≡ verdict_on (pump_front new)
  pub idle : max ≡ 0 → new ≡ old
