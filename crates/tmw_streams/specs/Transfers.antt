-- What a source tells and a sink takes: byte lists that grow, the bytes still to tell, and those held, where these are known.
use Rattle.std.specs.Prelude.{◌≡◌, ℕ, ◌+◌, ◌-◌, ◌^◌, ◌<◌, ◌≤◌, Result, Ok, Err, List, [], ◌++◌, length, take, min}
use Rattle.std.specs.Io.KnownBytes.{Consumes, Appends}
use Rattle.tmw_streams.specs.Streams.{FromSource, ToSink}

-- from the one state to the other, what was told or taken so far grew by these bytes
abbrev pub Adds : {S : Type 0} → (S → List ℕ → Type 0) → S → List ℕ → S → Type 0
Adds Told old bytes new = (before : List ℕ) → Told old before → Told new (before ++ bytes)

-- the source told these bytes: what it told so far grew by them, and what it had still to tell began with them and lost them
abbrev pub Tells : {S : Type 0} → FromSource S → S → List ℕ → S → Type 0
Tells From old bytes new = Adds From.told old bytes new × Consumes (From.remaining old) (From.remaining new) bytes

-- the sink took these bytes: what it took so far grew by them, and so did what it holds
abbrev pub Takes : {K : Type 0} → ToSink K → K → List ℕ → K → Type 0
Takes To old bytes new = Adds To.took old bytes new × Appends (To.holds old) (To.holds new) bytes

-- the sink took a beginning of these bytes, and not all of them
abbrev pub TakesBeginning : {K : Type 0} → ToSink K → K → List ℕ → K → Type 0
TakesBeginning To old bytes new = (count : ℕ) × (count < length bytes) × Takes To old (take count bytes) new

-- one more, up to the greatest 64-bit number
abbrev pub one_more : ℕ → ℕ
one_more n = min (n + 1) (2 ^ 64 - 1)

-- A read has put so many bytes to the front of a buffer, whose bytes were `before` and are `after`.
pub record Fills {S : Type 0} (From : FromSource S) (old new : S) (before after : List ℕ) (count : ℕ) : Type 0 where
  -- There was room for them.
  pub within : count ≤ length before
  -- The source told them.
  pub tells : Tells From old (take count after) new
  -- The bound on its bytes still to come fell by as many at least.
  pub falls : From.left new + count ≤ From.left old
  -- If there was room and none came, it has answered its end.
  pub end : 0 < length before → count ≡ 0 → From.ended new
  -- No read failed.
  pub well : From.failures new ≡ From.failures old

-- A read has failed.
pub record FailsToRead {S : Type 0} (From : FromSource S) (old new : S) : Type 0 where
  -- It is counted.
  pub failed : From.failures new ≡ one_more (From.failures old)
  -- The source told nothing.
  pub kept : Tells From old [] new
  -- The bound on its bytes still to come did not rise.
  pub falls : From.left new ≤ From.left old
  -- It has not answered its end.
  pub no_end : From.ended new → ⊥

-- A write has taken so many bytes from the front of these.
pub record TakesFront {K : Type 0} (To : ToSink K) (old new : K) (bytes : List ℕ) (count : ℕ) : Type 0 where
  -- There were so many.
  pub within : count ≤ length bytes
  -- If there was one, at least one was taken.
  pub some : 0 < length bytes → 0 < count
  -- The sink took them.
  pub takes : Takes To old (take count bytes) new
  -- No write failed.
  pub well : To.failures new ≡ To.failures old

-- A write has failed.
pub record FailsToTake {K : Type 0} (To : ToSink K) (old new : K) : Type 0 where
  -- It is counted.
  pub failed : To.failures new ≡ one_more (To.failures old)
  -- The sink took nothing.
  pub kept : Takes To old [] new

-- The sink was to take these bytes: it took them all and no write failed, or one write failed, which it counts, and it took a
-- beginning of them.
abbrev pub Puts : {K A E : Type 0} → ToSink K → K → List ℕ → K → Result A E → Type 0
Puts To old bytes new (Ok _) = Takes To old bytes new × (To.failures new ≡ To.failures old)
Puts To old bytes new (Err _) = TakesBeginning To old bytes new × (To.failures new ≡ one_more (To.failures old))

-- what the source told came behind the bytes that were held, and is held too
pub record Reads {S : Type 0} (From : FromSource S) (old new : S) (before after : List ℕ) : Type 0 where
  pub bytes : List ℕ
  pub told : Tells From old bytes new
  pub is : after ≡ before ++ bytes
