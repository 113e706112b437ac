-- Bytes on their way to a sink: some went out, and the rest is held.
use Rattle.std.specs.Prelude.{◌≡◌, ℕ, Result, Ok, Err, List, ◌++◌}
use Rattle.tmw_streams.specs.Streams.{ToSink}
use Rattle.tmw_streams.specs.Transfers.{Takes, TakesBeginning, one_more}

-- of these bytes the sink took the first, and the others are held
pub record PassesOn {K : Type 0} (To : ToSink K) (old : K) (bytes held : List ℕ) (new : K) : Type 0 where
  pub gone : List ℕ
  pub takes : Takes To old gone new
  pub split : bytes ≡ gone ++ held

-- These bytes were to be passed on: the sink took the first, the others are held, and no write failed; or one write failed, which
-- the sink counts, and it took a beginning of them.
abbrev pub PutsOn : {K A E : Type 0} → ToSink K → K → List ℕ → List ℕ → K → Result A E → Type 0
PutsOn To old bytes held new (Ok _) = PassesOn To old bytes held new × (To.failures new ≡ To.failures old)
PutsOn To old bytes held new (Err _) = TakesBeginning To old bytes new × (To.failures new ≡ one_more (To.failures old))
