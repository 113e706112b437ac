use Rattle.tmw_c.proofs.Shared.{refl}
use Rattle.tmw_c.proofs.judge.pump_held.Goals as goal

pub returns-clause-some : goal.returns-clause-some
returns-clause-some c = record {
  on = record { ring = c.pump.ensures.ring; headline = c.pump.ensures.headline };
  before = c.in-Open.watch;
  after = c.pump.new.self;
  opened = c.in-Open.is;
  stays = refl;
  pumped = c.pump.result;
  count = refl;
  judging = c.pump.ensures.pumped;
}
