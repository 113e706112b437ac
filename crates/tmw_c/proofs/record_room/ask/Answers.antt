use Rattle.tmw_c.proofs.Shared.{inr, rules}
use Rattle.tmw_c.proofs.record_room.ask.Goals as goal

pub returns : goal.returns
returns c =
    inr (record {
      before = c.held_mut.result.now;
      after = c.ask_held.new.held;
      held = search rules;
      holds = search rules;
      finds = search rules;
    })
