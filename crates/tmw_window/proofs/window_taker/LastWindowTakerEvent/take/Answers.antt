-- An event that was fed is one more.
use Rattle.tmw_window.proofs.WindowTaker.{counted-taken, has_room}
use Rattle.tmw_window.proofs.window_taker.LastWindowTakerEvent.take.Goals as goal

pub feed-requires : goal.feed-requires
feed-requires c = record { room = has_room c.args.self.now c.requires.0 c.requires.1 c.requires.2 }

pub returns-in-Ok-clause-counted : goal.returns-in-Ok-clause-counted
returns-in-Ok-clause-counted c = counted-taken c.args.self.now c.feed.new.self c.args.event c.in-Ok.ensures.ok
