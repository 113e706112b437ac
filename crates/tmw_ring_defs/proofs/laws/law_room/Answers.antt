use Rattle.tmw_ring_defs.proofs.RunsRoom.{room_law}
use Rattle.tmw_ring_defs.proofs.laws.law_room.Goals as goal

pub returns : goal.returns
returns c = room_law
