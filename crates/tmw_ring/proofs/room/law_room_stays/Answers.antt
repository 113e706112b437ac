use Rattle.tmw_ring.proofs.RoomStays.{room_stays_law}
use Rattle.tmw_ring.proofs.room.law_room_stays.Goals as goal

pub returns : goal.returns
returns c = room_stays_law
