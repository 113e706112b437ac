use Rattle.tmw_ring.proofs.Shared.{none, rules, step}
use Rattle.tmw_ring.proofs.FindTail.{finds_tail}
use Rattle.tmw_ring.proofs.Joins.{joins_both}
use Rattle.tmw_ring.proofs.MeetSeats.{seats_met}
use Rattle.tmw_ring.proofs.Seats.{splits_all, splits_second}
use Rattle.tmw_ring.proofs.ring_ends.Ring.meet_seats.Goals as goal

pub split_seat-given-requires : goal.split_seat-given-requires
split_seat-given-requires c = search (rules, splits_all)

pub join_seat-requires : goal.join_seat-requires
join_seat-requires c = search (rules, joins_both)

pub load-requires : goal.load-requires
load-requires c = search (rules, finds_tail)

pub split_seat-requires : goal.split_seat-requires
split_seat-requires c = search (rules, splits_second)

pub returns-clause-met : goal.returns-clause-met
returns-clause-met c = λ first second alone other_alone.
    seats_met (step c.self.inside.table.shared.table_id.slots 0 0 0 none) c.load.result first second c.args.one.now.me c.args.other.now.me c.split_seat-given.result.me c.join_seat.new.seat.me
    c.load.new.seat.me c.split_seat.new.seat.me c.split_seat.result.me alone other_alone c.split_seat-given.ensures.4
    c.join_seat.ensures.2 c.load.ensures.2 c.split_seat.ensures.2 c.split_seat.ensures.4
