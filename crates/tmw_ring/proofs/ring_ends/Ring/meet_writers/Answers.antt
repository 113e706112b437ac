use Rattle.tmw_ring.proofs.Shared.{arith}
use Rattle.tmw_ring.proofs.MeetSeats.{writer_met}
use Rattle.tmw_ring.proofs.ring_ends.Ring.meet_writers.Goals as goal

pub invariant_of-one : goal.invariant_of-one
invariant_of-one c =
    let met = c.meet_seats.ensures.met _ _ c.one.invariant.seated c.other.invariant.seated in grind arith

pub invariant_of-other : goal.invariant_of-other
invariant_of-other c =
    let met = c.meet_seats.ensures.met _ _ c.one.invariant.seated c.other.invariant.seated in grind arith

pub returns : goal.returns
returns c =
    let met = c.meet_seats.ensures.met _ _ c.one.invariant.seated c.other.invariant.seated in
    record {
      run = met.run;
      log = met.log;
      one_meets =
          writer_met met.run met.log c.one.inside.seat.table_id c.meet_seats.new.one.table_id c.one.inside.seat.me c.meet_seats.new.one.me
          c.args.one.now c.meet_seats.ensures.tables.0 met.one_of met.one_after c.one.view_is;
      other_meets =
          writer_met met.run met.log c.other.inside.seat.table_id c.meet_seats.new.other.table_id c.other.inside.seat.me
          c.meet_seats.new.other.me c.args.other.now c.meet_seats.ensures.tables.1 met.other_of met.other_after c.other.view_is;
    }
