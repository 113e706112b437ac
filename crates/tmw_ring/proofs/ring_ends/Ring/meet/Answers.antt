use Rattle.tmw_ring.proofs.Shared.{arith}
use Rattle.tmw_ring.proofs.MeetSeats.{writer_met, reader_met}
use Rattle.tmw_ring.proofs.ring_ends.Ring.meet.Goals as goal

pub invariant_of-writer : goal.invariant_of-writer
invariant_of-writer c =
    let met = c.meet_seats.ensures.met _ _ c.writer.invariant.seated c.reader.invariant.seated in grind arith

pub invariant_of-reader : goal.invariant_of-reader
invariant_of-reader c =
    let met = c.meet_seats.ensures.met _ _ c.writer.invariant.seated c.reader.invariant.seated in grind arith

pub returns : goal.returns
returns c =
    let met = c.meet_seats.ensures.met _ _ c.writer.invariant.seated c.reader.invariant.seated in
    record {
      run = met.run;
      log = met.log;
      writer_meets =
          writer_met met.run met.log c.writer.inside.seat.table_id c.meet_seats.new.one.table_id c.writer.inside.seat.me c.meet_seats.new.one.me
          c.args.writer.now c.meet_seats.ensures.tables.0 met.one_of met.one_after c.writer.view_is;
      reader_meets =
          reader_met met.run met.log c.reader.inside.seat.table_id c.meet_seats.new.other.table_id c.reader.inside.seat.me
          c.meet_seats.new.other.me c.args.reader.now c.meet_seats.ensures.tables.1 met.other_of met.other_after c.reader.view_is;
    }
