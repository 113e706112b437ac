use Rattle.tmw_ring.proofs.Shared.{RingIs, WriterIs, Writes, ap, arith, none, step, sym, writer_in, ◌∙◌}
use Rattle.tmw_ring.proofs.FindTail.{finds_tail}
use Rattle.tmw_ring.proofs.MeetSeats.{found_alone, writer_met}
use Rattle.tmw_ring.proofs.ring_ends.Ring.find_tail.Goals as goal

pub load-requires : goal.load-requires
load-requires c = (
  ap (λ (writer : WriterIs). writer.table) c.writer.view_is ∙ c.requires.0 ∙ sym (ap (λ (ring : RingIs). ring.table) c.self.view_is),
  omega (arith, c.self.invariant.words),
  finds_tail c.self.inside.table.shared.key c.self.inside.table.shared.table_id.slots c.writer.inside.seat.id c.writer.inside.seat.me,
)

pub returns : goal.returns
returns c =
    let (run, log, is, of, after) =
    found_alone (step c.self.inside.table.shared.table_id.slots 0 0 0 none) c.load.result (Writes (writer_in c.writer.inside.seat.me.0))
    c.writer.inside.seat.me c.load.new.seat.me c.writer.invariant.seated c.load.ensures.2 in
    record {
      run = run;
      log = log;
      counted = is;
      meets =
          writer_met run log c.writer.inside.seat.table_id c.load.new.seat.table_id c.writer.inside.seat.me c.load.new.seat.me
          c.args.writer.now c.load.ensures.0 of after c.writer.view_is;
    }
