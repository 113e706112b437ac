-- The bytes that one more call takes follow those that were taken so far.
use Rattle.tmw_streams.proofs.Shared.{arith, drop, length-drop, take, take-add, take_rest, ◌∙◌}
use Rattle.tmw_streams.proofs.Transfers.{Takes-more}
use Rattle.tmw_streams.proofs.put_bytes.put_all.Goals as goal

pub loop-at-preserved : goal.loop-at-preserved
loop-at-preserved g c =
    let front = rw (take_rest c.args.bytes.now c.loop-at.at) at c.in_ok-at.ensures.takes in (
      omega (arith, length-drop c.loop-at.at c.args.bytes.now),
      rw (take-add c.loop-at.at c.in_ok-at.field-0 c.args.bytes.now)
          (Takes-more g.K.Sink.to c.args.sink.now c.loop-at.sink c.put.new.self
          (take c.loop-at.at c.args.bytes.now) (take c.in_ok-at.field-0 (drop c.loop-at.at c.args.bytes.now))
          c.loop-at.invariant.1 front.takes),
      front.well ∙ c.loop-at.invariant.2,
    )
