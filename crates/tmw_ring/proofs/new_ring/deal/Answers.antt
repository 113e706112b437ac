use Rattle.tmw_ring.proofs.Shared.{AreNewWriters, List, RingIs, WriterIs, ap, arith, length, length_push, rules, subst, sym, ℕ, ◌+◌, ◌<◌, ◌∙◌}
use Rattle.tmw_ring.proofs.Deal.{dealt, left_over, new_writer-idle, new_writers-dealt}
use Rattle.tmw_ring.proofs.Seats.{splits_second}
use Rattle.tmw_ring.proofs.new_ring.deal.Goals as goal

pub split_seat-own-requires : goal.split_seat-own-requires
split_seat-own-requires c = search (rules, splits_second)

pub invariant_of-push_reserved-in-loop-number : goal.invariant_of-push_reserved-in-loop-number
invariant_of-push_reserved-in-loop-number c =
    let within = subst (λ (ring : RingIs). c.loop-number.number < ring.size.writers) c.ring.view_is c.loop-number-test.true in
    new_writer-idle c.args.ring.now.size _ c.split_seat-own.result.me
    (dealt c.args.ring.now.size c.loop-number.number c.loop-number.seat.me c.split_seat-own.result.me within c.loop-number.invariant.1
    c.split_seat-own.ensures.4)

pub loop-number-preserved : goal.loop-number-preserved
loop-number-preserved c =
    let within = subst (λ (ring : RingIs). c.loop-number.number < ring.size.writers) c.ring.view_is c.loop-number-test.true in
    let small : c.loop-number.number < 8 = omega (arith, c.loop-number-test.true, c.ring.inside.size.most_writers) in
    let own =
    dealt c.args.ring.now.size c.loop-number.number c.loop-number.seat.me c.split_seat-own.result.me within c.loop-number.invariant.1
    c.split_seat-own.ensures.4 in (
      c.split_seat-own.ensures.0 ∙ c.loop-number.invariant.0,
      left_over c.args.ring.now.size c.loop-number.number c.loop-number.seat.me c.split_seat-own.new.seat.me within
          c.loop-number.invariant.1 c.split_seat-own.ensures.2,
      ap (λ (writers : List WriterIs). length writers) c.push_reserved.ensures.items ∙ length_push c.loop-number.writers.items _
          ∙ ap (λ (n : ℕ). n + 1) c.loop-number.invariant.2,
      c.push_reserved.ensures.capacity ∙ c.loop-number.invariant.3,
      subst (AreNewWriters c.args.ring.now) (sym c.push_reserved.ensures.items)
          (new_writers-dealt c.args.ring.now c.loop-number.writers.items c.loop-number.number c.split_seat-own.result.table_id
          c.split_seat-own.result.me c.loop-number.invariant.4 c.loop-number.invariant.2 small
          (c.split_seat-own.ensures.3 ∙ c.loop-number.invariant.0 ∙ c.requires.table) own),
    )
