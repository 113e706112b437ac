use Rattle.tmw_search.proofs.Shared.{arith, bit_at_ones, inl, inr, length-set, ◌∙◌}
use Rattle.tmw_search.proofs.Bits.{less_of, masks, same_place}
use Rattle.tmw_search.proofs.LastWriters.{known-ends}
use Rattle.tmw_search.proofs.last_writers.put_known.Goals.{in-Some, in-None}
use Rattle.tmw_search.proofs.last_writers.put_known.Goals as goal

pub loop-r-init : goal.loop-r-init
loop-r-init c = record {
  size = omega arith;
  ends = λ start n e. (λ x. x, λ x. x);
  rest = λ r past few. bit_at_ones 8 r few;
  written = λ r below is. absurd (omega (arith, below));
}

pub loop-r-preserved : goal.loop-r-preserved
loop-r-preserved c =
    let r = c.loop-r.r in
    let was = c.loop-r.invariant in
    elim c.match-known_end.branch [
      | in-Some w ↦
          let one = was.rest r (omega arith) c.loop-r-test.true in
          rw (w.end-is, w.registers-is) (record {
            size = length-set c.loop-r.end r w.in-Some.value ∙ was.size;
            ends = λ start n e.
                let both = known-ends c.loop-r.end c.loop-r-test.true was.size one (less_of c.loop-r.registers r c.loop-r-test.true one)
                c.args.node.now w.in-Some.value e n w.in-Some.ensures.some in
                (λ x. both.0 ((was.ends start n e).0 x), λ x. (was.ends start n e).1 (both.1 x));
            rest = grind (arith, masks);
            written = grind (arith, masks);
          })
      | in-None w ↦ rw (w.end-is, w.registers-is) (record {
        size = was.size;
        ends = was.ends;
        rest = grind arith;
        written = λ q below is. elim (same_place q r) [
          | inl same ↦ rw same (w.in-None.ensures.none)
          | inr apart ↦ was.written q (omega (arith, below, apart)) is
        ];
      })
    ]
