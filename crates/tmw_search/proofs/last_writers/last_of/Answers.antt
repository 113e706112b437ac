use Rattle.tmw_search.proofs.Shared.{and_le_l, arith, bit_and, bit_at-zero, bit_not, inl, inr, slice_index, sym, w8, ◌∙◌}
use Rattle.tmw_search.proofs.Bits.{bit_cases, less_has, less_of, same_place, some-place}
use Rattle.tmw_search.proofs.LastWriters.{free-before, free-bit, free-writer}
use Rattle.tmw_search.proofs.last_writers.last_of.Goals as goal

pub loop-left-preserved : goal.loop-left-preserved
loop-left-preserved c =
    let next = c.lowest-place in
    let left = c.loop-left.left in
    let writers = c.args.writers in
    let row = slice_index c.args.reach.now next.result in
    let less = less_of left next.result next.ensures.within next.ensures.among in
    let (k, few_k, free) = some-place (bit_and writers (bit_not w8 row)) (omega (arith, and_le_l writers (bit_not w8 row), c.ranges.writers.fits))
    (λ none. absurd (omega (arith, none, c.if-writers-reach-eq0.false))) in
    record {
      among = λ i is. c.loop-left.invariant.among i (less_has left next.result _ i less is);
      others = λ i few one gone behind. elim (same_place i next.result) [
        | inl same ↦ free-before writers row k (omega arith) few_k free (rw same at behind k few_k (free-writer writers row k few_k free))
        | inr apart ↦ c.loop-left.invariant.others i few one (λ was. gone (sym (less.other i apart) ∙ was)) behind
      ];
    }

pub returns-then-writers-reach-eq0 : goal.returns-then-writers-reach-eq0
returns-then-writers-reach-eq0 c =
    let next = c.lowest-place in
    let row = slice_index c.args.reach.now next.result in (
      next.ensures.within,
      c.loop-left.invariant.among next.result next.ensures.among,
      λ k few one. elim (bit_cases row k) [
        | inl none ↦ absurd (omega (arith, free-bit c.args.writers row k (omega arith) few one none, bit_at-zero k, c.if-writers-reach-eq0.true))
        | inr is ↦ is
      ],
    )
