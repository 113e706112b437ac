use Rattle.tmw_search.proofs.Shared.{arith, inl, inr}
use Rattle.tmw_search.proofs.Bits.{some-place, same_place}
use Rattle.tmw_search.proofs.Nodes.{set_or}
use Rattle.tmw_search.proofs.completion_ends.unwritten.Goals.{then-writers-r-eq0, else-writers-r-eq0}
use Rattle.tmw_search.proofs.completion_ends.unwritten.Goals as goal

pub loop-r-preserved : goal.loop-r-preserved
loop-r-preserved c =
    let r = c.loop-r.r in
    elim c.if-writers-r-eq0.branch [
      | then-writers-r-eq0 w ↦ grind (arith, w.registers-is, set_or, c.loop-r.registers, r, c.loop-r-test.true, same_place, c.loop-r.invariant)
      | else-writers-r-eq0 w ↦ rw w.registers-is (λ q less out. elim (same_place q r) [
        | inl same ↦ grind (arith, some-place, r, w.if-writers-r-eq0.false)
        | inr apart ↦ c.loop-r.invariant q (omega (arith, less, apart)) out
      ])
    ]
