use Rattle.tmw_search.proofs.Shared.{Clear, Stuck, arith, refl}
use Rattle.tmw_search.proofs.Consequences.{narrows-then, same-narrows, passed-all, passed-never, passed-next, passed-none, passes-then, place-left, source-grows}
use Rattle.tmw_search.proofs.settle_sources.settle_once.Goals.{in-Clear, in-Stuck}
use Rattle.tmw_search.proofs.settle_sources.settle_once.Goals as goal

pub loop-j-init : goal.loop-j-init
loop-j-init c = passed-none c.requires.order

pub returns-in-Never : goal.returns-in-Never
returns-in-Never = grind (arith, narrows-then, same-narrows, passed-never)

pub loop-j-preserved : goal.loop-j-preserved
loop-j-preserved c =
    elim c.match-settle_reads.branch [
      | in-Clear w ↦ rw w.found-is (passed-next Clear c.loop-j-test.true (omega arith) (place-left c.loop-j.j)
          (λ k few grows is r less reads. source-grows _ k _ _ _ few (c.requires.within k r few less) grows (is r less reads))
          c.loop-j.invariant w.in-Clear.ensures refl)
      | in-Stuck w ↦ rw w.found-is (passed-next (Stuck w.in-Stuck.a w.in-Stuck.b w.in-Stuck.k) c.loop-j-test.true (omega arith)
          (place-left c.loop-j.j) (λ k few grows is r less reads. source-grows _ k _ _ _ few (c.requires.within k r few less) grows (is r less reads))
          c.loop-j.invariant w.in-Stuck.ensures refl)
    ]

pub returns : goal.returns
returns c =
    passes-then (λ rank is. is) (λ rank is. λ k within any. is k within) (λ grows done. λ k within. done k within (omega arith))
    (same-narrows c.requires.order)
    (passed-all (λ k within above. absurd (omega (arith, c.loop-j-test.false, within, above))) c.loop-j.invariant)
