-- A place is among these or isn't, as its bit says.
use Rattle.tmw_search.proofs.Shared.{In, shr_and_one, sym, ◌∙◌}
use Rattle.tmw_search.proofs.LastWriters.{finds-more, finds-none}
use Rattle.tmw_search.proofs.last_writers.before_of.Goals as goal
use Rattle.tmw_search.proofs.last_writers.before_of.Goals.{then-these-place-eq1, else-these-place-eq1}

pub loop-place-preserved : goal.loop-place-preserved
loop-place-preserved c =
    let place = c.loop-place.place in
    elim c.if-these-place-eq1.branch [
      | then-these-place-eq1 w ↦
          let has : In c.args.these place = sym (shr_and_one c.args.these place) ∙ w.if-these-place-eq1.true in
          rw w.before-is (finds-more c.args.reach.now c.args.these c.loop-place.before place c.loop-place-test.true has c.loop-place.invariant)
      | else-these-place-eq1 w ↦
          let not : In c.args.these place → ⊥ = λ has. w.if-these-place-eq1.false (shr_and_one c.args.these place ∙ has) in
          rw w.before-is (finds-none c.args.reach.now c.args.these c.loop-place.before place not c.loop-place.invariant)
    ]
