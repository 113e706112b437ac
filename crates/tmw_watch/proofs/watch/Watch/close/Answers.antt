use Rattle.tmw_watch.proofs.Shared.{IsPermutation, IsPermutation-map, Recorder, refl, rules, subst, sym, writers_of, ◌≡◌}
use Rattle.tmw_watch.proofs.RestVerdict.{closed_again, of_ring_placed}
use Rattle.tmw_watch.proofs.watch.Watch.close.Goals as goal

pub returns-in-Err-clause-err : goal.returns-in-Err-clause-err
returns-in-Err-clause-err c =
    let given = c.args.recorders.items in
    let back = c.in-Err.recorders.items in
    let left = c.in-Err.ensures in
    (refl, left.err, of_ring_placed c.args.self.ring.value given back left.err c.requires, left.not_all)

pub returns-in_default-clause-err : goal.returns-in_default-clause-err
returns-in_default-clause-err c =
    let given = c.args.recorders.items in
    let placed = c.in-Ok.recorders.items in
    let same = c.in-Ok.ensures.ok in
    (refl, same, of_ring_placed c.args.self.ring.value given placed same c.requires, c.in-Ok.ensures.all)

pub end-requires-clause-of_ring : goal.end-requires-clause-of_ring
end-requires-clause-of_ring c =
    of_ring_placed c.args.self.ring.value c.args.recorders.items c.in-Ok.recorders.items c.in-Ok.ensures.ok c.requires

pub returns-in-Err-end-clause-err : goal.returns-in-Err-end-clause-err
returns-in-Err-end-clause-err c =
    let given = c.args.recorders.items in
    let placed = c.in-Ok.recorders.items in
    let left = c.in-Err-end in
    let back : left.writers.items ≡ writers_of placed = search rules in (
      search rules,
      subst (IsPermutation (writers_of given)) (sym back)
          (IsPermutation-map (λ (recorder : Recorder). recorder.writer) given placed c.in-Ok.ensures.ok),
    )

pub returns-in-Ok-end-clause-ok : goal.returns-in-Ok-end-clause-ok
returns-in-Ok-end-clause-ok c =
    closed_again c.args.self c.args.recorders.items c.in-Ok.recorders.items c.in-Ok-end.report c.in-Ok.ensures.ok c.in-Ok-end.ensures.ok
