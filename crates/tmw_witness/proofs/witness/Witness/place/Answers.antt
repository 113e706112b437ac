use Rattle.tmw_witness.proofs.Shared.{arith, bit, cases_Bool, inl, inr, ltb-true, refl, rules, shown_at, sym, ◌<◌, ◌≡◌}
use Rattle.tmw_witness.proofs.WitnessChanges.{AreLong, replayed-more}
use Rattle.tmw_witness.proofs.witness.Witness.place.Goals as goal

pub returns-clause-placed : goal.returns-clause-placed
returns-clause-placed c = λ starts those.
    let w = c.args.self.now in
    let items = c.args.items.now in
    let p = c.args.step.place in
    let item = c.in-Some.item.now in
    let long : AreLong w = search rules in
    let looked = c.in-Some.ensures.lookup in
    let within : p < 8 = search rules in
    let room : w.top < 8 = (let k = c.if-rank-ge8.false in let f = c.from-rank.ensures in omega (arith, k, f)) in
    let after = rw c.from-rank.ensures at c.in-Some-after.ensures in
    let more : c.from.result ≡ bit c.args.step.held = elim (cases_Bool c.args.step.held) [
      | inl is ↦ rw is (rw is at c.from.ensures)
      | inr is ↦ rw is (rw is at c.from.ensures)
    ] in
    rw c.from-rank.ensures
    (replayed-more c.args.step.held c.from.result long more room within (shown_at items p item (ltb-true p _ (sym looked.0)) looked.1) c.if-item-place-ne0.false
    (c.if-not-is_next.ensures.0 refl) (sym c.if-not-may_hold.ensures) after.0 after.1 those)
