use Rattle.tmw_witness.proofs.Shared.{ap, arith, bit_at, bit_at_ones, eqb-true, length, length-map, map, mod-eq_of_lt, rules, view, ℕ, ◌%◌, ◌*◌, ◌+◌, ◌-◌, ◌^◌, ◌∙◌, ◌≡◌, ◌≤◌}
use Rattle.std.proofs.Math.Pow.{pow_mono}
use Rattle.tmw_witness.proofs.WitnessChanges.{placed-all}
use Rattle.tmw_witness.proofs.witness.Witness.take.Goals as goal

pub loop-left-preserved : goal.loop-left-preserved
loop-left-preserved c = record {
  within = omega (arith, c.loop-left.invariant.within);
  fits = search rules;
  unknown = c.place.ensures.known ∙ c.loop-left.invariant.unknown;
  places = λ starts has. c.in-Some.ensures.placed starts (c.loop-left.invariant.places starts has);
}

pub returns : goal.returns
returns c = λ starts has known.
    let items = c.args.items.now in
    let mask = c.loop-left.mask in
    let size = length items in
    let is = c.from.ensures in
    let most : 2 ^ size ≤ 2 ^ 8 = pow_mono {i = size} {j = 8} c.requires in
    let single : 1 * 2 ^ size ≡ 2 ^ size = omega arith in
    let whole : 1 * 2 ^ size % 2 ^ 64 ≡ 2 ^ size =
    ap (λ (n : ℕ). n % 2 ^ 64) single ∙ mod-eq_of_lt (omega (arith, most)) in
    let full : mask ≡ 2 ^ size - 1 = (let k = eqb-true (c.from.result + 1) (1 * 2 ^ size % 2 ^ 64) known ∙ whole in omega (arith, k, is)) in
    let same : length (map view items) ≡ size = length-map items view in
    placed-all mask _ (omega (arith, same, c.requires))
    (λ i within. ap (λ (m : ℕ). bit_at m i) full ∙ bit_at_ones size i (omega (arith, within, same)))
    (c.loop-left.invariant.places starts has)
