-- The value is asked of what the operations before leave in the register, or else need of it.
use Rattle.tmw_cuts.proofs.Shared.{bit_at, false, if◌then◌else◌, length, rules, slice_index, sym, ◌==◌, ◌∙◌, ◌≡◌}
use Rattle.tmw_cuts.proofs.EffectSteps.{with_other, with_own}
use Rattle.tmw_cuts.proofs.effect.Effect.read.Goals.{then-has_register-2, else-has_register-2}
use Rattle.tmw_cuts.proofs.effect.Effect.read.Goals as goal

pub returns-then-has_register : goal.returns-then-has_register
returns-then-has_register c =
    let leaves : length c.args.self.now.leaves ≡ 8 = search rules in
    rw c.get-place.ensures.value (λ ops sums. with_own c.args.self.now ops c.args.register c.args.value sums leaves
    (rw c.get-place.ensures.value at (sym c.has_register.ensures ∙ c.if-has_register.true)))

pub returns : goal.returns
returns c =
    let leaves : length c.args.self.now.leaves ≡ 8 = search rules in
    let needs : length c.args.self.now.needs ≡ 8 = search rules in
    let e = c.args.self.now in
    let r = c.args.register.number in
    let place : c.get-place.result ≡ r = c.get-place.ensures.value in
    let own : (bit_at e.left r == 1) ≡ false = rw place at (sym c.has_register.ensures ∙ c.if-has_register.false) in
    let asked : c.has_register-2.result ≡ (bit_at e.needed r == 1) = rw place at c.has_register-2.ensures in
    let known : c.if-has_register-2.known ≡ (if bit_at e.needed r == 1 then slice_index e.needs r else c.args.value)
    = elim c.if-has_register-2.branch [
      | then-has_register-2 w ↦ rw (sym asked ∙ w.if-has_register-2.true) (rw place at w.known-is)
      | else-has_register-2 w ↦ rw (sym asked ∙ w.if-has_register-2.false) w.known-is
    ] in
    rw place (λ ops sums. with_other e ops c.args.register c.args.value c.if-has_register-2.known sums leaves needs own known)
