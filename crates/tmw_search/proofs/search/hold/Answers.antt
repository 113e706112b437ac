use Rattle.tmw_search.proofs.Shared.{In, ap, arith, effects, inl, inr, length, refl, set, shr_and_one, ℕ, ◌<◌, ◌∙◌, ◌≡◌}
use Rattle.tmw_search.proofs.Bits.{bit_cases}
use Rattle.tmw_search.proofs.Nodes.{set_or, held-with, reads-with, reads-same, member-already}
use Rattle.tmw_search.proofs.search.hold.Goals as goal

pub returns-then-node-i-eq0 : goal.returns-then-node-i-eq0
returns-then-node-i-eq0 c = λ start may n given.
    let i = c.args.i in
    let node = c.args.node.now in
    let size : length node.choices.reads ≡ 8 = omega arith in
    let not : In node.members i → ⊥ = λ has. absurd (omega (arith, has, shr_and_one node.members i, c.if-node-i-eq0.true)) in
    let members = λ (k : ℕ) (few : k < 8). set_or node.members i k c.requires in
    held-with (effects c.args.items.now) start may i node _ c.requires given n refl refl (λ k within. set_or node.held i k c.requires)
    members (rw c.written_at.ensures at c.add_writer.ensures)
    (reads-with (effects c.args.items.now) start may i node _ c.requires not size n members
    (ap (λ (m : ℕ). set node.choices.reads i m) c.needed_at.ensures))

pub returns-else-node-i-eq0 : goal.returns-else-node-i-eq0
returns-else-node-i-eq0 c = λ start may n given.
    let i = c.args.i in
    let node = c.args.node.now in
    let has : In node.members i = elim (bit_cases node.members i) [
      | inl none ↦ absurd (c.if-node-i-eq0.false (shr_and_one node.members i ∙ none))
      | inr one ↦ one
    ] in
    let members = λ (k : ℕ) (few : k < 8). member-already node.members i k has in
    held-with (effects c.args.items.now) start may i node _ c.requires given n refl refl (λ k within. set_or node.held i k c.requires)
    members (rw c.written_at.ensures at c.add_writer.ensures) (reads-same (effects c.args.items.now) start may i node _ has n members refl)
