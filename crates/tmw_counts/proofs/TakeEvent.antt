-- The counter takes an event exactly where the history stays well-formed.
use Rattle.tmw_counts.proofs.Shared.{Counter, CountsSo, Err, Event, IfErr, IfOk, IsFalse, IsTrue, List, Ok, OnErr, Result, [], both_ways, is_well_formed, length, subst, sym, ℕ, ◌++◌, ◌-◌, ◌<◌, ◌^◌, ◌∷◌, ◌≡◌}
use Rattle.tmw_wellformed.specs.Faults.{Refuses}
use Rattle.tmw_wellformed.specs.declared.malformed.Malformed.{Malformed}

abbrev pub Takes : Event → Counter → Counter → Type 0
Takes e old new = (registers : ℕ) (history : List Event) → length history < 2 ^ 64 - 1 → CountsSo registers history old
    → CountsSo registers (history ++ e ∷ []) new

abbrev pub Refusal : Event → Counter → Malformed → Type 0
Refusal e old fault = (registers : ℕ) (history : List Event) → CountsSo registers history old → Refuses registers history e fault

module _ {A : Type 0} (e : Event) (old new : Counter) (registers : ℕ) (history : List Event) (low : length history < 2 ^ 64 - 1)
    (so : CountsSo registers history old) where
  pub taken-formed : (result : Result A Malformed) → IfOk result (λ _. Takes e old new) → IfErr result (Refusal e old)
      → IsTrue (is_well_formed registers (history ++ e ∷ [])) → CountsSo registers (history ++ e ∷ []) new
  taken-formed (Ok a) takes refuses formed = takes registers history low so
  taken-formed (Err fault) takes refuses formed = absurd (both_ways _ (refuses registers history so).ill_formed formed)

  pub kept-ill : (result : Result A Malformed) → IfOk result (λ _. Takes e old new) → OnErr result (new ≡ old)
      → IsFalse (is_well_formed registers (history ++ e ∷ [])) → CountsSo registers history new
  kept-ill (Ok a) takes stays ill = absurd (both_ways _ ill (takes registers history low so).tracks.formed)
  kept-ill (Err fault) takes stays ill = subst (λ (c : Counter). CountsSo registers history c) (sym stays) so
