-- What the proofs of this crate take from the libraries, from the crates below and from its specs.
pub use Rattle.std.proofs.Common.{Bool, List, Some, [], ap, arith, length, length-append, refl, rules, subst, sym, take, vec_capacity, vec_len, ℕ, ◌++◌, ◌+◌, ◌<◌, ◌^◌, ◌∙◌, ◌∷◌, ◌≡◌, ◌≤◌}
pub use Rattle.std.proofs.lemmas.List.{length-take-le, take_all, take_more}
pub use Rattle.tmw_ring_defs.proofs.RingStart.{new_core-sound}
pub use Rattle.tmw_ring_defs.specs.RingMachine.{Machine, after, answered, machine_step, new_machine, replies}
pub use Rattle.tmw_ring_defs.specs.RingSound.{HasRead, IsIn, Sound, Spares}
pub use Rattle.tmw_ring_defs.specs.declared.ring_step.Reply.{Reply}
pub use Rattle.tmw_ring_defs.specs.declared.ring_step.Step.{Step}
pub use Rattle.tmw_ring_steps.specs.RingState.{core_of, machine_of}
pub use Rattle.tmw_ring_steps.specs.Runs.{GoesOnAsOneLog, RanFirst}
pub use Rattle.tmw_ring_steps.specs.SimulatedRing.{SimulatedRing}
