-- What the proofs of this crate take from the libraries, from the crates below and from its specs.
pub use Rattle.std.proofs.Common.{Bool, List, None, Some, [], ap, append-nil, append_assoc, arith, drop, eq-eqb, false, get_or, if◌then◌else◌, inl, inr, length, length-append, ne_eqb, option_and_then, refl, replicate, slice_get, slice_set, subst, suc, sym, take, take-append-drop, true, zero, ℕ, ◌%◌, ◌++◌, ◌+◌, ◌-◌, ◌<◌, ◌==◌, ◌∙◌, ◌∷◌, ◌≡◌, ◌≢◌, ◌≤◌, ◌⊎◌}
pub use Rattle.std.proofs.lemmas.Bool.{cases_eq, cases_lt, eqb-true, ltb-false}
pub use Rattle.std.proofs.lemmas.List.{get_or-set_other, get_or-set_same, length-replicate, length-set, length_push, take-append-le, take_more}
pub use Rattle.std.proofs.lemmas.List.Elements.{All-replicate, All-set, All-weaker}
pub use Rattle.std.proofs.lemmas.Option.{get_or_from_slice_get, none-some, option_and_then_some, same_Some, slice_get_within, some_pair_parts}
pub use Rattle.tmw_events.proofs.Unpacks.{unpacked-pack}
pub use Rattle.tmw_events.specs.EventOfWords.{unpacked}
pub use Rattle.tmw_events.specs.EventWords.{kind_value, packed_header}
pub use Rattle.tmw_events.specs.declared.event.Event.{Event}
pub use Rattle.tmw_events.specs.declared.event.Kind.{Kind}
pub use Rattle.tmw_events.specs.declared.ix.Ix.{Ix}
pub use Rattle.tmw_ring_defs.specs.OneLog.{Announced, AskInOrder, Asks, IsOneLog, OneLogLaw, OneRunLaw, Sequential, announced_by, announces, appended, replies_of, sequential_of, steps_of}
pub use Rattle.tmw_ring_defs.specs.RingCells.{Shows, cell_of, empty_cell, filled, published, set_cell}
pub use Rattle.tmw_ring_defs.specs.RingCore.{Core, new_core}
pub use Rattle.tmw_ring_defs.specs.RingMachine.{Machine, after, machine_step, new_machine, replies}
pub use Rattle.tmw_ring_defs.specs.RingSound.{HasRead, Holds, IsHeld, IsIn, IsPublished, Sound, Spares, StepLaw, cleared, one_if_cleared}
pub use Rattle.tmw_ring_defs.specs.RingSteps.{Stepped, by_writer, cell_at, claim_step, core_step, fill_step, free_step, front_step, peek_step, publish_step, read_step, tail_step, with_cell, with_phase}
pub use Rattle.tmw_ring_defs.specs.Room.{HasRoomFor, is_full, is_spent, last_tail, room_phase, room_reply}
pub use Rattle.tmw_ring_defs.specs.RoomLaw.{RoomLaw, claims, frees, places_claimed, places_freed}
pub use Rattle.tmw_ring_defs.specs.Runs.{Gone, HasMade, IsRunTo, NoneOf, Runs, actor_of, own}
pub use Rattle.tmw_ring_defs.specs.declared.ring_cell.RingCell.{RingCell}
pub use Rattle.tmw_ring_defs.specs.declared.ring_phase.ReaderPhase.{ReaderPhase}
pub use Rattle.tmw_ring_defs.specs.declared.ring_phase.ReaderPhase.TheVariants.{Ready, Told, Waiting}
pub use Rattle.tmw_ring_defs.specs.declared.ring_phase.WriterPhase.{WriterPhase}
pub use Rattle.tmw_ring_defs.specs.declared.ring_phase.WriterPhase.TheVariants.{Claimed, Cleared, Idle, Looked}
pub use Rattle.tmw_ring_defs.specs.declared.ring_size.RingSize.{RingSize}
pub use Rattle.tmw_ring_defs.specs.declared.ring_step.Answered.{Answered}
pub use Rattle.tmw_ring_defs.specs.declared.ring_step.Reply.{Reply}
pub use Rattle.tmw_ring_defs.specs.declared.ring_step.Reply.TheVariants.{Filled, NotNow, Place, Published, Saw, Stopped}
pub use Rattle.tmw_ring_defs.specs.declared.ring_step.Step.{Step}
pub use Rattle.tmw_ring_defs.specs.declared.ring_step.Step.TheVariants.{Claim, Fill, Free, Front, Peek, Publish, Read, Stop, Tail}
