-- What the proofs of this crate take from the libraries, from the crates below and from its specs.
pub use Rattle.std.proofs.Common.{All, Bool, List, Some, [], ap, append-nil, append_assoc, ap₂, arith, bit_and, drop, eq-eqb, eqb, false, get_or, if◌then◌else◌, inl, inr, leb, length, lt_of_not-le, map, min, mod-eq_of_lt, ne_eqb, refl, replicate, rules, set, slice_set, subst, suc, sym, true, vec_capacity, zero, ℕ, ◌%◌, ◌*◌, ◌++◌, ◌+◌, ◌-◌, ◌<◌, ◌==◌, ◌^◌, ◌∙◌, ◌∷◌, ◌≡◌, ◌≢◌, ◌≤◌, ◌⊎◌}
pub use Rattle.std.proofs.lemmas.Bool.{leb-false, leb-true, ltb-false}
pub use Rattle.std.proofs.lemmas.List.{append_cancel_left, drop_all, get_or-set_other, get_or-set_same, length-replicate, length-set, length_push, set-get_or, take-append-drop}
pub use Rattle.std.proofs.lemmas.Option.{same_Some, slice_get-get_or, slice_get_within}
pub use Rattle.std.specs.Prelude.{slice_get, slice_index}
pub use Rattle.std.specs.Vec.Iter.{into_iter_items, into_iter_len}
pub use Rattle.atomic_table.proofs.Lists.{at_last, at_longer, at_map, at_set, set_else}
pub use Rattle.atomic_table.specs.Seated.{TableId}
pub use Rattle.atomic_table.specs.Table.{Allows, Final, Joins, Me, Seen, Splits, State, Step, keeps, opening, step, stepped}
pub use Rattle.tmw_events.proofs.EventWords.{packed_header-small, stamped-parts}
pub use Rattle.tmw_events.proofs.Unpacks.{pack-words, unpacked-pack, unpacked-words}
pub use Rattle.tmw_events.specs.EventOfWords.{ix_of, unpacked}
pub use Rattle.tmw_events.specs.EventWords.{IsHeader, header_of, joined, kind_value, pack, packed_header, stamp_of, stamped}
pub use Rattle.tmw_events.specs.Text.{FitsKind}
pub use Rattle.tmw_events.specs.declared.event.Event.{Event}
pub use Rattle.tmw_events.specs.declared.event.Kind.{Kind}
pub use Rattle.tmw_events.specs.declared.ix.Ix.{Ix}
pub use Rattle.tmw_ring_defs.proofs.RingPhases.{all_idle, phase_cases, phase_kept, phase_set}
pub use Rattle.tmw_ring_defs.proofs.RingPlaces.{event_of}
pub use Rattle.tmw_ring_defs.proofs.RingStart.{new_core-sound}
pub use Rattle.tmw_ring_defs.proofs.RingStores.{has_cell}
pub use Rattle.tmw_ring_defs.proofs.RunsActors.{all-own, last-among, last-item, last-known, none-beyond, none-left, own-cut, own-gone}
pub use Rattle.tmw_ring_defs.proofs.RunsProof.{gone-none, gone-others, gone-step, made-then, own-append, own-others, runs-append, runs-cut, runs-same}
pub use Rattle.tmw_ring_defs.proofs.RunsRoom.{places_claimed-append, places_freed-append, room_law, run-counted, runs-front, runs-tail}
pub use Rattle.tmw_ring_defs.specs.RingCells.{empty_cell, filled, published}
pub use Rattle.tmw_ring_defs.specs.RingCore.{Core, new_core}
pub use Rattle.tmw_ring_defs.specs.RingSound.{HasRead, IsHeld, IsIn, IsPublished, Sound, cleared}
pub use Rattle.tmw_ring_defs.specs.RingSteps.{Stepped, cell_at, core_step, free_step, peek_step, read_step, with_cell, with_phase}
pub use Rattle.tmw_ring_defs.specs.Room.{HasRoomFor, is_full, is_spent, last_tail, room_phase, room_reply}
pub use Rattle.tmw_ring_defs.specs.RoomLaw.{places_claimed, places_freed}
pub use Rattle.tmw_ring_defs.specs.Runs.{Gone, HasMade, IsRun, IsRunTo, NoneOf, Runs, actor_of, own, reader_actor, writer_actor}
pub use Rattle.tmw_ring_defs.specs.declared.ring_cell.RingCell.{RingCell}
pub use Rattle.tmw_ring_defs.specs.declared.ring_phase.ReaderPhase.{ReaderPhase}
pub use Rattle.tmw_ring_defs.specs.declared.ring_phase.ReaderPhase.TheVariants.{Ready, Told, Waiting}
pub use Rattle.tmw_ring_defs.specs.declared.ring_phase.WriterPhase.{WriterPhase}
pub use Rattle.tmw_ring_defs.specs.declared.ring_phase.WriterPhase.TheVariants.{Claimed, Cleared, Idle, Looked}
pub use Rattle.tmw_ring_defs.specs.declared.ring_size.RingSize.{RingSize}
pub use Rattle.tmw_ring_defs.specs.declared.ring_step.Answered.{Answered}
pub use Rattle.tmw_ring_defs.specs.declared.ring_step.Reply.TheVariants.{Filled, NotReady, Place, Published, Saw}
pub use Rattle.tmw_ring_defs.specs.declared.ring_step.Step.TheVariants.{Front, Peek, Tail}
pub use lib.ListN.{get_elem?}
pub use mathlib.Core.Option.{none, some, some-injective, some-ne-none}
pub use native.Mathlib.Decide.{dec_le, ℕ_discrete}
pub use Rattle.tmw_ring.specs.Meet.{FindsTail, HasFoundTail, IsOf, IsOfLog, ReaderMeets, SeatsHaveMet, WriterMeets, with_tail}
pub use Rattle.tmw_ring.specs.NewRing.{AreNewWriters, IsNewWriter}
pub use Rattle.tmw_ring.specs.Record.{HasRecorded, HasStepped, made_at}
pub use Rattle.tmw_ring.specs.RingEnds.{ReaderIs, RingIs, WriterIs, WriterOf}
pub use Rattle.tmw_ring.specs.Room.{FindsFront, HasFoundFront, HasFoundRoom, RoomStaysLaw, with_run}
pub use Rattle.tmw_ring.specs.Rule.{FitsPhase, IsReal, IsRecorded, Knows, Lies, PartFits, ReaderFits, Shown, WriterFits}
pub use Rattle.tmw_ring.specs.SeatPart.{Parts, key, made_from, new_parts, new_reader, new_writer, new_writers, run_of, size_of}
pub use Rattle.tmw_ring.specs.SeatParts.{IsIdleWriter, IsReader, IsRingTable, IsWaitingReader, IsWriter, reader_in, reader_is, second_alone, without_second, writer_in, writer_is}
pub use Rattle.tmw_ring.specs.Settle.{AreInOrder, HasEvent, IsSettled, event_at, events_from, header_at, part_of, value_at}
pub use Rattle.tmw_ring.specs.TableWords.{apart, cell_words, crossed, front_word, stamp_word, standing, tail_word, value_word, whole, word_count, words_of}
pub use Rattle.tmw_ring.specs.Take.{HasFoundNone, HasTaken, IsReadyReader, IsToldEvent, IsToldReader, PlaceFreed, ReaderMade, StampSeen, ValueRead, after_free, after_look, after_read, freeing, next_event, peeking, phase_after, phase_with, reading}
pub use Rattle.tmw_ring.specs.WriterSteps.{HasClaimed, HasFilled, HasPublished, HasSeenFront, HasSeenTail, IsSeatOf, WriterMade, claimed, claiming, done, filling, front_in, front_look, front_seen, place_in, publishing, tail_look, tail_seen, value_filled}
pub use Rattle.tmw_ring.specs.declared.seat_part.Made.{Made}
pub use Rattle.tmw_ring.specs.declared.seat_part.Part.{Part}
pub use Rattle.tmw_ring.specs.declared.seat_part.Part.TheVariants.{Reads, Writes}
pub use Rattle.tmw_ring.specs.declared.seat_part.ReaderPart.{ReaderPart}
pub use Rattle.tmw_ring.specs.declared.seat_part.WriterPart.{WriterPart}
