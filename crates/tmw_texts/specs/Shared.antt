-- What the definitions and contracts of this crate take from the libraries and from the crates below.
pub use Rattle.std.specs.Fmt.{decimal}
pub use Rattle.std.specs.List.{flat_map, list_any}
pub use Rattle.tmw_defs.specs.Opaque.{State}
pub use Rattle.tmw_events.specs.Text.{event_text, kind_text}
pub use Rattle.tmw_events.specs.declared.event.Event.{Event}
pub use Rattle.tmw_events.specs.declared.registers.Registers.{Registers}
pub use Rattle.tmw_lines.specs.LineFeeds.{line}
pub use Rattle.tmw_streams.specs.Memory.{held_bytes}
pub use Rattle.tmw_trace.specs.Text.{values_text}
