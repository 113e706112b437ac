-- What the proofs of this crate take from the libraries, from the crates below and from its specs.
pub use Rattle.std.proofs.Common.{[], add-one, ap, append-nil, append_assoc, arith, decimal, drop, drop-cons, Err, get_or, IsTrue, length, List, Ok, Result, rules, subst, sym, take, take-add, take-append-drop, take-take, ℕ, ◌++◌, ◌+◌, ◌-◌, ◌<◌, ◌∙◌, ◌∷◌, ◌≡◌, ◌≤◌}
pub use Rattle.std.proofs.KnownBytes.{Appends-nil, Appends-trans, Consumes-nil, Consumes-trans}
pub use Rattle.std.proofs.Math.Seq.{take-append-add}
pub use Rattle.std.proofs.lemmas.Grind.{flat_map-append}
pub use Rattle.std.proofs.lemmas.List.{drop-drop, length-append, length-drop, length-take-le, take-append-le, take_all, take_rest}
pub use Rattle.std.specs.Coded.{le_prop, →_prop}
pub use Rattle.std.specs.Io.KnownBytes.{Appends, Consumes}
pub use Rattle.std.specs.List.{flat_map}
pub use Rattle.std.specs.Result.{IsErr}
pub use Rattle.tmw_streams.specs.BoundedSink.{bounded_bytes, to_bounded}
pub use Rattle.tmw_streams.specs.ItemLines.{lines_of}
pub use Rattle.tmw_streams.specs.PutsOn.{PassesOn, PutsOn}
pub use Rattle.tmw_streams.specs.Streams.{FromSource, ToSink}
pub use Rattle.tmw_streams.specs.Transfers.{Adds, one_more, Puts, Reads, Takes, TakesBeginning, Tells}
pub use Rattle.tmw_streams.specs.declared.bounded_sink.BoundedSink.{BoundedSink}
pub use Rattle.tmw_streams.specs.declared.memory_source.MemorySource.{MemorySource}
