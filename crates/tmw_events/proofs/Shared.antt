-- What the proofs of this crate take from the libraries, from the crates below and from its specs.
pub use Rattle.std.proofs.Common.{IfNone, IfSome, List, None, Option, Some, SomeIff, [], ap, arith, drop, drop-cons, get_or, length, refl, subst, suc, sym, zero, ℕ, ◌%◌, ◌*◌, ◌+◌, ◌-◌, ◌/◌, ◌<◌, ◌^◌, ◌∙◌, ◌∷◌, ◌≡◌, ◌≤◌}
pub use Rattle.std.specs.Str.Parse.{AllDigits, digits_value, digits_value_after}
pub use Rattle.tmw_events.specs.EventWords.{IsHeader, header_of, joined, kind_code, kind_register, kind_value, pack, packed_header, stamp_of, stamped}
pub use Rattle.tmw_events.specs.Text.{digit, kind_text}
pub use Rattle.tmw_events.specs.declared.event.Event.{Event}
pub use Rattle.tmw_events.specs.declared.event.Kind.{Kind}
pub use Rattle.tmw_events.specs.declared.event.Kind.TheVariants.{A, C, K, N, R, T, V, W, X}
pub use Rattle.tmw_events.specs.declared.ix.Ix.{Ix}
