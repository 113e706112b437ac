-- The event that two words of a ring tell.
use Rattle.std.specs.Prelude.{◌≡◌, ◌/◌, ◌%◌, ℕ, List, [], ◌∷◌, get_or}
use Rattle.std.proofs.Math.Nat.{mod-lt}
use Rattle.std.proofs.Common.{refl}
use Rattle.std.proofs.lemmas.Bool.{ltb-true}
use Rattle.tmw_events.specs.EventWords.{pack}
use Rattle.tmw_events.specs.Text.{FitsKind}
use Rattle.tmw_events.specs.declared.event.Event.{Event}
use Rattle.tmw_events.specs.declared.event.Kind.{Kind}
use Rattle.tmw_events.specs.declared.event.Kind.TheVariants.{R, V, W, K, T, C, X, A, N}
use Rattle.tmw_events.specs.declared.ix.Ix.{Ix}

-- the thread or register that is the rest of this number by 8
abbrev pub ix_of : ℕ → Ix
ix_of number = record { number = number % 8; below = mod-lt number (ltb-true 0 8 refl) }

-- the kinds in the order of their codes, with this register and this value where they have them
abbrev pub kinds : Ix → ℕ → List Kind
kinds register value =
    R register ∷ V value ∷ W register value ∷ K ∷ T ∷ C ∷ X ∷ A ∷ N register value ∷ []

-- the event that these words tell, where they are an event's: its first word has the kind's code before the thread's digit in
-- base 8 and the register's
abbrev pub unpacked : ℕ → ℕ → Event
unpacked header value = record { thread = ix_of (header / 8); kind = get_or (kinds (ix_of header) value) (header / 64) K }

-- These are the words of an event.
pub record AreOfEvent (header value : ℕ) : Type 0 where
  pub event : Event
  pub fits : FitsKind event.kind
  pub words : pack event ≡ (header, value)
