-- The first event that fits no run, with an event more.
use Rattle.tmw_monitor.proofs.Shared.{BrokenRule, Event, Follows, IsBrokenAt, List, None, Option, Refuses, Some, TellsFollowed, Window, [], ap, append_assoc, false, is_some, length, refl, true, ℕ, ◌++◌, ◌+◌, ◌∙◌, ◌∷◌, ◌≡◌}
use Rattle.tmw_wellformed.specs.declared.malformed.Malformed.{Malformed}

-- it stays the first
pub broken-stays : (registers : ℕ) (h : List Event) (e : Event) (broken : BrokenRule) → IsBrokenAt registers h broken
    → IsBrokenAt registers (h ++ e ∷ []) broken
broken-stays registers h e broken was = record {
  before = was.before;
  event = was.event;
  rest = was.rest ++ e ∷ [];
  is = ap (λ (xs : List Event). xs ++ e ∷ []) was.is ∙ append_assoc was.before (was.event ∷ was.rest) (e ∷ []);
  at = was.at;
  formed = was.formed;
  refused = was.refused;
}

-- one that is refused is the first
pub broken-here : (registers : ℕ) (h : List Event) (e : Event) (at : ℕ) (rule : Malformed) (window : Window) → at ≡ length h + 1
    → Follows registers h window → Refuses registers h e rule → IsBrokenAt registers (h ++ e ∷ []) (record { at = at; rule = rule })
broken-here registers h e at rule window place follows refused = record {
  before = h;
  event = e;
  rest = [];
  is = refl;
  at = place;
  formed = follows.formed;
  refused = refused;
}

pub followed-stays : (registers : ℕ) (h : List Event) (e : Event) (window : Window) (broken : Option BrokenRule) → is_some broken ≡ true
    → TellsFollowed registers h window broken → TellsFollowed registers (h ++ e ∷ []) window broken
followed-stays registers h e window None is told = absurd (cc)
followed-stays registers h e window (Some broken) is told = broken-stays registers h e broken told

pub follows-still : (registers : ℕ) (h : List Event) (window : Window) (broken : Option BrokenRule) → is_some broken ≡ false
    → TellsFollowed registers h window broken → (broken ≡ None) × Follows registers h window
follows-still registers h window None is told = (refl, told)
follows-still registers h window (Some broken) is told = absurd (cc)

-- what is forgotten of a window leaves what is told
pub followed-forgot : (registers : ℕ) (h : List Event) (window left : Window) (broken : Option BrokenRule)
    → (Follows registers h window → Follows registers h left)
    → TellsFollowed registers h window broken → TellsFollowed registers h left broken
followed-forgot registers h window left None forgets told = forgets told
followed-forgot registers h window left (Some broken) forgets told = told
