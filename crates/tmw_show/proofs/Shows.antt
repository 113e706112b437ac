-- The events that are shown of a trace are numbered up to the trace's length.
use Rattle.tmw_show.proofs.Shared.{Event, IsShown, IsShownOf, List, Rules, ShowOptions, ShownTrace, State, Verdict, ap, arith, length, shown_length, take, ℕ, ◌+◌, ◌-◌, ◌^◌, ◌∙◌, ◌≤◌}
use Rattle.std.proofs.lemmas.List.{length-drop, length-take}

-- the window ends within the history
numbered : (rules : Rules) (history : List Event) (v : Verdict) (from : ℕ) (states : List State) (events : List Event)
    → IsShown rules history v from states events → from + length events ≤ length history
numbered rules history v from states events shown =
    let m = shown_length (length history) v in
    let before = length-take (m - 1) history in
    let all = length-take m history in
    let rest = ap length shown.window ∙ length-drop from (take m history) in
    let inside = shown.outcomes.last.is.0 in
    let begins = shown.begins in
    omega (arith, before, all, rest, inside, begins)

pub shown-numbered : (options : ShowOptions) (bytes : List ℕ) (shown : ShownTrace) → IsShownOf options bytes shown
    → shown.showing.from + length shown.showing.events.items ≤ 2 ^ 40
shown-numbered options bytes shown of =
    let within = numbered _ of.history shown.showing.verdict shown.showing.from _ shown.showing.events.items of.tells.shown in
    let few = of.are_events.few in
    omega (arith, within, few)
