-- What a trace's version lets its header and its events say.
use Rattle.tmw_trace.specs.Shared.{Event, Kind, N, false, list_all}
use Rattle.std.proofs.Common.{◌==◌}
use Rattle.std.specs.Prelude.{Bool, List, cond, drop, true, ℕ}
use Rattle.tmw_trace.specs.declared.version.Version.{Version}
use Rattle.tmw_trace.specs.declared.version.Version.TheVariants.{One, Two}

-- all of these values are 0
abbrev pub are_zeros : List ℕ → Bool
are_zeros = list_all (λ v. v == 0)

-- a run begins with 0 in each register past its number, and in version one in each
abbrev pub is_start : Version → ℕ → List ℕ → Bool
is_start One registers initial = are_zeros initial
is_start Two registers initial = are_zeros (drop registers initial)

-- version one has no add call
abbrev pub is_spoken : Version → Kind → Bool
is_spoken One (N r d) = false
is_spoken One _ = true
is_spoken Two _ = true

-- each of these events is one that the version has
abbrev pub are_spoken : Version → List Event → Bool
are_spoken version events = list_all (λ e. is_spoken version e.kind) events

-- version one, where it has all of these events, and else version two
abbrev pub version_of : List Event → Version
version_of events = cond (are_spoken One events) One Two
