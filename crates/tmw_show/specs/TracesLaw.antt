-- The law of the traces that `show --trace` writes: `judge` reads each of them as a trace. What it may say of traces of the whole window
-- tells whether the run is violated; those of a part are not final-state opaque, or not final-state strict.
use Rattle.tmw_show.specs.Shared.{AreEvents, Criterion, Event, Header, Registers, ShowOptions, Traces, Verdict, Violated, flat_map, members, rules_for, trace_text}
use Rattle.std.specs.Prelude.{All, IsTrue, List, [], length, map, ℕ, ◌↔◌, ◌∷◌, ◌≡◌, ◌≢◌, ◌≤◌}
use Rattle.tmw_trace.specs.declared.version.Version.TheVariants.{Two}
use Rattle.tmw_defs.specs.Criteria.{IsFinalBy}
use Rattle.tmw_defs.specs.History.{is_well_formed}
use Rattle.tmw_defs.specs.Verdict.{Rules, IsViolated, IsVerdict}
use Rattle.tmw_options.specs.declared.bounds.Bounds.{Bounds}
use Rattle.tmw_window.specs.WindowLaw.{at_end}
use Rattle.tmw_show.specs.declared.needed_events.NeededEvents.{NeededEvents}
use Rattle.tmw_show.specs.declared.needed_events.NeededEvents.TheVariants.{Part}
use Rattle.tmw_show.specs.declared.shown_trace.ShownTrace.{ShownTrace}
use Rattle.tmw_show.specs.RunShow.{IsShownOf, shown_events, shown_text}

-- The header is of version two and of these registers, and these are events of a trace with it.
pub record IsHeaderFor (registers : Registers) (events : List Event) (header : Header) : Type 0 where
  pub version : header.version ≡ Two
  pub same_registers : header.registers ≡ registers
  pub are_events : AreEvents header events

-- What `judge` judges a trace with this header by, as `trace_rules` of `tmw_judge` says.
abbrev pub rules_from : Criterion → Bounds → Header → Rules
rules_from criterion bounds header = rules_for criterion header.registers header.initial bounds

-- Each trace with one of these headers and these events is judged like a run with this verdict: the run is violated exactly when each of
-- them is violated at its end. Then each verdict on one of them is that it is violated, at its end or before. A
-- single trace has the run's own verdict, whichever it is, at its end.
pub record AreJudgedLike (criterion : Criterion) (bounds : Bounds) (verdict : Verdict) (events : List Event) (headers : List Header) : Type 0 where
  pub violated : ((at : ℕ) × (verdict ≡ Violated at)) ↔ All (λ header. IsViolated (rules_from criterion bounds header) events) headers
  pub answered : (at : ℕ) → verdict ≡ Violated at → All (λ header. (answer : Verdict)
      → IsVerdict (rules_from criterion bounds header) events answer → (k : ℕ) × (answer ≡ Violated k) × (k ≤ length events)) headers
  pub single : (header : Header) → headers ≡ header ∷ []
      → IsVerdict (rules_from criterion bounds header) events (at_end (length events) verdict)

-- The events are a well-formed history of a trace with this header that is not final-state opaque, or not final-state strict.
pub record IsContradictory (criterion : Criterion) (events : List Event) (header : Header) : Type 0 where
  pub formed : IsTrue (is_well_formed header.registers.number events)
  pub not_final : IsFinalBy criterion header.registers.number header.initial events → ⊥

-- How the traces are judged tells of the run: those of the whole window are judged like the run; those of a part contradict themselves.
abbrev pub TellOf : Criterion → Bounds → ShownTrace → NeededEvents → List Header → Type 0
TellOf criterion bounds shown (Part marks reason) headers = All (IsContradictory criterion (shown_events shown)) headers
TellOf criterion bounds shown _ headers = AreJudgedLike criterion bounds shown.showing.verdict (shown_events shown) headers

-- With `--trace` the texts of traces are written, one behind the other: one trace for each state that is shown, in order, which begins
-- with just that state and has just the events that are shown. There is one at least.
pub record AreTracesOf (options : ShowOptions) (shown : ShownTrace) : Type 0 where
  pub headers : List Header
  pub some : headers ≢ []
  pub states : map (λ header. header.initial) headers ≡ members shown.showing.states
  pub each : All (IsHeaderFor shown.registers (shown_events shown)) headers
  pub text : shown_text options.criterion options.before Traces shown ≡ flat_map (λ header. trace_text header (shown_events shown)) headers
  pub tell : TellOf options.criterion options.bounds shown shown.needed headers

-- So it is of whatever trace's bytes, by each criterion and within all bounds.
abbrev pub TracesLaw : Type 0
TracesLaw = (options : ShowOptions) (bytes : List ℕ) (shown : ShownTrace) → IsShownOf options bytes shown → AreTracesOf options shown
