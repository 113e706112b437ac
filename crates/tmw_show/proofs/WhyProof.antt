-- The last window of a violated run is searched, if it is short: it is well-formed, of at most eight transactions, and has no order.
use Rattle.tmw_show.proofs.Shared.{Bool, Bounds, Contains, Criterion, Event, HasOrderBy, IsFinalBy, IsJudgedAlike, IsMinimalPart, IsNeededOf, IsSearched, IsShowing, IsTrue, IsViolation, List, NeededEvents, NotViolated, Opacity, Part, Registers, ShownWindow, State, Strict, Unasked, Verdict, WindowLaw, arith, inl, inr, is_well_formed, length, marks_of, members, rules_for, subst, sym, transactions, true, ℕ, ◌∙◌, ◌≡◌, ◌≤◌}
use Rattle.tmw_show.specs.WhyLaw.{WhyLaw}
use Rattle.tmw_show.proofs.TracesProof.{no-item}

final_ordered : (c : Criterion) (registers : ℕ) (s : State) (events : List Event) → IsTrue (is_well_formed registers events)
    → HasOrderBy c s (transactions events) → IsFinalBy c registers s events
final_ordered Opacity registers s events formed ordered = record { formed = formed; ordered = ordered }
final_ordered Strict registers s events formed ordered = record { formed = formed; ordered = ordered }

searched : (c : Criterion) (bounds : Bounds) (registers : Registers) (start : State) (v : Verdict) (states : List State) (events : List Event)
    → IsJudgedAlike (rules_for c registers start bounds) v states events → IsViolation v → length events ≤ 1000
    → IsSearched c registers.number states events
searched c bounds registers start v states events alike (at, is) short =
    let (s, among) = alike.some in
    let violated = alike.violated.0 (at, is) in
    let narrow = alike.narrow at is in
    let most = bounds.most_transactions in
    record {
      some = λ empty. no-item s (subst (λ (items : List State). Contains items s) empty among);
      events = short;
      violated = record {
        few = omega (arith, narrow, most);
        formed = (violated s among).formed;
        none = λ (t, is_one, ordered).
            (violated t is_one).not_final (final_ordered c registers.number t events (violated t is_one).formed ordered);
      };
    }

minimal : (c : Criterion) (why : Bool) (registers : Registers) (showing : ShownWindow) (needed : NeededEvents) → IsNeededOf c why registers showing needed
    → why ≡ true → IsViolation showing.verdict → IsSearched c registers.number (members showing.states) showing.events.items
    → IsMinimalPart c registers.number (members showing.states) showing.events.items (marks_of needed showing.events.items)
minimal c why registers showing Unasked of asked violation search = let e = sym of ∙ asked in absurd (cc)
minimal c why registers showing NotViolated of asked violation search = absurd (of.1 violation)
minimal c why registers showing (Part marks reason) of asked violation search =
    elim of.2 [
      | inl found ↦ found.1
      | inr all ↦ absurd (all.0 search)
    ]

pub why_law : WindowLaw → WhyLaw
why_law window options bytes shown of asked violation short =
    let c = options.criterion in
    let bounds = options.bounds in
    let showing = shown.showing in
    let start = of.header.initial in
    let rules = rules_for c shown.registers start bounds in
    let tells : IsShowing rules of.history showing =
    subst (λ r. IsShowing (rules_for c r start bounds) of.history showing) (sym of.registers) of.tells in
    let alike = window rules of.history showing.verdict showing.from (members showing.states) showing.events.items bounds.some_states
    tells.judged tells.shown in
    minimal c options.why shown.registers showing shown.needed of.needed asked violation
    (searched c bounds shown.registers start showing.verdict (members showing.states) showing.events.items alike violation short)
