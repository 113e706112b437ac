-- The traces that are written of what is shown are judged as the run is.
use Rattle.tmw_show.proofs.Shared.{All, AllByRecursion, AreJudgedLike, Bool, Bounds, Contains, Criterion, Event, FindsPart, FitsKind, FitsRegisters, HasOrderBy, Header, IsContradictory, IsFinalBy, IsHeaderFor, IsJudgedAlike, IsNeededOf, IsShowing, IsVerdict, IsViolated, List, NeededEvents, One, Opacity, Part, Registers, ShownTrace, State, StatesLaw, Strict, TellOf, TracesLaw, Two, Verdict, WindowLaw, [], ap, arith, at_end, drop, false, get_or, length, list_all, map, marks_of, members, refl, rules_for, rules_from, shown_events, shown_length, subst, sym, take, take-append-drop, transactions, true, ℕ, ◌==◌, ◌^◌, ◌∙◌, ◌∷◌, ◌≡◌, ◌≢◌, ◌≤◌}
use Rattle.tmw_trace.specs.declared.version.Version.{Version}
use Rattle.std.proofs.lemmas.Bool.{and_parts}
use Rattle.std.proofs.lemmas.List.Elements.{All-contains, All-drop, All-from_recursion, All-take, Contains-get_or, recursion_from_All}
use Rattle.std.proofs.lemmas.List.Folds.{list_all-append}
use Rattle.tmw_trace.specs.Version.{is_start}
use Rattle.tmw_defs.specs.declared.verdict.Verdict.TheVariants.{Violated}
use Rattle.tmw_kept.specs.KeptEvents.{kept_of}
use Rattle.tmw_part.proofs.Fewer.{kept-all}
use Rattle.tmw_show.proofs.Shows.{shown-numbered}
use Rattle.tmw_show.proofs.StateHeaders.{header_of, headers_of, initials-headers_of, each-headers_of, headers_of-each, heads-header_of, text-headers_of}

-- a header's state is one of the run
start-zeros : (version : Version) (registers : ℕ) (initial : List ℕ) → is_start version registers initial ≡ true
    → list_all (λ value. value == 0) (drop registers initial) ≡ true
start-zeros One registers initial starts =
    let p : ℕ → _ = λ value. value == 0 in
    (and_parts (list_all p (take registers initial)) _
    (sym (list_all-append p (take registers initial) (drop registers initial))
    ∙ (ap (list_all p) (take-append-drop registers initial) ∙ starts))).1
start-zeros Two registers initial starts = starts

-- what holds of each member holds of each by recursion, and the other way round
each-member : {A : Type 0} (P : A → Type 0) (xs : List A) → ((x : A) → Contains xs x → P x) → AllByRecursion P xs
each-member P xs each = recursion_from_All P xs (λ k d within. each (get_or xs k d) (Contains-get_or xs k d within))

each_member : {A : Type 0} (P : A → Type 0) (xs : List A) → AllByRecursion P xs → (x : A) → Contains xs x → P x
each_member P xs all x is = All-contains P xs x (All-from_recursion P xs all) is

pub no-item : {A : Type 0} (x : A) → Contains {X = A} [] x → ⊥
no-item x (k, within, is) = absurd (omega (arith, within))

-- the headers of the states are judged like the run
module _ (c : Criterion) (bounds : Bounds) (registers : Registers) (start : State) (v : Verdict) (states : List State) (events : List Event)
    (fit : AllByRecursion (FitsRegisters registers.number) states)
    (alike : IsJudgedAlike (rules_for c registers start bounds) v states events) where
  some-header : headers_of registers states fit ≢ []
  some-header none =
      let empty : states ≡ [] = sym (initials-headers_of registers states fit) ∙ ap (map (λ (h : Header). h.initial)) none in
      let (s, among) = alike.some in
      absurd (no-item s (subst (λ (items : List State). Contains items s) empty among))

  sole-header : All (IsHeaderFor registers events) (headers_of registers states fit) → (header : Header)
      → headers_of registers states fit ≡ header ∷ [] → IsVerdict (rules_from c bounds header) events (at_end (length events) v)
  sole-header heads header one =
      let own : IsHeaderFor registers events header = (subst (λ (hs : List Header). All (IsHeaderFor registers events) hs) one heads) 0 header (omega arith) in
      let state : states ≡ header.initial ∷ [] =
      sym (initials-headers_of registers states fit) ∙ ap (map (λ (h : Header). h.initial)) one in
      subst (λ r. IsVerdict (rules_for c r header.initial bounds) events (at_end (length events) v)) (sym own.same_registers)
      (alike.single header.initial state)

  judged : All (IsHeaderFor registers events) (headers_of registers states fit) → AreJudgedLike c bounds v events (headers_of registers states fit)
  judged heads =
      let Wrong : Header → Type 0 = λ header. IsViolated (rules_from c bounds header) events in
      let Answered : Header → Type 0 = λ header. (answer : Verdict) → IsVerdict (rules_from c bounds header) events answer
      → (k : ℕ) × (answer ≡ Violated k) × (k ≤ length events) in
      let At : State → Type 0 = λ s. IsViolated (rules_for c registers s bounds) events in
      record {
        violated = (
          λ is. All-from_recursion Wrong (headers_of registers states fit) (each-headers_of registers Wrong states fit
              (each-member (λ s. (f : FitsRegisters registers.number s) → Wrong (header_of registers s f)) states
              (λ s among f. alike.violated.0 is s among))),
          λ all. alike.violated.1 (each_member At states (headers_of-each registers Wrong At (λ s f violated. violated) states fit
              (recursion_from_All Wrong (headers_of registers states fit) all))),
        );
        answered = λ at is. All-from_recursion Answered (headers_of registers states fit) (each-headers_of registers Answered states fit
            (each-member (λ s. (f : FitsRegisters registers.number s) → Answered (header_of registers s f)) states
            (λ s among f answer given. alike.answered at is s among answer given)));
        single = sole-header heads;
      }

-- of these events some are kept
kept-each : (P : Event → Type 0) (marks : List Bool) (events : List Event) → AllByRecursion P events → AllByRecursion P (kept_of marks events)
kept-each P [] events all = tt
kept-each P (mark ∷ marks) [] all = tt
kept-each P (true ∷ marks) (event ∷ events) all = (all.0, kept-each P marks events all.1)
kept-each P (false ∷ marks) (event ∷ events) all = kept-each P marks events all.1

kept-few : (marks : List Bool) (events : List Event) → length (kept_of marks events) ≤ length events
kept-few [] events = omega arith
kept-few (mark ∷ marks) [] = omega arith
kept-few (true ∷ marks) (event ∷ events) = (let few = kept-few marks events in omega (arith, few))
kept-few (false ∷ marks) (event ∷ events) = (let few = kept-few marks events in omega (arith, few))

ordered-final : (c : Criterion) (registers : ℕ) (s : State) (events : List Event) → IsFinalBy c registers s events
    → HasOrderBy c s (transactions events)
ordered-final Opacity registers s events final = final.ordered
ordered-final Strict registers s events final = final.ordered

-- what is found in a window that is violated from a state is well-formed, and not final from it
contradictory : (c : Criterion) (bounds : Bounds) (registers : Registers) (states : List State) (events : List Event) (marks : List Bool)
    → FindsPart c registers.number states events marks → (s : State) (f : FitsRegisters registers.number s) → Contains states s
    → IsViolated (rules_for c registers s bounds) events → IsContradictory c (kept_of marks events) (header_of registers s f)
contradictory c bounds registers states events marks finds s f among violated = grind (arith, ordered-final, kept_of, kept-all)

-- how the traces of what is shown are judged
tells-by : (c : Criterion) (bounds : Bounds) (shown : ShownTrace) (start : State) (why : Bool) (needed : NeededEvents)
    → (fit : AllByRecursion (FitsRegisters shown.registers.number) (members shown.showing.states))
    → shown.needed ≡ needed → IsNeededOf c why shown.registers shown.showing needed
    → IsJudgedAlike (rules_for c shown.registers start bounds) shown.showing.verdict (members shown.showing.states) shown.showing.events.items
    → All (IsHeaderFor shown.registers (shown_events shown)) (headers_of shown.registers (members shown.showing.states) fit)
    → TellOf c bounds shown needed (headers_of shown.registers (members shown.showing.states) fit)
tells-by c bounds shown start why (Part marks reason) fit is of alike heads =
    let registers = shown.registers in
    let states = members shown.showing.states in
    let events = shown.showing.events.items in
    let kept : shown_events shown ≡ kept_of marks.items events = rw is refl in
    rw kept (All-from_recursion (IsContradictory c (kept_of marks.items events)) (headers_of registers states fit)
    (each-headers_of registers (IsContradictory c (kept_of marks.items events)) states fit
    (each-member (λ s. (f : FitsRegisters registers.number s) → IsContradictory c (kept_of marks.items events) (header_of registers s f)) states
    (λ s among f. contradictory c bounds registers states events marks.items of.2 s f among (alike.violated.0 of.1 s among)))))
tells-by c bounds shown start why needed fit is of alike heads =
    let same : shown_events shown ≡ shown.showing.events.items = rw is (kept-all shown.showing.events.items) in
    rw same (judged c bounds shown.registers start shown.showing.verdict (members shown.showing.states) shown.showing.events.items fit alike
    (rw same at heads))

pub traces_law : WindowLaw → StatesLaw → TracesLaw
traces_law window states_law options bytes shown of =
    let c = options.criterion in
    let bounds = options.bounds in
    let registers = shown.registers in
    let window_events = shown.showing.events.items in
    let marks = marks_of shown.needed window_events in
    let events = shown_events shown in
    let states = members shown.showing.states in
    let start = of.header.initial in
    let tells : IsShowing (rules_for c registers start bounds) of.history shown.showing =
    subst (λ r. IsShowing (rules_for c r start bounds) of.history shown.showing) (sym of.registers) of.tells in
    let kinds : All (λ event. FitsKind event.kind) of.history = λ k d within. (of.are_events.fit.items_fit k d within).0 in
    let begins : FitsRegisters registers.number start = subst (λ r. FitsRegisters r.number start) (sym of.registers) (record {
      eight = of.are_events.fit.header_fits.0;
      values = of.are_events.fit.header_fits.1;
      zeros = start-zeros of.header.version of.header.registers.number start of.header.starts;
    }) in
    let fit : AllByRecursion (FitsRegisters registers.number) states = each-member (FitsRegisters registers.number) states
    (states_law (rules_for c registers start bounds) of.history shown.showing.verdict shown.showing.from states window_events tells.judged tells.shown
    begins kinds) in
    let alike = window (rules_for c registers start bounds) of.history shown.showing.verdict shown.showing.from states window_events bounds.some_states
    tells.judged tells.shown in
    let last = shown_length (length of.history) shown.showing.verdict in
    let own : All (λ event. FitsKind event.kind) window_events = subst (All (λ event. FitsKind event.kind)) (sym tells.shown.window)
    (All-drop (λ event. FitsKind event.kind) shown.showing.from (take last of.history)
    (All-take (λ event. FitsKind event.kind) last of.history kinds)) in
    let kept : All (λ event. FitsKind event.kind) events = All-from_recursion (λ event. FitsKind event.kind) events
    (kept-each (λ event. FitsKind event.kind) marks window_events (recursion_from_All (λ event. FitsKind event.kind) window_events own)) in
    let few : length events ≤ 2 ^ 40 =
    (let numbered = shown-numbered options bytes shown of in let fewer = kept-few marks window_events in omega (arith, numbered, fewer)) in
    let heads : All (IsHeaderFor registers events) (headers_of registers states fit) =
    All-from_recursion _ (headers_of registers states fit) (each-headers_of registers (IsHeaderFor registers events) states fit
    (each-member (λ s. (f : FitsRegisters registers.number s) → IsHeaderFor registers events (header_of registers s f)) states
    (λ s at f. heads-header_of registers events kept few s f))) in
    record {
      headers = headers_of registers states fit;
      some = some-header c bounds registers start shown.showing.verdict states window_events fit alike;
      states = initials-headers_of registers states fit;
      each = heads;
      text = text-headers_of registers events states fit;
      tell = tells-by c bounds shown start options.why shown.needed fit refl of.needed alike heads;
    }
