-- The events from a history's last cut on, and the whole.
use Rattle.tmw_window.proofs.Shared.{Contains, Event, HasMany, HasWide, HasWide_push, IsFinalBy, IsFine, IsLastCut, IsShown, IsTrue, IsVerdict, IsViolated, List, Rules, State, Verdict, [], ap, ap₂, arith, cases_lt, drop, drop-append-le, final-outcome, formed-final, from_state, get_or, inl, inr, is_cut, is_cut-append, is_well_formed, length, length-drop, length-take-le, outcomes_by, refl, rules, shown_length, subst, sums_up-new, sym, take, take-add, take-append-drop, take-length, take-take, take_more, transactions, ℕ, ◌&&◌, ◌++◌, ◌+◌, ◌-◌, ◌<◌, ◌↔◌, ◌∙◌, ◌∷◌, ◌≡◌, ◌≤◌}
use Rattle.tmw_window.proofs.Behind.{formed-append, formed-behind, HasWide-behind, final-behind}

-- the events from a history's last cut before its length m on, up to that length, with its outcomes at the cut
pub record IsPart (rules : Rules) (history : List Event) (m from : ℕ) (states : List State) (events : List Event) : Type 0 where
  pub within : m ≤ length history
  pub order : from ≤ m - 1
  pub last : IsLastCut (take (m - 1) history) from
  pub cut : IsTrue (is_cut (take from history))
  pub each : (s : State) → Contains states s ↔ outcomes_by rules.criterion rules.start (take from history) s
  pub window : events ≡ drop from (take m history)

pub shown-part : (rules : Rules) (h : List Event) (v : Verdict) (from : ℕ) (states : List State) (events : List Event)
    → shown_length (length h) v ≤ length h → IsShown rules h v from states events
    → IsPart rules h (shown_length (length h) v) from states events
shown-part rules h v from states events within shown =
    let o = shown.outcomes in
    let m = shown_length (length h) v in
    let long : length (take (m - 1) h) ≡ m - 1 = length-take-le (m - 1) h (omega (arith, within)) in
    let order : o.cut ≤ m - 1 = (let inside = o.last.is.0 in omega (arith, inside, long)) in
    let same : take o.cut (take (m - 1) h) ≡ take o.cut h = take-take o.cut (m - 1) h order in
    let at_cut : IsTrue (is_cut (take o.cut h)) = subst (λ (es : List Event). IsTrue (is_cut es)) same o.last.is.1 in
    let begins = sym shown.begins in
    record {
      within = within;
      order = subst (λ c. c ≤ m - 1) begins order;
      last = subst (λ c. IsLastCut (take (m - 1) h) c) begins o.last;
      cut = subst (λ c. IsTrue (is_cut (take c h))) begins at_cut;
      each = subst (λ c. (s : State) → Contains states s ↔ outcomes_by rules.criterion rules.start (take c h) s) begins
          (λ s. subst (λ (es : List Event). Contains states s ↔ outcomes_by rules.criterion rules.start es s) same (o.each s));
      window = shown.window;
    }

pub last-event : (h : List Event) (m : ℕ) → 0 < m → m ≤ length h → (e : Event) × (take m h ≡ take (m - 1) h ++ e ∷ [])
last-event [] m some within = absurd (omega (arith, some, within))
last-event (d ∷ h) m some within = (
  get_or (d ∷ h) (m - 1) d,
  ap (λ n. take n (d ∷ h)) (let same : m ≡ (m - 1) + 1 = omega (arith, some) in same) ∙ take_more (d ∷ h) (m - 1) d (omega (arith, some, within)),
)

module _ (rules : Rules) (h : List Event) (m from : ℕ) (states : List State) (events : List Event)
    (part : IsPart rules h m from states events) where
  -- the prefixes of the history are the past and prefixes of the part
  pub prefix : (k : ℕ) → from + k ≤ m → take (from + k) h ≡ take from h ++ take k events
  prefix k below =
      let order = part.order in
      sym (take-take (from + k) m h below) ∙ take-add from k (take m h)
      ∙ ap₂ (λ (a b : List Event). a ++ take k b) (take-take from m h (omega (arith, order))) (sym part.window)

  pub whole : take m h ≡ take from h ++ events
  whole =
      let order = part.order in
      sym (take-append-drop from (take m h))
      ∙ ap₂ (λ (a b : List Event). a ++ b) (take-take from m h (omega (arith, order))) (sym part.window)

  pub long : length events ≡ m - from
  long =
      let within = part.within in
      let all : length (take m h) ≡ m = length-take-le m h within in
      ap length part.window ∙ length-drop from (take m h) ∙ ap (λ n. n - from) all

  pub formed-whole : IsTrue (is_well_formed rules.registers (take m h)) → IsTrue (is_well_formed rules.registers (take from h ++ events))
  formed-whole formed = subst (λ (es : List Event). IsTrue (is_well_formed rules.registers es)) whole formed

  pub formed-part : (k : ℕ) → from + k ≤ m → IsTrue (is_well_formed rules.registers (take (from + k) h))
      → IsTrue (is_well_formed rules.registers (take k events))
  formed-part k below formed =
      formed-behind rules.registers (take from h) (take k events) part.cut
      (subst (λ (es : List Event). IsTrue (is_well_formed rules.registers es)) (prefix k below) formed)

  pub narrow-part : (k : ℕ) → from + k ≤ m → (HasWide rules.window (take (from + k) h) → ⊥) → HasWide rules.window (take k events) → ⊥
  narrow-part k below narrow wide =
      narrow (subst (HasWide rules.window) (sym (prefix k below)) (HasWide-behind rules.window (take from h) (take k events) part.cut wide))

  -- no cut lies inside
  pub uncut-part : (k : ℕ) → 0 < k → from + k < m → IsTrue (is_cut (take k events)) → ⊥
  uncut-part k some below cut =
      let within = part.within in
      let same : is_cut (take (from + k) h) ≡ is_cut (take k events) =
      ap is_cut (prefix k (omega (arith, below))) ∙ is_cut-append (take from h) (take k events) part.cut in
      let size : length (take (m - 1) h) ≡ m - 1 = length-take-le (m - 1) h (omega (arith, within)) in
      part.last.last (from + k) (omega (arith, some)) (
        omega (arith, below, size),
        subst (λ (es : List Event). IsTrue (is_cut es)) (sym (take-take (from + k) (m - 1) h (omega (arith, below)))) (same ∙ cut),
      )

  pub final-part : (k : ℕ) → from + k ≤ m → IsFinalBy rules.criterion rules.registers rules.start (take (from + k) h)
      → (s : State) × Contains states s × IsFinalBy rules.criterion rules.registers s (take k events)
  final-part k below final =
      let all = subst (IsFinalBy rules.criterion rules.registers rules.start) (prefix k below) final in
      let (s, is, own) = (final-behind rules.criterion rules.registers rules.start (take from h) (take k events) part.cut
      (formed-final rules.criterion rules.registers rules.start (take from h ++ take k events) all)).0 all in
      (s, (part.each s).1 is, own)

  pub final-events : IsFinalBy rules.criterion rules.registers rules.start (take m h)
      → (s : State) × Contains states s × IsFinalBy rules.criterion rules.registers s events
  final-events final =
      let all = subst (IsFinalBy rules.criterion rules.registers rules.start) whole final in
      let (s, is, own) = (final-behind rules.criterion rules.registers rules.start (take from h) events part.cut
      (formed-final rules.criterion rules.registers rules.start (take from h ++ events) all)).0 all in
      (s, (part.each s).1 is, own)

  -- from no state is anything wrong with no event
  pub none-fine : (s : State) → 0 < rules.states → IsFine (from_state rules s) []
  none-fine s some = (sums_up-new (from_state rules s) some).judged 0 (omega arith)

  -- a violated history's part is violated at its end
  pub violated-each : IsViolated rules (take m h) → (s : State) → Contains states s → IsViolated (from_state rules s) events
  violated-each here s is =
      let formed = formed-whole here.formed in
      record {
        formed = formed-behind rules.registers (take from h) events part.cut formed;
        narrow = λ wide. here.narrow (subst (HasWide rules.window) (sym whole) (HasWide-behind rules.window (take from h) events part.cut wide));
        not_final = λ final. here.not_final (subst (IsFinalBy rules.criterion rules.registers rules.start) (sym whole)
            ((final-behind rules.criterion rules.registers rules.start (take from h) events part.cut formed).1 (s, (part.each s).0 is, final)));
      }

  -- where it is violated from each state, the history is not final-state opaque, or strict
  pub all-violated : ((s : State) → Contains states s → IsViolated (from_state rules s) events)
      → IsFinalBy rules.criterion rules.registers rules.start (take m h) → ⊥
  all-violated all final =
      let (s, is, own) = final-events final in
      (all s is).not_final own

  -- and there is such a state
  pub some-state : IsFine rules (take from h) → (s : State) × Contains states s
  some-state fine =
      let (s, is) = final-outcome rules.criterion rules.registers rules.start (take from h) fine.final in
      (s, (part.each s).1 is)

  pub all-formed : IsFine rules (take from h) → ((s : State) → Contains states s → IsViolated (from_state rules s) events)
      → IsTrue (is_well_formed rules.registers (take m h))
  all-formed fine all =
      let (s, is) = some-state fine in
      ap (is_well_formed rules.registers) whole ∙ formed-append rules.registers (take from h) events part.cut
      ∙ ap₂ (λ a b. a && b) (formed-final rules.criterion rules.registers rules.start (take from h) fine.final) (all s is).formed

  -- the part is a window of its own
  pub wide-events : rules.window < length (transactions events) → HasWide rules.window events
  wide-events wide =
      let size = long in
      record {
        from = 0;
        upto = length events;
        window = record {
          order = omega arith;
          opens = (omega arith, refl);
          inside = λ at after before cut. uncut-part at after (omega (arith, before, size)) cut.1;
          closes = inl refl;
        };
        wide = subst (λ (es : List Event). rules.window < length (transactions es)) (sym (take-length events)) wide;
      }

  -- where the whole is the first that is wide, the part is
  pub wide-end : 0 < m → IsFine rules (take (m - 1) h) → HasWide rules.window (take m h) → HasWide rules.window events
  wide-end some fine wide =
      let within = part.within in
      let order = part.order in
      let (e, more) = last-event h m some within in
      let size : length (take (m - 1) h) ≡ m - 1 = length-take-le (m - 1) h (omega (arith, within)) in
      let own : events ≡ drop from (take (m - 1) h) ++ e ∷ [] =
      part.window ∙ ap (drop from) more ∙ drop-append-le from (take (m - 1) h) (e ∷ []) (omega (arith, order, size)) in
      elim (HasWide_push rules.window from (take (m - 1) h) e part.last (subst (HasWide rules.window) more wide)) [
        | inl before ↦ absurd (fine.narrow before)
        | inr after ↦ wide-events (subst (λ (es : List Event). rules.window < length (transactions es)) (sym own) after)
      ]

  -- each prefix of the part from a state, up to its end: well-formed, narrow, and with few outcomes
  pub fine-before : (k : ℕ) → k < length events → 0 < rules.states → IsFine rules (take (from + k) h) → (s : State)
      → IsFinalBy rules.criterion rules.registers s (take k events) → IsFine (from_state rules s) (take k events)
  fine-before k below some fine s final =
      let size = long in
      record {
        narrow = narrow-part k (omega (arith, below, size)) fine.narrow;
        few = λ many. elim (cases_lt 0 k) [
          | inl later ↦ uncut-part k later (omega (arith, below, size)) many.cut
          | inr first ↦
              let none : take k events ≡ [] = ap (λ n. take n events) (let same : k ≡ 0 = omega (arith, first) in same) in
              (none-fine s some).few (subst (HasMany (from_state rules s)) none many)
        ];
        final = final;
      }

-- the length at which something is wrong is one of the history's
pub shown-within : (rules : Rules) (h : List Event) (v : Verdict) → IsVerdict rules h v → shown_length (length h) v ≤ length h
shown-within rules h v is = grind arith
