-- What is shown of a history that begins from a single state has the history's verdict, at its end.
use Rattle.tmw_window.proofs.Shared.{Contains, Event, HasWide, IsFinalBy, IsFine, IsFirst, IsMalformed, IsTooMany, IsTooWide, IsTrue, IsVerdict, IsViolated, List, Malformed, OpaqueSoFar, Rules, State, States, StrictSoFar, Transactions, Undecided, Verdict, Violated, [], ap, arith, at_end, cases_lt, cut_law, false, formed-final, from_state, get_or, inl, inr, is_cut, is_cut-append, is_well_formed, length, outcomes_by, refl, rules, shown_length, subst, sym, take, take-length, true, ℕ, ◌&&◌, ◌+◌, ◌-◌, ◌<◌, ◌∙◌, ◌∷◌, ◌≡◌, ◌≤◌}
use Rattle.tmw_window.proofs.Behind.{formed-append, formed-behind, HasWide-behind}
use Rattle.tmw_window.proofs.Part.{IsPart, whole, long, formed-whole, final-part, final-events, none-fine, violated-each, wide-end, fine-before}

sole : (s t : State) → Contains (s ∷ []) t → t ≡ s
sole s t (i, below, is) = grind arith

module _ (rules : Rules) (h : List Event) (m from : ℕ) (states : List State) (events : List Event)
    (part : IsPart rules h m from states events) (s : State) (one : states ≡ s ∷ []) where
  is-state : Contains states s
  is-state = subst (λ (ss : List State). Contains ss s) (sym one) (0, omega arith, refl)

  only : (t : State) → Contains states t → t ≡ s
  only t is = sole s t (subst (λ (ss : List State). Contains ss t) one is)

  -- nothing is wrong with its shorter prefixes
  single-before : 0 < rules.states → ((k : ℕ) → k < m → IsFine rules (take k h)) → (k : ℕ) → k < length events
      → IsFine (from_state rules s) (take k events)
  single-before some before k below =
      let size = long rules h m from states events part in
      let fine = before (from + k) (omega (arith, below, size)) in
      let (t, is, final) = final-part rules h m from states events part k (omega (arith, below, size)) fine.final in
      fine-before rules h m from states events part k below some fine s
      (subst (λ x. IsFinalBy rules.criterion rules.registers x (take k events)) (only t is) final)

  -- it is at a cut where the whole is, with the same outcomes
  cut-whole : is_cut (take m h) ≡ is_cut events
  cut-whole = ap is_cut (whole rules h m from states events part) ∙ is_cut-append (take from h) events part.cut

  outcome-whole : IsTrue (is_well_formed rules.registers (take m h)) → IsTrue (is_cut events) → (end : State)
      → outcomes_by rules.criterion s events end → outcomes_by rules.criterion rules.start (take m h) end
  outcome-whole formed cut end (t, same, leads) =
      let law = cut_law rules.criterion rules.registers rules.start (take from h) events
      (formed-whole rules h m from states events part formed) part.cut in
      subst (λ (es : List Event). outcomes_by rules.criterion rules.start es end) (sym (whole rules h m from states events part))
      ((law.ends (is_cut-append (take from h) events part.cut ∙ cut) end).1
      (t, subst (outcomes_by rules.criterion rules.start (take from h)) (sym same) ((part.each s).0 is-state), leads))

  whole-outcome : IsTrue (is_well_formed rules.registers (take m h)) → IsTrue (is_cut events) → (end : State)
      → outcomes_by rules.criterion rules.start (take m h) end → outcomes_by rules.criterion s events end
  whole-outcome formed cut end ends =
      let law = cut_law rules.criterion rules.registers rules.start (take from h) events
      (formed-whole rules h m from states events part formed) part.cut in
      let (t, is, leads) = (law.ends (is_cut-append (take from h) events part.cut ∙ cut) end).0
      (subst (λ (es : List Event). outcomes_by rules.criterion rules.start es end) (whole rules h m from states events part) ends) in
      (t, only t ((part.each t).1 is), leads)

  own-formed : IsTrue (is_well_formed rules.registers (take m h)) → IsTrue (is_well_formed rules.registers events)
  own-formed formed = formed-behind rules.registers (take from h) events part.cut (formed-whole rules h m from states events part formed)

  own-narrow : (HasWide rules.window (take m h) → ⊥) → HasWide rules.window events → ⊥
  own-narrow narrow wide =
      narrow (subst (HasWide rules.window) (sym (whole rules h m from states events part))
      (HasWide-behind rules.window (take from h) events part.cut wide))

  -- what is wrong with the whole is wrong with it, or nothing is
  fine-single : IsFine rules (take m h) → IsFine (from_state rules s) events
  fine-single fine =
      let formed = formed-final rules.criterion rules.registers rules.start (take m h) fine.final in
      record {
        narrow = own-narrow fine.narrow;
        few = λ many. fine.few (record {
          cut = cut-whole ∙ many.cut;
          many = record {
            some = many.many.some;
            more = many.many.more;
            differ = many.many.differ;
            among = λ k d within. outcome-whole formed many.cut (get_or many.many.some k d) (many.many.among k d within);
          };
        });
        final = let (t, is, final) = final-events rules h m from states events part fine.final in
            subst (λ x. IsFinalBy rules.criterion rules.registers x events) (only t is) final;
      }

  malformed-single : IsTrue (is_well_formed rules.registers (take from h)) → IsMalformed rules (take m h)
      → IsMalformed (from_state rules s) events
  malformed-single formed wrong = record {
    ill_formed =
        let split = ap (is_well_formed rules.registers) (whole rules h m from states events part)
        ∙ formed-append rules.registers (take from h) events part.cut in
        sym (ap (λ b. b && is_well_formed rules.registers events) formed) ∙ (sym split ∙ wrong.ill_formed);
  }

  wide-single : 0 < m → IsFine rules (take (m - 1) h) → IsTooWide rules (take m h) → IsTooWide (from_state rules s) events
  wide-single some fine wrong = record {
    formed = own-formed wrong.formed;
    wide = wide-end rules h m from states events part some fine wrong.wide;
  }

  many-single : IsTooMany rules (take m h) → IsTooMany (from_state rules s) events
  many-single wrong =
      let cut = sym cut-whole ∙ wrong.many.cut in
      let many = wrong.many.many in
      record {
        formed = own-formed wrong.formed;
        narrow = own-narrow wrong.narrow;
        many = record {
          cut = cut;
          many = record {
            some = many.some;
            more = many.more;
            differ = many.differ;
            among = λ k d within. whole-outcome wrong.formed cut (get_or many.some k d) (many.among k d within);
          };
        };
      }

  -- each prefix of it
  all-fine : 0 < rules.states → ((k : ℕ) → k ≤ m → IsFine rules (take k h)) → (k : ℕ) → k ≤ length events
      → IsFine (from_state rules s) (take k events)
  all-fine some fine k within =
      elim (cases_lt k (length events)) [
        | inl below ↦ single-before some (λ j before. fine j (omega (arith, before))) k below
        | inr end ↦
            let all : take k events ≡ events =
            ap (λ n. take n events) (let same : k ≡ length events = omega (arith, end, within) in same) ∙ take-length events in
            subst (IsFine (from_state rules s)) (sym all) (fine-single (fine m (omega arith)))
      ]

  first-single : (Wrong : Rules → List Event → Type 0) → 0 < rules.states → ((k : ℕ) → k < m → IsFine rules (take k h))
      → Wrong (from_state rules s) events → IsFirst Wrong (from_state rules s) events (length events)
  first-single Wrong some before here = record {
    within = omega arith;
    here = subst (Wrong (from_state rules s)) (sym (take-length events)) here;
    before = single-before some before;
  }

-- nothing is wrong with no event
some-event : (rules : Rules) (h : List Event) (m from : ℕ) (states : List State) (events : List Event)
    → IsPart rules h m from states events → 0 < rules.states → (Wrong : Rules → List Event → Type 0) → Wrong rules (take m h)
    → (Wrong rules [] → ⊥) → 0 < m
some-event rules h m from states events part some Wrong here apart = grind arith

pub single : (rules : Rules) (h : List Event) (v : Verdict) (from : ℕ) (states : List State) (events : List Event) → 0 < rules.states
    → IsVerdict rules h v → IsPart rules h (shown_length (length h) v) from states events → (s : State) → states ≡ s ∷ []
    → IsVerdict (from_state rules s) events (at_end (length events) v)
single rules h OpaqueSoFar from states events some is part s one =
    (is.0, all-fine rules h (length h) from states events part s one some is.1)
single rules h StrictSoFar from states events some is part s one =
    (is.0, all-fine rules h (length h) from states events part s one some is.1)
single rules h (Malformed m) from states events some is part s one =
    let later = some-event rules h m from states events part some IsMalformed is.here
    (λ wrong. let bad : true ≡ false = wrong.ill_formed in absurd (cc)) in
    let order = part.order in
    first-single rules h m from states events part s one IsMalformed some is.before
    (malformed-single rules h m from states events part s one
    (formed-final rules.criterion rules.registers rules.start (take from h) (is.before from (omega (arith, order, later))).final) is.here)
single rules h (Undecided m Transactions) from states events some is part s one =
    let later = some-event rules h m from states events part some IsTooWide is.here
    (λ wrong. (none-fine rules h m from states events part s some).narrow wrong.wide) in
    first-single rules h m from states events part s one IsTooWide some is.before
    (wide-single rules h m from states events part s one later (is.before (m - 1) (omega (arith, later))) is.here)
single rules h (Undecided m States) from states events some is part s one =
    first-single rules h m from states events part s one IsTooMany some is.before
    (many-single rules h m from states events part s one is.here)
single rules h (Violated m) from states events some is part s one =
    first-single rules h m from states events part s one IsViolated some is.before
    (violated-each rules h m from states events part is.here s (is-state rules h m from states events part s one))
