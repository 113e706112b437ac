-- What is shown of a history with an event more.
use Rattle.tmw_window.proofs.Shared.{AreFine, AreLastOutcomes, Contains, Criterion, Event, IsFalse, IsFine, IsFirst, IsLastCut, IsMalformed, IsShown, IsTooMany, IsTooWide, IsTrue, IsVerdict, IsViolated, KeepsSame, KeepsShown, List, Malformed, OpaqueSoFar, Rules, State, States, StrictSoFar, Transactions, Undecided, Verdict, Violated, [], ap, arith, before_shown, between, between-open, cases_lt, drop, drop_all, false, formed-final, inl, inr, is_cut, length, length-push, length-take-le, outcomes_by, rules, shown_length, so_far, so_far-fine, subst, sums_up-new, sym, take, take-length, take-push, take-take, take_all, true, verdict-one, ℕ, ◌++◌, ◌+◌, ◌-◌, ◌<◌, ◌↔◌, ◌∙◌, ◌∷◌, ◌≡◌, ◌≤◌}
use Rattle.tmw_window.specs.declared.kept_window.KeptWindow.{KeptWindow}
use Rattle.tmw_monitor.proofs.Final.{verdict-stays}

-- what is wrong first with a history, and was not before its last event, is so at its whole length
first-last : (Wrong : Rules → List Event → Type 0) → ((rules : Rules) (history : List Event) → Wrong rules history → IsFine rules history → ⊥)
    → (rules : Rules) (h : List Event) (e : Event) (m : ℕ) → AreFine rules h → IsFirst Wrong rules (h ++ e ∷ []) m → m ≡ length h + 1
first-last Wrong apart rules h e m fine first = grind (arith, length-push, take-push)

-- so the whole is shown of a history where nothing was wrong before its last event
pub shown_length-push : (rules : Rules) (h : List Event) (e : Event) (v : Verdict) → AreFine rules h → IsVerdict rules (h ++ e ∷ []) v
    → shown_length (length (h ++ e ∷ [])) v ≡ length h + 1
shown_length-push rules h e OpaqueSoFar fine is = length-push h e
shown_length-push rules h e StrictSoFar fine is = length-push h e
shown_length-push rules h e (Malformed m) fine is =
    first-last IsMalformed (λ r s wrong f. let bad : true ≡ false = sym (formed-final r.criterion r.registers r.start s f.final) ∙ wrong.ill_formed in absurd (cc)) rules h e m fine is
shown_length-push rules h e (Undecided m Transactions) fine is = first-last IsTooWide (λ r s wrong f. f.narrow wrong.wide) rules h e m fine is
shown_length-push rules h e (Undecided m States) fine is = first-last IsTooMany (λ r s wrong f. f.few wrong.many) rules h e m fine is
shown_length-push rules h e (Violated m) fine is = first-last IsViolated (λ r s wrong f. wrong.not_final f.final) rules h e m fine is

pub before-push : (h : List Event) (e : Event) (n : ℕ) → n ≡ length h + 1 → take (n - 1) (h ++ e ∷ []) ≡ h
before-push h e n is =
    let one : n - 1 ≡ length h = omega (arith, is) in
    ap (λ k. take k (h ++ e ∷ [])) one ∙ (take-push (length h) h e (omega arith) ∙ take-length h)

-- the last outcomes of a history, at the same cut, are those of the same history
abbrev same-outcomes : (rules : Rules) (states : List State) {g h : List Event} → g ≡ h → AreLastOutcomes rules g states → AreLastOutcomes rules h states
same-outcomes rules states is o = record {
  cut = o.cut;
  last = subst (λ (t : List Event). IsLastCut t o.cut) is o.last;
  each = λ x. subst (λ (t : List Event). Contains states x ↔ outcomes_by rules.criterion rules.start (take o.cut t) x) is (o.each x);
  few = o.few;
  rising = o.rising;
}

-- the window of a history with an event more, where nothing was wrong before that
pub shown-push : (rules : Rules) (h : List Event) (e : Event) (v : Verdict) (from : ℕ) (states : List State) (events : List Event)
    → AreFine rules h → IsVerdict rules (h ++ e ∷ []) v → (o : AreLastOutcomes rules h states) → from ≡ o.cut
    → events ≡ drop o.cut h ++ e ∷ [] → IsShown rules (h ++ e ∷ []) v from states events
shown-push rules h e v from states events fine is o begins window =
    let long = shown_length-push rules h e v fine is in
    let before : before_shown (h ++ e ∷ []) v ≡ h = before-push h e _ long in
    record {
      outcomes = same-outcomes rules states (sym before) o;
      begins = begins;
      window = window
          ∙ (sym (between-open o.cut h e o.last.is.0)
          ∙ (ap (λ c. between c (length h + 1) (h ++ e ∷ [])) (sym begins)
          ∙ ap (λ n. between from n (h ++ e ∷ [])) (sym long)));
    }

-- at a cut the history ends at its last cut
cut-end : (h : List Event) (c : ℕ) → IsTrue (is_cut h) → IsLastCut h c → c ≡ length h
cut-end h c cut last =
    let within = last.is.0 in
    elim (cases_lt c (length h)) [
      | inl earlier ↦ absurd (last.last (length h) earlier (omega arith, subst (λ (s : List Event). IsTrue (is_cut s)) (sym (take-length h)) cut))
      | inr late ↦ omega (arith, within, late)
    ]

pub shown-cut : (rules : Rules) (h : List Event) (e : Event) (v : Verdict) (from : ℕ) (states : List State) (events : List Event)
    → AreFine rules h → IsVerdict rules (h ++ e ∷ []) v → IsTrue (is_cut h) → AreLastOutcomes rules h states → from ≡ length h
    → events ≡ e ∷ [] → IsShown rules (h ++ e ∷ []) v from states events
shown-cut rules h e v from states events fine is cut o begins window =
    let end = cut-end h o.cut cut o.last in
    let none : drop o.cut h ≡ [] = drop_all o.cut h (omega (arith, end)) in
    shown-push rules h e v from states events fine is o (begins ∙ sym end) (window ∙ ap (λ (s : List Event). s ++ e ∷ []) (sym none))

-- a history that is at no cut has the last cut that it had before its last event
last_cut-open : (h : List Event) (c : ℕ) → IsFalse (is_cut h) → IsLastCut (take (length h - 1) h) c → IsLastCut h c
last_cut-open h c uncut last = grind (arith, length-take-le, take-take, take_all) steps
    2000000

pub shown-open : (rules : Rules) (h : List Event) (e : Event) (old new : Verdict) (from : ℕ) (states : List State) (events all : List Event)
    → AreFine rules h → IsVerdict rules (h ++ e ∷ []) new → shown_length (length h) old ≡ length h → IsFalse (is_cut h)
    → IsShown rules h old from states events → all ≡ events ++ e ∷ [] → IsShown rules (h ++ e ∷ []) new from states all
shown-open rules h e old new from states events all fine is long uncut shown window =
    let o = shown.outcomes in
    let before : before_shown h old ≡ take (length h - 1) h = ap (λ n. take (n - 1) h) long in
    let inside : o.cut ≤ length h - 1 = grind (arith, length-take-le) in
    let same : take o.cut (before_shown h old) ≡ take o.cut h = ap (take o.cut) before ∙ take-take o.cut (length h - 1) h inside in
    let now : AreLastOutcomes rules h states = record {
      cut = o.cut;
      last = last_cut-open h o.cut uncut (subst (λ (s : List Event). IsLastCut s o.cut) before o.last);
      each = λ s. subst (λ (t : List Event). Contains states s ↔ outcomes_by rules.criterion rules.start t s) same (o.each s);
      few = o.few;
      rising = o.rising;
    } in
    let had : events ≡ drop o.cut h =
    shown.window ∙ (ap (λ n. between from n h) long ∙ (ap (λ c. between c (length h) h) shown.begins ∙ ap (drop o.cut) (take-length h))) in
    shown-push rules h e new from states all fine is now shown.begins (window ∙ ap (λ (s : List Event). s ++ e ∷ []) had)

-- after a final verdict no more is shown
pub record IsSettled (h : List Event) (e : Event) (v : Verdict) : Type 0 where
  pub same : shown_length (length (h ++ e ∷ [])) v ≡ shown_length (length h) v
  pub within : shown_length (length h) v ≤ length h

settled : (rules : Rules) (h : List Event) (e : Event) (v : Verdict) → IsVerdict rules h v → (v ≡ so_far rules.criterion → ⊥) → IsSettled h e v
settled rules h e v is final = grind arith

pub shown-final : (rules : Rules) (h : List Event) (e : Event) (v w : Verdict) (from : ℕ) (states : List State) (events : List Event)
    → IsVerdict rules h v → (v ≡ so_far rules.criterion → ⊥) → IsVerdict rules (h ++ e ∷ []) w → IsShown rules h v from states events
    → IsShown rules (h ++ e ∷ []) w from states events
shown-final rules h e v w from states events is final now shown =
    let s = settled rules h e v is final in
    let o = shown.outcomes in
    let m = shown_length (length h) v in
    let low : shown_length (length h) v ≤ length h = s.within in
    let before : before_shown (h ++ e ∷ []) v ≡ before_shown h v =
    ap (λ n. take (n - 1) (h ++ e ∷ [])) s.same ∙ take-push (m - 1) h e (omega (arith, low)) in
    let still : IsShown rules (h ++ e ∷ []) v from states events = record {
      outcomes = same-outcomes rules states (sym before) o;
      begins = shown.begins;
      window = shown.window ∙ (ap (drop from) (sym (take-push m h e s.within)) ∙ ap (λ n. between from n (h ++ e ∷ [])) (sym s.same));
    } in
    subst (λ u. IsShown rules (h ++ e ∷ []) u from states events)
    (verdict-one rules (h ++ e ∷ []) v w (verdict-stays rules h e v is final) now) still

-- where nothing is wrong, the whole is shown
pub so_far-length : (c : Criterion) (n : ℕ) (v : Verdict) → v ≡ so_far c → shown_length n v ≡ n
so_far-length c n v is = grind arith

-- of no event nothing is shown
pub shown-none : (rules : Rules) (v : Verdict) (states : List State) (events : List Event) → v ≡ so_far rules.criterion
    → AreLastOutcomes rules [] states → events ≡ [] → IsShown rules [] v 0 states events
shown-none rules v states events is o window =
    let long : shown_length 0 v ≡ 0 = so_far-length rules.criterion 0 v is in
    let before : before_shown [] v ≡ [] = ap (λ n. let t : List Event = take (n - 1) [] in t) long in
    record {
      outcomes = same-outcomes rules states (sym before) o;
      begins = (let w = o.last.is.0 in omega (arith, w));
      window = window ∙ ap (λ n. let t : List Event = between 0 n [] in t) (sym long);
    }

-- nothing is wrong with no event
pub fine-empty : (rules : Rules) → 0 < rules.states → (v : Verdict) → IsVerdict rules [] v → v ≡ so_far rules.criterion
fine-empty rules some v is = verdict-one rules [] v (so_far rules.criterion) is (so_far-fine rules [] (sums_up-new rules some).judged)

-- what is kept is shown, where the same is kept
pub kept-same : (rules : Rules) (h : List Event) (v : Verdict) (old new : KeptWindow) → KeepsSame old new → KeepsShown rules h v old
    → KeepsShown rules h v new
kept-same rules h v old new same shown = grind arith
