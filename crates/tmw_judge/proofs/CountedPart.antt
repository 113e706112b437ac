-- The part of a history that is counted, with one event more.
use Rattle.tmw_judge.proofs.Shared.{AreFed, AreJudged, AreReports, Asked, Bool, Bounds, ByCriterion, CountsFor, Event, Header, IsTrue, Judges, List, Monitors, Report, Verdict, [], any_open, ap, arith, as_formed, as_formed-le, both_ways, cases_Bool, counted_by, counted_of, counted_part, eq-eqb, eqb-true, false, inl, inr, is_open, length, length-push, opacity_of, step, strict_of, subst, sym, take, take-push, take_all-push, take_whole, told_verdicts, trace_rules, true, verdict_of, verdicts_of, ℕ, ◌++◌, ◌+◌, ◌==◌, ◌||◌, ◌∙◌, ◌∷◌, ◌≡◌, ◌≤◌}
use Rattle.tmw_defs.proofs.QuietProof.{or_none}
use Rattle.tmw_defs.specs.History.{is_well_formed}
use Rattle.tmw_defs.proofs.VerdictProof.{verdict-one}
use Rattle.tmw_judge.specs.declared.monitors.Monitors.TheVariants as monitors
use Rattle.tmw_defs.specs.declared.criterion.Criterion.TheVariants as by

module _ (header : Header) (bounds : Bounds) (asked : Asked) (h : List Event) (e : Event) where
  abbrev formed : Bool
  formed = is_well_formed header.registers.number (h ++ e ∷ [])

  -- How much is counted by all verdicts, before the event and with it.
  pub record Steps (old new : Monitors) : Type 0 where
    pub within : counted_of (length h) (verdicts_of old) ≤ length h
    pub all : any_open (verdicts_of old) ≡ true → counted_of (length h) (verdicts_of old) ≡ length h
    pub next : any_open (verdicts_of old) ≡ true → counted_of (length h + 1) (verdicts_of new) ≡ as_formed formed (length h)
    pub same : any_open (verdicts_of old) ≡ false → counted_of (length h + 1) (verdicts_of new) ≡ counted_of (length h) (verdicts_of old)

  -- the monitors are for the same criteria
  pub steps : (old new : Monitors) → AreFed header bounds asked h old → AreFed header bounds asked (h ++ e ∷ []) new → Steps old new
  steps (monitors.Opacity m) (monitors.Opacity n) one two =
      let s = step (trace_rules header bounds by.Opacity) h e (verdict_of m) (verdict_of n) one.each.judged two.each.judged in
      record { within = s.within; all = s.all; next = s.next; same = s.same }
  steps (monitors.Strict m) (monitors.Strict n) one two =
      let s = step (trace_rules header bounds by.Strict) h e (verdict_of m) (verdict_of n) one.each.judged two.each.judged in
      record { within = s.within; all = s.all; next = s.next; same = s.same }
  steps (monitors.Both m) (monitors.Both n) one two =
      let s = step (trace_rules header bounds by.Opacity) h e (verdict_of (opacity_of m)) (verdict_of (opacity_of n)) one.each.opacity.judged two.each.opacity.judged in
      let t = step (trace_rules header bounds by.Strict) h e (verdict_of (strict_of m)) (verdict_of (strict_of n)) one.each.strict.judged two.each.strict.judged in
      let low = as_formed-le formed (length h) in
      let a = s.within in
      let b = t.within in
      record {
        within = omega (arith, a, b);
        all = λ is. elim (cases_Bool (is_open (verdict_of (opacity_of m)))) [
          | inl first ↦ (let all = s.all first in omega (arith, all, b))
          | inr past ↦ (let all = t.all (second (is_open (verdict_of (opacity_of m))) _ past is) in omega (arith, all, a))
        ];
        next = λ is. elim (cases_Bool (is_open (verdict_of (opacity_of m)))) [
          | inl first ↦ (let all = s.next first in elim (cases_Bool (is_open (verdict_of (strict_of m)))) [
            | inl other ↦ (let more = t.next other in omega (arith, all, more))
            | inr past ↦ (let more = t.same past in omega (arith, all, more, b, low))
          ])
          | inr past ↦
              let all = t.next (second (is_open (verdict_of (opacity_of m))) _ past is) in
              let more = s.same past in omega (arith, all, more, a, low)
        ];
        same = λ is.
            let (first, other) = or_none (is_open (verdict_of (opacity_of m))) (is_open (verdict_of (strict_of m))) is in
            let x = s.same first in let y = t.same other in omega (arith, x, y);
      }
    where
      second : (a b : Bool) → a ≡ false → (a || b) ≡ true → b ≡ true
      second true b past is = absurd (cc)
      second false b past is = is
  steps (monitors.Opacity m) (monitors.Strict n) one two = absurd (let is = one.all ∙ sym two.all in cc)
  steps (monitors.Opacity m) (monitors.Both n) one two = absurd (let is = one.all ∙ sym two.all in cc)
  steps (monitors.Strict m) (monitors.Opacity n) one two = absurd (let is = one.all ∙ sym two.all in cc)
  steps (monitors.Strict m) (monitors.Both n) one two = absurd (let is = one.all ∙ sym two.all in cc)
  steps (monitors.Both m) (monitors.Opacity n) one two = absurd (let is = one.all ∙ sym two.all in cc)
  steps (monitors.Both m) (monitors.Strict n) one two = absurd (let is = one.all ∙ sym two.all in cc)

  -- the counted part with the event: where some verdict was open, all that is well-formed; else what it was
  pub part-formed : (old new : Monitors) → Steps old new → any_open (verdicts_of old) ≡ true → formed ≡ true
      → counted_part (verdicts_of new) (h ++ e ∷ []) ≡ h ++ e ∷ []
  part-formed old new s is well =
      let n : counted_of (length (h ++ e ∷ [])) (verdicts_of new) ≡ length h + 1 =
      ap (λ k. counted_of k (verdicts_of new)) (length-push h e) ∙ s.next is ∙ ap (λ b. as_formed b (length h)) well in
      ap (λ k. take k (h ++ e ∷ [])) n ∙ take_all-push h e

  pub part-ill : (old new : Monitors) → Steps old new → any_open (verdicts_of old) ≡ true → formed ≡ false
      → counted_part (verdicts_of new) (h ++ e ∷ []) ≡ h
  part-ill old new s is ill =
      let n : counted_of (length (h ++ e ∷ [])) (verdicts_of new) ≡ length h =
      ap (λ k. counted_of k (verdicts_of new)) (length-push h e) ∙ s.next is ∙ ap (λ b. as_formed b (length h)) ill in
      ap (λ k. take k (h ++ e ∷ [])) n ∙ take-push (length h) h e (omega arith) ∙ take_whole h

  pub part-before : (old new : Monitors) → Steps old new → any_open (verdicts_of old) ≡ true
      → counted_part (verdicts_of old) h ≡ h
  part-before old new s is = ap (λ k. take k h) (s.all is) ∙ take_whole h

  pub part-same : (old new : Monitors) → Steps old new → any_open (verdicts_of old) ≡ false
      → counted_part (verdicts_of new) (h ++ e ∷ []) ≡ counted_part (verdicts_of old) h
  part-same old new s is =
      let n : counted_of (length (h ++ e ∷ [])) (verdicts_of new) ≡ counted_of (length h) (verdicts_of old) =
      ap (λ k. counted_of k (verdicts_of new)) (length-push h e) ∙ s.same is in
      ap (λ k. take k (h ++ e ∷ [])) n ∙ take-push (counted_of (length h) (verdicts_of old)) h e s.within

  -- whether the counted part ends with the event
  abbrev pub covers : Monitors → Bool
  covers new = counted_of (length (h ++ e ∷ [])) (verdicts_of new) == length (h ++ e ∷ [])

  -- it does where some verdict was open and the event keeps the history well-formed
  pub covers-formed : (old new : Monitors) → Steps old new → any_open (verdicts_of old) ≡ true → formed ≡ true → covers new ≡ true
  covers-formed old new s is well =
      eq-eqb _ _ (ap (λ k. counted_of k (verdicts_of new)) (length-push h e) ∙ s.next is ∙ ap (λ b. as_formed b (length h)) well ∙ sym (length-push h e))

  covers-less : (new : Monitors) (n : ℕ) → counted_of (length h + 1) (verdicts_of new) ≡ n → n ≤ length h → covers new ≡ false
  covers-less new n is low =
      elim (cases_Bool (covers new)) [
        | inl all ↦
            let same = eqb-true _ _ all in
            let long = length-push h e in
            let part = ap (λ k. counted_of k (verdicts_of new)) long in absurd (omega (arith, same, long, part, is, low))
        | inr fails ↦ fails
      ]

  pub covers-ill : (old new : Monitors) → Steps old new → any_open (verdicts_of old) ≡ true → formed ≡ false → covers new ≡ false
  covers-ill old new s is ill = covers-less new (length h) (s.next is ∙ ap (λ b. as_formed b (length h)) ill) (omega arith)

  pub covers-shut : (old new : Monitors) → Steps old new → any_open (verdicts_of old) ≡ false → covers new ≡ false
  covers-shut old new s is = covers-less new (counted_of (length h) (verdicts_of old)) (s.same is) s.within

abbrev none : List Event
none = []

take_nil : (n : ℕ) → take n none ≡ none
take_nil n = grind arith

-- before the first event nothing is counted
pub judged-nothing : {C F : Type 0} (Counts : CountsFor C) (header : Header) (bounds : Bounds) (asked : Asked) (judges : Judges C F)
    → AreFed header bounds asked [] judges.monitors → Counts header.registers.number [] judges.counting
    → AreJudged Counts header bounds asked [] judges
judged-nothing Counts header bounds asked judges fed counts =
    grind (arith, take_nil, counted_of, verdicts_of)

-- one event more is judged, and counted if the counted part ends with it
pub judged-more : {C F : Type 0} (Counts : CountsFor C) (header : Header) (bounds : Bounds) (asked : Asked) (h : List Event) (e : Event)
    (old new : Judges C F) → AreJudged Counts header bounds asked h old → AreFed header bounds asked (h ++ e ∷ []) new.monitors
    → (covers header bounds asked h e new.monitors ≡ true → IsTrue (is_well_formed header.registers.number (h ++ e ∷ []))
    → Counts header.registers.number h old.counting → Counts header.registers.number (h ++ e ∷ []) new.counting)
    → (covers header bounds asked h e new.monitors ≡ false → new.counting ≡ old.counting)
    → AreJudged Counts header bounds asked (h ++ e ∷ []) new
judged-more {C = C} Counts header bounds asked h e old new was fed more same =
    let s = steps header bounds asked h e old.monitors new.monitors was.fed fed in
    let kept : covers header bounds asked h e new.monitors ≡ false → (xs : List Event) → counted_part (verdicts_of old.monitors) h ≡ xs
    → Counts header.registers.number xs new.counting =
    λ is xs part. subst (λ (c : C). Counts header.registers.number xs c) (sym (same is))
    (subst (λ (ys : List Event). Counts header.registers.number ys old.counting) part was.counted) in
    record {
      fed = fed;
      counted = elim (cases_Bool (any_open (verdicts_of old.monitors))) [
        | inl is ↦
            let before = part-before header bounds asked h e old.monitors new.monitors s is in
            elim (cases_Bool (is_well_formed header.registers.number (h ++ e ∷ []))) [
              | inl well ↦ subst (λ (xs : List Event). Counts header.registers.number xs new.counting)
                  (sym (part-formed header bounds asked h e old.monitors new.monitors s is well))
                  (more (covers-formed header bounds asked h e old.monitors new.monitors s is well) well
                  (subst (λ (xs : List Event). Counts header.registers.number xs old.counting) before was.counted))
              | inr broken ↦ subst (λ (xs : List Event). Counts header.registers.number xs new.counting)
                  (sym (part-ill header bounds asked h e old.monitors new.monitors s is broken))
                  (kept (covers-ill header bounds asked h e old.monitors new.monitors s is broken) h before)
            ]
        | inr is ↦
            kept (covers-shut header bounds asked h e old.monitors new.monitors s is) _
            (sym (part-same header bounds asked h e old.monitors new.monitors s is))
      ];
    }

-- an event that is counted keeps the history well-formed, and all before it was counted
pub counted-before : {C F : Type 0} (Counts : CountsFor C) (header : Header) (bounds : Bounds) (asked : Asked) (h : List Event) (e : Event)
    (old : Judges C F) (new : Monitors) → AreJudged Counts header bounds asked h old → AreFed header bounds asked (h ++ e ∷ []) new
    → covers header bounds asked h e new ≡ true
    → Counts header.registers.number h old.counting × IsTrue (is_well_formed header.registers.number (h ++ e ∷ []))
counted-before Counts header bounds asked h e old new was fed all =
    let s = steps header bounds asked h e old.monitors new was.fed fed in
    elim (cases_Bool (any_open (verdicts_of old.monitors))) [
      | inl is ↦ elim (cases_Bool (is_well_formed header.registers.number (h ++ e ∷ []))) [
        | inl well ↦ (
          subst (λ (xs : List Event). Counts header.registers.number xs old.counting) (part-before header bounds asked h e old.monitors new s is)
              was.counted,
          well,
        )
        | inr broken ↦ absurd (both_ways _ (covers-ill header bounds asked h e old.monitors new s is broken) all)
      ]
      | inr is ↦ absurd (both_ways _ (covers-shut header bounds asked h e old.monitors new s is) all)
    ]

-- an open verdict covers all
pub covers_open : (n : ℕ) (v : Verdict) → is_open v ≡ true → (counted_by n v == n) ≡ true
covers_open n v is = grind (arith, eq-eqb)

-- the verdicts that are reported are the monitors'
pub told-same : (header : Header) (bounds : Bounds) (asked : Asked) (h : List Event) (had : Monitors) (reports : ByCriterion Report)
    → AreFed header bounds asked h had → AreReports header bounds asked h reports → verdicts_of had ≡ told_verdicts reports
told-same header bounds asked h had reports fed tell =
    grind (arith, verdict-one, trace_rules, verdict_of)
