-- The part of a history that is counted beside its verdict, with one event more.
use Rattle.tmw_counts.proofs.Shared.{AreFine, Bool, Event, IsFalse, IsFine, IsFirst, IsFirst-push, IsMalformed, IsTooMany, IsTooWide, IsTrue, IsVerdict, IsViolated, List, Rules, [], ap, arith, both_ways, cases_Bool, counted_by, false, if◌then◌else◌, inl, inr, is_open, is_well_formed, length, length-push, part_by, refl, rules, subst, sym, take, take-push, take_all, take_all-push, true, verdict-one, ℕ, ◌++◌, ◌+◌, ◌∙◌, ◌∷◌, ◌≡◌, ◌≤◌}
use Rattle.tmw_defs.specs.declared.verdict.Verdict.{Verdict}
use Rattle.tmw_defs.specs.declared.verdict.Verdict.TheVariants.{OpaqueSoFar, StrictSoFar, Violated, Undecided, Malformed}
use Rattle.tmw_defs.specs.declared.verdict.Why.TheVariants.{Transactions, States}
use Rattle.tmw_defs.proofs.Criteria.{formed-final}

pub take_whole : (h : List Event) → take (length h) h ≡ h
take_whole h = take_all (length h) h (omega arith)

-- a verdict that something is wrong stays
pub stays : (rules : Rules) (h : List Event) (e : Event) (v w : Verdict) → is_open v ≡ false → IsVerdict rules h v → IsVerdict rules (h ++ e ∷ []) w
    → w ≡ v
stays rules h e OpaqueSoFar w is one two = absurd (cc)
stays rules h e StrictSoFar w is one two = absurd (cc)
stays rules h e (Malformed m) w is one two = verdict-one rules (h ++ e ∷ []) w (Malformed m) two (IsFirst-push IsMalformed rules h e m one)
stays rules h e (Undecided m Transactions) w is one two =
    verdict-one rules (h ++ e ∷ []) w (Undecided m Transactions) two (IsFirst-push IsTooWide rules h e m one)
stays rules h e (Undecided m States) w is one two =
    verdict-one rules (h ++ e ∷ []) w (Undecided m States) two (IsFirst-push IsTooMany rules h e m one)
stays rules h e (Violated m) w is one two = verdict-one rules (h ++ e ∷ []) w (Violated m) two (IsFirst-push IsViolated rules h e m one)

-- an open verdict says that nothing is wrong
pub fine_of : (rules : Rules) (h : List Event) (v : Verdict) → is_open v ≡ true → IsVerdict rules h v → AreFine rules h
fine_of rules h v is judged = grind arith

-- where nothing was wrong before, what is wrong first is wrong with the whole
first_at : (Wrong : Rules → List Event → Type 0) → ((rules : Rules) (h : List Event) → Wrong rules h → IsFine rules h → ⊥)
    → (rules : Rules) (h : List Event) (e : Event) (m : ℕ) → AreFine rules h → IsFirst Wrong rules (h ++ e ∷ []) m
    → (m ≡ length h + 1) × Wrong rules (h ++ e ∷ [])
first_at Wrong apart rules h e m fine first =
    let end : m ≡ length h + 1 = grind (arith, length-push, take-push) in
    (end, rw (end, take_all-push h e) at first.here)

malformed_apart : (rules : Rules) (h : List Event) → IsMalformed rules h → IsFine rules h → ⊥
malformed_apart rules h a b = both_ways _ a.ill_formed (formed-final rules.criterion rules.registers rules.start h b.final)

wide_apart : (rules : Rules) (h : List Event) → IsTooWide rules h → IsFine rules h → ⊥
wide_apart rules h a b = b.narrow a.wide

many_apart : (rules : Rules) (h : List Event) → IsTooMany rules h → IsFine rules h → ⊥
many_apart rules h a b = b.few a.many

violated_apart : (rules : Rules) (h : List Event) → IsViolated rules h → IsFine rules h → ⊥
violated_apart rules h a b = a.not_final b.final

-- the longer history is counted as far as it is well-formed
abbrev pub as_formed : Bool → ℕ → ℕ
as_formed formed n = if formed then n + 1 else n

formed_whole : (rules : Rules) (h : List Event) (e : Event) → AreFine rules (h ++ e ∷ []) → IsTrue (is_well_formed rules.registers (h ++ e ∷ []))
formed_whole rules h e fine =
    let whole : IsFine rules (h ++ e ∷ []) = rw (take_whole (h ++ e ∷ [])) at (fine (length (h ++ e ∷ [])) (omega arith)) in
    formed-final rules.criterion rules.registers rules.start (h ++ e ∷ []) whole.final

counted-open : (rules : Rules) (h : List Event) (e : Event) (w : Verdict) → AreFine rules h → IsVerdict rules (h ++ e ∷ []) w
    → counted_by (length h + 1) w ≡ as_formed (is_well_formed rules.registers (h ++ e ∷ [])) (length h)
counted-open rules h e OpaqueSoFar fine judged = rw (formed_whole rules h e judged.1) refl
counted-open rules h e StrictSoFar fine judged = rw (formed_whole rules h e judged.1) refl
counted-open rules h e (Malformed m) fine judged =
    let (end, wrong) = first_at IsMalformed malformed_apart rules h e m fine judged in
    rw wrong.ill_formed (omega arith)
counted-open rules h e (Undecided m Transactions) fine judged =
    let (end, wrong) = first_at IsTooWide wide_apart rules h e m fine judged in
    rw wrong.formed end
counted-open rules h e (Undecided m States) fine judged =
    let (end, wrong) = first_at IsTooMany many_apart rules h e m fine judged in cc
counted-open rules h e (Violated m) fine judged =
    let (end, wrong) = first_at IsViolated violated_apart rules h e m fine judged in cc

-- no more is counted than there is
pub counted_within : (rules : Rules) (h : List Event) (v : Verdict) → IsVerdict rules h v → counted_by (length h) v ≤ length h
counted_within rules h v judged = grind arith

-- How much is counted by one verdict, before the event and with it.
pub record Step (rules : Rules) (h : List Event) (e : Event) (v w : Verdict) : Type 0 where
  pub within : counted_by (length h) v ≤ length h
  pub all : is_open v ≡ true → counted_by (length h) v ≡ length h
  pub next : is_open v ≡ true → counted_by (length h + 1) w ≡ as_formed (is_well_formed rules.registers (h ++ e ∷ [])) (length h)
  pub same : is_open v ≡ false → counted_by (length h + 1) w ≡ counted_by (length h) v

pub step : (rules : Rules) (h : List Event) (e : Event) (v w : Verdict) → IsVerdict rules h v → IsVerdict rules (h ++ e ∷ []) w → Step rules h e v w
step rules h e v w one two = grind (arith, counted-open, stays)

pub as_formed-le : (formed : Bool) (n : ℕ) → n ≤ as_formed formed n
as_formed-le formed n = grind arith

-- Where nothing was wrong before, one event more is counted if it keeps the history well-formed; else the counts stay.
pub counted-more : {C : Type 0} (Counts : ℕ → List Event → C → Type 0) (rules : Rules) (h : List Event) (e : Event) (v w : Verdict)
    (old new : C) → IsVerdict rules h v → IsVerdict rules (h ++ e ∷ []) w → Counts rules.registers (part_by v h) old
    → (is_open v ≡ true → IsTrue (is_well_formed rules.registers (h ++ e ∷ [])) → Counts rules.registers h old → Counts rules.registers (h ++ e ∷ []) new)
    → (is_open v ≡ true → IsFalse (is_well_formed rules.registers (h ++ e ∷ [])) → Counts rules.registers h old → Counts rules.registers h new)
    → (is_open v ≡ false → new ≡ old) → Counts rules.registers (part_by w (h ++ e ∷ [])) new
counted-more {C = C} Counts rules h e v w old new one two was formed ill same =
    let s = step rules h e v w one two in
    elim (cases_Bool (is_open v)) [
      | inl is ↦
          let before : Counts rules.registers h old =
          subst (λ (xs : List Event). Counts rules.registers xs old) (ap (λ k. take k h) (s.all is) ∙ take_whole h) was in
          elim (cases_Bool (is_well_formed rules.registers (h ++ e ∷ []))) [
            | inl well ↦ subst (λ (xs : List Event). Counts rules.registers xs new) (sym (part-well s is well)) (formed is well before)
            | inr broken ↦ subst (λ (xs : List Event). Counts rules.registers xs new) (sym (part-ill s is broken)) (ill is broken before)
          ]
      | inr is ↦ subst (λ (xs : List Event). Counts rules.registers xs new) (sym (part-same s is))
          (subst (λ (c : C). Counts rules.registers (part_by v h) c) (sym (same is)) was)
    ]
  where
    part-well : Step rules h e v w → is_open v ≡ true → is_well_formed rules.registers (h ++ e ∷ []) ≡ true → part_by w (h ++ e ∷ []) ≡ h ++ e ∷ []
    part-well s is well =
        let n : counted_by (length (h ++ e ∷ [])) w ≡ length h + 1 =
        ap (λ k. counted_by k w) (length-push h e) ∙ s.next is ∙ ap (λ b. as_formed b (length h)) well in
        ap (λ k. take k (h ++ e ∷ [])) n ∙ take_all-push h e

    part-ill : Step rules h e v w → is_open v ≡ true → is_well_formed rules.registers (h ++ e ∷ []) ≡ false → part_by w (h ++ e ∷ []) ≡ h
    part-ill s is broken =
        let n : counted_by (length (h ++ e ∷ [])) w ≡ length h =
        ap (λ k. counted_by k w) (length-push h e) ∙ s.next is ∙ ap (λ b. as_formed b (length h)) broken in
        ap (λ k. take k (h ++ e ∷ [])) n ∙ take-push (length h) h e (omega arith) ∙ take_whole h

    part-same : Step rules h e v w → is_open v ≡ false → part_by w (h ++ e ∷ []) ≡ part_by v h
    part-same s is =
        let n : counted_by (length (h ++ e ∷ [])) w ≡ counted_by (length h) v =
        ap (λ k. counted_by k w) (length-push h e) ∙ s.same is in
        ap (λ k. take k (h ++ e ∷ [])) n ∙ take-push (counted_by (length h) v) h e s.within

-- nothing is counted before the first event
pub part-none : (v : Verdict) → part_by v [] ≡ []
part-none v = grind arith

-- each prefix of what is counted is well-formed
fine_formed : (rules : Rules) (h : List Event) → IsFine rules h → IsTrue (is_well_formed rules.registers h)
fine_formed rules h fine = formed-final rules.criterion rules.registers rules.start h fine.final

wrong_formed : (Wrong : Rules → List Event → Type 0) → ((h : List Event) (rules : Rules) → Wrong rules h → IsTrue (is_well_formed rules.registers h))
    → (rules : Rules) (h : List Event) (m : ℕ) → IsFirst Wrong rules h m → (k : ℕ) → k ≤ m → IsTrue (is_well_formed rules.registers (take k h))
wrong_formed Wrong has rules h m first k low = grind (arith, fine_formed)

pub formed-part : (rules : Rules) (h : List Event) (v : Verdict) → IsVerdict rules h v → (k : ℕ) → k ≤ counted_by (length h) v
    → IsTrue (is_well_formed rules.registers (take k h))
formed-part rules h v judged k low = grind (arith, fine_formed, take, wrong_formed)
