-- What the verdict is after one event more, by the outcomes at the last cut of a history in which nothing is wrong.
use Rattle.tmw_defs.proofs.Shared.{AreFine, Criterion, EndsBy, Event, HasWide, IsCutLaw, IsFalse, IsFinalBy, IsFine, IsFirst, IsLastCut, IsMalformed, IsTooMany, IsTooWide, IsTrue, IsVerdict, IsViolated, LeadsBy, List, Malformed, MoreThan, Only, Opacity, OpaqueSoFar, Rules, State, Strict, StrictSoFar, SumsUp, Txn, Undecided, Violated, [], ap, arith, between, both_ways, cases_lt, drop, drop_all, inl, inr, is_cut, is_quiet_by, is_well_formed, length, outcomes_by, refl, rules, so_far, sym, take, take-append-drop, take-length, take_all, transactions, ℕ, ◌++◌, ◌+◌, ◌<◌, ◌↔◌, ◌∙◌, ◌∷◌, ◌≡◌, ◌≤◌}
use Rattle.tmw_defs.specs.declared.verdict.Verdict.{Verdict}
use Rattle.tmw_defs.specs.declared.verdict.Why.TheVariants.{Transactions, States}
use Rattle.tmw_defs.proofs.Criteria.{formed-final, outcome-final}
use Rattle.tmw_defs.proofs.CutLaws.{cut_law}
use Rattle.tmw_defs.proofs.QuietLaws.{quiet_law}
use Rattle.tmw_defs.proofs.WindowsProof.{length-push, take-push, take_all-push, take-append-drop-push, is_quiet_by-append, IsCutAt-push, IsCutAt_push, is_cut-push, HasWide-open, HasWide_push}

-- a larger set has more than so many states where the smaller one has
MoreThan-within : (most : ℕ) (S N : State → Type 0) → ((s : State) → S s → N s) → MoreThan most S → MoreThan most N
MoreThan-within most S N within many = grind arith

-- a set with more than so many states has one
MoreThan-member : (most : ℕ) (S : State → Type 0) → MoreThan most S → (s : State) × S s
MoreThan-member most S many = (_, many.among 0 [] (let more = many.more in omega (arith, more)))

-- nothing is wrong with a history itself where nothing is with any prefix
IsFine-whole : (rules : Rules) (h : List Event) → AreFine rules h → IsFine rules h
IsFine-whole rules h judged = rw (← take-length h) (judged (length h) (omega arith))

-- it stays so where nothing is wrong with one event more, and else that is what is wrong first
AreFine-push : (rules : Rules) (h : List Event) (e : Event) → AreFine rules h → IsFine rules (h ++ e ∷ [])
    → AreFine rules (h ++ e ∷ [])
AreFine-push rules h e judged fine k within =
    elim (cases_lt (length h) k) [
      | inl past ↦
          let end : k ≡ length h + 1 = (let same = length-push h e in omega (arith, same, within, past)) in
          rw (end, take_all-push h e) fine
      | inr before ↦ rw (take-push k h e before) (judged k before)
    ]

IsFirst-new : (Wrong : Rules → List Event → Type 0) (rules : Rules) (h : List Event) (e : Event) → AreFine rules h
    → Wrong rules (h ++ e ∷ []) → IsFirst Wrong rules (h ++ e ∷ []) (length h + 1)
IsFirst-new Wrong rules h e judged wrong = grind (arith, length-push, take_all-push, take-push)

-- what is wrong first stays so
pub IsFirst-push : (Wrong : Rules → List Event → Type 0) (rules : Rules) (h : List Event) (e : Event) (m : ℕ) → IsFirst Wrong rules h m
    → IsFirst Wrong rules (h ++ e ∷ []) m
IsFirst-push Wrong rules h e m first = grind (arith, length-push, take-push)

-- the end states from a smaller set are end states from the larger one
EndsBy-within : (c : Criterion) (S N : State → Type 0) (ts : List Txn) (end : State) → ((s : State) → S s → N s) → EndsBy c S ts end
    → EndsBy c N ts end
EndsBy-within c S N ts end within (s, is, leads) = (s, within s is, leads)

-- the law of cuts at the last cut
cut_law-push : (rules : Rules) (S : State → Type 0) (c : ℕ) (h : List Event) (e : Event) → SumsUp rules S c h
    → IsTrue (is_well_formed rules.registers (h ++ e ∷ []))
    → IsCutLaw rules.criterion rules.registers rules.start (take c h) (drop c h ++ e ∷ [])
cut_law-push rules S c h e sums formed = search (rules, cut_law, take-append-drop-push)

-- the law of cuts at the last cut, with the set of outcomes there
final-push : (rules : Rules) (S : State → Type 0) (c : ℕ) (h : List Event) (e : Event) → SumsUp rules S c h
    → IsTrue (is_well_formed rules.registers (h ++ e ∷ []))
    → IsFinalBy rules.criterion rules.registers rules.start (h ++ e ∷ []) ↔ ((end : State) × EndsBy rules.criterion S (transactions (drop c h ++ e ∷ [])) end)
final-push rules S c h e sums formed =
    let law = (cut_law-push rules S c h e sums formed).final in
    let rest = transactions (drop c h ++ e ∷ []) in
    let past = outcomes_by rules.criterion rules.start (take c h) in (
      λ o. let (end, ends) = law.0 (rw (take-append-drop-push c h e) o) in
          (end, EndsBy-within rules.criterion past S rest end (λ s is. (sums.states s).1 is) ends),
      λ (end, ends). rw (take-append-drop-push c h e) at (law.1 (end, EndsBy-within rules.criterion S past rest end (λ s is. (sums.states s).0 is) ends)),
    )

outcomes-push : (rules : Rules) (S : State → Type 0) (c : ℕ) (h : List Event) (e : Event) → SumsUp rules S c h
    → IsTrue (is_well_formed rules.registers (h ++ e ∷ [])) → IsTrue (is_cut (h ++ e ∷ [])) → (end : State)
    → outcomes_by rules.criterion rules.start (h ++ e ∷ []) end ↔ EndsBy rules.criterion S (transactions (drop c h ++ e ∷ [])) end
outcomes-push rules S c h e sums formed cut end =
    let law = (cut_law-push rules S c h e sums formed).ends (rw (take-append-drop-push c h e) cut) end in
    grind (arith, take-append-drop-push)

-- where the open window is narrow enough, each window is
narrow-push : (rules : Rules) (S : State → Type 0) (c : ℕ) (h : List Event) (e : Event) → SumsUp rules S c h
    → length (transactions (drop c h ++ e ∷ [])) ≤ rules.window → HasWide rules.window (h ++ e ∷ []) → ⊥
narrow-push rules S c h e sums fits wide =
    elim (HasWide_push rules.window c h e sums.last wide) [
      | inl before ↦ (IsFine-whole rules h sums.judged).narrow before
      | inr after ↦ absurd (omega (arith, fits, after))
    ]

-- the first event after which the history is not well-formed
pub verdict-malformed : (rules : Rules) (S : State → Type 0) (c : ℕ) (h : List Event) (e : Event) → SumsUp rules S c h
    → IsFalse (is_well_formed rules.registers (h ++ e ∷ [])) → IsVerdict rules (h ++ e ∷ []) (Malformed (length h + 1))
verdict-malformed rules S c h e sums ill = IsFirst-new IsMalformed rules h e sums.judged (record { ill_formed = ill })

-- the first event after which the open window has too many transactions
pub verdict-wide : (rules : Rules) (S : State → Type 0) (c : ℕ) (h : List Event) (e : Event) → SumsUp rules S c h
    → IsTrue (is_well_formed rules.registers (h ++ e ∷ [])) → rules.window < length (transactions (drop c h ++ e ∷ []))
    → IsVerdict rules (h ++ e ∷ []) (Undecided (length h + 1) Transactions)
verdict-wide rules S c h e sums formed wide =
    IsFirst-new IsTooWide rules h e sums.judged
    (record { formed = formed; wide = HasWide-open rules.window c h e sums.last wide })

-- the first event after which the open window has no end state from the outcomes at the last cut
pub verdict-violated : (rules : Rules) (S : State → Type 0) (c : ℕ) (h : List Event) (e : Event) → SumsUp rules S c h
    → IsTrue (is_well_formed rules.registers (h ++ e ∷ [])) → length (transactions (drop c h ++ e ∷ [])) ≤ rules.window
    → ((end : State) → EndsBy rules.criterion S (transactions (drop c h ++ e ∷ [])) end → ⊥) → IsVerdict rules (h ++ e ∷ []) (Violated (length h + 1))
verdict-violated rules S c h e sums formed fits none_ends =
    IsFirst-new IsViolated rules h e sums.judged
    (record {
      formed = formed;
      narrow = narrow-push rules S c h e sums fits;
      not_final = λ o. let (end, ends) = (final-push rules S c h e sums formed).0 o in none_ends end ends;
    })

-- the first cut at which there are too many outcomes
pub verdict-many : (rules : Rules) (S : State → Type 0) (c : ℕ) (h : List Event) (e : Event) → SumsUp rules S c h
    → IsTrue (is_well_formed rules.registers (h ++ e ∷ [])) → length (transactions (drop c h ++ e ∷ [])) ≤ rules.window
    → IsTrue (is_cut (drop c h ++ e ∷ [])) → MoreThan rules.states (EndsBy rules.criterion S (transactions (drop c h ++ e ∷ [])))
    → IsVerdict rules (h ++ e ∷ []) (Undecided (length h + 1) States)
verdict-many rules S c h e sums formed fits cut many =
    let whole : IsTrue (is_cut (h ++ e ∷ [])) = is_cut-push c h e sums.last.is ∙ cut in
    IsFirst-new IsTooMany rules h e sums.judged
    (record {
      formed = formed;
      narrow = narrow-push rules S c h e sums fits;
      many = record {
        cut = whole;
        many = MoreThan-within rules.states (EndsBy rules.criterion S (transactions (drop c h ++ e ∷ []))) (outcomes_by rules.criterion rules.start (h ++ e ∷ []))
            (λ end ends. (outcomes-push rules S c h e sums formed whole end).1 ends) many;
      };
    })

-- where the event makes no cut, the last cut stays
pub IsLastCut-open : (c : ℕ) (h : List Event) (e : Event) → IsLastCut h c → IsFalse (is_cut (drop c h ++ e ∷ []))
    → IsLastCut (h ++ e ∷ []) c
IsLastCut-open c h e last uncut = record {
  is = IsCutAt-push h e c last.is;
  last = λ at after cut. elim (cases_lt (length h) at) [
    | inl past ↦
        let end : at ≡ length h + 1 = (let same = length-push h e in let within = cut.0 in
        omega arith) in
        grind (arith, is_cut, take_all-push, both_ways, is_cut-push)
    | inr within ↦ last.last at after (IsCutAt_push h e at within cut)
  ];
}

-- so the summary stays where the history with the event is final-state opaque
sums_up-fine : (rules : Rules) (S : State → Type 0) (c : ℕ) (h : List Event) (e : Event) → SumsUp rules S c h
    → length (transactions (drop c h ++ e ∷ [])) ≤ rules.window → IsFalse (is_cut (drop c h ++ e ∷ []))
    → IsFinalBy rules.criterion rules.registers rules.start (h ++ e ∷ []) → SumsUp rules S c (h ++ e ∷ [])
sums_up-fine rules S c h e sums fits uncut final = record {
  judged = AreFine-push rules h e sums.judged (record {
    narrow = narrow-push rules S c h e sums fits;
    few = λ many. both_ways (is_cut (h ++ e ∷ [])) (is_cut-push c h e sums.last.is ∙ uncut) many.cut;
    final = final;
  });
  last = IsLastCut-open c h e sums.last uncut;
  states = λ s. rw (take-push c h e sums.last.is.0) (sums.states s);
}

-- the open window with the event has an end state from the outcomes at the last cut
pub sums_up-open : (rules : Rules) (S : State → Type 0) (c : ℕ) (h : List Event) (e : Event) → SumsUp rules S c h
    → IsTrue (is_well_formed rules.registers (h ++ e ∷ [])) → length (transactions (drop c h ++ e ∷ [])) ≤ rules.window
    → IsFalse (is_cut (drop c h ++ e ∷ [])) → (end : State) → EndsBy rules.criterion S (transactions (drop c h ++ e ∷ [])) end
    → SumsUp rules S c (h ++ e ∷ [])
sums_up-open rules S c h e sums formed fits uncut end ends =
    sums_up-fine rules S c h e sums fits uncut ((final-push rules S c h e sums formed).1 (end, ends))

-- the event is quiet after the open window, and so after the whole history
pub sums_up-quiet : (rules : Rules) (S : State → Type 0) (c : ℕ) (h : List Event) (e : Event) → SumsUp rules S c h
    → IsTrue (is_well_formed rules.registers (h ++ e ∷ [])) → length (transactions (drop c h ++ e ∷ [])) ≤ rules.window
    → IsFalse (is_cut (drop c h ++ e ∷ [])) → IsTrue (is_quiet_by rules.criterion (transactions (drop c h)) e.thread.number e.kind)
    → SumsUp rules S c (h ++ e ∷ [])
sums_up-quiet rules S c h e sums formed fits uncut quiet =
    let whole : IsTrue (is_quiet_by rules.criterion (transactions h) e.thread.number e.kind) =
    ap (λ past. is_quiet_by rules.criterion (transactions past) e.thread.number e.kind) (sym (take-append-drop c h))
    ∙ is_quiet_by-append rules.criterion (take c h) (drop c h) e.thread.number e.kind sums.last.is.1 ∙ quiet in
    sums_up-fine rules S c h e sums fits uncut
    (quiet_law rules.criterion rules.registers rules.start h e (IsFine-whole rules h sums.judged).final formed whole)

-- the event makes a cut, at which the outcomes are the end states of the window that it closes
pub sums_up-cut : (rules : Rules) (S N : State → Type 0) (c : ℕ) (h : List Event) (e : Event) → SumsUp rules S c h
    → IsTrue (is_well_formed rules.registers (h ++ e ∷ [])) → length (transactions (drop c h ++ e ∷ [])) ≤ rules.window
    → IsTrue (is_cut (drop c h ++ e ∷ [])) → ((s : State) → N s ↔ EndsBy rules.criterion S (transactions (drop c h ++ e ∷ [])) s)
    → (end : State) → N end → (MoreThan rules.states N → ⊥) → SumsUp rules N (length h + 1) (h ++ e ∷ [])
sums_up-cut rules S N c h e sums formed fits cut same end is few =
    let whole : IsTrue (is_cut (h ++ e ∷ [])) = is_cut-push c h e sums.last.is ∙ cut in
    let to : (s : State) → outcomes_by rules.criterion rules.start (h ++ e ∷ []) s → N s =
    λ s at. (same s).1 ((outcomes-push rules S c h e sums formed whole s).0 at) in
    let from : (s : State) → N s → outcomes_by rules.criterion rules.start (h ++ e ∷ []) s =
    λ s at. (outcomes-push rules S c h e sums formed whole s).1 ((same s).0 at) in
    let longer = length-push h e in
    record {
      judged = AreFine-push rules h e sums.judged (record {
        narrow = narrow-push rules S c h e sums fits;
        few = λ many. few (MoreThan-within rules.states (outcomes_by rules.criterion rules.start (h ++ e ∷ [])) N to many.many);
        final = (final-push rules S c h e sums formed).1 (end, (same end).0 is);
      });
      last = record {
        is = (omega (arith, longer), rw (take_all-push h e) whole);
        last = λ at after past. let within = past.0 in absurd (omega (arith, longer, after, within));
      };
      states = λ s. rw (take_all-push h e) (from s, to s);
    }

-- no transactions lead from a state to it alone
leads-none : (c : Criterion) (s : State) → LeadsBy c s [] s
leads-none Opacity s = ([], record { each = refl; kept = refl; completed = refl; legal = refl }, refl)
leads-none Strict s = grind arith

leads_none : (c : Criterion) (s r : State) → LeadsBy c s [] r → r ≡ s
leads_none Opacity s r ([], a, is) = sym is
leads_none Opacity s r (p ∷ more, a, is) = absurd (let (i, at, rest) = a.each in cc)
leads_none Strict s r ([], a, is) = sym is
leads_none Strict s r (p ∷ more, a, is) = absurd (let none = a.are in let (i, at, rest) = a.explains.each in cc)

outcomes_none : (c : Criterion) (start s : State) → outcomes_by c start [] s → s ≡ start
outcomes_none c start s (one, is, leads) = leads_none c one s leads ∙ is

take-none : (k : ℕ) → take {A = Event} k [] ≡ []
take-none k = take_all {A = Event} k [] (omega arith)

between-none : (from upto : ℕ) → between from upto [] ≡ []
between-none from upto = ap (drop from) (take-none upto) ∙ drop_all from [] (omega arith)

IsFine-none : (rules : Rules) → 0 < rules.states → IsFine rules []
IsFine-none rules some = record {
  narrow = λ w. let few : rules.window < 0 = rw (between-none w.from w.upto) at w.wide in absurd (omega (arith, few));
  few = λ many.
      let more = many.many.more in
      let both : 1 < length many.many.some = omega (arith, some, more) in
      let first = outcomes_none rules.criterion rules.start _ (many.many.among 0 [] (omega (arith, both))) in
      let next = outcomes_none rules.criterion rules.start _ (many.many.among 1 [] both) in
      many.many.differ 0 1 [] (omega arith) both (first ∙ sym next);
  final = outcome-final rules.criterion rules.registers rules.start [] refl rules.start
      (rules.start, refl, leads-none rules.criterion rules.start);
}

-- nothing is wrong with a history with no event, with its start state for its one outcome
pub sums_up-new : (rules : Rules) → 0 < rules.states → SumsUp rules (Only rules.start) 0 []
sums_up-new rules some = record {
  judged = λ k within. rw (take-none k) (IsFine-none rules some);
  last = record { is = (omega arith, refl); last = λ at after past. let within = past.0 in absurd (omega (arith, after, within)) };
  states = λ s. (λ is. (s, is, leads-none rules.criterion s), λ outcome. outcomes_none rules.criterion rules.start s outcome);
}

-- what is wrong with a history excludes that nothing is, and that anything else is
abbrev Excludes : (A B : Rules → List Event → Type 0) → Type 0
Excludes A B = (rules : Rules) (h : List Event) → A rules h → B rules h → ⊥

malformed-fine : Excludes IsMalformed IsFine
malformed-fine rules h a b = both_ways _ a.ill_formed (formed-final rules.criterion rules.registers rules.start h b.final)

wide-fine : Excludes IsTooWide IsFine
wide-fine rules h a b = b.narrow a.wide

many-fine : Excludes IsTooMany IsFine
many-fine rules h a b = b.few a.many

violated-fine : Excludes IsViolated IsFine
violated-fine rules h a b = a.not_final b.final

-- one that has outcomes is final-state opaque, or strict
many-final : Excludes IsTooMany IsViolated
many-final rules h a b =
    let (end, found) = MoreThan-member rules.states (outcomes_by rules.criterion rules.start h) a.many.many in
    b.not_final (outcome-final rules.criterion rules.registers rules.start h b.formed end found)

-- the shortest prefix at which anything is wrong is one, and one thing is wrong with it
IsFirst-fine : (A : Rules → List Event → Type 0) → Excludes A IsFine → (rules : Rules) (h : List Event) (m : ℕ)
    → IsFirst A rules h m → AreFine rules h → ⊥
IsFirst-fine A a rules h m first judged = a rules (take m h) first.here (judged m first.within)

IsFirst-same : (A B : Rules → List Event → Type 0) → Excludes A IsFine → Excludes B IsFine → (rules : Rules) (h : List Event)
    (m n : ℕ) → IsFirst A rules h m → IsFirst B rules h n → m ≡ n
IsFirst-same A B a b rules h m n one two = grind arith

IsFirst-apart : (A B : Rules → List Event → Type 0) → Excludes A IsFine → Excludes B IsFine → Excludes A B → (rules : Rules)
    (h : List Event) (m n : ℕ) → IsFirst A rules h m → IsFirst B rules h n → ⊥
IsFirst-apart A B a b both rules h m n one two = grind arith

malformed-wide : (rules : Rules) (h : List Event) (m n : ℕ) → IsFirst IsMalformed rules h m → IsFirst IsTooWide rules h n → ⊥
malformed-wide = IsFirst-apart IsMalformed IsTooWide malformed-fine wide-fine (λ rules h a b. both_ways _ a.ill_formed b.formed)

malformed-many : (rules : Rules) (h : List Event) (m n : ℕ) → IsFirst IsMalformed rules h m → IsFirst IsTooMany rules h n → ⊥
malformed-many = IsFirst-apart IsMalformed IsTooMany malformed-fine many-fine (λ rules h a b. both_ways _ a.ill_formed b.formed)

malformed-violated : (rules : Rules) (h : List Event) (m n : ℕ) → IsFirst IsMalformed rules h m → IsFirst IsViolated rules h n → ⊥
malformed-violated = grind (arith, malformed-fine)

wide-many : (rules : Rules) (h : List Event) (m n : ℕ) → IsFirst IsTooWide rules h m → IsFirst IsTooMany rules h n → ⊥
wide-many = IsFirst-apart IsTooWide IsTooMany wide-fine many-fine (λ rules h a b. b.narrow a.wide)

wide-violated : (rules : Rules) (h : List Event) (m n : ℕ) → IsFirst IsTooWide rules h m → IsFirst IsViolated rules h n → ⊥
wide-violated = IsFirst-apart IsTooWide IsViolated wide-fine violated-fine (λ rules h a b. b.narrow a.wide)

many-violated : (rules : Rules) (h : List Event) (m n : ℕ) → IsFirst IsTooMany rules h m → IsFirst IsViolated rules h n → ⊥
many-violated = IsFirst-apart IsTooMany IsViolated many-fine violated-fine many-final

-- a history has at most one verdict
pub verdict-one : (rules : Rules) (h : List Event) (v w : Verdict) → IsVerdict rules h v → IsVerdict rules h w → v ≡ w
verdict-one rules h OpaqueSoFar OpaqueSoFar j k = refl
verdict-one rules h OpaqueSoFar StrictSoFar j k = absurd (let one = j.0 in let other = k.0 in cc)
verdict-one rules h OpaqueSoFar (Malformed n) j k = absurd (IsFirst-fine IsMalformed malformed-fine rules h n k j.1)
verdict-one rules h OpaqueSoFar (Undecided n Transactions) j k = absurd (IsFirst-fine IsTooWide wide-fine rules h n k j.1)
verdict-one rules h OpaqueSoFar (Undecided n States) j k = absurd (IsFirst-fine IsTooMany many-fine rules h n k j.1)
verdict-one rules h OpaqueSoFar (Violated n) j k = absurd (IsFirst-fine IsViolated violated-fine rules h n k j.1)
verdict-one rules h StrictSoFar OpaqueSoFar j k = absurd (let one = j.0 in let other = k.0 in cc)
verdict-one rules h StrictSoFar StrictSoFar j k = refl
verdict-one rules h StrictSoFar (Malformed n) j k = absurd (IsFirst-fine IsMalformed malformed-fine rules h n k j.1)
verdict-one rules h StrictSoFar (Undecided n Transactions) j k = absurd (IsFirst-fine IsTooWide wide-fine rules h n k j.1)
verdict-one rules h StrictSoFar (Undecided n States) j k = absurd (IsFirst-fine IsTooMany many-fine rules h n k j.1)
verdict-one rules h StrictSoFar (Violated n) j k = absurd (IsFirst-fine IsViolated violated-fine rules h n k j.1)
verdict-one rules h (Malformed m) OpaqueSoFar j k = absurd (IsFirst-fine IsMalformed malformed-fine rules h m j k.1)
verdict-one rules h (Malformed m) StrictSoFar j k = absurd (IsFirst-fine IsMalformed malformed-fine rules h m j k.1)
verdict-one rules h (Malformed m) (Malformed n) j k =
    ap (λ x. let v : Verdict = Malformed x in v) (IsFirst-same IsMalformed IsMalformed malformed-fine malformed-fine rules h m n j k)
verdict-one rules h (Malformed m) (Undecided n Transactions) j k = absurd (malformed-wide rules h m n j k)
verdict-one rules h (Malformed m) (Undecided n States) j k = absurd (malformed-many rules h m n j k)
verdict-one rules h (Malformed m) (Violated n) j k = absurd (malformed-violated rules h m n j k)
verdict-one rules h (Undecided m Transactions) OpaqueSoFar j k = absurd (IsFirst-fine IsTooWide wide-fine rules h m j k.1)
verdict-one rules h (Undecided m Transactions) StrictSoFar j k = absurd (IsFirst-fine IsTooWide wide-fine rules h m j k.1)
verdict-one rules h (Undecided m Transactions) (Malformed n) j k = absurd (malformed-wide rules h n m k j)
verdict-one rules h (Undecided m Transactions) (Undecided n Transactions) j k =
    ap (λ x. let v : Verdict = Undecided x Transactions in v) (IsFirst-same IsTooWide IsTooWide wide-fine wide-fine rules h m n j k)
verdict-one rules h (Undecided m Transactions) (Undecided n States) j k = absurd (wide-many rules h m n j k)
verdict-one rules h (Undecided m Transactions) (Violated n) j k = absurd (wide-violated rules h m n j k)
verdict-one rules h (Undecided m States) OpaqueSoFar j k = absurd (IsFirst-fine IsTooMany many-fine rules h m j k.1)
verdict-one rules h (Undecided m States) StrictSoFar j k = absurd (IsFirst-fine IsTooMany many-fine rules h m j k.1)
verdict-one rules h (Undecided m States) (Malformed n) j k = absurd (malformed-many rules h n m k j)
verdict-one rules h (Undecided m States) (Undecided n Transactions) j k = absurd (wide-many rules h n m k j)
verdict-one rules h (Undecided m States) (Undecided n States) j k =
    ap (λ x. let v : Verdict = Undecided x States in v) (IsFirst-same IsTooMany IsTooMany many-fine many-fine rules h m n j k)
verdict-one rules h (Undecided m States) (Violated n) j k = absurd (many-violated rules h m n j k)
verdict-one rules h (Violated m) OpaqueSoFar j k = absurd (IsFirst-fine IsViolated violated-fine rules h m j k.1)
verdict-one rules h (Violated m) StrictSoFar j k = absurd (IsFirst-fine IsViolated violated-fine rules h m j k.1)
verdict-one rules h (Violated m) (Malformed n) j k = absurd (malformed-violated rules h n m k j)
verdict-one rules h (Violated m) (Undecided n Transactions) j k = absurd (wide-violated rules h n m k j)
verdict-one rules h (Violated m) (Undecided n States) j k = absurd (many-violated rules h n m k j)
verdict-one rules h (Violated m) (Violated n) j k = grind arith

-- where nothing is wrong, the verdict is that of the criterion
pub so_far-fine : (rules : Rules) (h : List Event) → AreFine rules h → IsVerdict rules h (so_far rules.criterion)
so_far-fine rules h fine = grind arith

pub fine-so_far : (rules : Rules) (h : List Event) (v : Verdict) → v ≡ so_far rules.criterion → IsVerdict rules h v → AreFine rules h
fine-so_far rules h OpaqueSoFar is judged = judged.1
fine-so_far rules h StrictSoFar is judged = judged.1
fine-so_far rules h (Malformed n) is judged = absurd (no_end rules.criterion is)
  where
    no_end : (c : Criterion) → (let v : Verdict = Malformed n in v) ≡ so_far c → ⊥
    no_end Opacity same = cc
    no_end Strict same = cc
fine-so_far rules h (Undecided n why) is judged = absurd (no_end rules.criterion is)
  where
    no_end : (c : Criterion) → (let v : Verdict = Undecided n why in v) ≡ so_far c → ⊥
    no_end Opacity same = cc
    no_end Strict same = cc
fine-so_far rules h (Violated n) is judged = grind arith
