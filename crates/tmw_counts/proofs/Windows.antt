-- The cuts and the widest window of a history, with one event more.
use Rattle.tmw_counts.proofs.Shared.{Event, HasWide, HasWide-open, HasWide_push, IsCutAt, IsCutAt-push, IsCutAt_push, IsFalse, IsLastCut, IsLastCut-open, IsTrue, List, [], ap, arith, cases_lt, count_by, drop, inl, inr, is_cut, is_cut-push, length, length-add, length-push, map-append, max, one_if, prefixes, refl, subst, suc, sym, take, take-append-drop, take-append-drop-push, take-push, take_all, take_all-push, transactions, transactions-push, zero, ℕ, ◌++◌, ◌+◌, ◌-◌, ◌<◌, ◌↔◌, ◌∙◌, ◌∷◌, ◌≡◌, ◌≤◌}
use Rattle.tmw_counts.proofs.Sums.{count-append}
use Rattle.tmw_cuts.proofs.AcrossCuts.{length-transactions_cut}

prefixes-push : (h : List Event) (e : Event) → prefixes (h ++ e ∷ []) ≡ prefixes h ++ (h ++ e ∷ []) ∷ []
prefixes-push [] e = refl
prefixes-push (x ∷ xs) e = grind (arith, map-append, (prefixes-push xs e))

pub cuts-push : (h : List Event) (e : Event)
    → count_by is_cut (prefixes (h ++ e ∷ [])) ≡ count_by is_cut (prefixes h) + one_if (is_cut (h ++ e ∷ []))
cuts-push h e = grind (arith, prefixes-push, count-append)

-- a history has no fewer transactions with one event more, and at most one more
pub transactions-more : (h : List Event) (e : Event) → length (transactions h) ≤ length (transactions (h ++ e ∷ []))
transactions-more h e = grind (arith, transactions-push, length-add)

-- the open window's transactions, with the event
pub open-count : (c : ℕ) (h : List Event) (e : Event) → IsLastCut h c
    → length (transactions (h ++ e ∷ [])) ≡ length (transactions (take c h)) + length (transactions (drop c h ++ e ∷ []))
open-count c h e last = grind (arith, length, transactions, length-transactions_cut, take, drop, ℕ, take-append-drop-push)

-- a window that a cut closes is one of the longer history
HasWide-closed : (most : ℕ) (h : List Event) (e : Event) (w : HasWide most h) → IsCutAt h w.upto → HasWide most (h ++ e ∷ [])
HasWide-closed most h e w cut = record {
  from = w.from;
  upto = w.upto;
  window = record {
    order = w.window.order;
    opens = IsCutAt-push h e w.from w.window.opens;
    inside = λ at after before is. w.window.inside at after before (let within = cut.0 in IsCutAt_push h e at (omega (arith, within, before)) is);
    closes = inr (IsCutAt-push h e w.upto cut);
  };
  wide = rw (take-push w.upto h e cut.0) w.wide;
}

-- the open one begins at the last cut, or there is nothing in it and a cut closes it
HasWide-end : (most c : ℕ) (h : List Event) (e : Event) → IsLastCut h c → (w : HasWide most h) → w.upto ≡ length h → HasWide most (h ++ e ∷ [])
HasWide-end most c h e last w end =
    let within = last.is.0 in
    elim (cases_lt c (length h)) [
      | inr full ↦
          let at : c ≡ length h = omega arith in
          HasWide-closed most h e w (subst (λ (n : ℕ). IsCutAt h n) (at ∙ sym end) last.is)
      | inl lasts ↦
          let from : w.from ≡ c = grind (arith, cases_lt) in
          let all : take (length h) h ≡ h = take_all (length h) h (omega arith) in
          let wide : most < length (transactions (drop c h)) = rw (end, from, all) at w.wide in
          let more = transactions-more (drop c h) e in
          HasWide-open most c h e last (omega (arith, wide, more))
    ]

HasWide-push : (most c : ℕ) (h : List Event) (e : Event) → IsLastCut h c → HasWide most h → HasWide most (h ++ e ∷ [])
HasWide-push most c h e last w = elim w.window.closes [
  | inl end ↦ HasWide-end most c h e last w end
  | inr cut ↦ HasWide-closed most h e w cut
]

-- the widest window of the longer history is the widest so far, or the open one
pub widest-push : (w c : ℕ) (h : List Event) (e : Event) → IsLastCut h c → ((most : ℕ) → HasWide most h ↔ most < w)
    → (most : ℕ) → HasWide most (h ++ e ∷ []) ↔ most < max w (length (transactions (h ++ e ∷ [])) - length (transactions (take c h)))
widest-push w c h e last is most =
    let lasts = open-count c h e last in (
      λ wide. elim (HasWide_push most c h e last wide) [
        | inl before ↦ (let less = (is most).0 before in omega (arith, less))
        | inr now ↦ omega (arith, now, lasts)
      ],
      λ less. elim (cases_lt most w) [
        | inl before ↦ HasWide-push most c h e last ((is most).1 before)
        | inr past ↦ HasWide-open most c h e last (omega (arith, less, past, lasts))
      ],
    )

-- the widest window has no fewer transactions than the open one
pub widest-open : (w c : ℕ) (h : List Event) → IsLastCut h c → ((most : ℕ) → HasWide most h ↔ most < w)
    → length (transactions h) ≤ length (transactions (take c h)) + w
widest-open w c h last is = reaches (length (transactions (drop c h))) refl
  where
    parts : length (transactions h) ≡ length (transactions (take c h)) + length (transactions (drop c h))
    parts = ap (λ (xs : List Event). length (transactions xs)) (sym (take-append-drop c h)) ∙ length-transactions_cut (take c h) (drop c h) last.is.1

    reaches : (n : ℕ) → length (transactions (drop c h)) ≡ n → length (transactions h) ≤ length (transactions (take c h)) + w
    reaches zero none = omega (arith, parts, none)
    reaches (suc most) some =
        let less = (is most).0 record {
          from = c;
          upto = length h;
          window = record {
            order = last.is.0;
            opens = last.is;
            inside = λ at after before cut. last.last at after cut;
            closes = inl refl;
          };
          wide = rw (take_all (length h) h (omega arith)) (omega (arith, some));
        } in
        omega (arith, parts, some, less)

-- the last cut with the event
pub last-uncut : (c : ℕ) (h : List Event) (e : Event) → IsLastCut h c → IsFalse (is_cut (h ++ e ∷ [])) → IsLastCut (h ++ e ∷ []) c
last-uncut c h e last uncut = IsLastCut-open c h e last (sym (is_cut-push c h e last.is) ∙ uncut)

pub last-cut : (h : List Event) (e : Event) → IsTrue (is_cut (h ++ e ∷ [])) → IsLastCut (h ++ e ∷ []) (length h + 1)
last-cut h e cut = grind (arith, length-push, take_all-push)
