-- With more events a history has as many transactions as before or more, and does not become well-formed.
use Rattle.tmw_part.proofs.Shared.{AreUnfit, Bool, Event, List, Txn, [], add_event, and_from, and_parts, ap, arith, cases_Bool, drop, get_or, inl, inr, is_text, is_well_formed, length, list_all, refl, subst, sym, take, take-append-drop, take_more, transactions, transactions_from, true, ℕ, ◌++◌, ◌+◌, ◌<◌, ◌∙◌, ◌∷◌, ◌≡◌, ◌≤◌}
use Rattle.tmw_defs.proofs.OneMore.{add_event_here, add_event_past, joins, length-add_event}
use Rattle.tmw_defs.proofs.Places.{transactions_from-append}
use Rattle.tmw_events.specs.declared.event.Kind.{Kind}

length-more : (place : ℕ) (ts : List Txn) (es : List Event) → length ts ≤ length (transactions_from place ts es)
length-more place ts [] = omega arith
length-more place ts (e ∷ es) = grind (arith, (length-more (place + 1) (add_event place e ts) es), (length-add_event place e ts))

text-before : (registers : ℕ) (text : List Kind) (k : Kind) → is_text registers (text ++ k ∷ []) ≡ true → is_text registers text ≡ true
text-before registers [] k formed = refl
text-before registers (c ∷ []) k formed = grind arith
text-before registers (c ∷ a ∷ []) k formed = grind arith
text-before registers (c ∷ a ∷ b ∷ more) k formed = grind (arith, (text-before registers (b ∷ more) k))

abbrev are_texts : ℕ → List Txn → Bool
are_texts registers ts = list_all (λ t. is_text registers t.text) ts

texts-add : (registers place : ℕ) (e : Event) (ts : List Txn) → are_texts registers (add_event place e ts) ≡ true → are_texts registers ts ≡ true
texts-add registers place e [] formed = refl
texts-add registers place e (t ∷ ts) formed =
    elim (cases_Bool (joins e t)) [
      | inl here ↦
          let (first, rest) = and_parts (is_text registers (t.text ++ e.kind ∷ [])) (are_texts registers ts) (rw (add_event_here place e t ts here) at formed) in
          and_from (is_text registers t.text) _ (text-before registers t.text e.kind first) rest
      | inr past ↦
          let (first, rest) = and_parts (is_text registers t.text) (are_texts registers (add_event place e ts)) (rw (add_event_past place e t ts past) at formed) in
          and_from (is_text registers t.text) _ first (texts-add registers place e ts rest)
    ]

texts-more : (registers place : ℕ) (ts : List Txn) (es : List Event) → are_texts registers (transactions_from place ts es) ≡ true
    → are_texts registers ts ≡ true
texts-more registers place ts [] formed = formed
texts-more registers place ts (e ∷ es) formed = texts-add registers place e ts (texts-more registers (place + 1) (add_event place e ts) es formed)

-- the transactions of a history, from those of what it begins with
transactions-begun : (n : ℕ) (h : List Event)
    → transactions_from (0 + length (take n h)) (transactions (take n h)) (drop n h) ≡ transactions h
transactions-begun n h = sym (transactions_from-append 0 [] (take n h) (drop n h)) ∙ ap transactions (take-append-drop n h)

pub fewer-begun : (n : ℕ) (h : List Event) → length (transactions (take n h)) ≤ length (transactions h)
fewer-begun n h =
    subst (λ ts. length (transactions (take n h)) ≤ length ts) (transactions-begun n h)
    (length-more (0 + length (take n h)) (transactions (take n h)) (drop n h))

pub formed-begun : (registers n : ℕ) (h : List Event) → is_well_formed registers h ≡ true → is_well_formed registers (take n h) ≡ true
formed-begun registers n h formed =
    texts-more registers (0 + length (take n h)) (transactions (take n h)) (drop n h)
    (ap (are_texts registers) (transactions-begun n h) ∙ formed)

pub take-next : (events : List Event) (place : ℕ) (event : Event) → place < length events → event ≡ get_or events place event
    → take place events ++ event ∷ [] ≡ take (place + 1) events
take-next events place event within is =
    ap (λ e. take place events ++ e ∷ []) is ∙ sym (take_more events place event within)

-- what is unfit stays so with more events
pub unfit-begun : (registers n : ℕ) (h : List Event) → AreUnfit registers (take n h) → AreUnfit registers h
unfit-begun registers n h unfit = grind (arith, cases_Bool, (formed-begun registers n h), (fewer-begun n h))
