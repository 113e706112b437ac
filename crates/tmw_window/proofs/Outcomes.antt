-- The outcomes of a well-formed history that begins with a state of the run are states of the run.
use Rattle.tmw_window.proofs.Shared.{All, Bool, Criterion, Event, FitsKind, FitsRegisters, IsTrue, List, Placed, State, Txn, [], add_event, after, and_from, and_parts, arith, false, is_text, is_well_formed, list_all, list_all-append, operations, outcomes_by, refl, slice_index_or, subst, sym, transactions, transactions_from, true, ℕ, ◌+◌, ◌∙◌, ◌∷◌, ◌≡◌}
use Rattle.tmw_defs.specs.declared.criterion.Criterion.TheVariants.{Opacity, Strict}
use Rattle.std.proofs.lemmas.List.Sums.{list_all-from_AllPass}
use Rattle.tmw_defs.specs.Outcomes.{end_state}
use Rattle.tmw_defs.proofs.Completions.{list_all-held}
use Rattle.tmw_defs.proofs.Removals.{list_all-places}
use Rattle.tmw_window.proofs.Writes.{writes_word, word-kind, is_kept, operations_kept, after_kept}

-- the transactions' events are those of the history
words-add : (place : ℕ) (e : Event) (ts : List Txn) → writes_word e.kind ≡ true
    → list_all (λ t. list_all writes_word t.text) ts ≡ true → list_all (λ t. list_all writes_word t.text) (add_event place e ts) ≡ true
words-add place e [] word words = and_from _ true (and_from (writes_word e.kind) true word refl) refl
words-add place e (t ∷ ts) word words =
    let parts = and_parts (list_all writes_word t.text) _ words in
    let more = words-add place e ts word parts.1 in grind (arith, list_all-append)

words-from : (place : ℕ) (ts : List Txn) (history : List Event) → list_all (λ e. writes_word e.kind) history ≡ true
    → list_all (λ t. list_all writes_word t.text) ts ≡ true
    → list_all (λ t. list_all writes_word t.text) (transactions_from place ts history) ≡ true
words-from place ts [] words had = had
words-from place ts (e ∷ history) words had =
    let parts = and_parts (writes_word e.kind) _ words in
    words-from (place + 1) (add_event place e ts) history parts.1 (words-add place e ts parts.0 had)

words-history : (history : List Event) → All (λ e. FitsKind e.kind) history → list_all (λ e. writes_word e.kind) history ≡ true
words-history history fit =
    list_all-from_AllPass (λ e. writes_word e.kind) history (λ k d within. word-kind (slice_index_or history k d).kind (fit k d within))

-- a transaction whose operations keep a state of memory
abbrev is_kept_by : ℕ → Txn → Bool
is_kept_by registers t = list_all (is_kept registers) (operations t.text)

both : {A : Type 0} (p q r : A → Bool) → ((x : A) → p x ≡ true → q x ≡ true → r x ≡ true) → (xs : List A)
    → list_all p xs ≡ true → list_all q xs ≡ true → list_all r xs ≡ true
both p q r f [] one other = refl
both p q r f (x ∷ xs) one other =
    let a = and_parts (p x) _ one in
    let b = and_parts (q x) _ other in
    and_from (r x) _ (f x a.0 b.0) (both p q r f xs a.1 b.1)

transactions_kept : (registers : ℕ) (history : List Event) → IsTrue (is_well_formed registers history) → All (λ e. FitsKind e.kind) history
    → list_all (is_kept_by registers) (transactions history) ≡ true
transactions_kept registers history formed fit =
    both (λ t. is_text registers t.text) (λ t. list_all writes_word t.text) (is_kept_by registers)
    (λ t text words. operations_kept registers t.text text words) (transactions history) formed
    (words-from 0 [] history (words-history history fit) refl)

placed_kept : (registers : ℕ) (s : State) (held : Bool) (t : Txn) → is_kept_by registers t ≡ true → FitsRegisters registers s
    → FitsRegisters registers (after s (record { txn = t; held = held }))
placed_kept registers s true t kept is = after_kept registers s (operations t.text) kept is
placed_kept registers s false t kept is = is

end_kept : (registers : ℕ) (s : State) (order : List Placed) → list_all (λ p. is_kept_by registers p.txn) order ≡ true
    → FitsRegisters registers s → FitsRegisters registers (end_state s order)
end_kept registers s [] kept is = is
end_kept registers s (p ∷ more) kept is =
    let parts = and_parts (is_kept_by registers p.txn) _ kept in
    end_kept registers (after s p) more parts.1 (placed_kept registers s p.held p.txn parts.0 is)

pub outcome_kept : (criterion : Criterion) (registers : ℕ) (start : State) (history : List Event) → IsTrue (is_well_formed registers history)
    → All (λ e. FitsKind e.kind) history → FitsRegisters registers start → (end : State) → outcomes_by criterion start history end
    → FitsRegisters registers end
outcome_kept Opacity registers start history formed fit is end (s, same, (order, explains, ends)) =
    let kept = transactions_kept registers history formed fit in
    subst (FitsRegisters registers) ends
    (end_kept registers s order (list_all-places (is_kept_by registers) (transactions history) order explains.each ∙ kept)
    (subst (FitsRegisters registers) (sym same) is))
outcome_kept Strict registers start history formed fit is end (s, same, (order, strict, ends)) =
    let kept = list_all-held (is_kept_by registers) (transactions history) strict.members strict.are (transactions_kept registers history formed fit) in
    subst (FitsRegisters registers) ends
    (end_kept registers s order (list_all-places (is_kept_by registers) strict.members order strict.explains.each ∙ kept)
    (subst (FitsRegisters registers) (sym same) is))
