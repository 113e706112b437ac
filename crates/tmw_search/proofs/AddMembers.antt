-- Members of one set or of several are added to a list.
use Rattle.tmw_search.proofs.Shared.{Adds, AddsMember, Bool, Contains, Contains-append_left, Contains-push, Contains-push_cases, Err, In, IsTrue, List, Ok, OnErr, OnOk, Result, State, [], ap, arith, bit_at, bit_at-zero, cases_lt, false, inl, inr, refl, subst, sym, true, ℕ, ◌%◌, ◌*◌, ◌++◌, ◌+◌, ◌-◌, ◌<◌, ◌^◌, ◌∙◌, ◌∷◌, ◌≡◌, ◌⊎◌}
use Rattle.tmw_search.proofs.Bits.{same_place, less_of, less_has}
use Rattle.tmw_search.proofs.Branches.{never-true}

-- members of another set were added
pub adds-to : {A : Type 0} {done : Bool} {old new : List A} {P Q : A → Type 0} → ((e : A) → P e → Q e) → (IsTrue done → (e : A) → Q e → P e)
    → Adds done old new P → Adds done old new Q
adds-to = grind arith

pub adds-empty : {A : Type 0} {old : List A} {P : A → Type 0} → ((e : A) → P e → ⊥) → Adds true old old P
adds-empty none = record { only = λ e has. inl has; kept = λ e has. has; all = λ all e p. absurd (none e p) }

pub adds-one : {old new : List State} {state : State} → AddsMember old new state → Adds true old new (λ e. e ≡ state)
adds-one adds = record {
  only = λ e has. elim ((adds e).0 has) [ inl same ↦ inr same | inr was ↦ inl was ];
  kept = λ e has. (adds e).1 (inr has);
  all = λ all e same. (adds e).1 (inl same);
}

-- what holds where a call was Ok, as it was
pub ok-of : {T E P Q : Type 0} (r : Result T E) → OnOk r P → OnErr r Q → (Q → ⊥) → P
ok-of (Ok x) p q never = p
ok-of (Err e) p q never = absurd (never q)

pub adds-push : {A : Type 0} {old : List A} {r : A} {P : A → Type 0} → P r → ((q : A) → P q → r ≡ q) → Adds true old (old ++ r ∷ []) P
adds-push {A = A} {old = old} {r = r} {P = P} is only = record {
  only = λ q has. elim (Contains-push_cases old r q has) [ inl before ↦ inl before | inr same ↦ inr (subst P same is) ];
  kept = λ q has. Contains-append_left old (r ∷ []) q has;
  all = λ all q made. subst (λ (z : A). Contains (old ++ r ∷ []) z) (only q made) (Contains-push old r);
}

pub adds-both : {A : Type 0} {done : Bool} {old mid new : List A} {P Q R : A → Type 0} → Adds true old mid P → Adds done mid new Q
    → ((e : A) → P e → R e) → ((e : A) → Q e → R e) → ((e : A) → R e → P e ⊎ Q e) → Adds done old new R
adds-both a b one two either = record { only = grind arith; kept = grind arith; all = grind arith }

pub adds-part : {A : Type 0} {old new : List A} {P Q : A → Type 0} → ((e : A) → P e → Q e) → Adds false old new P → Adds false old new Q
adds-part to = adds-to to (λ all. absurd (never-true all))

pub adds-any : {A : Type 0} {done : Bool} {old new : List A} {P : A → Type 0} → Adds true old new P → Adds done old new P
adds-any a = record { only = a.only; kept = a.kept; all = λ all. a.all refl }

-- of the first n sets
abbrev pub OfFirst : {A : Type 0} → (ℕ → A → Type 0) → ℕ → A → Type 0
OfFirst P n q = (i : ℕ) × (i < n) × P i q

pub adds-first : {A : Type 0} {P : ℕ → A → Type 0} {old : List A} → Adds true old old (OfFirst P 0)
adds-first = adds-empty (λ q (i, less, is). absurd (omega (arith, less)))

pub adds-next : {A : Type 0} {done : Bool} (P : ℕ → A → Type 0) (n : ℕ) {old mid new : List A} → Adds true old mid (OfFirst P n)
    → Adds done mid new (P n) → Adds done old new (OfFirst P (n + 1))
adds-next = grind (arith, adds-both, cases_lt)

pub adds-places : {A : Type 0} (P : ℕ → A → Type 0) (n : ℕ) {old new : List A} → ((i : ℕ) (q : A) → P i q → i < n)
    → Adds true old new (OfFirst P n) → Adds true old new (λ q. (i : ℕ) × P i q)
adds-places P n low adds = adds-to (λ q (i, less, is). (i, is)) (λ all q (i, is). (i, low i q is, is)) adds

-- The sets of these places were added, but those of the places left.
abbrev pub ByOne : (ℕ → State → Type 0) → ℕ → State → Type 0
ByOne P these e = (i : ℕ) × (i < 8) × In these i × P i e

pub record AddsEach (P : ℕ → State → Type 0) (these left : ℕ) (old now : List State) : Type 0 where
  pub adds : Adds true old now (ByOne (λ i e. (bit_at left i ≡ 0) × P i e) these)
  pub among : (i : ℕ) → In left i → In these i

pub each-none : {P : ℕ → State → Type 0} {these : ℕ} {old : List State} → AddsEach P these these old old
each-none = record {
  adds = adds-empty (λ e (i, few, one, (none, p)). absurd (omega (arith, one, none)));
  among = λ i is. is;
}

pub each-next : {P : ℕ → State → Type 0} {these left : ℕ} {old mid new : List State} (i : ℕ) → i < 8 → In left i → AddsEach P these left old mid
    → Adds true mid new (P i) → AddsEach P these (left - 1 * 2 ^ i % 2 ^ 8) old new
each-next {P = P} {left = left} i within one a b =
    let rest = left - 1 * 2 ^ i % 2 ^ 8 in
    let less = less_of left i within one in
    record {
      adds = adds-both a.adds b
          (λ e (k, few, is, (none, p)).
          let apart : k ≡ i → ⊥ = λ same. absurd (omega (arith, none, subst (In left) (sym same) one)) in
          (k, few, is, (sym (less.other k apart) ∙ none, p)))
          (λ e p. (i, within, a.among i one, (less.new, p)))
          (λ e (k, few, is, (none, p)). elim (same_place k i) [
            | inl same ↦ inr (subst (λ (m : ℕ). P m e) same p)
            | inr apart ↦ inl (k, few, is, (less.other k apart ∙ none, p))
          ]);
      among = λ k is. a.among k (less_has left i rest k less is);
    }

pub each-part : {P : ℕ → State → Type 0} {these left : ℕ} {old mid new : List State} (i : ℕ) → i < 8 → In left i → AddsEach P these left old mid
    → Adds false mid new (P i) → Adds false old new (ByOne P these)
each-part i within one a b = record {
  only = λ e has. elim (b.only e has) [
    | inl was ↦ elim (a.adds.only e was) [ inl first ↦ inl first | inr (k, few, is, (none, p)) ↦ inr (k, few, is, p) ]
    | inr p ↦ inr (i, within, a.among i one, p)
  ];
  kept = λ e has. b.kept e (a.adds.kept e has);
  all = λ all. absurd (never-true all);
}

pub each-all : {P : ℕ → State → Type 0} {these left : ℕ} {old new : List State} → left ≡ 0 → AddsEach P these left old new
    → Adds true old new (ByOne P these)
each-all none a =
    adds-to (λ e (i, few, is, (out, p)). (i, few, is, p))
    (λ all e (i, few, is, p). (i, few, is, (ap (λ (m : ℕ). bit_at m i) none ∙ bit_at-zero i, p))) a.adds
