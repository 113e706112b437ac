-- What a mask chooses of a list, one by one, and what a completion holds of it.
use Rattle.tmw_search.proofs.Shared.{AreHeld, Bool, IsTrue, List, Some, Txn, [], and_from, and_parts, ap, arith, bit_at, bit_at-suc, bit_at_lowest, bit_at_ones, cases_Bool, cases_lt, chosen, eq-eqb, eqb-true, if◌then◌else◌, inl, inr, length, list_all, list_all-remove, may_hold, pow-suc, refl, remove, same_from_bits, slice_get, slice_get_within, status_of, suc, sym, true, zero, ℕ, ◌%◌, ◌*◌, ◌+◌, ◌-◌, ◌/◌, ◌<◌, ◌==◌, ◌^◌, ◌∙◌, ◌∷◌, ◌≡◌, ◌⊎◌}
use Rattle.std.proofs.lemmas.List.Edits.{length-remove}
use Rattle.tmw_search.proofs.Bits.{IsLess}

-- the lowest bit tells whether the first is chosen
pub low_bit : (mask : ℕ) → (mask % 2 ≡ 1) ⊎ (mask % 2 ≡ 0)
low_bit mask = elim (cases_lt (mask % 2) 1) [ inl none ↦ inr (omega arith) | inr some ↦ inl (omega arith) ]

pub chosen-here : (mask : ℕ) (t : Txn) (ts : List Txn) → mask % 2 ≡ 1 → chosen mask (t ∷ ts) ≡ t ∷ chosen (mask / 2) ts
chosen-here mask t ts one = rw one refl

pub chosen-past : (mask : ℕ) (t : Txn) (ts : List Txn) → mask % 2 ≡ 0 → chosen mask (t ∷ ts) ≡ chosen (mask / 2) ts
chosen-past mask t ts none = rw none refl

-- The transaction at a place is chosen: it stands among those chosen, and without its bit the others are chosen.
pub record IsChosen (ts : List Txn) (mask i place : ℕ) (t : Txn) : Type 0 where
  pub at : slice_get ts place ≡ Some t
  pub has : bit_at mask place ≡ 1
  pub among : slice_get (chosen mask ts) i ≡ Some t
  pub others : (less : ℕ) → IsLess mask place less → remove (chosen mask ts) i ≡ chosen less ts

chosen-first : (t : Txn) (ts : List Txn) (mask : ℕ) → (mask % 2 == 1) ≡ true → IsChosen (t ∷ ts) mask zero zero t
chosen-first t ts mask odd = record {
  at = refl;
  has = bit_at_lowest mask ∙ eqb-true (mask % 2) 1 odd;
  among = rw odd refl;
  others = λ less l.
      let low : less % 2 ≡ 0 = sym (bit_at_lowest less) ∙ l.new in
      let half : mask / 2 ≡ less / 2 = same_from_bits (mask / 2) (less / 2)
      (λ i. sym (bit_at-suc mask i) ∙ l.other (suc i) (λ same. absurd (omega (arith, same))) ∙ bit_at-suc less i) in
      rw (odd, low) (ap (λ m. chosen m ts) half);
}

chosen-later : (x : Txn) (ts : List Txn) (mask i place : ℕ) (t : Txn) → IsChosen ts (mask / 2) i place t
    → IsChosen (x ∷ ts) mask (if mask % 2 == 1 then suc i else i) (suc place) t
chosen-later x ts mask i place t c =
    let low : (less : ℕ) → IsLess mask (suc place) less → less % 2 ≡ mask % 2 =
    λ less l. sym (bit_at_lowest less) ∙ sym (l.other 0 (λ same. absurd (omega (arith, same)))) ∙ bit_at_lowest mask in
    let half : (less : ℕ) → IsLess mask (suc place) less → IsLess (mask / 2) place (less / 2) = λ less l. record {
      new = sym (bit_at-suc less place) ∙ l.new;
      other = λ j apart. sym (bit_at-suc mask j) ∙ l.other (suc j) (λ same. apart (omega (arith, same))) ∙ bit_at-suc less j;
    } in
    let has : bit_at mask (suc place) ≡ 1 = bit_at-suc mask place ∙ c.has in
    elim (cases_Bool (mask % 2 == 1)) [
      | inl odd ↦ rw odd record {
        at = c.at;
        has = has;
        among = rw odd c.among;
        others = λ less l. rw (low less l, odd) (ap (λ us. x ∷ us) (c.others (less / 2) (half less l)));
      }
      | inr even ↦ rw even record {
        at = c.at;
        has = has;
        among = rw even c.among;
        others = λ less l. rw (low less l, even) (c.others (less / 2) (half less l));
      }
    ]

-- by its place among those chosen, and by its bit
pub chosen_at : (ts : List Txn) (mask i : ℕ) (t : Txn) → slice_get (chosen mask ts) i ≡ Some t → (place : ℕ) × IsChosen ts mask i place t
chosen_at [] mask i t at = absurd (cc)
chosen_at (x ∷ ts) mask zero t at =
    elim (cases_Bool (mask % 2 == 1)) [
      | inl odd ↦ (zero, let is : x ≡ t = (let k = rw odd at at in cc) in rw (← is) (chosen-first x ts mask odd))
      | inr even ↦
          let c = chosen_at ts (mask / 2) zero t (rw even at at) in
          (suc c.0, rw even at (chosen-later x ts mask zero c.0 t c.1))
    ]
chosen_at (x ∷ ts) mask (suc i) t at =
    elim (cases_Bool (mask % 2 == 1)) [
      | inl odd ↦
          let c = chosen_at ts (mask / 2) i t (rw odd at at) in
          (suc c.0, rw odd at (chosen-later x ts mask i c.0 t c.1))
      | inr even ↦
          let c = chosen_at ts (mask / 2) (suc i) t (rw even at at) in
          (suc c.0, rw even at (chosen-later x ts mask (suc i) c.0 t c.1))
    ]

pub chosen-at : (ts : List Txn) (mask place : ℕ) (t : Txn) → slice_get ts place ≡ Some t → bit_at mask place ≡ 1
    → (i : ℕ) × IsChosen ts mask i place t
chosen-at [] mask place t at one = absurd (cc)
chosen-at (x ∷ ts) mask zero t at one =
    let is : x ≡ t = cc in
    (zero, rw (← is) (chosen-first x ts mask (eq-eqb (mask % 2) 1 (sym (bit_at_lowest mask) ∙ one))))
chosen-at (x ∷ ts) mask (suc place) t at one =
    let c = chosen-at ts (mask / 2) place t at (sym (bit_at-suc mask place) ∙ one) in
    (if mask % 2 == 1 then suc c.0 else c.0, chosen-later x ts mask c.0 place t c.1)

pub length-chosen : (ts : List Txn) (mask i place : ℕ) (t : Txn) (less : ℕ) → IsChosen ts mask i place t → IsLess mask place less
    → length (chosen less ts) + 1 ≡ length (chosen mask ts)
length-chosen = grind (arith, length-remove, slice_get_within)

-- what holds of each that is chosen
pub list_all-chosen : (p : Txn → Bool) (ts : List Txn) (mask : ℕ)
    → ((place : ℕ) (t : Txn) → slice_get ts place ≡ Some t → bit_at mask place ≡ 1 → IsTrue (p t)) → IsTrue (list_all p (chosen mask ts))
list_all-chosen p ts mask each = from_each (chosen mask ts) (λ i t at. let c = chosen_at ts mask i t at in each c.0 t c.1.at c.1.has)
  where
    from_each : (us : List Txn) → ((i : ℕ) (t : Txn) → slice_get us i ≡ Some t → IsTrue (p t)) → IsTrue (list_all p us)
    from_each [] each = refl
    from_each (u ∷ us) each = and_from (p u) _ (each zero u refl) (from_each us (λ i t at. each (suc i) t at))

pub list_all_chosen : (p : Txn → Bool) (ts : List Txn) (mask place : ℕ) (t : Txn) → IsTrue (list_all p (chosen mask ts))
    → slice_get ts place ≡ Some t → bit_at mask place ≡ 1 → IsTrue (p t)
list_all_chosen p ts mask place t all at one =
    let (i, c) = chosen-at ts mask place t at one in
    (and_parts (p t) _ (rw (list_all-remove p (chosen mask ts) i t c.among) at all)).0

-- nothing is chosen by no bit, and no bit is set where nothing is chosen
pub chosen-zero : (ts : List Txn) → chosen 0 ts ≡ []
chosen-zero [] = refl
chosen-zero (t ∷ ts) = chosen-zero ts

pub chosen_none : (ts : List Txn) (mask place : ℕ) (t : Txn) → length (chosen mask ts) ≡ 0 → slice_get ts place ≡ Some t
    → bit_at mask place ≡ 1 → ⊥
chosen_none = grind (arith, chosen-at, slice_get_within)

-- and where the bit of each is set, all are
pub chosen_bits : (ts : List Txn) (mask : ℕ) → ((place : ℕ) → place < length ts → bit_at mask place ≡ 1) → chosen mask ts ≡ ts
chosen_bits [] mask each = refl
chosen_bits (t ∷ ts) mask each =
    let odd = eq-eqb (mask % 2) 1 (sym (bit_at_lowest mask) ∙ each 0 (omega arith)) in
    rw odd (ap (λ us. t ∷ us) (chosen_bits ts (mask / 2) (λ j within. sym (bit_at-suc mask j) ∙ each (suc j) (omega (arith, within)))))

pub chosen-full : (ts : List Txn) → chosen (2 ^ length ts - 1) ts ≡ ts
chosen-full ts = chosen_bits ts (2 ^ length ts - 1) (λ place within. bit_at_ones (length ts) place within)

-- a completion may hold those of the mask
abbrev MayHold : List Txn → ℕ → Type 0
MayHold ts held = (i : ℕ) (t : Txn) → slice_get ts i ≡ Some t → IsTrue (may_hold (status_of t.text) (bit_at held i == 1))

-- what a completion holds are those of a mask
pub record HeldBy (ts us : List Txn) : Type 0 where
  pub held : ℕ
  pub fits : held < 2 ^ length ts
  pub may : MayHold ts held
  pub are : us ≡ chosen held ts

may_at : (x : Txn) (ts : List Txn) (held : ℕ) → IsTrue (may_hold (status_of x.text) (bit_at held 0 == 1)) → MayHold ts (held / 2)
    → MayHold (x ∷ ts) held
may_at = grind (arith, bit_at-suc)

pub held_by : (ts us : List Txn) → AreHeld ts us → HeldBy ts us
held_by [] us none = record { held = 0; fits = omega arith; may = λ i t at. absurd (cc); are = none }
held_by (x ∷ ts) us (inl (may, are)) =
    let h = held_by ts us are in
    let half : (2 * h.held) / 2 ≡ h.held = omega arith in
    let low : (2 * h.held) % 2 ≡ 0 = omega arith in
    record {
      held = 2 * h.held;
      fits = omega (arith, pow-suc 2 (length ts), h.fits);
      may = may_at x ts (2 * h.held) (rw (bit_at_lowest (2 * h.held), low) may) (rw half h.may);
      are = h.are ∙ ap (λ (m : ℕ). chosen m ts) (sym half) ∙ sym (chosen-past (2 * h.held) x ts low);
    }
held_by (x ∷ ts) us (inr (may, more, is, are)) =
    let h = held_by ts more are in
    let half : (2 * h.held + 1) / 2 ≡ h.held = omega arith in
    let low : (2 * h.held + 1) % 2 ≡ 1 = omega arith in
    record {
      held = 2 * h.held + 1;
      fits = omega (arith, pow-suc 2 (length ts), h.fits);
      may = may_at x ts (2 * h.held + 1) (rw (bit_at_lowest (2 * h.held + 1), low) may) (rw half h.may);
      are = is ∙ ap (λ (us : List Txn). x ∷ us) (h.are ∙ ap (λ (m : ℕ). chosen m ts) (sym half)) ∙ sym (chosen-here (2 * h.held + 1) x ts low);
    }

pub are_held : (ts : List Txn) (held : ℕ) → MayHold ts held → AreHeld ts (chosen held ts)
are_held [] held may = refl
are_held (x ∷ ts) held may =
    let first = may zero x refl in
    let more = are_held ts (held / 2) (λ i t at. rw (bit_at-suc held i) at (may (suc i) t at)) in
    elim (low_bit held) [
      | inl one ↦ rw (chosen-here held x ts one) (inr (rw (bit_at_lowest held, one) at first, chosen (held / 2) ts, refl, more))
      | inr none ↦ rw (chosen-past held x ts none) (inl (rw (bit_at_lowest held, none) at first, more))
    ]
