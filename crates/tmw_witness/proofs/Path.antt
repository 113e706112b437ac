-- The serial order that a witness tells: rank by rank, first those that are left out, by their places, and then the one that is held.
-- So the window has the end state of the highest rank.
use Rattle.tmw_witness.proofs.Shared.{Below, Bool, Contains, Ends, HasWriter, IsTrue, IsWitness, Leads, List, MayStand, Some, State, Txn, View, Witness, [], after, ap, arith, bit, bit_at, bit_at-zero, bit_at_set_other, bit_at_set_same, bit_cases, bit_or, cases_Bool, cases_lt, chosen, committed_of, false, if◌then◌else◌, inl, inr, leads-first, length, masks, may_hold, precedes, rank_of, refl, same_place, slice_get, slice_get_some, slice_get_within, state_of, status_of, suc, sym, true, w8, zero, ℕ, ◌%◌, ◌*◌, ◌+◌, ◌/◌, ◌<◌, ◌^◌, ◌∙◌, ◌≡◌, ◌≤◌, ◌⊎◌}
use Rattle.tmw_search.proofs.RankedOrders.{ShowsTransaction, ShowsTransactions}
use Rattle.tmw_search.proofs.Chosen.{chosen-zero, chosen_bits}

-- where transaction j comes in the order
abbrev slot : Witness → ℕ → ℕ
slot w j = 9 * rank_of w j + (if committed_of w j then 8 else j)

slot_is : (w : Witness) (j : ℕ)
    → ((committed_of w j ≡ true) × (slot w j ≡ 9 * rank_of w j + 8)) ⊎ ((committed_of w j ≡ false) × (slot w j ≡ 9 * rank_of w j + j))
slot_is w j = elim (cases_Bool (committed_of w j)) [ inl is ↦ inl (is, rw is refl) | inr out ↦ inr (out, rw out refl) ]

-- those from this slot on lead from the state there to the last
record IsPhase (ts : List Txn) (w : Witness) (at : ℕ) : Type 0 where
  left : ℕ
  has : (j : ℕ) → j < length ts → at ≤ slot w j → bit_at left j ≡ 1
  only : (j : ℕ) → j < length ts → bit_at left j ≡ 1 → at ≤ slot w j
  leads : Leads (state_of w (at / 9)) (chosen left ts) (state_of w w.top)

-- none comes at the slot
passed : (ts : List Txn) (w : Witness) (at : ℕ)
    → ((j : ℕ) → j < length ts → slot w j ≡ at → ⊥) → (at + 1) / 9 ≡ at / 9
    → IsPhase ts w (at + 1) → IsPhase ts w at
passed ts w at none same p = record {
  left = p.left;
  has = grind (arith, none, p.has);
  only = λ j inside one. omega (arith, p.only j inside one);
  leads = rw same at p.leads;
}

-- the one that comes at the slot
record ComesAt (ts : List Txn) (w : Witness) (at j : ℕ) (t : Txn) (by : Bool) : Type 0 where
  there : slice_get ts j ≡ Some t
  is : slot w j ≡ at
  ranked : at / 9 ≡ rank_of w j
  alone : (i : ℕ) → i < length ts → slot w i ≡ at → i ≡ j
  may : IsTrue (may_hold (status_of t.text) by)
  to : state_of w ((at + 1) / 9) ≡ after (state_of w (rank_of w j)) (record { txn = t; held = by })

placed : (starts : List State) (xs : List View) (ts : List Txn) (w : Witness) (at j : ℕ)
    (t : Txn) (by : Bool) → IsWitness starts xs w → ShowsTransactions xs ts → ComesAt ts w at j t by
    → IsPhase ts w (at + 1) → IsPhase ts w at
placed starts xs ts w at j t by o shows c p =
    let few : length ts ≤ 8 = (let f = o.few in omega (arith, f, shows.same_length)) in
    let inside = slice_get_within ts j t c.there in
    let low : j < 8 = omega (arith, inside, few) in
    let x = slice_get_some xs j (omega (arith, inside, shows.same_length)) in
    let one = shows.each j x.0 t x.1 c.there in
    let stands = o.places.each j x.0 x.1 (slice_get_within xs j x.0 x.1) in
    let left = bit_or p.left (1 * 2 ^ j % 2 ^ 8) in
    let other : (i : ℕ) → (i ≡ j → ⊥) → bit_at left i ≡ bit_at p.left i = λ i apart. bit_at_set_other w8 p.left j low i apart in
    let set : bit_at left j ≡ 1 = bit_at_set_same w8 p.left j low in
    record {
      left = left;
      has = grind (arith, masks, c.alone, p.has);
      only = grind (arith, masks, c.is, p.only);
      leads = rw c.ranked (leads-first ts left p.left j (record { txn = t; held = by }) (state_of w (rank_of w j)) (state_of w w.top) (record {
        at = c.there;
        has = set;
        less = record {
          new = elim (bit_cases p.left j) [ inl none ↦ none | inr is ↦ absurd (omega (arith, p.only j inside is, c.is)) ];
          other = other;
        };
        free = λ i u at_i bit_i. elim (cases_Bool (precedes u t)) [
          | inr none ↦ none
          | inl before ↦
              let (earlier, kept) = stands.kept i (one.bits i u at_i ∙ ap bit before) in
              absurd (omega (arith, p.only i (slice_get_within ts i u at_i) bit_i, c.is, slot-kept w i j low earlier kept))
        ];
        may = c.may;
        reads = rw one.ops at stands.reads;
      }) (rw c.to at p.leads));
    }
  where
    slot-kept : (w : Witness) (i j : ℕ) → j < 8 → i < j → rank_of w i + bit (committed_of w i) ≤ rank_of w j → slot w i < slot w j
    slot-kept w i j low earlier kept = grind arith

-- a transaction that is left out, or might as well be, leaves the state
record LeavesState (s : State) (t : Txn) : Type 0 where
  by : Bool
  may : IsTrue (may_hold (status_of t.text) by)
  same : s ≡ after s (record { txn = t; held = by })

leaves-state : (s : State) (ts : List Txn) (x : View) (t : Txn) (held : Bool) → ShowsTransaction ts x t → held ≡ false
    → MayStand s x.status held x.ops → LeavesState s t
leaves-state s ts x t held shows out (inl may) =
    record { by = false; may = rw (shows.status, out) at may; same = refl }
leaves-state s ts x t held shows out (inr (is, may, leaves)) =
    record { by = true; may = rw shows.status at may; same = rw (← shows.ops) (sym leaves) }

may-held : (s : State) (x : View) (held : Bool) → held ≡ true → MayStand s x.status held x.ops → IsTrue (may_hold x.status true)
may-held s x held is (inl may) = rw is at may
may-held s x held is (inr (out, may, leaves)) = may

-- from each slot on
phase-next : (starts : List State) (xs : List View) (ts : List Txn) (w : Witness) (at : ℕ)
    → IsWitness starts xs w → ShowsTransactions xs ts → at < 9 * w.top + 8 → IsPhase ts w (at + 1)
    → IsPhase ts w at
phase-next starts xs ts w at o shows below p =
    elim (cases_lt (at % 9) 8) [
      | inl out ↦ elim (cases_lt (at % 9) (length ts)) [
        | inr past ↦ passed ts w at (λ j inside is. absurd (omega (arith, out_at j inside is out, past, inside))) (omega (arith, out)) p
        | inl inside ↦ elim (same_place (slot w (at % 9)) at) [
          | inr other ↦
              passed ts w at
              (λ j within is. other (ap (slot w) (sym (out_at j within is out)) ∙ is)) (omega (arith, out)) p
          | inl is ↦ left_out is inside out
        ]
      ]
      | inr last ↦ held_there (o.places.full (at / 9) (omega (arith, below, last))) last
    ]
  where
    few : length ts ≤ 8
    few = let f = o.few in omega (arith, f, shows.same_length)

    out_at : (j : ℕ) → j < length ts → slot w j ≡ at → at % 9 < 8 → j ≡ at % 9
    out_at j inside is out = grind arith

    left_out : slot w (at % 9) ≡ at → at % 9 < length ts → at % 9 < 8 → IsPhase ts w at
    left_out is inside out =
        let j = at % 9 in
        let t = slice_get_some ts j inside in
        let x = slice_get_some xs j (omega (arith, inside, shows.same_length)) in
        let one = shows.each j x.0 t.0 x.1 t.1 in
        elim (slot_is w j) [
          | inl (held_j, at_j) ↦ absurd (omega (arith, at_j, is, out))
          | inr (out_j, at_j) ↦
              let ranked : at / 9 ≡ rank_of w j = omega (arith, at_j, is) in
              let same : (at + 1) / 9 ≡ rank_of w j = omega (arith, ranked, out) in
              let leaves = leaves-state (state_of w (rank_of w j)) ts x.0 t.0 (committed_of w j) one out_j (o.places.each j x.0 x.1 (slice_get_within xs j x.0 x.1)).may in
              placed starts xs ts w at j t.0 leaves.by o shows (record {
                there = t.1;
                is = is;
                ranked = ranked;
                alone = λ i within is_i. out_at i within is_i out;
                may = leaves.may;
                to = ap (state_of w) same ∙ leaves.same;
              }) p
        ]

    held_there : HasWriter (Below xs) w (at / 9) → 8 ≤ at % 9 → IsPhase ts w at
    held_there writer last =
        let j = writer.place in
        let inside : j < length ts = (let f = writer.among in omega (arith, f, shows.same_length)) in
        let t = slice_get_some ts j inside in
        let x = slice_get_some xs j writer.among in
        let one = shows.each j x.0 t.0 x.1 t.1 in
        let stands = o.places.each j x.0 x.1 (slice_get_within xs j x.0 x.1) in
        let ranked = writer.ranked in
        let next : (at + 1) / 9 ≡ rank_of w j + 1 = omega (arith, ranked, last) in
        placed starts xs ts w at j t.0 true o shows (record {
          there = t.1;
          is = grind (arith, ranked, last, writer.is);
          ranked = sym ranked;
          alone = λ i within is_i. grind (arith, o.places.apart i j, shows.same_length, is_i, ranked, last, writer.is, writer.among);
          may = rw one.status at (may-held (state_of w (rank_of w j)) x.0 (committed_of w j) writer.is stands.may);
          to = ap (state_of w) next ∙ rw one.ops at (stands.leads writer.is);
        }) p

phase-at : (starts : List State) (xs : List View) (ts : List Txn) (w : Witness) (k at : ℕ)
    → IsWitness starts xs w → ShowsTransactions xs ts → at + k ≡ 9 * w.top + 8 → IsPhase ts w at
phase-at starts xs ts w zero at o shows last =
    let rank_is : at / 9 ≡ w.top = omega (arith, last) in
    record {
      left = 0;
      has = λ j inside late. absurd (
          let x = slice_get_some xs j (omega (arith, inside, shows.same_length)) in
          let few = o.few in
          let within = (o.places.each j x.0 x.1 (slice_get_within xs j x.0 x.1)).within in
          grind arith);
      only = λ j inside one. absurd (omega (arith, one, bit_at-zero j));
      leads = rw (rank_is, chosen-zero ts) ([], record { each = refl; kept = refl; completed = refl; legal = refl }, refl);
    }
phase-at starts xs ts w (suc k) at o shows last =
    phase-next starts xs ts w at o shows (omega (arith, last))
    (phase-at starts xs ts w k (at + 1) o shows (omega (arith, last)))

-- a window with a witness has the end state of the highest rank
pub witness-ends : {starts : List State} {xs : List View} {ts : List Txn} {w : Witness} → IsWitness starts xs w → ShowsTransactions xs ts
    → Ends (Contains starts) ts (state_of w w.top)
witness-ends {starts = starts} {xs = xs} {ts = ts} {w = w} o shows =
    let p = phase-at starts xs ts w (9 * w.top + 8) 0 o shows (omega arith) in
    let all : chosen p.left ts ≡ ts = chosen_bits ts p.left (λ j inside. p.has j inside (omega arith)) in
    (state_of w 0, o.places.start, rw all at p.leads)
