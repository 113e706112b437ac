-- A serial order gives each of its transactions a rank, and ranks give a serial order. It is legal where each read has its value from a
-- writer before it that no other comes behind, and ends in what the last writers leave.
use Rattle.tmw_search.proofs.Shared.{Bool, Effect, EndsAt, In, IsTrue, List, Needs, Open, Placed, PlacesEach, Reads, Some, State, Txn, Writes, [], after, and_from, and_parts, ap, arith, bit_at, bit_at-more_other, bit_at-more_same, bit_at-zero, cases_lt, chosen, end_state, eq-eqb, ext_get_or, false, get_or, idle, if◌then◌else◌, inl, inr, is_legal, keeps_order, left_at, length, length-after, length-taken, list_all, ne_eqb, need_at, nil_from_length, not, not-true, not_from_false, operations, precedes, reads_hold, refl, remove, slice_get, slice_get_some, slice_index, subst, suc, sym, true, zero, ℕ, ◌+◌, ◌-◌, ◌<◌, ◌==◌, ◌^◌, ◌↔◌, ◌∙◌, ◌∷◌, ◌≡◌, ◌≤◌, ◌⊎◌}
use Rattle.tmw_search.proofs.RankedOrders.{ActAs}
use Rattle.tmw_search.proofs.Bits.{masks, bit_within, bit_cases, less_here, less_has, same_place}
use Rattle.tmw_search.proofs.Chosen.{chosen_at, chosen-at, chosen_none}

-- The next in the order is the one at k: of the members that are ranked at `upto` or above, the lowest.
pub record IsNext (ts : List Txn) (member : ℕ → Type 0) (held : ℕ) (rank : ℕ → ℕ) (upto k : ℕ) (p : Placed) : Type 0 where
  pub is : member k
  pub at : slice_get ts k ≡ Some p.txn
  pub told : p.held ≡ (bit_at held k == 1)
  pub above : upto ≤ rank k
  pub least : (j : ℕ) → member j → upto ≤ rank j → rank k ≤ rank j

-- The order has the members that are ranked at `upto` or above, by rising rank, each held as the mask says.
abbrev pub IsSorted : List Txn → (ℕ → Type 0) → ℕ → (ℕ → ℕ) → ℕ → List Placed → Type 0
IsSorted ts member held rank upto [] = (j : ℕ) → member j → rank j < upto
IsSorted ts member held rank upto (p ∷ more) =
    (k : ℕ) × IsNext ts member held rank upto k p × IsSorted ts member held rank (rank k + 1) more

-- with other masks and ranks that are the same from here on
sorted-same : (ts : List Txn) (was member : ℕ → Type 0) (old_held held : ℕ) (old_rank rank : ℕ → ℕ) (upto : ℕ) (order : List Placed)
    → ((j : ℕ) → was j → member j × (rank j ≡ old_rank j) × (bit_at held j ≡ bit_at old_held j))
    → ((j : ℕ) → member j → upto ≤ rank j → was j)
    → IsSorted ts was old_held old_rank upto order → IsSorted ts member held rank upto order
sorted-same ts was member old_held held old_rank rank upto [] same back none = λ j is. grind (arith, back j is, none j, same j)
sorted-same ts was member old_held held old_rank rank upto (p ∷ more) same back (k, x, rest) =
    let (is, ranked, told) = same k x.is in (
      k,
      record {
        is = is;
        at = x.at;
        told = x.told ∙ ap (λ (b : ℕ). b == 1) (sym told);
        above = omega (arith, x.above, ranked);
        least = λ j in_j high. (let old = back j in_j high in
            omega (arith, x.least j old (omega (arith, high, (same j old).1)), ranked, (same j old).1));
      },
      subst (λ (r : ℕ). IsSorted ts member held rank (r + 1) more) (sym ranked)
          (sorted-same ts was member old_held held old_rank rank (old_rank k + 1) more same
          (λ j in_j high. back j in_j (omega (arith, high, x.above))) rest),
    )

-- the ranks with that of one more, and the mask of those held
abbrev put : ℕ → ℕ → (ℕ → ℕ) → ℕ → ℕ
put k r rank j = if j == k then r else rank j

put-here : (k r : ℕ) (rank : ℕ → ℕ) (j : ℕ) → j ≡ k → put k r rank j ≡ r
put-here k r rank j same = let is : (j == k) ≡ true = eq-eqb j k same in rw is refl

put-else : (k r : ℕ) (rank : ℕ → ℕ) (j : ℕ) → (j ≡ k → ⊥) → put k r rank j ≡ rank j
put-else k r rank j apart = let is : (j == k) ≡ false = ne_eqb j k apart in rw is refl

hold : (b : Bool) (old k : ℕ) → bit_at old k ≡ 0
    → (new : ℕ) × (b ≡ (bit_at new k == 1)) × ((j : ℕ) → (j ≡ k → ⊥) → bit_at new j ≡ bit_at old j)
hold true old k none = (old + 2 ^ k, sym (eq-eqb (bit_at (old + 2 ^ k) k) 1 (bit_at-more_same old k none)), λ j apart. bit_at-more_other old k j none apart)
hold false old k none = (old, sym (ne_eqb (bit_at old k) 1 (λ one. absurd (omega (arith, one, none)))), λ j apart. refl)

-- the ranks that an order gives, and those that it holds: all others are ranked behind
pub record Ranks (ts : List Txn) (members from : ℕ) (order : List Placed) : Type 0 where
  pub rank : ℕ → ℕ
  pub held : ℕ
  pub sorted : IsSorted ts (In members) held rank from order
  pub high : (j : ℕ) → from ≤ rank j
  pub apart : (i j : ℕ) → rank i ≡ rank j → i ≡ j
  pub behind : (i j : ℕ) → In members i → (In members j → ⊥) → rank i < rank j
  pub sub : (j : ℕ) → In held j → In members j

-- no bit is set where nothing is chosen
none_in : (ts : List Txn) (mask j : ℕ) → mask < 2 ^ length ts → length (chosen mask ts) ≡ 0 → In mask j → ⊥
none_in ts mask j fits none is =
    let (t, at) = slice_get_some ts j (bit_within mask (length ts) j fits is) in chosen_none ts mask j t none at is

pub ranks_of : (ts : List Txn) (members from : ℕ) (order : List Placed) → members < 2 ^ length ts → PlacesEach (chosen members ts) order
    → Ranks ts members from order
ranks_of ts members from [] fits none =
    let out : (j : ℕ) → In members j → ⊥ = λ j is. none_in ts members j fits (ap length none) is in
    record {
      rank = λ j. from + j;
      held = 0;
      sorted = λ j is. absurd (out j is);
      high = λ j. omega arith;
      apart = λ i j same. omega (arith, same);
      behind = λ i j is past. absurd (out i is);
      sub = λ j is. absurd (omega (arith, is, bit_at-zero j));
    }
ranks_of ts members from (p ∷ more) fits (i, at, rest) =
    let (k, c) = chosen_at ts members i p.txn at in
    let less = less_here members k c.has in
    let q = ranks_of ts (members - 2 ^ k) (from + 1) more (omega (arith, fits)) (rw (c.others (members - 2 ^ k) less) at rest) in
    let out : bit_at q.held k ≡ 0 = elim (bit_cases q.held k) [ inl none ↦ none | inr one ↦ absurd (omega (arith, q.sub k one, less.new)) ] in
    let (held, told, others) = hold p.held q.held k out in
    let rank = put k from q.rank in
    let here = put-here k from q.rank in
    let rest_is = put-else k from q.rank in
    let not_k : (j : ℕ) → In (members - 2 ^ k) j → j ≡ k → ⊥ = λ j is same. absurd (omega (arith, is, ap (bit_at (members - 2 ^ k)) same, less.new)) in
    record {
      rank = rank;
      held = held;
      sorted = (
        k,
        record {
          is = c.has;
          at = c.at;
          told = told;
          above = omega (arith, here k refl);
          least = λ j is high. omega (arith, here k refl, high);
        },
        subst (λ (r : ℕ). IsSorted ts (In members) held rank (r + 1) more) (sym (here k refl))
            (sorted-same ts (In (members - 2 ^ k)) (In members) q.held held q.rank rank (from + 1) more
            (λ j is. (less_has members k _ j less is, rest_is j (not_k j is), others j (not_k j is)))
            (λ j is high. sym (less.other j (λ same. absurd (omega (arith, high, here j same)))) ∙ is) q.sorted),
      );
      high = grind (arith, here, rest_is, q.high);
      apart = grind (arith, here, rest_is, q.high, q.apart);
      behind = grind (arith, masks, here, rest_is, q.high, q.behind);
      sub = grind (arith, masks);
    }

-- one of the mask that is ranked no higher than those of it below n
lowest : (rank : ℕ → ℕ) (mask n k : ℕ) → In mask k → (b : ℕ) × In mask b × ((j : ℕ) → j < n → In mask j → rank b ≤ rank j)
lowest rank mask zero k is = (k, is, λ j below. absurd (omega (arith, below)))
lowest rank mask (suc n) k is =
    let (b, is_b, first) = lowest rank mask n k is in
    elim (bit_cases mask n) [
      | inl out ↦ (b, is_b, below b first (λ one. absurd (omega (arith, one, out))))
      | inr one ↦ elim (cases_lt (rank n) (rank b)) [
        | inl less ↦ (n, one, below n (λ j low is_j. omega (arith, less, first j low is_j)) (λ is. omega arith))
        | inr more ↦ (b, is_b, below b first (λ is. more))
      ]
    ]
  where
    below : (b : ℕ) → ((j : ℕ) → j < n → In mask j → rank b ≤ rank j) → (In mask n → rank b ≤ rank n) → (j : ℕ) → j < suc n → In mask j → rank b ≤ rank j
    below b first own = grind arith

-- an order of those of the mask, the members that are ranked at `upto` or above
pub record Sorts (ts : List Txn) (mask : ℕ) (member : ℕ → Type 0) (held : ℕ) (rank : ℕ → ℕ) (upto : ℕ) : Type 0 where
  pub order : List Placed
  pub places : PlacesEach (chosen mask ts) order
  pub sorted : IsSorted ts member held rank upto order

pub sorts : (n : ℕ) (ts : List Txn) (mask : ℕ) (member : ℕ → Type 0) (held : ℕ) (rank : ℕ → ℕ) (upto : ℕ) → length (chosen mask ts) ≡ n → mask < 2 ^ length ts
    → ((i j : ℕ) → member i → member j → rank i ≡ rank j → i ≡ j)
    → ((j : ℕ) → In mask j → member j × (upto ≤ rank j)) → ((j : ℕ) → member j → upto ≤ rank j → In mask j)
    → Sorts ts mask member held rank upto
sorts zero ts mask member held rank upto size fits apart to from =
    record {
      order = [];
      places = nil_from_length (chosen mask ts) size;
      sorted = λ j is. grind (arith, none_in ts mask j fits size, from j is);
    }
sorts (suc n) ts mask member held rank upto size fits apart to from =
    let (first_txn, first_at) = slice_get_some (chosen mask ts) 0 (omega (arith, size)) in
    let (some, c) = chosen_at ts mask 0 first_txn first_at in
    let (k, is, first) = lowest rank mask (length ts) some c.has in
    let small : (j : ℕ) → In mask j → j < length ts = λ j one. bit_within mask (length ts) j fits one in
    let (t, at) = slice_get_some ts k (small k is) in
    let less = less_here mask k is in
    let (place, set) = chosen-at ts mask k t at is in
    let others : remove (chosen mask ts) place ≡ chosen (mask - 2 ^ k) ts = set.others (mask - 2 ^ k) less in
    let rest = sorts n ts (mask - 2 ^ k) member held rank (rank k + 1)
    (ap length (sym others) ∙ length-taken n (chosen mask ts) place t size set.among) (omega (arith, fits)) apart
    (λ j one.
    let old = less_has mask k _ j less one in
    let differ : rank k ≡ rank j → ⊥ =
    λ same. absurd (omega (arith, one, ap (bit_at (mask - 2 ^ k)) (apart k j (to k is).0 (to j old).0 same), less.new)) in
    ((to j old).0, omega (arith, first j (small j old) old, differ)))
    (λ j one high. sym (less.other j (λ same. absurd (omega (arith, high, ap rank same)))) ∙ from j one (omega (arith, high, (to k is).1))) in
    record {
      order = record { txn = t; held = bit_at held k == 1 } ∷ rest.order;
      places = (place, set.among, subst (λ (us : List Txn). PlacesEach us rest.order) (sym others) rest.places);
      sorted = (
        k,
        record {
          is = (to k is).0;
          at = at;
          told = refl;
          above = (to k is).1;
          least = λ j one high. (let old = from j one high in first j (small j old) old);
        },
        rest.sorted,
      );
    }

-- the one at this place of the list, as an order has it
abbrev placed : ℕ → ℕ → Txn → Placed
placed held k t = record { txn = t; held = bit_at held k == 1 }

-- no two members have one rank
abbrev pub Apart : (ℕ → Type 0) → (ℕ → ℕ) → Type 0
Apart member rank = (i j : ℕ) → member i → member j → rank i ≡ rank j → i ≡ j

module _ (ts : List Txn) (member : ℕ → Type 0) (held : ℕ) (rank : ℕ → ℕ) (apart : Apart member rank) where
  later : (upto k j : ℕ) (p : Placed) → IsNext ts member held rank upto k p → member j → upto ≤ rank j → (j ≡ k → ⊥) → rank k + 1 ≤ rank j
  later = grind (arith, same_place)

  -- what holds of all in the order holds of each member, and the other way round
  pub sorted_all : (f : Placed → Bool) (upto : ℕ) (order : List Placed) → IsSorted ts member held rank upto order
      → IsTrue (list_all f order)
      ↔ ((j : ℕ) (t : Txn) → member j → upto ≤ rank j → slice_get ts j ≡ Some t → IsTrue (f (placed held j t)))
  sorted_all f upto [] none = (λ all j t is high. absurd (omega (arith, high, none j is)), λ each. refl)
  sorted_all f upto (p ∷ more) (k, x, rest) =
      let here : p ≡ placed held k p.txn = ap (λ (b : Bool). let q : Placed = record { txn = p.txn; held = b } in q) x.told in
      let others = sorted_all f (rank k + 1) more rest in (
        λ all j t is high at.
            let (first, behind) = and_parts (f p) _ all in
            elim (same_place j k) [
              | inl same ↦
                  let is_t : t ≡ p.txn = (let there : slice_get ts k ≡ Some t = rw same at at in let own = x.at in cc) in
                  rw (same, is_t) (rw here at first)
              | inr differ ↦ others.0 behind j t is (later upto k j p x is high differ) at
            ],
        λ each. and_from (f p) _ (rw here (each k p.txn x.is x.above x.at))
            (others.1 (λ j t is high. each j t is (omega (arith, high, x.above)))),
      )

  -- the order keeps the real-time order just where no member is ranked below one that precedes it
  pub keeps : (upto : ℕ) (order : List Placed) → IsSorted ts member held rank upto order
      → IsTrue (keeps_order order)
      ↔ ((i j : ℕ) (t u : Txn) → member i → member j → upto ≤ rank i → rank i < rank j → slice_get ts i ≡ Some t
      → slice_get ts j ≡ Some u → precedes u t ≡ false)
  keeps upto [] none = (λ kept i j t u is_i is_j high. absurd (omega (arith, high, none i is_i)), λ each. refl)
  keeps upto (p ∷ more) (k, x, rest) =
      let free = sorted_all (λ q. not (precedes q.txn p.txn)) (rank k + 1) more rest in
      let others = keeps (rank k + 1) more rest in (
        λ kept i j t u is_i is_j high less at_i at_j.
            let (first, behind) = and_parts (list_all (λ q. not (precedes q.txn p.txn)) more) _ kept in
            elim (same_place i k) [
              | inl same ↦
                  let is_t : t ≡ p.txn = (let there : slice_get ts k ≡ Some t = rw same at at_i in let own = x.at in cc) in
                  rw is_t (not-true (precedes u p.txn) (free.0 first j u is_j (omega (arith, less, ap rank same)) at_j))
              | inr differ ↦ others.0 behind i j t u is_i is_j (later upto k i p x is_i high differ) less at_i at_j
            ],
        λ each. and_from (list_all (λ q. not (precedes q.txn p.txn)) more) _
            (free.1 (λ j u is high at. not_from_false (precedes u p.txn) (each k j p.txn u x.is is x.above (omega (arith, high)) x.at at)))
            (others.1 (λ i j t u is_i is_j high. each i j t u is_i is_j (omega (arith, high, x.above)))),
      )

-- the writer of the register that is ranked last below `upto`
record IsLatest (xs : List Effect) (held : ℕ) (rank : ℕ → ℕ) (upto r value place : ℕ) : Type 0 where
  writes : Writes xs held r place
  below : rank place < upto
  is : value ≡ left_at xs place r
  last : (k : ℕ) → Writes xs held r k → rank k < upto → rank k ≤ rank place

abbrev ValueAt : List Effect → ℕ → (ℕ → ℕ) → ℕ → ℕ → ℕ → ℕ → Type 0
ValueAt xs held rank upto r old value =
    (((k : ℕ) → Writes xs held r k → upto ≤ rank k) × (value ≡ old)) ⊎ ((place : ℕ) × IsLatest xs held rank upto r value place)

-- a member's later answers fit its earlier operations, and each value that it needs is there
pub record IsServed (xs : List Effect) (held : ℕ) (start : State) (rank : ℕ → ℕ) (j : ℕ) : Type 0 where
  pub agree : IsTrue (get_or xs j idle).agrees
  pub each : (r : ℕ) → r < 8 → Needs xs j r → Reads xs held start rank j r Open

-- an order from here on is legal just where each of its members is served, and the registers end with what the last writers leave
pub record Serves (xs : List Effect) (member : ℕ → Type 0) (held : ℕ) (start : State) (rank : ℕ → ℕ) (upto : ℕ) (s : State) (order : List Placed) : Type 0 where
  pub legal : IsTrue (is_legal s order) ↔ ((j : ℕ) → member j → upto ≤ rank j → IsServed xs held start rank j)
  pub ends : (r : ℕ) → r < 8 → EndsAt xs held rank r (slice_index start r) (slice_index (end_state s order) r)

-- no register ends with two values
pub one-end : {xs : List Effect} {held : ℕ} {rank : ℕ → ℕ} {r was v w : ℕ}
    → ((i j : ℕ) → Writes xs held r i → Writes xs held r j → rank i ≡ rank j → i ≡ j)
    → EndsAt xs held rank r was v → EndsAt xs held rank r was w → v ≡ w
one-end = grind arith

module _ (ts : List Txn) (xs : List Effect) (member : ℕ → Type 0) (held : ℕ) (start : State) (rank : ℕ → ℕ) (apart : Apart member rank)
    (low : (j : ℕ) → member j → j < 8) (sub : (j : ℕ) → j < 8 → In held j → member j) (acts : ActAs xs ts) where
  -- the value is there where it is read from the start or from a writer, and only there
  reads_value : (upto k r old value : ℕ) (p : Placed) → old ≡ slice_index start r → IsNext ts member held rank upto k p → ValueAt xs held rank upto r old value
      → (value ≡ need_at xs k r) ↔ Reads xs held start rank k r Open
  reads_value = grind (arith, cases_lt)

  -- what is held behind the next
  value-next : (upto k r old : ℕ) (p : Placed) (s : State) → length s ≡ 8 → r < 8 → IsNext ts member held rank upto k p
      → ValueAt xs held rank upto r old (slice_index s r) → ValueAt xs held rank (rank k + 1) r old (slice_index (after s p) r)
  value-next upto k r old p s size few x v =
      let below : (w : ℕ) → Writes xs held r w → rank w < rank k + 1 → (rank w < upto) ⊎ (w ≡ k) =
      λ w is under. grind (arith, apart w k (sub w is.0 is.1) x.is, x.least w (sub w is.0 is.1)) in
      let kept : (Writes xs held r k → ⊥) → slice_index (after s p) r ≡ slice_index s r
      → ValueAt xs held rank (rank k + 1) r old (slice_index (after s p) r) = λ out same.
      let before : (w : ℕ) → Writes xs held r w → rank w < rank k + 1 → rank w < upto = λ w is under. elim (below w is under) [
        | inl early ↦ early
        | inr own ↦ absurd (out (rw own at is))
      ] in
      elim v [
        | inl (none, is) ↦ inl (
          λ w is_w. elim (cases_lt (rank w) (rank k + 1)) [ inl under ↦ absurd (omega (arith, before w is_w under, none w is_w)) | inr above ↦ above ],
          same ∙ is,
        )
        | inr (place, l) ↦ inr (
          place,
          record { writes = l.writes; below = omega (arith, l.below, x.above); is = same ∙ l.is; last = λ w is under. l.last w is (before w is under) },
        )
      ] in
      let a = acts k p.txn x.at in
      elim (bit_cases held k) [
        | inl none ↦ kept (λ w. absurd (omega (arith, none, w.1))) (let no : p.held ≡ false = x.told ∙ rw none refl in rw no refl)
        | inr is ↦
            let yes : p.held ≡ true = x.told ∙ eq-eqb (bit_at held k) 1 is in
            elim (bit_cases (get_or xs k idle).left r) [
              | inl none ↦ kept (λ w. absurd (omega (arith, none, w.2))) (rw yes (a.leaves s r size few ∙ rw none refl))
              | inr one ↦ inr (
                k,
                record {
                  writes = (low k x.is, is, one);
                  below = omega arith;
                  is = rw yes (a.leaves s r size few ∙ rw one refl);
                  last = λ w is under. omega (arith, under);
                },
              )
            ]
      ]

  serves : (upto : ℕ) (s : State) (order : List Placed) → length s ≡ 8
      → ((r : ℕ) → r < 8 → ValueAt xs held rank upto r (slice_index start r) (slice_index s r)) → IsSorted ts member held rank upto order
      → Serves xs member held start rank upto s order
  serves upto s [] size values none = record {
    legal = (λ legal j is high. absurd (omega (arith, high, none j is)), λ each. refl);
    ends = λ r few. elim (values r few) [
      | inl (nobody, same) ↦ inl (λ w is. absurd (omega (arith, nobody w is, none w (sub w is.0 is.1))), same)
      | inr (place, l) ↦ inr (place, record { writes = l.writes; is = l.is; last = λ w is. l.last w is (none w (sub w is.0 is.1)) })
    ];
  }
  serves upto s (p ∷ more) size values (k, x, rest) =
      let next = serves (rank k + 1) (after s p) more (length-after s p ∙ size) (λ r few. value-next upto k r (slice_index start r) p s size few x (values r few)) rest in
      let reads = (acts k p.txn x.at).reads s size in
      let value = λ (r : ℕ) (few : r < 8). reads_value upto k r (slice_index start r) (slice_index s r) p refl x (values r few) in
      record {
        legal = (
          λ legal j is high.
              let (here, behind) = and_parts (reads_hold s (operations p.txn.text)) _ legal in
              elim (same_place j k) [
                | inl same ↦ rw same (record { agree = (reads.0 here).0; each = λ r few needs. (value r few).0 ((reads.0 here).1 r few needs) })
                | inr differ ↦ next.legal.0 behind j is (later ts member held rank apart upto k j p x is high differ)
              ],
          λ each. and_from (reads_hold s (operations p.txn.text)) _
              (let own = each k x.is x.above in reads.1 (own.agree, λ r few needs. (value r few).1 (own.each r few needs)))
              (next.legal.1 (λ j is high. each j is (omega (arith, high, x.above)))),
        );
        ends = next.ends;
      }

  pub serves_start : (order : List Placed) → length start ≡ 8 → IsSorted ts member held rank 0 order → Serves xs member held start rank 0 start order
  serves_start order size sorted = serves 0 start order size (λ r few. inl (λ k w. omega arith, refl)) sorted

  pub same_ends : (start one other : State) → length one ≡ 8 → length other ≡ 8
      → ((r : ℕ) → r < 8 → EndsAt xs held rank r (slice_index start r) (slice_index one r))
      → ((r : ℕ) → r < 8 → EndsAt xs held rank r (slice_index start r) (slice_index other r)) → one ≡ other
  same_ends start one other size too ends each = ext_get_or 0 one other (size ∙ sym too)
      (λ r within. one-end (λ i j w v. apart i j (sub i w.0 w.1) (sub j v.0 v.1)) (ends r (omega (arith, within, size))) (each r (omega (arith, within, size))))
