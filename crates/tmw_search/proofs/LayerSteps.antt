-- A pair is on the way to another where an order of just the transactions that it lacks leads there: each way begins with a step,
-- and each step begins a way.
use Rattle.tmw_search.proofs.Shared.{Follows, IsTrue, Leads, LeavesNone, List, Placed, Some, State, Txn, View, [], after, and_from, and_parts, ap, arith, bit_at, bit_at-lt, bit_at-zero, bit_at_set_other, bit_at_set_same, bit_or, chosen, false, inl, inr, length, list_all, list_all-places, mask-set, may_be, not, not-true, not_from_false, operations, precedes, reads_hold, refl, same_from_bits, slice_get, slice_get_some, slice_get_within, sym, true, w8, ℕ, ◌%◌, ◌*◌, ◌+◌, ◌-◌, ◌<◌, ◌^◌, ◌∙◌, ◌∷◌, ◌≡◌, ◌≤◌}
use Rattle.tmw_search.proofs.RankedOrders.{NoneBeforeItself, ShowsTransaction, ShowsTransactions}
use Rattle.tmw_search.proofs.Bits.{IsLess, less_of, bit_true, bit_within, masks, bit_cases, same_place, more_fits}
use Rattle.tmw_search.proofs.Chosen.{chosen_at, chosen-at, length-chosen, list_all-chosen, list_all_chosen, chosen-zero, chosen_none}

-- The transaction at a place, which none of the rest precedes, comes first, and those chosen are it and the rest.
pub record ComesFirst (ts : List Txn) (left rest place : ℕ) (p : Placed) (s : State) : Type 0 where
  pub at : slice_get ts place ≡ Some p.txn
  pub has : bit_at left place ≡ 1
  pub less : IsLess left place rest
  pub free : (i : ℕ) (u : Txn) → slice_get ts i ≡ Some u → bit_at rest i ≡ 1 → precedes u p.txn ≡ false
  pub may : IsTrue (may_be p)
  pub reads : IsTrue (reads_hold s (operations p.txn.text))

pub leads-first : (ts : List Txn) (left rest place : ℕ) (p : Placed) (s r : State) → ComesFirst ts left rest place p s
    → Leads (after s p) (chosen rest ts) r → Leads s (chosen left ts) r
leads-first ts left rest place p s r f (order, e, is) =
    let (i, c) = chosen-at ts left place p.txn f.at f.has in
    let none = list_all-chosen (λ u. not (precedes u p.txn)) ts rest
    (λ j u at one. not_from_false (precedes u p.txn) (f.free j u at one)) in
    let behind = list_all-places (λ u. not (precedes u p.txn)) (chosen rest ts) order e.each ∙ none in (
      p ∷ order,
      record {
        each = (i, c.among, rw (c.others rest f.less) e.each);
        kept = and_from _ _ behind e.kept;
        completed = and_from _ _ f.may e.completed;
        legal = and_from _ _ f.reads e.legal;
      },
      is,
    )

-- the first of an order, and what it leaves
pub record BeginsWith (ts : List Txn) (left : ℕ) (s r : State) : Type 0 where
  pub place : ℕ
  pub placed : Placed
  pub rest : ℕ
  pub first : ComesFirst ts left rest place placed s
  pub fewer : length (chosen rest ts) + 1 ≡ length (chosen left ts)
  pub leads : Leads (after s placed) (chosen rest ts) r

pub leads_first : (ts : List Txn) (left : ℕ) (s r : State) → length ts ≤ 8 → 0 < length (chosen left ts) → Leads s (chosen left ts) r
    → BeginsWith ts left s r
leads_first ts left s r few some ([], e, is) = absurd (omega (arith, some, ap length e.each))
leads_first ts left s r few some (p ∷ order, e, is) =
    let (i, among, others) = e.each in
    let (place, c) = chosen_at ts left i p.txn among in
    let less = less_of left place (omega (arith, few, slice_get_within ts place p.txn c.at)) c.has in
    let rest = left - 1 * 2 ^ place % 2 ^ 8 in
    let each = rw (c.others rest less) at others in
    let (behind, kept) = and_parts (list_all (λ q. not (precedes q.txn p.txn)) order) _ e.kept in
    let (may, completed) = and_parts (may_be p) _ e.completed in
    let (reads, legal) = and_parts (reads_hold s (operations p.txn.text)) _ e.legal in
    let none = sym (list_all-places (λ u. not (precedes u p.txn)) (chosen rest ts) order each) ∙ behind in
    record {
      place = place;
      placed = p;
      rest = rest;
      first = record {
        at = c.at;
        has = c.has;
        less = less;
        free = λ j u at one. not-true (precedes u p.txn) (list_all_chosen (λ v. not (precedes v p.txn)) ts rest j u none at one);
        may = may;
        reads = reads;
      };
      fewer = length-chosen ts left i place p.txn rest c less;
      leads = (order, record { each = each; kept = kept; completed = completed; legal = legal }, is);
    }

-- The mask is one of these, and leaves none that precedes one of its own.
pub record IsFront (ts : List Txn) (mask : ℕ) : Type 0 where
  pub fits : mask < 2 ^ length ts
  pub closed : LeavesNone mask ts

-- Some order of n transactions, which are those that the mask of the one pair lacks of the other's, leads from the one to the other.
pub record IsOnWay (ts : List Txn) (n : ℕ) (q p : ℕ × State) : Type 0 where
  pub left : ℕ
  pub parts : (i : ℕ) → bit_at p.0 i ≡ bit_at q.0 i + bit_at left i
  pub size : length (chosen left ts) ≡ n
  pub leads : Leads q.1 (chosen left ts) p.1

pub shown_bit : (ts : List Txn) (x : View) (t : Txn) (i : ℕ) → ShowsTransaction ts x t → bit_at x.before i ≡ 1
    → (u : Txn) × (slice_get ts i ≡ Some u) × (precedes u t ≡ true)
shown_bit ts x t i one has =
    let (u, at) = slice_get_some ts i (bit_within x.before (length ts) i one.fits has) in
    (u, at, bit_true (precedes u t) (sym (one.bits i u at) ∙ has))

-- each way begins with a step
pub way_step : (xs : List View) (ts : List Txn) (n : ℕ) (q p : ℕ × State) → ShowsTransactions xs ts → NoneBeforeItself ts → length ts ≤ 8
    → LeavesNone p.0 ts → IsOnWay ts (n + 1) q p → (r : ℕ × State) × Follows xs q r × IsOnWay ts n r p
way_step xs ts n q p shows none_self few closed w =
    let b = leads_first ts w.left q.1 p.1 few (omega (arith, w.size)) w.leads in
    let f = b.first in
    let place = b.place in
    let t = b.placed.txn in
    let within = slice_get_within ts place t f.at in
    let low : place < 8 = omega (arith, within, few) in
    let (x, shown) = slice_get_some xs place (omega (arith, within, shows.same_length)) in
    let one = shows.each place x t shown f.at in
    let new : bit_at q.0 place ≡ 0 = omega (arith, w.parts place, f.has, bit_at-lt p.0 place) in
    let r : ℕ × State = (bit_or q.0 (1 * 2 ^ place % 2 ^ 8), after q.1 b.placed) in (
      r,
      (
        place,
        (
          x,
          shown,
          b.placed.held,
          record {
            comes = record { new = new; later = λ i has. later x b one i has };
            may = rw one.status f.may;
            reads = rw one.ops f.reads;
            mask = refl;
            state = rw one.ops refl;
          },
        ),
      ),
      record {
        left = b.rest;
        parts = grind (arith, masks);
        size = omega (arith, b.fewer, w.size);
        leads = b.leads;
      },
    )
  where
    later : (x : View) (b : BeginsWith ts w.left q.1 p.1) → ShowsTransaction ts x b.placed.txn → (i : ℕ) → bit_at x.before i ≡ 1 → bit_at q.0 i ≡ 1
    later x b one i has =
        let f = b.first in
        let t = b.placed.txn in
        let (u, at, before) = shown_bit ts x t i one has in
        elim (bit_cases q.0 i) [
          | inr is ↦ is
          | inl none ↦ absurd (
              let not_before : precedes u t ≡ false = elim (bit_cases p.0 i) [
                | inl out ↦ closed i b.place u t at f.at out (omega (arith, w.parts b.place, f.has, bit_at-lt p.0 b.place))
                | inr is ↦ elim (same_place i b.place) [
                  | inl same ↦
                      let there : slice_get ts b.place ≡ Some u = ap (slice_get ts) (sym same) ∙ at in
                      let is_t : u ≡ t = (let here = f.at in cc) in
                      rw is_t (none_self b.place t f.at)
                  | inr apart ↦ f.free i u at (omega (arith, w.parts i, is, none, f.less.other i apart))
                ]
              ] in
              cc)
        ]

-- and each step begins a way
pub step-way : (xs : List View) (ts : List Txn) (n : ℕ) (q r p : ℕ × State) → ShowsTransactions xs ts → length ts ≤ 8
    → Follows xs q r → IsOnWay ts n r p → IsOnWay ts (n + 1) q p
step-way xs ts n q r p shows few (place, made) w =
    let (x, shown, held, m) = made in
    let within = slice_get_within xs place x shown in
    let (t, at) = slice_get_some ts place (omega (arith, within, shows.same_length)) in
    let low : place < 8 = omega (arith, within, shows.same_length, few) in
    let one = shows.each place x t shown at in
    let o : Placed = record { txn = t; held = held } in
    let left = bit_or w.left (1 * 2 ^ place % 2 ^ 8) in
    let has : bit_at left place ≡ 1 = bit_at_set_same w8 w.left place low in
    let set : bit_at r.0 place ≡ 1 = ap (λ mask. bit_at mask place) m.mask ∙ bit_at_set_same w8 q.0 place low in
    let same_other : (i : ℕ) → (i ≡ place → ⊥) → bit_at r.0 i ≡ bit_at q.0 i =
    λ i apart. ap (λ mask. bit_at mask i) m.mask ∙ bit_at_set_other w8 q.0 place low i apart in
    let out : bit_at w.left place ≡ 0 = omega (arith, w.parts place, set, bit_at-lt p.0 place) in
    let less : IsLess left place w.left = record { new = out; other = λ i apart. bit_at_set_other w8 w.left place low i apart } in
    let (i, c) = chosen-at ts left place t at has in
    let to : r.1 ≡ after q.1 o = rw one.ops at m.state in
    record {
      left = left;
      parts = grind (arith, masks);
      size = omega (arith, length-chosen ts left i place t w.left c less, w.size);
      leads = leads-first ts left w.left place o q.1 p.1 (record {
        at = at;
        has = has;
        less = less;
        free = λ j u there bit_j. grind (arith, masks, m.comes.later j, one.bits j u there, w.parts j, same_other j, out);
        may = rw one.status at m.may;
        reads = rw one.ops at m.reads;
      }) (rw to at w.leads);
    }

-- with none to place, the way is at its end
pub way-end : (ts : List Txn) (p : ℕ × State) → IsOnWay ts 0 p p
way-end = grind (arith, bit_at-zero, chosen-zero)

pub way_end : (ts : List Txn) (q p : ℕ × State) → p.0 < 2 ^ length ts → IsOnWay ts 0 q p → (q.0 ≡ p.0) × (q.1 ≡ p.1)
way_end ts q p fits w = (same_from_bits q.0 p.0 (λ i. omega (arith, w.parts i, none i)), ends w.size w.leads)
  where
    none : (i : ℕ) → bit_at w.left i ≡ 0
    none i = elim (bit_cases w.left i) [
      | inl out ↦ out
      | inr one ↦
          let (t, at) = slice_get_some ts i (bit_within p.0 (length ts) i fits (omega (arith, w.parts i, one, bit_at-lt p.0 i))) in
          absurd (chosen_none ts w.left i t w.size at one)
    ]

    ends : length (chosen w.left ts) ≡ 0 → Leads q.1 (chosen w.left ts) p.1 → q.1 ≡ p.1
    ends size ([], e, is) = is
    ends size (o ∷ order, e, is) =
        absurd (let within = slice_get_within (chosen w.left ts) e.each.0 o.txn e.each.1 in omega (arith, within, size))

-- a step leaves none that precedes what is placed
pub step-front : (xs : List View) (ts : List Txn) (q r : ℕ × State) → ShowsTransactions xs ts → length ts ≤ 8 → Follows xs q r
    → IsFront ts q.0 → IsFront ts r.0
step-front xs ts q r shows few (place, made) front =
    let (x, shown, held, m) = made in
    let within = slice_get_within xs place x shown in
    let low : place < 8 = omega (arith, within, shows.same_length, few) in
    let same_other : (i : ℕ) → (i ≡ place → ⊥) → bit_at r.0 i ≡ bit_at q.0 i =
    λ i apart. ap (λ mask. bit_at mask i) m.mask ∙ bit_at_set_other w8 q.0 place low i apart in
    let set : bit_at r.0 place ≡ 1 = ap (λ mask. bit_at mask place) m.mask ∙ bit_at_set_same w8 q.0 place low in
    record {
      fits = rw (m.mask, mask-set q.0 place low m.comes.new)
          (more_fits (length ts) q.0 place front.fits (omega (arith, within, shows.same_length)) m.comes.new);
      closed = λ i j u v at_i at_j out one.
          let each = λ (at : slice_get ts place ≡ Some v). (shows.each place x v shown at).bits i u at_i in
          grind (arith, masks, m.mask, front.closed i j u v at_i at_j, m.comes.later i, each, set, same_other i, same_other j, at_j);
    }
