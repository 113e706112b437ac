-- The law: what legal serial orders end in is what rankings end in.
use Rattle.tmw_search.proofs.Shared.{Bool, Criterion, Effect, EndsAt, ExplainsBy, In, IsSerial, IsTrue, List, Opacity, Placed, PlacesEach, State, Strict, Txn, and_le_r, ap, arith, bit_and, bit_at, bit_at_above, bit_at_ones, cases_Bool, cases_lt, chosen, end_state, eq-eqb, eqb-true, inl, inr, is_legal, keeps_order, length, length-end, list_all, may_be, members_of, pow_pos, precedes, refl, same_from_bits, slice_get_some, slice_get_within, slice_index, subst, sym, ℕ, ◌-◌, ◌<◌, ◌^◌, ◌∙◌, ◌≡◌, ◌≤◌}
use Rattle.tmw_search.proofs.RankedOrders.{ActAs, AreRanked, IsCompletion, RanksTo, ShowsOrder}
use Rattle.tmw_search.proofs.Bits.{masks, below_bits, bit_within, bit_cases, same_place}
use Rattle.tmw_search.proofs.Chosen.{chosen-full, chosen_bits, are_held, held_by}
use Rattle.tmw_search.proofs.Ranks.{IsSorted, Ranks, ranks_of, sorts, Apart, keeps, same_ends, serves_start, sorted_all}

-- what a serial order of the criterion holds, and its ranks
record Explained (criterion : Criterion) (ts : List Txn) (order : List Placed) : Type 0 where
  held : ℕ
  completion : IsCompletion ts held
  fits : members_of criterion (length ts) held < 2 ^ length ts
  ranks : Ranks ts (members_of criterion (length ts) held) 0 order
  told : ranks.held ≡ held

explained : (criterion : Criterion) (ts : List Txn) (s : State) (order : List Placed) → ExplainsBy criterion s ts order → Explained criterion ts order
explained Opacity ts s order e =
    let n = length ts in
    let fits : 2 ^ n - 1 < 2 ^ n = omega (arith, pow_pos n) in
    let q = ranks_of ts (2 ^ n - 1) 0 order fits (rw (chosen-full ts) e.each) in
    let apart : Apart (In (2 ^ n - 1)) q.rank = λ i j is_i is_j. q.apart i j in
    record {
      held = q.held;
      completion = record {
        may = λ i t at. (sorted_all ts (In (2 ^ n - 1)) q.held q.rank apart may_be 0 order q.sorted).0 e.completed i t
            (bit_at_ones n i (slice_get_within ts i t at)) (omega arith) at;
        none = λ i few past. grind (arith, masks, q.sub i, bit_within (2 ^ n - 1) n i fits);
      };
      fits = fits;
      ranks = q;
      told = refl;
    }
explained Strict ts s order e =
    let h = held_by ts e.members e.are in
    let fits = h.fits in
    let q = ranks_of ts h.held 0 order fits (subst (λ (us : List Txn). PlacesEach us order) h.are e.explains.each) in
    let apart : Apart (In h.held) q.rank = λ i j is_i is_j. q.apart i j in
    let same : q.held ≡ h.held = same_from_bits q.held h.held (λ i. elim (bit_cases h.held i) [
      | inl none ↦ elim (bit_cases q.held i) [
        | inl out ↦ out ∙ sym none
        | inr is ↦ absurd (omega (arith, none, q.sub i is))
      ]
      | inr one ↦
          let (t, at) = slice_get_some ts i (bit_within h.held (length ts) i fits one) in
          eqb-true (bit_at q.held i) 1
          ((sorted_all ts (In h.held) q.held q.rank apart (λ p. p.held) 0 order q.sorted).0 e.held i t one (omega arith) at) ∙ sym one
    ]) in
    record {
      held = h.held;
      completion = record {
        may = h.may;
        none = λ i few past. bit_at_above h.held (length ts) i fits past;
      };
      fits = fits;
      ranks = q;
      told = same;
    }

kept_by : (criterion : Criterion) (s : State) (ts : List Txn) (order : List Placed) → ExplainsBy criterion s ts order
    → IsTrue (keeps_order order) × IsTrue (is_legal s order)
kept_by Opacity s ts order e = (e.kept, e.legal)
kept_by Strict s ts order e = (e.explains.kept, e.explains.legal)

-- a serial order that the ranking makes
pub record Ordered (criterion : Criterion) (ts : List Txn) (xs : List Effect) (held : ℕ) (start : State) (rank : ℕ → ℕ) : Type 0 where
  pub order : List Placed
  pub explains : ExplainsBy criterion start ts order
  pub ends : (end : State) → length end ≡ 8 → ((r : ℕ) → r < 8 → EndsAt xs held rank r (slice_index start r) (slice_index end r))
      → end_state start order ≡ end

explains-by : (criterion : Criterion) (start : State) (ts : List Txn) (held small : ℕ) (order : List Placed)
    → ((j : ℕ) → In small j → j < length ts) → ((j : ℕ) → j < length ts → bit_at small j ≡ bit_at (members_of criterion (length ts) held) j)
    → IsCompletion ts held → PlacesEach (chosen small ts) order → IsTrue (keeps_order order) → IsTrue (list_all may_be order) → IsTrue (is_legal start order)
    → (criterion ≡ Strict → IsTrue (list_all (λ p. p.held) order)) → ExplainsBy criterion start ts order
explains-by Opacity start ts held small order within same c places kept completed legal all_held = record {
  each = subst (λ (us : List Txn). PlacesEach us order) (chosen_bits ts small (λ j low. same j low ∙ bit_at_ones (length ts) j low)) places;
  kept = kept;
  completed = completed;
  legal = legal;
}
explains-by Strict start ts held small order within same c places kept completed legal all_held = record {
  members = chosen small ts;
  are = are_held ts small (λ i t at. rw (same i (slice_get_within ts i t at)) (c.may i t at));
  explains = record { each = places; kept = kept; completed = completed; legal = legal };
  held = all_held refl;
}

within_list : (criterion : Criterion) (ts : List Txn) (held j : ℕ) → IsCompletion ts held → j < 8 → In (members_of criterion (length ts) held) j
    → j < length ts
within_list = grind (arith, bit_within, pow_pos, cases_lt)

held_in : (criterion : Criterion) (ts : List Txn) (held j : ℕ) → IsCompletion ts held → j < 8 → In held j
    → In (members_of criterion (length ts) held) j
held_in = grind (arith, bit_at_ones, within_list)

module _ (criterion : Criterion) (ts : List Txn) (xs : List Effect) (mat : List ℕ) (start : State) (acts : ActAs xs ts) (few : length ts ≤ 8)
    (shows : (held : ℕ) → IsCompletion ts held → ShowsOrder ts (members_of criterion (length ts) held) mat) (size : length start ≡ 8) where
  -- a serial order's ranks end as it does
  pub ranked_by : (order : List Placed) → ExplainsBy criterion start ts order → RanksTo criterion xs ts mat start (end_state start order)
  ranked_by order x =
      let e = explained criterion ts start order x in
      let members = members_of criterion (length ts) e.held in
      let q = e.ranks in
      let apart : Apart (In members) q.rank = λ i j is_i is_j. q.apart i j in
      let sorted : IsSorted ts (In members) e.held q.rank 0 order = subst (λ (m : ℕ). IsSorted ts (In members) m q.rank 0 order) e.told q.sorted in
      let sub : (j : ℕ) → In e.held j → In members j = rw e.told at q.sub in
      let order_is = shows e.held e.completion in
      let (kept, legal) = kept_by criterion start ts order x in
      let v = serves_start ts xs (In members) e.held start q.rank apart (λ j is. omega (arith, few, bit_within members (length ts) j e.fits is)) (λ j within. sub j) acts order size sorted in
      let served = λ (j : ℕ) (is : In members j). v.legal.0 legal j is (omega arith) in (
        e.held,
        e.completion,
        record {
          rank = q.rank;
          within = record {
            ranking = record {
              apart = λ i j low_i low_j. q.apart i j;
              kept = λ i j low_i low_j bit. elim (same_place i j) [
                | inl same ↦ omega (arith, ap q.rank same)
                | inr differ ↦
                    let (t, u, at_t, at_u, is_i, before) = order_is.only i j low_i low_j differ bit in
                    elim (bit_cases members j) [
                      | inl out ↦ (let low = q.behind i j is_i (λ is. absurd (omega (arith, out, is))) in omega (arith, low))
                      | inr is_j ↦ elim (cases_lt (q.rank j) (q.rank i)) [
                        | inr low ↦ low
                        | inl less ↦ absurd (
                            let never = (keeps ts (In members) e.held q.rank apart 0 order sorted).0 kept j i u t is_j is_i (omega arith) less at_u at_t in
                            cc)
                      ]
                    ]
              ];
            };
            agree = λ j low is. (served j is).agree;
            reads = λ j r low few_r is needs. (served j is).each r few_r needs;
          };
          size = length-end start order ∙ size;
          each = v.ends;
        },
      )

  -- and ranks have a serial order that ends as they do
  pub ordered_by : (held : ℕ) (rank : ℕ → ℕ) → IsCompletion ts held → IsSerial xs start mat (members_of criterion (length ts) held) held rank
      → Ordered criterion ts xs held start rank
  ordered_by held rank c w =
      let n = length ts in
      let members = members_of criterion n held in
      let member = λ (j : ℕ). (j < 8) × In members j in
      let small = bit_and members (2 ^ n - 1) in
      let bits = below_bits members n in
      let apart : Apart member rank = λ i j is_i is_j. w.ranking.apart i j is_i.0 is_j.0 in
      let s = sorts (length (chosen small ts)) ts small member held rank 0 refl (omega (arith, and_le_r members (2 ^ n - 1), pow_pos n)) apart
      (λ j is. ((omega (arith, ((bits j).0 is).1, few), ((bits j).0 is).0), omega arith))
      (λ j is high. (bits j).1 (is.1, within_list criterion ts held j c is.0 is.1)) in
      let v = serves_start ts xs member held start rank apart (λ j is. is.0) (λ j within is. (within, held_in criterion ts held j c within is)) acts s.order
      size s.sorted in
      let all = λ (f : Placed → Bool). sorted_all ts member held rank apart f 0 s.order s.sorted in
      record {
        order = s.order;
        explains = explains-by criterion start ts held small s.order (λ j is. ((bits j).0 is).1)
            (λ j within. grind (arith, masks, bits j))
            c s.places
            ((keeps ts member held rank apart 0 s.order s.sorted).1 (λ i j t u is_i is_j high less at_i at_j. elim (cases_Bool (precedes u t)) [
              | inr free ↦ free
              | inl before ↦ absurd (
                  let bit = (shows held c).each j i u t at_j at_i is_j.1 is_i.1 before in
                  omega (arith, less, w.ranking.kept j i is_j.0 is_i.0 bit))
            ]))
            ((all may_be).1 (λ j t is high at. c.may j t at))
            (v.legal.1 (λ j is high. record { agree = w.agree j is.0 is.1; each = λ r few_r needs. w.reads j r is.0 few_r is.1 needs }))
            (λ strict. (all (λ p. p.held)).1
            (λ j t is high at. eq-eqb (bit_at held j) 1 (subst (λ (k : Criterion). In (members_of k n held) j) strict is.1)));
        ends = λ end long each. same_ends ts xs member held start rank apart (λ j is. is.0) (λ j within is. (within, held_in criterion ts held j c within is))
            acts start (end_state start s.order) end (length-end start s.order ∙ size) long v.ends each;
      }

pub are_ranked : (criterion : Criterion) (ts : List Txn) (xs : List Effect) (mat : List ℕ) (start : State) → ActAs xs ts → length ts ≤ 8
    → ((held : ℕ) → IsCompletion ts held → ShowsOrder ts (members_of criterion (length ts) held) mat) → length start ≡ 8
    → AreRanked criterion xs ts mat start
are_ranked criterion ts xs mat start acts few shows size end = (
  λ ends.
      let (s, is, (order, x, to)) = ends in
      subst (λ (e : State). RanksTo criterion xs ts mat start e) (ap (λ (y : State). end_state y order) (sym is) ∙ to)
      (ranked_by criterion ts xs mat start acts few shows size order (subst (λ (y : State). ExplainsBy criterion y ts order) is x)),
  λ ranks.
      let (held, c, e) = ranks in
      let o = ordered_by criterion ts xs mat start acts few shows size held e.rank c e.within in
      (start, refl, (o.order, o.explains, o.ends end e.size e.each)),
)
