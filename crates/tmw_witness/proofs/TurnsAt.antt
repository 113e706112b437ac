-- One transaction begins, gets an event more or is placed behind others: what has to hold of it for the others to stand as before.
use Rattle.tmw_witness.proofs.Shared.{Below, HasWriter, IsWitness, List, PlacesThose, Some, Stands, State, TurnsAt, View, Witness, ap, arith, bit, bit_at, cases_Bool, cases_lt, committed_of, false, inl, inr, length, rank_of, same_place, slice_get, slice_get_some, slice_get_within, state_of, sym, true, ℕ, ◌+◌, ◌∙◌, ◌≡◌, ◌≤◌, ◌⊎◌}

-- The members are those that were and the one at the place, which is shown so; what is shown of the others is the same, and none of
-- them needs it before.
pub record Adds (was member : ℕ → Type 0) (xs ys : List View) (p : ℕ) (y : View) : Type 0 where
  pub size : length xs ≤ length ys
  pub here : slice_get ys p ≡ Some y
  pub is : member p
  pub others : (i : ℕ) → member i → (i ≡ p → ⊥) → was i × (slice_get ys i ≡ slice_get xs i)
  pub back : (i : ℕ) → was i → (i ≡ p → ⊥) → member i
  pub alone : (i : ℕ) (x : View) → member i → (i ≡ p → ⊥) → slice_get ys i ≡ Some x → bit_at x.before p ≡ 1 → ⊥
  pub before : (j : ℕ) → bit_at y.before j ≡ 1 → member j

-- The one at the place stays where it stood, or it was not held and is left out somewhere or goes to the end. No other is moved.
pub record Goes (was : ℕ → Type 0) (p : ℕ) (y : View) (w new : Witness) : Type 0 where
  pub unmoved : (i : ℕ) → was i → (i ≡ p → ⊥) → (rank_of new i ≡ rank_of w i) × (committed_of new i ≡ committed_of w i)
  pub states : (r : ℕ) → r ≤ w.top → state_of new r ≡ state_of w r
  pub how : (was p × (new.top ≡ w.top) × (rank_of new p ≡ rank_of w p) × (committed_of new p ≡ committed_of w p))
      ⊎ ((was p → committed_of w p ≡ false) × (new.top ≡ w.top + bit (committed_of new p)) × (committed_of new p ≡ true → rank_of new p ≡ w.top))
  pub stands : Stands new p y

pub placed : {starts : List State} {xs ys : List View} {was member : ℕ → Type 0} {p : ℕ} {y : View} {w new : Witness}
    → PlacesThose starts xs was w → Adds was member xs ys p y → Goes was p y w new → PlacesThose starts ys member new
placed {xs = xs} {ys = ys} {was = was} {member = member} {p = p} {y = y} {w = w} {new = new} o k g = record {
  start = rw (g.states 0 (omega arith)) o.start;
  within = grind (arith, k.others, o.within, slice_get_within ys p y k.here);
  each = λ i x at is. elim (same_place i p) [
    | inl same ↦ rw (same, ← shown i x same at) g.stands
    | inr other ↦ stands i x at is other
  ];
  closed = grind (arith, shown, k.others, k.before, k.back, k.alone, o.closed);
  apart = grind (arith, clash, k.others, g.unmoved, o.apart);
  full = λ r low. elim g.how [
    | inl (own, top, same_rank, same_held) ↦
        let writer = o.full r (omega (arith, low, top)) in
        elim (same_place writer.place p) [
          | inl same ↦ record {
            place = p;
            among = k.is;
            is = same_held ∙ ap (committed_of w) (sym same) ∙ writer.is;
            ranked = same_rank ∙ ap (rank_of w) (sym same) ∙ writer.ranked;
          }
          | inr other ↦ wrote r writer other
        ]
    | inr (out, top, last) ↦ elim (cases_lt r w.top) [
      | inl earlier ↦
          let writer = o.full r earlier in
          wrote r writer (λ same. absurd (let k : true ≡ false = sym writer.is ∙ ap (committed_of w) same ∙ out (rw same at writer.among) in cc))
      | inr late ↦ elim (cases_Bool (committed_of new p)) [
        | inl is ↦ record { place = p; among = k.is; is = is; ranked = last is ∙ (let all = rw is at top in omega (arith, all, low, late)) }
        | inr not ↦ absurd (let all = rw not at top in omega (arith, all, low, late))
      ]
    ]
  ];
}
  where
    shown : (i : ℕ) (x : View) → i ≡ p → slice_get ys i ≡ Some x → y ≡ x
    shown i x same at = let here = k.here in let there = rw same at at in cc

    wrote : (r : ℕ) (writer : HasWriter was w r) → (writer.place ≡ p → ⊥) → HasWriter member new r
    wrote r writer other =
        let (same_rank, same_held) = g.unmoved writer.place writer.among other in
        record {
          place = writer.place;
          among = k.back writer.place writer.among other;
          is = same_held ∙ writer.is;
          ranked = same_rank ∙ writer.ranked;
        }

    -- another that is held has another rank
    clash : (i : ℕ) → member i → (i ≡ p → ⊥) → committed_of new i ≡ true → committed_of new p ≡ true → rank_of new i ≡ rank_of new p → ⊥
    clash i is other held_i held_p same =
        let (old, there) = k.others i is other in
        let (i_rank, i_held) = g.unmoved i old other in
        let held = sym i_held ∙ held_i in
        elim g.how [
          | inl (own, top, p_rank, p_held) ↦ other (o.apart i p old own held (sym p_held ∙ held_p) (sym i_rank ∙ same ∙ p_rank))
          | inr (out, top, last) ↦
              let (x, at) = slice_get_some xs i (o.within i old) in
              let low : rank_of w i + bit true ≤ w.top = rw held at ((o.each i x at old).within) in
              absurd (omega (arith, low, i_rank, same, last held_p))
        ]

    stands : (i : ℕ) (x : View) → slice_get ys i ≡ Some x → member i → (i ≡ p → ⊥) → Stands new i x
    stands i x at is other =
        let (old, there) = k.others i is other in
        let s = o.each i x (sym there ∙ at) old in
        let low = s.within in
        let (same_rank, same_held) = g.unmoved i old other in
        let top : w.top ≤ new.top = elim g.how [ inl (own, same, ranked, more) ↦ omega (arith, same) | inr (out, same, last) ↦ omega (arith, same) ] in
        let same_state : state_of new (rank_of w i) ≡ state_of w (rank_of w i) = g.states (rank_of w i) (omega (arith, low)) in
        record {
          within = rw (same_rank, same_held) (omega (arith, low, top));
          may = rw (same_rank, same_held, same_state) s.may;
          reads = rw (same_rank, same_state) s.reads;
          kept = λ j one.
              let (earlier, kept) = s.kept j one in
              let (j_rank, j_held) = g.unmoved j (o.closed i j x (sym there ∙ at) old one) (λ same. k.alone i x is other at (rw same at one)) in
              (earlier, rw (j_rank, j_held, same_rank) kept);
          leads = λ held.
              let was_held : committed_of w i ≡ true = sym same_held ∙ held in
              let next : state_of new (rank_of w i + 1) ≡ state_of w (rank_of w i + 1) =
              g.states (rank_of w i + 1) (let k : rank_of w i + bit true ≤ w.top = rw was_held at low in k) in
              rw (same_rank, next, same_state) (s.leads was_held);
        }

-- so there is a witness of the window with the event more
pub witness-turned : {starts : List State} {xs ys : List View} {p : ℕ} {x y : View} {w new : Witness} → IsWitness starts xs w
    → TurnsAt xs ys p x y → Goes (Below xs) p y w new → IsWitness starts ys new
witness-turned {xs = xs} {ys = ys} {p = p} {x = x} {y = y} w turns goes =
    let size = turns.same_length in
    let inside = slice_get_within ys p y turns.here in
    record {
      few = (let few = w.few in omega (arith, few, size));
      places = placed w.places (record {
        size = omega (arith, size);
        here = turns.here;
        is = inside;
        others = λ i within other. (omega (arith, within, size), turns.others i other);
        back = λ i within other. omega (arith, within, size);
        alone = λ i z within other at one. turns.alone i z at one;
        before = λ j one.
            let old = w.places.each p x turns.was (slice_get_within xs p x turns.was) in
            let (earlier, kept) = old.kept j (rw turns.before at one) in
            omega (arith, earlier, inside);
      }) goes;
    }
