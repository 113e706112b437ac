-- What each change of a kept witness makes of it.
use Rattle.tmw_witness.proofs.Shared.{Bool, In, IsTrue, IsWitness, List, MayCome, MayStand, PlacesThose, Some, State, TurnsAt, View, Witness, Witnesses, [], after_writes, arith, bit, bit_at, bit_at_above, bit_at_set_other, bit_at_set_same, bit_or, cases_lt, committed_of, div-lt_iff_lt-mul, false, get_or-set_other, get_or-set_same, inl, inr, length, length-append, may_hold, not-true, rank_of, reads_hold, refl, slice_get, slice_get_some, slice_get_within, slice_set, state_of, suc, sym, true, w8, zero, ℕ, ◌%◌, ◌*◌, ◌++◌, ◌+◌, ◌/◌, ◌<◌, ◌^◌, ◌∙◌, ◌∷◌, ◌≡◌, ◌≤◌, ◌⊎◌}
use Rattle.std.proofs.lemmas.Nat.{pow_pos}
use Rattle.tmw_defs.proofs.TextsProof.{slice_get_end}
use Rattle.tmw_defs.specs.declared.status.Status.TheVariants.{Live}
use Rattle.tmw_witness.proofs.TurnsAt.{Goes, placed, witness-turned}

-- the arrays have their lengths
pub record AreLong (w : Witness) : Type 0 where
  pub ranks : length w.ranks ≡ 8
  pub held : length w.committed ≡ 8
  pub states : length w.states ≡ 9

slice_get_front : {A : Type 0} (xs ys : List A) (i : ℕ) → i < length xs → slice_get (xs ++ ys) i ≡ slice_get xs i
slice_get_front [] ys i within = absurd (omega arith)
slice_get_front (x ∷ xs) ys zero within = refl
slice_get_front (x ∷ xs) ys (suc i) within = slice_get_front xs ys i (omega (arith, within))

-- one that begins is left out, at the end
pub begin-kept : (starts : List State) (xs : List View) (y : View) (w : Witness) (n : ℕ) → AreLong w → n < 8 → length xs ≡ n → y.ops ≡ []
    → IsTrue (may_hold y.status false) → ((j : ℕ) → bit_at y.before j ≡ 1 → j < length xs) → Witnesses starts xs w
    → Witnesses starts (xs ++ y ∷ []) (record w { ranks = slice_set w.ranks n w.top; committed = slice_set w.committed n false })
begin-kept starts xs y w n long few size none may before was = λ known.
    let is = was known in
    let new : Witness = record w { ranks = slice_set w.ranks n w.top; committed = slice_set w.committed n false } in
    let all : length (xs ++ y ∷ []) ≡ n + 1 = omega (arith, length-append xs (y ∷ []), size) in
    let here : rank_of new n ≡ w.top = get_or-set_same w.ranks n w.top 0 (omega (arith, long.ranks, few)) in
    let out : committed_of new n ≡ false = get_or-set_same w.committed n false false (omega (arith, long.held, few)) in
    let same : (i : ℕ) → (i ≡ n → ⊥) → (rank_of new i ≡ rank_of w i) × (committed_of new i ≡ committed_of w i) =
    λ i apart. (get_or-set_other w.ranks n i w.top 0 apart, get_or-set_other w.committed n i false false apart) in
    record {
      few = omega (arith, all, few);
      places = placed {y = y} is.places (record {
        size = omega (arith, all, size);
        here = rw (← size) (slice_get_end xs y);
        is = omega (arith, all);
        others = λ i within apart.
            let old : i < length xs = omega (arith, within, all, apart, size) in (old, slice_get_front xs (y ∷ []) i old);
        back = λ i within apart. omega (arith, within, all, size);
        alone = λ i x within apart at one.
            let old : i < length xs = omega (arith, within, all, apart, size) in
            let (earlier, kept) = (is.places.each i x (sym (slice_get_front xs (y ∷ []) i old) ∙ at) old).kept n one in
            omega (arith, earlier, old, size);
        before = λ j one. let old = before j one in omega (arith, old, all, size);
      }) (record {
        unmoved = λ i within apart. same i apart;
        states = λ r low. refl;
        how = inr (λ within. absurd (omega (arith, within, size)), rw out (omega arith), λ held. absurd (let k : true ≡ false = sym held ∙ out in cc));
        stands = record {
          within = rw (here, out) (omega arith);
          may = inl (rw out may);
          reads = rw none refl;
          kept = λ j one.
              let old = before j one in
              let (x, at) = slice_get_some xs j old in
              let (j_rank, j_held) = same j (λ same_j. absurd (omega (arith, old, same_j, size))) in
              (omega (arith, old, size), rw (j_rank, j_held, here) (is.places.each j x at old).within);
          leads = λ held. absurd (let k : true ≡ false = sym held ∙ out in cc);
        };
      });
    }

-- it stands where it stood
stays-kept : {starts : List State} {xs ys : List View} {x y : View} {w : Witness} {p : ℕ} → TurnsAt xs ys p x y
    → MayStand (state_of w (rank_of w p)) y.status (committed_of w p) y.ops
    → (IsTrue (reads_hold (state_of w (rank_of w p)) x.ops) → IsTrue (reads_hold (state_of w (rank_of w p)) y.ops))
    → (committed_of w p ≡ true → y.ops ≡ x.ops) → Witnesses starts xs w → Witnesses starts ys w
stays-kept {xs = xs} {x = x} {p = p} turns may reads same was = λ known.
    let is = was known in
    let inside = slice_get_within xs p x turns.was in
    let old = is.places.each p x turns.was inside in
    witness-turned is turns (record {
      unmoved = λ i within apart. (refl, refl);
      states = λ r low. refl;
      how = inl (inside, refl, refl, refl);
      stands = record {
        within = old.within;
        may = may;
        reads = reads old.reads;
        kept = λ j one. old.kept j (rw turns.before at one);
        leads = λ held. rw (same held) (old.leads held);
      };
    })

-- it is left out, and its reads hold where it stands
pub left_out-kept : (starts : List State) (xs ys : List View) (x y : View) (w : Witness) (p : ℕ) → TurnsAt xs ys p x y
    → committed_of w p ≡ false → IsTrue (may_hold y.status false) ⊎ ((IsTrue (may_hold y.status true)) × (after_writes (state_of w (rank_of w p)) y.ops ≡ state_of w (rank_of w p)))
    → ((IsTrue (reads_hold (state_of w (rank_of w p)) x.ops)) → IsTrue (reads_hold (state_of w (rank_of w p)) y.ops))
    → Witnesses starts xs w → Witnesses starts ys w
left_out-kept starts xs ys x y w p turns out may reads was =
    stays-kept turns (elim may [ inl left ↦ inl (rw out left) | inr (held, same) ↦ inr (out, held, same) ]) reads
    (λ held. absurd (let k : true ≡ false = sym held ∙ out in cc)) was

-- a live transaction is left out
pub live-left_out : (starts : List State) (xs : List View) (x : View) (w : Witness) (p : ℕ) → IsWitness starts xs w
    → slice_get xs p ≡ Some x → x.status ≡ Live → committed_of w p ≡ false
live-left_out starts xs x w p is at live =
    elim (is.places.each p x at (slice_get_within xs p x at)).may [ inl may ↦ not-true _ (rw live at may) | inr out ↦ out.0 ]

-- it is held, and has the operations that it had
pub held-kept : (starts : List State) (xs ys : List View) (x y : View) (w : Witness) (p : ℕ) → TurnsAt xs ys p x y
    → committed_of w p ≡ true → IsTrue (may_hold y.status true) → y.ops ≡ x.ops → Witnesses starts xs w → Witnesses starts ys w
held-kept starts xs ys x y w p turns held may same was = stays-kept turns (inl (rw held may)) (λ reads. rw same reads) (λ is. same) was

-- it goes to another rank
pub moved-kept : (starts : List State) (xs ys : List View) (x y : View) (w : Witness) (p rank low : ℕ) → AreLong w → p < 8
    → TurnsAt xs ys p x y → committed_of w p ≡ false → IsTrue (may_hold y.status false) → low ≤ rank → rank ≤ w.top
    → ((j : ℕ) → j < 8 → bit_at y.before j ≡ 1 → rank_of w j + bit (committed_of w j) ≤ low)
    → IsTrue (reads_hold (state_of w rank) y.ops) → Witnesses starts xs w
    → Witnesses starts ys (record w { ranks = slice_set w.ranks p rank })
moved-kept starts xs ys x y w p rank low long few turns out may above within lowest reads was = λ known.
    let is = was known in
    let old = is.places.each p x turns.was (slice_get_within xs p x turns.was) in
    let new : Witness = record w { ranks = slice_set w.ranks p rank } in
    let here : rank_of new p ≡ rank = get_or-set_same w.ranks p rank 0 (omega (arith, long.ranks, few)) in
    let others : (i : ℕ) → (i ≡ p → ⊥) → rank_of new i ≡ rank_of w i = λ i apart. get_or-set_other w.ranks p i rank 0 apart in
    let never : committed_of w p ≡ true → ⊥ = λ held. let k : true ≡ false = sym held ∙ out in cc in
    witness-turned is turns (record {
      unmoved = λ i inside apart. (others i apart, refl);
      states = λ r below. refl;
      how = inr (λ inside. out, rw out (omega arith), λ held. absurd (never held));
      stands = record {
        within = rw (here, out) (omega (arith, within));
        may = inl (rw out may);
        reads = rw here reads;
        kept = λ j one.
            let (before, kept) = old.kept j (rw turns.before at one) in
            let under = lowest j (omega (arith, before, few)) one in
            (before, rw (here, others j (λ same. absurd (omega (arith, before, same)))) (omega (arith, under, above)));
        leads = λ held. absurd (never held);
      };
    })

-- What is asked of a transaction that goes to the end, held or left out.
pub record MayFollow (was : ℕ → Type 0) (p : ℕ) (x : View) (held : Bool) (end : State) (w : Witness) : Type 0 where
  pub room : w.top < 8
  pub few : p < 8
  pub out : was p → committed_of w p ≡ false
  pub before : (j : ℕ) → bit_at x.before j ≡ 1 → (j < p) × was j
  pub may : IsTrue (may_hold x.status held)
  pub reads : IsTrue (reads_hold (state_of w w.top) x.ops)
  pub to : end ≡ after_writes (state_of w w.top) x.ops

goes-last : {starts : List State} {xs : List View} {was : ℕ → Type 0} {p : ℕ} {x : View} {held : Bool} {end : State} {w : Witness} (more : ℕ)
    → AreLong w → more ≡ bit held → MayFollow was p x held end w → PlacesThose starts xs was w → Goes was p x w (record w {
      ranks = slice_set w.ranks p w.top;
      committed = slice_set w.committed p held;
      states = slice_set w.states (w.top + 1) end;
      top = w.top + more;
    })
goes-last {xs = xs} {p = p} {held = held} {end = end} {w = w} more long one_more f those =
    let new : Witness = record w {
      ranks = slice_set w.ranks p w.top;
      committed = slice_set w.committed p held;
      states = slice_set w.states (w.top + 1) end;
      top = w.top + more;
    } in
    let here : rank_of new p ≡ w.top = get_or-set_same w.ranks p w.top 0 (omega (arith, long.ranks, f.few)) in
    let now : committed_of new p ≡ held = get_or-set_same w.committed p held false (omega (arith, long.held, f.few)) in
    let same : (i : ℕ) → (i ≡ p → ⊥) → (rank_of new i ≡ rank_of w i) × (committed_of new i ≡ committed_of w i) =
    λ i apart. (get_or-set_other w.ranks p i w.top 0 apart, get_or-set_other w.committed p i held false apart) in
    let low : (r : ℕ) → r ≤ w.top → state_of new r ≡ state_of w r = λ r below.
    get_or-set_other w.states (w.top + 1) r end [] (λ same. absurd (omega (arith, below, same))) in
    let last : state_of new (w.top + 1) ≡ end = get_or-set_same w.states (w.top + 1) end [] (omega (arith, long.states, f.room)) in
    record {
      unmoved = λ i inside apart. same i apart;
      states = low;
      how = inr (f.out, rw now (omega (arith, one_more)), λ is. here);
      stands = record {
        within = rw (here, now) (omega (arith, one_more));
        may = inl (rw now f.may);
        reads = rw (here, low w.top (omega arith)) f.reads;
        kept = λ j one.
            let (earlier, there) = f.before j one in
            let (j_rank, j_held) = same j (λ same_j. absurd (omega (arith, earlier, same_j))) in
            let (z, at) = slice_get_some xs j (those.within j there) in
            (earlier, rw (here, j_rank, j_held) (those.each j z at there).within);
        leads = λ h. rw (here, low w.top (omega arith)) (last ∙ f.to);
      };
    }

-- it goes to the end and is held
pub end-kept : (starts : List State) (xs ys : List View) (x y : View) (w : Witness) (p : ℕ) (end : State) → AreLong w → p < 8
    → w.top < 8 → TurnsAt xs ys p x y → committed_of w p ≡ false → IsTrue (may_hold y.status true)
    → (IsTrue w.known → IsTrue (reads_hold (state_of w w.top) y.ops)) → end ≡ after_writes (state_of w w.top) y.ops → Witnesses starts xs w
    → Witnesses starts ys (record w {
      ranks = slice_set w.ranks p w.top;
      committed = slice_set w.committed p true;
      states = slice_set w.states (w.top + 1) end;
      top = w.top + 1;
    })
end-kept starts xs ys x y w p end long few room turns out may reads to was = λ known.
    let is = was known in
    let inside = slice_get_within xs p x turns.was in
    witness-turned is turns (goes-last 1 long refl (record {
      room = room;
      few = few;
      out = λ within. out;
      before = λ j one.
          let (earlier, kept) = (is.places.each p x turns.was inside).kept j (rw turns.before at one) in (earlier, omega (arith, earlier, inside));
      may = may;
      reads = reads known;
      to = to;
    }) is.places)

-- a number without a bit from a place on has only lower ones
lower-bits : (n p j : ℕ) → n / 2 ^ p ≡ 0 → bit_at n j ≡ 1 → j < p
lower-bits n p j none one =
    let small : n < 1 * 2 ^ p = (div-lt_iff_lt-mul {k = 2 ^ p} {x = n} {y = 1} (pow_pos p)).0 (omega (arith, none)) in
    elim (cases_lt j p) [ inl low ↦ low | inr high ↦ absurd (omega (arith, one, bit_at_above n p j (omega (arith, small)) high)) ]

-- one that the mask leaves is placed behind those that it has
pub replayed-more : {starts : List State} {xs : List View} {mask p : ℕ} {x : View} {end : State} {w : Witness} (held : Bool) (more : ℕ)
    → AreLong w → more ≡ bit held → w.top < 8 → p < 8 → slice_get xs p ≡ Some x → x.before / 2 ^ p ≡ 0 → MayCome x.before p mask
    → IsTrue (may_hold x.status held) → IsTrue (reads_hold (state_of w w.top) x.ops) → end ≡ after_writes (state_of w w.top) x.ops
    → PlacesThose starts xs (In mask) w → PlacesThose starts xs (In (bit_or mask (1 * 2 ^ p % 2 ^ 8))) (record w {
      ranks = slice_set w.ranks p w.top;
      committed = slice_set w.committed p held;
      states = slice_set w.states (w.top + 1) end;
      top = w.top + more;
    })
replayed-more {xs = xs} {mask = mask} {p = p} {x = x} held more long one_more room few at lower next may reads to those =
    let out : In mask p → ⊥ = λ one. let none = next.new in omega (arith, one, none) in
    let same = λ (i : ℕ) (apart : i ≡ p → ⊥). bit_at_set_other w8 mask p few i apart in
    placed those (record {
      size = omega arith;
      here = at;
      is = bit_at_set_same w8 mask p few;
      others = λ i one apart. (sym (same i apart) ∙ one, refl);
      back = λ i one apart. same i apart ∙ one;
      alone = λ i z one apart there first. out (those.closed i p z there (sym (same i apart) ∙ one) first);
      before = λ j one. let old = next.later j one in same j (λ same_j. out (rw same_j at old)) ∙ old;
    }) (goes-last more long one_more (record {
      room = room;
      few = few;
      out = λ one. absurd (out one);
      before = λ j one. (lower-bits x.before p j lower one, next.later j one);
      may = may;
      reads = reads;
      to = to;
    }) those)

-- where all are placed, it is a witness
pub placed-all : {starts : List State} {xs : List View} {w : Witness} (mask : ℕ) (known : Bool) → length xs ≤ 8 → ((i : ℕ) → i < length xs → In mask i)
    → PlacesThose starts xs (In mask) w → IsWitness starts xs (record w { known = known })
placed-all mask known few all those = record {
  few = few;
  places = record {
    start = those.start;
    within = λ i within. within;
    each = λ i x at within.
        let s = those.each i x at (all i within) in
        record { within = s.within; may = s.may; reads = s.reads; kept = s.kept; leads = s.leads };
    closed = λ i j x at within one. those.within j (those.closed i j x at (all i within) one);
    apart = λ i j within_i within_j. those.apart i j (all i within_i) (all j within_j);
    full = λ r low. let writer = those.full r low in
        record { place = writer.place; among = those.within writer.place writer.among; is = writer.is; ranked = writer.ranked };
  };
}
