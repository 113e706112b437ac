-- A seat's parts may be cut off into a new seat.
use Rattle.tmw_ring.proofs.Shared.{Lies, List, Part, Parts, RingSize, Shown, Splits, State, [], ap, arith, at_last, at_longer, at_set, eq-eqb, eqb, get_elem?, if◌then◌else◌, inl, inr, length, length-set, ne_eqb, refl, second_alone, set, set_else, some, some-injective, some-ne-none, subst, suc, sym, without_second, zero, ℕ, ℕ_discrete, ◌++◌, ◌∙◌, ◌∷◌, ◌≡◌, ◌≢◌, ◌⊎◌}
use Rattle.tmw_ring.proofs.Moves.{Rearranged, Stays, lies_among, rearrange, set_over}

-- What stands in a list with one more item stood there before, or is the last.
at_push : {A : Type 0} (items : List A) (item found : A) (place : ℕ) → get_elem? (items ++ item ∷ []) place ≡ some found
    → (get_elem? items place ≡ some found) ⊎ ((place ≡ length items) × (item ≡ found))
at_push [] item found zero at = inr (refl, some-injective item found at)
at_push [] item found (suc place) at = absurd (some-ne-none found (sym at))
at_push (first ∷ items) item found zero at = inl at
at_push (first ∷ items) item found (suc place) at =
    grind (arith, (at_push items item found place at))

-- The map `to` of the places of one seat's parts, and of all others to themselves.
abbrev pub from_seat : ℕ → (ℕ → ℕ × ℕ) → ℕ × ℕ → ℕ × ℕ
from_seat seat to from = if eqb from.0 seat then to from.1 else from

pub from_this : (seat : ℕ) (to : ℕ → ℕ × ℕ) (place : ℕ) → from_seat seat to (seat, place) ≡ to place
from_this seat to place = rw (eq-eqb seat seat refl) refl

pub from_other : (seat : ℕ) (to : ℕ → ℕ × ℕ) (other place : ℕ) → other ≢ seat → from_seat seat to (other, place) ≡ (other, place)
from_other seat to other place apart = rw (ne_eqb other seat apart) refl

-- Each part of the two halves was the seat's, and each of the seat's is in one of them: `to` says where it lies now.
pub record Cut (view left right : Parts) (seat other : ℕ) (to : ℕ → ℕ × ℕ) : Type 0 where
  pub kept : (place : ℕ) (part : Part) → get_elem? left place ≡ some part
      → (from : ℕ) × (get_elem? view from ≡ some part) × (to from ≡ (seat, place))
  pub given : (place : ℕ) (part : Part) → get_elem? right place ≡ some part
      → (from : ℕ) × (get_elem? view from ≡ some part) × (to from ≡ (other, place))
  pub stays : (place : ℕ) (part : Part) → get_elem? view place ≡ some part
      → (((to place).0 ≡ seat) × (get_elem? left (to place).1 ≡ some part))
      ⊎ (((to place).0 ≡ other) × (get_elem? right (to place).1 ≡ some part))

-- Where each part goes when the second is cut off.
abbrev second_to : ℕ → ℕ → ℕ → ℕ × ℕ
second_to seat other zero = (seat, 0)
second_to seat other (suc zero) = (other, 0)
second_to seat other (suc (suc place)) = (seat, suc place)

second_cut : (view : Parts) (seat other : ℕ) → Cut view (without_second view) (second_alone view) seat other (second_to seat other)
second_cut [] seat other = record {
  kept = λ place part at. absurd (some-ne-none part (sym at));
  given = λ place part at. absurd (some-ne-none part (sym at));
  stays = λ place part at. absurd (some-ne-none part (sym at));
}
second_cut (first ∷ []) seat other = record {
  kept = kept;
  given = λ place part at. absurd (some-ne-none part (sym at));
  stays = stays;
}
  where
    stays : (place : ℕ) (part : Part) → get_elem? (first ∷ []) place ≡ some part
        → (((second_to seat other place).0 ≡ seat) × (get_elem? (first ∷ []) (second_to seat other place).1 ≡ some part))
        ⊎ (((second_to seat other place).0 ≡ other) × (get_elem? {A = Part} [] (second_to seat other place).1 ≡ some part))
    stays zero part at = inl (refl, at)
    stays (suc place) part at = absurd (some-ne-none part (sym at))

    kept : (place : ℕ) (part : Part) → get_elem? (first ∷ []) place ≡ some part
        → (from : ℕ) × (get_elem? (first ∷ []) from ≡ some part) × (second_to seat other from ≡ (seat, place))
    kept zero part at = (0, at, refl)
    kept (suc place) part at = absurd (some-ne-none part (sym at))
second_cut (first ∷ second ∷ rest) seat other = record { kept = kept; given = given; stays = stays }
  where
    stays : (place : ℕ) (part : Part) → get_elem? (first ∷ second ∷ rest) place ≡ some part
        → (((second_to seat other place).0 ≡ seat) × (get_elem? (first ∷ rest) (second_to seat other place).1 ≡ some part))
        ⊎ (((second_to seat other place).0 ≡ other) × (get_elem? (second ∷ []) (second_to seat other place).1 ≡ some part))
    stays place part at = grind arith

    kept : (place : ℕ) (part : Part) → get_elem? (first ∷ rest) place ≡ some part
        → (from : ℕ) × (get_elem? (first ∷ second ∷ rest) from ≡ some part) × (second_to seat other from ≡ (seat, place))
    kept zero part at = (0, at, refl)
    kept (suc place) part at = (suc (suc place), at, refl)

    given : (place : ℕ) (part : Part) → get_elem? (second ∷ []) place ≡ some part
        → (from : ℕ) × (get_elem? (first ∷ second ∷ rest) from ≡ some part) × (second_to seat other from ≡ (other, place))
    given zero part at = (1, at, refl)
    given (suc place) part at = absurd (some-ne-none part (sym at))

all_cut : (view : Parts) (seat other : ℕ) → Cut view [] view seat other (λ place. (other, place))
all_cut view seat other = grind arith

module _ {S : Type 0} where
  cut_lies : (state : State S Parts) (seat : ℕ) (view left right : Parts) (to : ℕ → ℕ × ℕ) → get_elem? state.views seat ≡ some view
      → Cut view left right seat (length state.views) to
      → Rearranged state (set state.views seat left ++ right ∷ []) (from_seat seat to)
  cut_lies state seat view left right to seated cut at place found part is_at placed =
      elim (at_push (set state.views seat left) right found at is_at) [
        | inl before ↦ elim (at_set state.views seat at left found before) [
          | inl here ↦
              let (from, was, now) = cut.kept place part (subst (λ (v : Parts). get_elem? v place ≡ some part) (sym here.1) placed) in (
                (seat, from),
                record { view = view; seated = seated; placed = was },
                from_this seat to from ∙ now ∙ ap (λ (n : ℕ). let pair : ℕ × ℕ = (n, place) in pair) (sym here.0),
              )
          | inr there ↦
              ((at, place), record { view = found; seated = there.1; placed = placed }, from_other seat to at place there.0)
        ]
        | inr last ↦
            let (from, was, now) = cut.given place part (subst (λ (v : Parts). get_elem? v place ≡ some part) (sym last.1) placed) in
            let is : length (set state.views seat left) ≡ length state.views = length-set state.views seat left in (
              (seat, from),
              record { view = view; seated = seated; placed = was },
              from_this seat to from ∙ now ∙ ap (λ (n : ℕ). let pair : ℕ × ℕ = (n, place) in pair) (sym (last.0 ∙ is)),
            )
      ]

  cut_stays : (state : State S Parts) (seat : ℕ) (view left right : Parts) (to : ℕ → ℕ × ℕ) → get_elem? state.views seat ≡ some view
      → Cut view left right seat (length state.views) to
      → Stays state (set state.views seat left ++ right ∷ []) (from_seat seat to)
  cut_stays state seat view left right to seated cut from part lies = by_seat (ℕ_discrete from.0 seat)
    where
      all : List Parts
      all = set state.views seat left ++ right ∷ []

      here : from.0 ≡ seat → Lies (record state { views = all }) (to from.1).0 (to from.1).1 part
      here is =
          elim (cut.stays from.1 part (lies_among state seat from.0 from.1 view part seated is lies)) [
            | inl own ↦ record {
              view = left;
              seated = ap (get_elem? all) own.0
                  ∙ at_longer (set state.views seat left) (right ∷ []) seat left (set_over state.views seat view left seated);
              placed = own.1;
            }
            | inr gone ↦ record {
              view = right;
              seated = ap (get_elem? all) gone.0
                  ∙ at_last (set state.views seat left) right (length state.views) (length-set state.views seat left);
              placed = gone.1;
            }
          ]

      by_seat : Dec (from.0 ≡ seat) → Lies (record state { views = all }) (from_seat seat to from).0 (from_seat seat to from).1 part
      by_seat (yes is) =
          let now : from_seat seat to from ≡ to from.1 =
          ap (λ (n : ℕ). from_seat seat to (n, from.1)) is ∙ from_this seat to from.1 in
          subst (λ (at : ℕ × ℕ). Lies (record state { views = all }) at.0 at.1 part) (sym now) (here is)
      by_seat (no apart) =
          let same : from_seat seat to from ≡ from = from_other seat to from.0 from.1 apart in
          subst (λ (at : ℕ × ℕ). Lies (record state { views = all }) at.0 at.1 part) (sym same) (record {
            view = lies.view;
            seated = at_longer (set state.views seat left) (right ∷ []) from.0 lies.view
                (set_else state.views seat from.0 left apart ∙ lies.seated);
            placed = lies.placed;
          })

  -- The second part may be cut off.
  pub splits_second : (size : RingSize) (seat : ℕ) (view : Parts) → Splits (Shown {S = S} size) seat view (without_second view) (second_alone view)
  splits_second size seat view state shown seated =
      rearrange size state (set state.views seat (without_second view) ++ second_alone view ∷ [])
      (from_seat seat (second_to seat (length state.views))) shown
      (cut_lies state seat view (without_second view) (second_alone view) (second_to seat (length state.views)) seated
      (second_cut view seat (length state.views)))
      (cut_stays state seat view (without_second view) (second_alone view) (second_to seat (length state.views)) seated
      (second_cut view seat (length state.views)))

  -- So may all parts.
  pub splits_all : (size : RingSize) (seat : ℕ) (view : Parts) → Splits (Shown {S = S} size) seat view [] view
  splits_all size seat view state shown seated =
      rearrange size state (set state.views seat [] ++ view ∷ []) (from_seat seat (λ place. (length state.views, place))) shown
      (cut_lies state seat view [] view (λ place. (length state.views, place)) seated (all_cut view seat (length state.views)))
      (cut_stays state seat view [] view (λ place. (length state.views, place)) seated (all_cut view seat (length state.views)))
