-- What is kept of a window: all of it at first, and less without a piece.
use Rattle.tmw_part.proofs.Shared.{Bool, Decides, Event, List, Piece, [], all_kept, ap, arith, cases_Bool, enumerate_from, false, inl, inr, is_of_any, kept_of, length, length-map, length-replicate, not, refl, sym, true, without, without_from, zip, ℕ, ◌&&◌, ◌+◌, ◌<◌, ◌∙◌, ◌∷◌, ◌≡◌, ◌⊎◌}
use Rattle.std.specs.Cmp.Lexicographic.{pointwise}
use Rattle.std.proofs.Math.Bool.{beq}
use Rattle.std.proofs.lemmas.List.FromFn.{length-enumerate_from}
use Rattle.std.proofs.lemmas.Slice.Zip.{length-zip}
use Rattle.std.proofs.lemmas.Slice.Eq.{slice_eq-Decides}

pub length-without : (pieces : List Piece) (marks : List Bool) (window : List Event) → length marks ≡ length window
    → length (without pieces marks window) ≡ length window
unfolding without
length-without pieces marks window each =
    let every = length-map (enumerate_from 0 (zip marks window)) (λ pair. pair.1.0 && not (is_of_any pieces pair.0 pair.1.1)) in
    omega (arith, every, length-enumerate_from 0 (zip marks window), length-zip marks window, each)

without-fewer : (pieces : List Piece) (place : ℕ) (marks : List Bool) (events : List Event) → length marks ≡ length events
    → (without_from pieces place marks events ≡ marks)
    ⊎ (length (kept_of (without_from pieces place marks events) events) < length (kept_of marks events))
without-fewer pieces place [] [] each = inl refl
without-fewer pieces place [] (e ∷ events) each = absurd (omega (arith, each))
without-fewer pieces place (mark ∷ marks) [] each = absurd (omega (arith, each))
without-fewer pieces place (false ∷ marks) (e ∷ events) each =
    elim (without-fewer pieces (place + 1) marks events (omega (arith, each))) [
      | inl same ↦ inl (ap (λ more. false ∷ more) same)
      | inr fewer ↦ inr fewer
    ]
without-fewer pieces place (true ∷ marks) (e ∷ events) each =
    let rest = without-fewer pieces (place + 1) marks events (omega (arith, each)) in
    elim (cases_Bool (is_of_any pieces place e)) [
      | inl is ↦ rw is (inr (elim rest [
        | inl same ↦ rw same (omega arith)
        | inr fewer ↦ omega (arith, fewer)
      ]))
      | inr other ↦ rw other (elim rest [
        | inl same ↦ inl (ap (λ more. true ∷ more) same)
        | inr fewer ↦ inr (omega (arith, fewer))
      ])
    ]

pub kept-all : (events : List Event) → kept_of (all_kept events) events ≡ events
kept-all [] = refl
kept-all (e ∷ events) = ap (λ more. e ∷ more) (kept-all events)

pub length-all : (events : List Event) → length (all_kept events) ≡ length events
length-all events = length-replicate (length events) true

-- the test by which two lists of marks are compared
same-mark : (a b : Bool) → Decides (beq a b) (a ≡ b)
same-mark true true = (λ _. refl, λ _. refl)
same-mark true false = (λ same. absurd (cc), λ same. absurd (cc))
same-mark false true = (λ same. absurd (cc), λ same. absurd (cc))
same-mark false false = (λ _. refl, λ _. refl)

pub same-marks : (xs ys : List Bool) → Decides (pointwise beq xs ys) (xs ≡ ys)
same-marks xs ys = slice_eq-Decides same-mark xs ys _ refl

-- where the piece takes something out, fewer events are kept
pub fewer-kept : (pieces : List Piece) (marks left : List Bool) (events : List Event) → length marks ≡ length events
    → left ≡ without pieces marks events → pointwise beq left marks ≡ false → length (kept_of left events) < length (kept_of marks events)
unfolding without
fewer-kept pieces marks left events each is other =
    elim (without-fewer pieces 0 marks events each) [
      | inl same ↦
          let all : left ≡ marks = is ∙ same in
          let bad : true ≡ false = sym ((same-marks left marks).1 all) ∙ other in
          absurd (cc)
      | inr fewer ↦ rw is fewer
    ]
