-- What the leader knows of a worker that has come back: it was told all bounds and no others, and has told all that was heard.
use Rattle.tmw_bench.proofs.Shared.{Answer, Call, HasPlayedLast, HasPlayedOn, IsLineAt, Kind, Line, List, Option, Refused, RingIs, RoundEnd, Worker, [], ap, append-nil, arith, in_order, length, length-append, length_push, nil_from_length, received, refl, sent, sym, ℕ, ◌++◌, ◌+◌, ◌∙◌, ◌∷◌, ◌≡◌}

-- two lists that end in one item each
pub last-same : {A : Type 0} (xs ys : List A) (x y : A) → length xs ≡ length ys → xs ++ x ∷ [] ≡ ys ++ y ∷ [] → (xs ≡ ys) × (x ≡ y)
last-same [] [] x y long is = (refl, cc)
last-same [] (b ∷ ys) x y long is = absurd (omega (arith, long))
last-same (a ∷ xs) [] x y long is = absurd (omega (arith, long))
last-same (a ∷ xs) (b ∷ ys) x y long is =
    let heads : a ≡ b = cc in
    let tails : xs ++ x ∷ [] ≡ ys ++ y ∷ [] = cc in
    let rest = last-same xs ys x y (omega (arith, long)) tails in
    (ap (λ c. c ∷ xs) heads ∙ ap (λ l. b ∷ l) rest.0, rest.1)

length-in_order : (bounds : List ℕ) → length (in_order bounds) ≡ length bounds
length-in_order [] = refl
length-in_order (bound ∷ bounds) =
    grind (arith, length, in_order, length_push, (length-in_order bounds))

in_order-same : (ours theirs : List ℕ) → length ours ≡ length theirs → in_order ours ≡ in_order theirs → ours ≡ theirs
in_order-same [] [] long is = refl
in_order-same [] (b ∷ theirs) long is = absurd (omega (arith, long))
in_order-same (a ∷ ours) [] long is = absurd (omega (arith, long))
in_order-same (a ∷ ours) (b ∷ theirs) long is =
    let m = length-in_order ours in
    let n = length-in_order theirs in
    let both = last-same (in_order ours) (in_order theirs) a b (omega (arith, m, n, long)) is in
    let rest = in_order-same ours theirs (omega (arith, long)) both.0 in
    (ap (λ (c : ℕ). c ∷ ours) both.1 ∙ ap (λ (l : List ℕ). b ∷ l) rest)

-- The worker was told what it has received, and more, all of it these bounds; and the leader has heard one thing for each bound and one more, of what
-- the worker has told, one thing for each that it has received and one more. So neither ring holds anything.
pub closed : (bounds own : List ℕ) (taken left : List ℕ) (heard unheard earlier : List RoundEnd) (last : RoundEnd)
    → taken ++ left ≡ in_order bounds → taken ≡ in_order own → heard ++ unheard ≡ earlier ++ last ∷ [] → length earlier ≡ length own
    → length heard ≡ length bounds + 1 → (own ≡ bounds) × (heard ≡ earlier ++ last ∷ [])
closed bounds own taken left heard unheard earlier last all_taken taken_is all_heard counted heard_count =
    let a : length taken + length left ≡ length (in_order bounds) = sym (length-append taken left) ∙ ap (λ (l : List ℕ). length l) all_taken in
    let b : length taken ≡ length (in_order own) = ap (λ (l : List ℕ). length l) taken_is in
    let c = length-in_order bounds in
    let d = length-in_order own in
    let e : length heard + length unheard ≡ length earlier + 1 =
    sym (length-append heard unheard) ∙ ap (λ (l : List RoundEnd). length l) all_heard ∙ length_push earlier last in
    let none_left : left ≡ [] = nil_from_length left (omega (arith, a, b, c, d, e, counted, heard_count)) in
    let none_unheard : unheard ≡ [] = nil_from_length unheard (omega (arith, a, b, c, d, e, counted, heard_count)) in
    let same : in_order own ≡ in_order bounds =
    sym taken_is ∙ sym (append-nil taken) ∙ ap (λ (l : List ℕ). taken ++ l) (sym none_left) ∙ all_taken in (
      in_order-same own bounds (omega (arith, a, b, c, d, e, counted, heard_count)) same,
      sym (append-nil heard) ∙ ap (λ (l : List RoundEnd). heard ++ l) (sym none_unheard) ∙ all_heard,
    )

-- So it has played whole rounds, which ended at the leader's bounds, and a last one.
pub played-closed : (gives : Call → Answer → Type 0) (ring : RingIs) (script : List (List Kind)) (bounds : List ℕ) (first new : Worker) (stop : Option Refused)
    (line_first line : Line) (left : List ℕ) (unheard : List RoundEnd)
    → HasPlayedOn gives ring script first stop new → IsLineAt (length bounds + 1) bounds line_first line
    → received new.down ++ left ≡ sent line.down → received line.up ++ unheard ≡ sent new.up
    → HasPlayedLast gives script bounds new.writer.made stop new.writer × (received line.up ≡ sent new.up)
played-closed gives ring script bounds first new stop line_first line left unheard on at all_taken all_heard =
    grind (arith, closed, received)
