-- An effect with an answer or a write more, and the registers one at a time.
use Rattle.tmw_cuts.proofs.Shared.{Add, Bool, Effect, Ix, List, Op, Read, State, SumsUp, Write, [], add-one, after_writes, and-true, ap, arith, bit_at, chosen, drop, eqb-true, false, get_or, have, if◌then◌else◌, length, not, put, reads_hold, refl, set, slice_index, slice_set, suc, sym, true, zero, ℕ, ◌%◌, ◌&&◌, ◌*◌, ◌++◌, ◌+◌, ◌-◌, ◌<◌, ◌==◌, ◌^◌, ◌||◌, ◌∙◌, ◌∷◌, ◌≡◌}
use Rattle.tmw_cuts.proofs.Bits.{bit_at-less_same, bit_small, mask-set, shift_is}
use Rattle.tmw_cuts.proofs.Chosen.{with_bit, length-chosen, get_or-chosen, chosen-with_bit}

-- the operations after others are answered what those leave
pub reads_hold-append : (s : State) (one two : List Op)
    → reads_hold s (one ++ two) ≡ (reads_hold s one && reads_hold (after_writes s one) two)
reads_hold-append s [] two = refl
reads_hold-append s (Read q w ∷ one) two = grind (arith, (reads_hold-append s one two))
reads_hold-append s (Write q w ∷ one) two = reads_hold-append (slice_set s q.number w) one two
reads_hold-append s (Add q d w ∷ one) two =
    grind (arith, (reads_hold-append (slice_set s q.number ((w + d) % 2 ^ 64)) one two))

after_writes-append : (s : State) (one two : List Op) → after_writes s (one ++ two) ≡ after_writes (after_writes s one) two
after_writes-append s [] two = refl
after_writes-append s (Read q w ∷ one) two = after_writes-append s one two
after_writes-append s (Write q w ∷ one) two = after_writes-append (slice_set s q.number w) one two
after_writes-append s (Add q d w ∷ one) two = after_writes-append (slice_set s q.number ((w + d) % 2 ^ 64)) one two

-- what a register holds where the values are put in
pub index-put : (ds : List Bool) (vs : List ℕ) (s : State) (i : ℕ) → i < length ds → i < length vs → i < length s
    → slice_index (put ds vs s) i ≡ (if get_or ds i false then slice_index vs i else slice_index s i)
index-put (d ∷ ds) (v ∷ vs) (x ∷ s) zero a b c = refl
index-put (d ∷ ds) (v ∷ vs) (x ∷ s) (suc i) a b c = grind (arith, (index-put ds vs s i))
index-put _ _ _ i a b c = grind arith

-- a value put in one register more
put-set : (ds : List Bool) (vs : List ℕ) (s : State) (i v : ℕ) → i < length ds → i < length vs → i < length s
    → put (set ds i true) (set vs i v) s ≡ slice_set (put ds vs s) i v
put-set (d ∷ ds) (y ∷ vs) (x ∷ s) zero v a b c = refl
put-set (d ∷ ds) (y ∷ vs) (x ∷ s) (suc i) v a b c = grind (arith, (put-set ds vs s i v))
put-set _ _ _ i v a b c = absurd (omega (arith, a, b, c))

-- a register less to put in, whose value is in already
put-one : (ds : List Bool) (vs : List ℕ) (s : State) (i : ℕ) → i < length ds → i < length vs → i < length s
    → put (set ds i true) vs s ≡ put ds vs (slice_set s i (slice_index vs i))
put-one (d ∷ ds) (y ∷ vs) (x ∷ s) zero a b c = grind arith
put-one (d ∷ ds) (y ∷ vs) (x ∷ s) (suc i) a b c = grind (arith, (put-one ds vs s i))
put-one _ _ _ i a b c = absurd (omega (arith, a, b, c))

-- the registers from a place on: the one at it, and those ahead
pub have-drop : (ds : List Bool) (vs : List ℕ) (s : State) (i : ℕ) → i < length ds → i < length vs → i < length s
    → have (drop i ds) (drop i vs) (drop i s)
    ≡ ((not (get_or ds i false) || (slice_index s i == slice_index vs i)) && have (drop (suc i) ds) (drop (suc i) vs) (drop (suc i) s))
have-drop (d ∷ ds) (y ∷ vs) (x ∷ s) zero a b c = refl
have-drop (d ∷ ds) (y ∷ vs) (x ∷ s) (suc i) a b c =
    have-drop ds vs s i (omega (arith, a)) (omega (arith, b)) (omega (arith, c))
have-drop _ _ _ i a b c = absurd (omega (arith, a, b, c))

-- a register more is needed
have-set : (ds : List Bool) (vs : List ℕ) (s : State) (i v : ℕ) → i < length ds → i < length vs → i < length s
    → get_or ds i false ≡ false → have (set ds i true) (set vs i v) s ≡ (have ds vs s && (slice_index s i == v))
have-set (d ∷ ds) (y ∷ vs) (x ∷ s) zero v a b c new = grind arith
have-set (d ∷ ds) (y ∷ vs) (x ∷ s) (suc i) v a b c new = grind (arith, (have-set ds vs s i v))
have-set _ _ _ i v a b c new = absurd (omega (arith, a, b, c))

-- a register that is needed already has one value alone
have-get : (ds : List Bool) (vs : List ℕ) (s : State) (i v : ℕ) → i < length ds → i < length vs → i < length s
    → get_or ds i false ≡ true → (have ds vs s && (slice_index s i == v)) ≡ (have ds vs s && (slice_index vs i == v))
have-get (d ∷ ds) (y ∷ vs) (x ∷ s) zero v a b c old = grind (arith, (eqb-true x y))
have-get (d ∷ ds) (y ∷ vs) (x ∷ s) (suc i) v a b c old = grind (arith, (have-get ds vs s i v))
have-get _ _ _ i v a b c old = absurd (omega (arith, a, b, c))

-- an answer more, where so much is told of the state before it
answered : (ops : List Op) (r : Ix) (v : ℕ) (s t : State) (x b : Bool) → reads_hold s ops ≡ x → after_writes s ops ≡ t
    → (x && (slice_index t r.number == v)) ≡ b
    → (reads_hold s (ops ++ Read r v ∷ []) ≡ b) × (after_writes s (ops ++ Read r v ∷ []) ≡ t)
answered ops r v s t x b reads leaves same = (
  rw (reads_hold-append s ops (Read r v ∷ []), reads, leaves, and-true (slice_index t r.number == v)) same,
  rw (after_writes-append s ops (Read r v ∷ [])) leaves,
)

module _ (e : Effect) (ops : List Op) (r : Ix) (v : ℕ) (sums : SumsUp e ops) (s : State) (long : length s ≡ 8)
    (leaves : length e.leaves ≡ 8) where
  abbrev then_holds : Bool → Type 0
  then_holds b = (reads_hold s (ops ++ Read r v ∷ []) ≡ b) × (after_writes s (ops ++ Read r v ∷ []) ≡ put (chosen e.left) e.leaves s)

  held : slice_index (put (chosen e.left) e.leaves s) r.number
      ≡ (if bit_at e.left r.number == 1 then slice_index e.leaves r.number else slice_index s r.number)
  held =
      index-put (chosen e.left) e.leaves s r.number (rw (length-chosen e.left) r.below) (rw leaves r.below) (rw long r.below)
      ∙ ap (λ (b : Bool). if b then slice_index e.leaves r.number else slice_index s r.number) (get_or-chosen e.left r.number false r.below)

  -- what the register holds
  pub value-after : slice_index (after_writes s ops) r.number
      ≡ (if bit_at e.left r.number == 1 then slice_index e.leaves r.number else slice_index s r.number)
  value-after = rw (sums s long).1 held

  -- an answer after an own write
  pub read-left : (bit_at e.left r.number == 1) ≡ true
      → then_holds ((e.agrees && (slice_index e.leaves r.number == v)) && have (chosen e.needed) e.needs s)
  read-left is = let was = held in answered ops r v s _ _ _ (sums s long).0 (sums s long).1 (grind arith)

  -- an answer after another
  pub read-needed : length e.needs ≡ 8 → (bit_at e.left r.number == 1) ≡ false → (bit_at e.needed r.number == 1) ≡ true
      → then_holds ((e.agrees && (slice_index e.needs r.number == v)) && have (chosen e.needed) e.needs s)
  read-needed needs unwritten is =
      let needed : r.number < length (chosen e.needed) = rw (length-chosen e.needed) r.below in
      let get = have-get (chosen e.needed) e.needs s r.number v needed (rw needs r.below) (rw long r.below)
      (get_or-chosen e.needed r.number false r.below ∙ is) in
      let was = held in
      answered ops r v s _ _ _ (sums s long).0 (sums s long).1 (grind arith)

  -- the first answer
  pub read-first : length e.needs ≡ 8 → (bit_at e.left r.number == 1) ≡ false → (bit_at e.needed r.number == 1) ≡ false
      → then_holds (e.agrees && have (chosen (with_bit e.needed r.number)) (slice_set e.needs r.number v) s)
  read-first needs unwritten new =
      let needed : r.number < length (chosen e.needed) = rw (length-chosen e.needed) r.below in
      let more = have-set (chosen e.needed) e.needs s r.number v needed (rw needs r.below) (rw long r.below)
      (get_or-chosen e.needed r.number false r.below ∙ new) in
      let was = held in
      answered ops r v s _ _ _ (sums s long).0 (sums s long).1 (rw (chosen-with_bit e.needed r.number r.below) (grind arith))

  -- a write
  pub write-more : (reads_hold s (ops ++ Write r v ∷ []) ≡ (e.agrees && have (chosen e.needed) e.needs s))
      × (after_writes s (ops ++ Write r v ∷ []) ≡ put (chosen (with_bit e.left r.number)) (slice_set e.leaves r.number v) s)
  write-more =
      let set_is = put-set (chosen e.left) e.leaves s r.number v (rw (length-chosen e.left) r.below) (rw leaves r.below) (rw long r.below) in
      grind (arith, reads_hold-append, after_writes-append, (sums s long), (chosen-with_bit e.left r.number r.below))

-- an add is an answer and then a write
pub add-split : (e : Effect) (ops : List Op) (r : Ix) (d v : ℕ)
    → SumsUp e ((ops ++ Read r v ∷ []) ++ Write r ((v + d) % 2 ^ 64) ∷ []) → SumsUp e (ops ++ Add r d v ∷ [])
add-split e ops r d v sums s long =
    let (reads, leaves) = sums s long in
    (grind (arith, reads_hold-append, after_writes-append), grind (arith, after_writes-append))

-- a turn of the loop that asks of each register whether it has its value
pub have-turn : (ds : List Bool) (vs : List ℕ) (s : State) (i : ℕ) → length ds ≡ 8 → length vs ≡ 8 → length s ≡ 8 → i < 8 → (met : Bool)
    → ((met && ((slice_index s i == slice_index vs i) || not (get_or ds i false))) && have (drop (i + 1) ds) (drop (i + 1) vs) (drop (i + 1) s))
    ≡ (met && have (drop i ds) (drop i vs) (drop i s))
have-turn ds vs s i d v l within met =
    let from = have-drop ds vs s i (rw d within) (rw v within) (rw l within) in rw add-one (grind arith)

-- a turn of the loop that puts the values in
pub put-next : (mask r : ℕ) (vs : List ℕ) (s : State) → r < 8 → bit_at mask r ≡ 1 → length vs ≡ 8 → length s ≡ 8
    → put (chosen mask) vs s ≡ put (chosen (mask - 1 * 2 ^ r % 2 ^ 8)) vs (slice_set s r (slice_index vs r))
put-next mask r vs s within one v l =
    let less = mask - 2 ^ r in
    let small = bit_small mask r one in
    let whole : with_bit less r ≡ mask = mask-set less r within (bit_at-less_same mask r one small) ∙ omega (arith, small) in
    rw (shift_is r within, ← put-one (chosen less) vs s r (rw (length-chosen less) within) (rw v within) (rw l within))
    (ap (λ ds. put ds vs s) (ap chosen (sym whole) ∙ chosen-with_bit less r within))
