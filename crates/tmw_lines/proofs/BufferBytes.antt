-- Bytes in a buffer: those let go of at the front, moved to the front, and read behind the others.
use Rattle.tmw_lines.proofs.Shared.{List, [], ap, arith, drop, drop-drop, drop-set-lt, drop-take, get_or, get_or-drop, length, length-drop, length-set, length-take-le, put_mid, set, sym, take, take-append-add, take-append-le, take_more, take_more_set, ℕ, ◌++◌, ◌+◌, ◌-◌, ◌<◌, ◌∙◌, ◌∷◌, ◌≡◌, ◌≤◌}

-- the bytes from `start` up to `end`, less the first `count`
pub between-less : (buffer : List ℕ) (start end count : ℕ) → count + start ≤ end
    → take (end - (start + count)) (drop (start + count) buffer) ≡ drop count (take (end - start) (drop start buffer))
between-less buffer start end count within =
    let m = end - (start + count) in
    let left : end - start ≡ count + m = omega arith in grind (arith, drop-take, drop-drop)

-- so many bytes are moved, and those from there on are as they were
pub record AreMoved (index start : ℕ) (bytes old : List ℕ) : Type 0 where
  pub same_length : length bytes ≡ length old
  pub moved : take index bytes ≡ take index (drop start old)
  pub left : drop index bytes ≡ drop index old

-- where two lists agree from an index on, so do their elements
get_or-from_drop : (i k : ℕ) (xs ys : List ℕ) → i ≤ k → drop i xs ≡ drop i ys → get_or xs k 0 ≡ get_or ys k 0
get_or-from_drop i k xs ys le same =
    let e : k ≡ i + (k - i) = omega arith in grind (arith, get_or-drop)

pub AreMoved-more : (index start : ℕ) (bytes old : List ℕ) → AreMoved index start bytes old → start + index < length old
    → AreMoved (index + 1) start (set bytes index (get_or bytes (start + index) 0)) old
AreMoved-more index start bytes old m within =
    let here : index < length bytes = omega (arith, m.same_length) in
    let there : index < length (drop start old) = simp length-drop (omega arith) in
    let from : get_or bytes (start + index) 0 ≡ get_or old (start + index) 0 =
    get_or-from_drop index (start + index) bytes old (omega arith) m.left in
    record {
      same_length = simp length-set m.same_length;
      moved = take_more_set bytes index (get_or bytes (start + index) 0) here
          ∙ ap (λ xs. xs ++ get_or bytes (start + index) 0 ∷ []) m.moved
          ∙ ap (λ x. take index (drop start old) ++ x ∷ []) (from ∙ sym (get_or-drop start old index 0))
          ∙ sym (take_more (drop start old) index 0 there);
      left = drop-set-lt (index + 1) bytes index (get_or bytes (start + index) 0) (omega arith)
          ∙ sym (drop-drop 1 index bytes) ∙ ap (λ xs. drop 1 xs) m.left ∙ drop-drop 1 index old;
    }

-- what was read stands behind what was there
pub take-read : (moved new : List ℕ) (held count room : ℕ) → held ≤ length moved → count ≤ length new
    → take (held + count) (put_mid held room moved new) ≡ take held moved ++ take count new
take-read moved new held count room within few =
    grind (arith, length-take-le, take-append-add, take-append-le)
