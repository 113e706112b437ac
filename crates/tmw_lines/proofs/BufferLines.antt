-- A line that is held whole, and the bytes read for one that is not.
use Rattle.tmw_lines.proofs.Shared.{BeginsWithBad, IsFree, List, append_assoc, arith, drop, length, length-drop, line, refl, take, take-append-drop, ℕ, ◌++◌, ◌+◌, ◌<◌, ◌∷◌, ◌≡◌}

-- the bytes up to a line feed, and those after it
pub line-split : (bytes text : List ℕ) (count : ℕ) → drop count bytes ≡ 10 ∷ drop (count + 1) bytes → take count bytes ≡ text
    → bytes ≡ line text ++ drop (count + 1) bytes
line-split bytes text count feed is = grind (arith, take-append-drop, append_assoc)

-- a whole line whose text is bad
pub bad-split : (IsBad : List ℕ → Type 0) (bytes : List ℕ) (count : ℕ)
    → IsFree 10 (take count bytes) → drop count bytes ≡ 10 ∷ drop (count + 1) bytes
    → IsBad (take count bytes) → BeginsWithBad IsBad bytes
bad-split IsBad bytes count free feed bad = record {
  text = take count bytes;
  rest = drop (count + 1) bytes;
  split = line-split bytes (take count bytes) count feed refl;
  unbroken = free;
  bad = bad;
}

-- what is left behind a line is shorter
pub length-left : (bytes left : List ℕ) (count : ℕ) → drop count bytes ≡ 10 ∷ drop (count + 1) bytes
    → left ≡ drop (count + 1) bytes → length left < length bytes
length-left bytes left count feed is = grind (arith, length-drop)
