-- Reading on through a line: the bytes seen so far hold no line feed.
use Rattle.tmw_lines.proofs.Shared.{FromSource, IsFree, IsSeen, List, Reads, Tells, Tells-more, ap, append_assoc, arith, drop, drop-drop, length, length-append, length-drop, not, position_or_len, sym, take, take-add, take-append-le, take_all, ℕ, ◌++◌, ◌+◌, ◌<◌, ◌==◌, ◌∙◌, ◌∷◌, ◌≡◌, ◌≤◌}
use Rattle.std.proofs.lemmas.List.Sums.{prefix_len-le-length}
use Rattle.tmw_lines.proofs.Splits.{free-append, free-before, drop-before}

-- the part of the bytes after those seen, up to its first line feed, is seen too
pub IsSeen-more : (bytes : List ℕ) (seen more : ℕ) → IsSeen seen bytes
    → more ≡ position_or_len (λ byte. byte == 10) (drop seen bytes) → IsSeen (seen + more) bytes
IsSeen-more bytes seen more s is =
    let few = prefix_len-le-length (λ byte. not (byte == 10)) (drop seen bytes) in
    let free : IsFree 10 (take more (drop seen bytes)) = rw is (free-before 10 (drop seen bytes)) in
    grind (arith, length-drop, take-add, free-append)

pub drop-seen : (bytes : List ℕ) (seen more : ℕ) → more ≡ position_or_len (λ byte. byte == 10) (drop seen bytes)
    → seen + more < length bytes → drop (seen + more) bytes ≡ 10 ∷ drop (seen + more + 1) bytes
drop-seen bytes seen more is within =
    let here : position_or_len (λ byte. byte == 10) (drop seen bytes) < length (drop seen bytes) =
    simp length-drop (omega (arith, is)) in
    let next : seen + (more + 1) ≡ seen + more + 1 = omega arith in
    sym (drop-drop more seen bytes)
    ∙ rw is (drop-before 10 (drop seen bytes) here ∙ ap (λ xs. 10 ∷ xs) (rw (← is) (drop-drop (more + 1) seen bytes ∙ ap (λ n. drop n bytes) next)))

-- what is read behind the bytes leaves what was seen
pub IsSeen-append : (bytes rest : List ℕ) (seen : ℕ) → IsSeen seen bytes → IsSeen seen (bytes ++ rest)
IsSeen-append bytes rest seen s = grind (arith, length-append, take-append-le)

pub free-seen : (bytes : List ℕ) (seen : ℕ) → length bytes ≤ seen → IsSeen seen bytes → IsFree 10 bytes
free-seen bytes seen all s = rw (take_all seen bytes all) at s.free

module _ {S : Type 0} {From : FromSource S} {a : S} {xs : List ℕ} where
  -- what one more read told came behind the bytes held
  pub Reads-more : {b c : S} {ys bytes zs : List ℕ} → Reads From a b xs ys → Tells From b bytes c
      → zs ≡ ys ++ bytes → Reads From a c xs zs
  Reads-more {b = b} {c = c} {bytes = bytes} r told is = record {
    bytes = r.bytes ++ bytes;
    told = Tells-more From a b c r.bytes bytes r.told told;
    is = is ∙ ap (λ z. z ++ bytes) r.is ∙ append_assoc xs r.bytes bytes;
  }
