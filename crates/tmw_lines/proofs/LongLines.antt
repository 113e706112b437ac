-- Reading on through a line that is longer than can be held.
use Rattle.tmw_lines.proofs.Shared.{BeginsWithBad, Feed, FromSource, HasFeed, IsFree, List, Reads, Skips, Tells, Tells-more, [], ap, append_assoc, arith, drop, length, length-append, position_or_len, sym, take, take-append-drop, take_all, ℕ, ◌++◌, ◌+◌, ◌<◌, ◌==◌, ◌∙◌, ◌∷◌, ◌≡◌, ◌≤◌}
use Rattle.tmw_lines.specs.declared.long_line.LineEnd.{LineEnd}
use Rattle.tmw_lines.proofs.Splits.{free-append, free-before, drop-before}

-- where a line feed is among the bytes, the first is found
has-feed : (bytes : List ℕ) → position_or_len (λ byte. byte == 10) bytes < length bytes → HasFeed bytes
has-feed bytes within =
    let n = position_or_len (λ byte. byte == 10) bytes in
    let parts : take n bytes ++ 10 ∷ drop (n + 1) bytes ≡ bytes = rw (drop-before 10 bytes within) at (take-append-drop n bytes) in
    record { front = take n bytes; rest = drop (n + 1) bytes; split = sym parts; free = free-before 10 bytes }

-- where none is, none is among all
free-all : (bytes : List ℕ) → length bytes ≤ position_or_len (λ byte. byte == 10) bytes → IsFree 10 bytes
free-all bytes all = rw (take_all (position_or_len (λ byte. byte == 10) bytes) bytes all) at (free-before 10 bytes)

-- what the source told so far holds no line feed
pub record HasSkipped {S : Type 0} (From : FromSource S) (old new : S) : Type 0 where
  pub bytes : List ℕ
  pub told : Tells From old bytes new
  pub free : IsFree 10 bytes

-- reading on from one state to the next, which tells these bytes and holds them
module _ {S : Type 0} (From : FromSource S) (a : S) where
  pub HasSkipped-more : (b c : S) (bytes : List ℕ) → HasSkipped From a b → Tells From b bytes c
      → length bytes ≤ position_or_len (λ byte. byte == 10) bytes → HasSkipped From a c
  HasSkipped-more b c bytes before told all = record {
    bytes = before.bytes ++ bytes;
    told = Tells-more From a b c before.bytes bytes before.told told;
    free = free-append 10 before.bytes bytes before.free (free-all bytes all);
  }

  pub Skips-feed : (Ended : Type 0) (b c : S) (bytes : List ℕ) → HasSkipped From a b → Tells From b bytes c
      → position_or_len (λ byte. byte == 10) bytes < length bytes → Skips From Ended a c Feed
  Skips-feed Ended b c bytes before told within =
      let feed = has-feed bytes within in record {
        bytes = before.bytes ++ bytes;
        told = Tells-more From a b c before.bytes bytes before.told told;
        is = record {
          front = before.bytes ++ feed.front;
          rest = feed.rest;
          split = ap (λ xs. before.bytes ++ xs) feed.split ∙ sym (append_assoc before.bytes feed.front (10 ∷ feed.rest));
          free = free-append 10 before.bytes feed.front before.free feed.free;
        };
      }

-- held bytes without a line feed and the rest of their line are a line too long to be good
pub long-bad : (IsBad : List ℕ → Type 0) (held bytes : List ℕ) → ((text : List ℕ) → 4096 ≤ length text → IsBad text)
    → length held ≡ 4096 → IsFree 10 held → HasFeed bytes → BeginsWithBad IsBad (held ++ bytes)
long-bad IsBad held bytes bad long free s = record {
  text = held ++ s.front;
  rest = s.rest;
  split = ap (λ xs. held ++ xs) s.split ∙ simp append_assoc;
  unbroken = free-append 10 held s.front free s.free;
  bad = bad (held ++ s.front) (simp length-append (omega (arith, long)));
}

-- what was held, and what was skipped behind it
pub Reads-skips : {S : Type 0} (From : FromSource S) (Ended : Type 0) (a b c : S) (before held : List ℕ) {end : LineEnd}
    → Reads From a b before held → (s : Skips From Ended b c end) → Reads From a c before (held ++ s.bytes)
Reads-skips From Ended a b c before held r s = record {
  bytes = r.bytes ++ s.bytes;
  told = Tells-more From a b c r.bytes s.bytes r.told s.told;
  is = ap (λ xs. xs ++ s.bytes) r.is ∙ append_assoc before r.bytes s.bytes;
}

pub long-some : (held bytes : List ℕ) → length held ≡ 4096 → held ++ bytes ≡ [] → ⊥
long-some held bytes long empty = absurd (omega (arith, long, ap length empty, length-append held bytes))
