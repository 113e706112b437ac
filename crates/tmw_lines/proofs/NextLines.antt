-- One line of an item: held whole, or longer than can be held.
use Rattle.tmw_lines.proofs.Shared.{BadLine, Cut, End, Err, Failed, Feed, FromSource, Grammar, Io, IsFree, IsItemLine, IsNoItem, List, None, Ok, Reads, ReadsLine, Result, Skips, Tells, Tells-none, TooLong, [], ap, append-nil, arith, drop, length, length-append, nil_from_length, refl, subst, sym, take, ℕ, ◌++◌, ◌+◌, ◌<◌, ◌^◌, ◌∙◌, ◌∷◌, ◌≡◌, ◌≤◌}
use Rattle.std.specs.Prelude.{Option}
use Rattle.tmw_lines.specs.NextLine.{IsLineRead}
use Rattle.tmw_lines.specs.declared.text_fault.TextFault.{TextFault}
use Rattle.tmw_lines.proofs.Fronts.{holds-long, holds-same}
use Rattle.tmw_lines.proofs.BufferLines.{line-split}
use Rattle.tmw_lines.proofs.LongLines.{Reads-skips, long-bad, long-some}
use Rattle.tmw_lines.proofs.Splits.{free-append}

pub take_item-some : {F H E : Type 0} (grammar : Grammar F H E) (format : F) (bytes left : List ℕ) (count : ℕ)
    (item : E) → drop count bytes ≡ 10 ∷ drop (count + 1) bytes → left ≡ drop (count + 1) bytes
    → take count bytes ≡ grammar.item_text item → grammar.FitsItem format item → IsItemLine grammar format item bytes left
take_item-some grammar format bytes left count item feed is text fits = grind (arith, line-split)

-- what was read so far makes an item's line, the end or a fault
pub next-read : {F H E S : Type 0} (grammar : Grammar F H E) (From : FromSource S) (Ended : Type 0) (a b : S) (format : F) (count : ℕ)
    (before all left : List ℕ) (result : Result (Option E) TextFault) → Reads From a b before all
    → IsLineRead grammar Ended format count all left result → ReadsLine grammar From Ended a b format count before left result
next-read grammar From Ended a b format count before all left result r is = record {
  bytes = r.bytes;
  told = r.told;
  is = subst (λ xs. IsLineRead grammar Ended format count xs left result) r.is is;
}

pub next-end : {F H E S : Type 0} (grammar : Grammar F H E) (From : FromSource S) (Ended : Type 0) (a b : S) (format : F) (count : ℕ)
    (before held left : List ℕ) → Reads From a b before held → Ended → length held ≡ 0
    → ReadsLine grammar From Ended a b format count before left (Ok None)
next-end grammar From Ended a b format count before held left r ended none =
    next-read grammar From Ended a b format count before held left (Ok None) r (ended, nil_from_length held none)

-- a line longer than can be held
module _ {F H E S : Type 0} (grammar : Grammar F H E) (From : FromSource S)
    (Ended : Type 0) (a b c : S) (format : F) (count : ℕ) (before held : List ℕ) (few : count < 2 ^ 40)
    (r : Reads From a b before held) (long : length held ≡ 4096) (free : IsFree 10 held) where
  pub long-feed : ((text : List ℕ) → 4096 ≤ length text → IsNoItem grammar format text) → Skips From Ended b c Feed
      → ReadsLine grammar From Ended a c format count before held (Err (BadLine (count + 2)))
  long-feed long_item s =
      next-read grammar From Ended a c format count before (held ++ s.bytes) held (Err (BadLine (count + 2)))
      (Reads-skips From Ended a b c before held r s)
      ((few, refl, long-bad (IsNoItem grammar format) held s.bytes long_item long free s.is), holds-long held s.bytes long free)

  pub long-end : Skips From Ended b c End → ReadsLine grammar From Ended a c format count before held (Err (Cut (count + 2)))
  long-end s =
      next-read grammar From Ended a c format count before (held ++ s.bytes) held (Err (Cut (count + 2)))
      (Reads-skips From Ended a b c before held r s)
      ((few, refl, s.is.0, free-append 10 held s.bytes free s.is.1, long-some held s.bytes long), holds-long held s.bytes long free)

  pub long-failed : Skips From Ended b c Failed → ReadsLine grammar From Ended a c format count before held (Err Io)
  long-failed s =
      next-read grammar From Ended a c format count before (held ++ s.bytes) held (Err Io) (Reads-skips From Ended a b c before held r s)
      ((s.is.0, free-append 10 held s.bytes free s.is.1, λ last. absurd (omega (arith, few, last))), holds-long held s.bytes long free)

-- what follows the greatest number of items' lines
module _ {F H E S : Type 0} (grammar : Grammar F H E) (From : FromSource S)
    (Ended : Type 0) (a : S) (format : F) (before left : List ℕ) where
  pub past-held : 0 < length before → ReadsLine grammar From Ended a a format (2 ^ 40) before before (Err TooLong)
  past-held some = record {
    bytes = [];
    told = Tells-none From a;
    is = (
      (refl, λ empty. absurd (omega (arith, some, ap length (sym (append-nil before) ∙ empty)))),
      holds-same before _ (sym (append-nil before)),
    );
  }

  pub past-read : (b : S) (bytes : List ℕ) → Tells From a bytes b → 0 < length bytes → left ≡ before ++ bytes
      → ReadsLine grammar From Ended a b format (2 ^ 40) before left (Err TooLong)
  past-read b bytes told some is = record {
    bytes = bytes;
    told = told;
    is = (
      (refl, λ empty. absurd (omega (arith, some, ap length empty, length-append before bytes))),
      holds-same left _ is,
    );
  }

  pub past-end : (b : S) (bytes : List ℕ) → length before ≡ 0 → Tells From a bytes b → length bytes ≡ 0 → Ended
      → ReadsLine grammar From Ended a b format (2 ^ 40) before left (Ok None)
  past-end b bytes none told nothing ended = record {
    bytes = bytes;
    told = told;
    is = (ended, nil_from_length (before ++ bytes) (omega (arith, none, nothing, length-append before bytes)));
  }

  pub past-failed : (b : S) → length before ≡ 0 → Tells From a [] b → (Ended → ⊥) → left ≡ before
      → ReadsLine grammar From Ended a b format (2 ^ 40) before left (Err Io)
  past-failed b none told no_end is =
      let empty : before ++ [] ≡ [] = append-nil before ∙ nil_from_length before none in record {
        bytes = [];
        told = told;
        is = ((no_end, rw empty refl, λ last. empty), holds-same left _ (is ∙ sym (append-nil before)));
      }
