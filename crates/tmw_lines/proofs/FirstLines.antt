-- The first line of a text: held whole, or longer than can be held.
use Rattle.tmw_lines.proofs.Shared.{BadHeader, Cut, End, Err, Failed, Feed, FromSource, Grammar, Io, IsFree, IsNoHeader, List, Reads, ReadsHeader, Result, Skips, inl, inr, length, nil_from_length, refl, subst, ℕ, ◌++◌, ◌≡◌, ◌≤◌}
use Rattle.tmw_lines.specs.NextLine.{IsHeaderRead}
use Rattle.tmw_lines.specs.declared.text_fault.TextFault.{TextFault}
use Rattle.tmw_lines.proofs.Fronts.{holds-long, holds-same}
use Rattle.tmw_lines.proofs.LongLines.{Reads-skips, long-bad, long-some}
use Rattle.tmw_lines.proofs.Splits.{free-append}

-- what was read so far makes a header's line, or a fault
pub first-read : {F H E S : Type 0} (grammar : Grammar F H E) (From : FromSource S) (Ended : Type 0) (a b : S) (before all left : List ℕ)
    (result : Result H TextFault) → Reads From a b before all → IsHeaderRead grammar Ended all left result
    → ReadsHeader grammar From Ended a b before left result
first-read grammar From Ended a b before all left result r is = record {
  bytes = r.bytes;
  told = r.told;
  is = subst (λ xs. IsHeaderRead grammar Ended xs left result) r.is is;
}

pub first-end : {F H E S : Type 0} (grammar : Grammar F H E) (From : FromSource S) (Ended : Type 0) (a b : S) (before held : List ℕ)
    → Reads From a b before held → Ended → length held ≡ 0 → ReadsHeader grammar From Ended a b before held (Err BadHeader)
first-end grammar From Ended a b before held r ended none =
    first-read grammar From Ended a b before held held (Err BadHeader) r
    (inl (ended, nil_from_length held none), holds-same held held refl)

-- a line longer than can be held
module _ {F H E S : Type 0} (grammar : Grammar F H E) (From : FromSource S)
    (Ended : Type 0) (a b c : S) (before held : List ℕ) (r : Reads From a b before held) (long : length held ≡ 4096)
    (free : IsFree 10 held) where
  pub long_first-feed : ((text : List ℕ) → 4096 ≤ length text → IsNoHeader grammar text) → Skips From Ended b c Feed
      → ReadsHeader grammar From Ended a c before held (Err BadHeader)
  long_first-feed long_header s =
      first-read grammar From Ended a c before (held ++ s.bytes) held (Err BadHeader) (Reads-skips From Ended a b c before held r s)
      (inr (long-bad (IsNoHeader grammar) held s.bytes long_header long free s.is), holds-long held s.bytes long free)

  pub long_first-end : Skips From Ended b c End → ReadsHeader grammar From Ended a c before held (Err (Cut 1))
  long_first-end s =
      first-read grammar From Ended a c before (held ++ s.bytes) held (Err (Cut 1)) (Reads-skips From Ended a b c before held r s)
      ((s.is.0, refl, long-some held s.bytes long, free-append 10 held s.bytes free s.is.1), holds-long held s.bytes long free)

  pub long_first-failed : Skips From Ended b c Failed → ReadsHeader grammar From Ended a c before held (Err Io)
  long_first-failed s =
      first-read grammar From Ended a c before (held ++ s.bytes) held (Err Io) (Reads-skips From Ended a b c before held r s)
      ((s.is.0, free-append 10 held s.bytes free s.is.1), holds-long held s.bytes long free)
