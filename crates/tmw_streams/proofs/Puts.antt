-- Bytes that were put in parts, one write after another, up to one that fails.
use Rattle.tmw_streams.proofs.Shared.{ap, Err, IsErr, List, Ok, one_more, Puts, Result, Takes, TakesBeginning, ToSink, ℕ, ◌++◌, ◌∙◌, ◌≡◌}
use Rattle.tmw_streams.proofs.Prefixes.{TakesBeginning-more, TakesBeginning-front}
use Rattle.tmw_streams.proofs.Transfers.{Takes-more}

module _ {K : Type 0} (To : ToSink K) (a b : K) (xs ys : List ℕ) where
  -- all of the first part, and the second as it was put
  pub Puts-more : {A E : Type 0} (c : K) (result : Result A E) → Takes To a xs b × (To.failures b ≡ To.failures a)
      → Puts To b ys c result → Puts To a (xs ++ ys) c result
  Puts-more c (Ok _) first then = (Takes-more To a b c xs ys first.0 then.0, then.1 ∙ first.1)
  Puts-more c (Err _) first then = (TakesBeginning-more To a b c xs ys first.0 then.0, then.1 ∙ ap one_more first.1)

  -- a beginning of the first part alone
  pub Puts-front : {A E : Type 0} (result : Result A E) → IsErr result
      → TakesBeginning To a xs b × (To.failures b ≡ one_more (To.failures a)) → Puts To a (xs ++ ys) b result
  Puts-front (Ok _) failed _ = absurd cc
  Puts-front (Err _) _ begun = (TakesBeginning-front To a b xs ys begun.0, begun.1)
