-- Bytes that were taken in parts, of which the last may be a beginning of what was to be taken.
use Rattle.tmw_streams.proofs.Shared.{arith, length, length-append, List, take, take-append-add, take-append-le, Takes, TakesBeginning, ToSink, ℕ, ◌++◌, ◌+◌, ◌≤◌}
use Rattle.tmw_streams.proofs.Transfers.{Takes-more}

module _ {K : Type 0} (To : ToSink K) (a : K) where
  -- all of the first part, and a beginning of the second
  pub TakesBeginning-more : (b c : K) (xs ys : List ℕ) → Takes To a xs b → TakesBeginning To b ys c
      → TakesBeginning To a (xs ++ ys) c
  TakesBeginning-more b c xs ys first (count, short, then) = (
    length xs + count,
    omega (arith, length-append xs ys),
    rw take-append-add (Takes-more To a b c xs (take count ys) first then),
  )

  -- a beginning of the first part alone
  pub TakesBeginning-front : (b : K) (xs ys : List ℕ) → TakesBeginning To a xs b
      → TakesBeginning To a (xs ++ ys) b
  TakesBeginning-front b xs ys (count, short, begun) =
      let within : count ≤ length xs = omega arith in
      (count, omega (arith, length-append xs ys), rw take-append-le begun)
