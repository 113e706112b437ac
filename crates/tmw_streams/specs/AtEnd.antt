-- That no known byte is left has one proof at most.
use Rattle.std.specs.Prelude.{ℕ, Option, Some, None, List}
use Rattle.std.specs.Io.KnownBytes.{IsAtEnd}
use Rattle.std.specs.Coded.{Unit-prop}
use Rattle.std.proofs.Props.{props}

pub IsAtEnd-prop : (known : Option (List ℕ)) → IsProp (IsAtEnd known)
IsAtEnd-prop None = Unit-prop
IsAtEnd-prop (Some bytes) = hlevel props
