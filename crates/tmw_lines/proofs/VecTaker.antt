-- What was read where a taker, such as a list, holds the items that it takes behind those that it held.
use Rattle.tmw_lines.proofs.Shared.{AreGiven, Err, FromSource, GivesAll, Grammar, Lines, List, Ok, ReadsItems, Result, Taking, TextFault, ℕ, ◌++◌, ◌∙◌, ◌≡◌}
use Rattle.tmw_lines.proofs.TextsRead.{given-read, held_by}
use Rattle.tmw_lines.specs.declared.items.Reached.{Reached}
use Rattle.tmw_lines.specs.declared.items.Reached.TheVariants.{End, Stop}

module _ {F H E T : Type 0} (grammar : Grammar F H E) (Ended : Type 0) (taking : Taking T E) (held : T → List E)
    (takes : (x : T) (items : List E) (y : T) → taking.takes x items y → held y ≡ held x ++ items)
    (stops : (x : T) (item : E) (y : T) → taking.stops x item y → held y ≡ held x) (lines after : Lines F) (x y : T) where
  held-given : (items : List E) (bytes : List ℕ) (result : Result Reached TextFault)
      → AreGiven grammar Ended taking lines after x y items bytes result → held y ≡ held x ++ items
  held-given items bytes (Ok End) g = takes x items y g.1
  held-given items bytes (Ok Stop) g =
      stops g.taken.between g.last y g.taken.stops ∙ takes x items g.taken.between g.taken.takes
  held-given items bytes (Err fault) g = takes x items y g.1

  pub reads-given : {S : Type 0} (From : FromSource S) (a b : S) (result : Result Reached TextFault)
      → GivesAll grammar From Ended taking a b lines after x y result
      → ReadsItems grammar From Ended a b lines after (held x) (held y) (held_by result)
  reads-given From a b result g = record {
    bytes = g.bytes;
    items = g.items;
    told = g.told;
    is = held-given g.items g.bytes result g.given;
    read = given-read grammar Ended taking lines after x y g.items g.bytes result g.given;
  }
