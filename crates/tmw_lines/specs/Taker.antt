-- What contracts say of a taker, in one record.
use Rattle.std.specs.Prelude.{ℕ, List}

-- Of takers of a type: by taking these items, in this order, one comes from the first state to the second, or by stopping
-- at this item, and a state allows that so many items were taken before. One that needs no bound on them allows each number.
pub record Taking (T E : Type 0) : Type 1 where
  pub takes : T → List E → T → Type 0
  pub stops : T → E → T → Type 0
  pub counts : T → ℕ → Type 0

-- these items were taken, and then the taker stopped at the last
pub record TakesUpTo {T E : Type 0} (taking : Taking T E) (before : T) (items : List E) (last : E) (after : T) : Type 0 where
  pub between : T
  pub takes : taking.takes before items between
  pub stops : taking.stops between last after
