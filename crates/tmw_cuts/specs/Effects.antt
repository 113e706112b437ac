-- What an effect tells of operations, from any state of eight registers.
use Rattle.tmw_cuts.specs.Shared.{Op, State, after_writes, reads_hold}
use Rattle.std.specs.Prelude.{Bool, List, length, ◌&&◌, ◌==◌, ◌≡◌}
use Rattle.std.specs.Coded.{Π_prop, ×_prop, Coded-set, coded_bool, coded_list, coded_ℕ}
use Rattle.tmw_cuts.specs.declared.effect.Effect.{Effect}
use Rattle.tmw_cuts.specs.RegisterMask.{IsMaskOf, chosen, have, put}
use Rattle.tmw_cuts.specs.RegisterUse.{writes, needs}

-- The operations are answered what the registers hold exactly where they agree with one another and the registers that they
-- need have the values needed, and they leave the values left in the registers left.
abbrev pub SumsUp : Effect → List Op → Type 0
SumsUp e ops = (s : State) → length s ≡ 8
    → (reads_hold s ops ≡ (e.agrees && have (chosen e.needed) e.needs s)) × (after_writes s ops ≡ put (chosen e.left) e.leaves s)

-- It sums the operations up, and its masks tell which registers they write and need.
abbrev pub IsEffectOf : Effect → List Op → Type 0
IsEffectOf e ops = SumsUp e ops × (IsMaskOf (λ r. writes r ops) e.left × IsMaskOf (λ r. needs r ops) e.needed)

pub IsEffectOf-prop : (e : Effect) (ops : List Op) → IsProp (IsEffectOf e ops)
IsEffectOf-prop e ops =
    ×_prop (Π_prop λ s. Π_prop λ long. ×_prop (Coded-set coded_bool _ _) (Coded-set (coded_list coded_ℕ) _ _))
    (×_prop (Π_prop λ r. Coded-set coded_bool _ _) (Π_prop λ r. Coded-set coded_bool _ _))

-- No register is left with a value.
abbrev pub leaves_none : Effect → Bool
leaves_none e = e.left == 0
