-- When transactions that have ended leave the same state in all their legal serial orders: each register has one writer, or there are
-- no blind writes to it, so that each writer reads the version before its own and the versions form one chain.
use Rattle.tmw_search.specs.Shared.{View, count_by, is_committed, list_all}
use Rattle.std.specs.Prelude.{Bool, IsTrue, List, not, ℕ, ◌&&◌, ◌≤◌, ◌⊎◌}
use Rattle.tmw_defs.specs.declared.op.Op.{Op}
use Rattle.tmw_defs.specs.declared.status.Status.{Status}
use Rattle.tmw_cuts.specs.RegisterUse.{writes, needs}
use Rattle.tmw_cuts.specs.Turns.{change}
use Rattle.tmw_cuts.specs.Views.{with_status}
use Rattle.tmw_defs.specs.declared.status.Status.TheVariants.{Committed}

-- It has committed and writes the register.
abbrev pub is_writer : ℕ → Status → List Op → Bool
is_writer r status ops = is_committed status && writes r ops

-- It does so without a read of the register before.
abbrev pub is_blind_writer : ℕ → Status → List Op → Bool
is_blind_writer r status ops = is_writer r status ops && not (needs r ops)

-- Each register is written by at most one committed transaction, or by none without a read of it before.
abbrev pub IsForced : {A : Type 0} → (A → Status) → (A → List Op) → List A → Type 0
IsForced status ops xs = (r : ℕ) → (count_by (λ x. is_writer r (status x) (ops x)) xs ≤ 1)
    ⊎ IsTrue (list_all (λ x. not (is_blind_writer r (status x) (ops x))) xs)

abbrev pub AreForced : List View → Type 0
AreForced xs = IsForced (λ x. x.status) (λ x. x.ops) xs

-- They are with the one at the place as committed, if there is one.
abbrev pub AreForcedWith : ℕ → List View → Type 0
AreForcedWith place xs = AreForced (change place (with_status Committed) xs)
