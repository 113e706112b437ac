-- What reading all the bytes of a source leaves where it fails.
use Rattle.std.specs.Global.{Vec}
use Rattle.std.specs.Prelude.{◌≡◌, ℕ, length, vec_capacity}
use Rattle.tmw_streams.specs.Transfers.{one_more}
use Rattle.tmw_streams.specs.declared.read_fault.ReadFault.{ReadFault}
use Rattle.tmw_streams.specs.declared.read_fault.ReadFault.TheVariants.{Io, Memory}

-- a source's count of failures after this fault: one more for a failed read
abbrev pub failures_behind_read : ReadFault → ℕ → ℕ
failures_behind_read Io count = one_more count
failures_behind_read Memory count = count

-- a failed read is no end; `Ended` says that the source has answered its end
abbrev pub NoEndAfter : Type 0 → ReadFault → Type 0
NoEndAfter Ended Io = Ended → ⊥
NoEndAfter Ended Memory = Unit {0}

-- memory is wanted only where there is no room for one byte more
abbrev pub IsFullAfter : Vec ℕ → ReadFault → Type 0
IsFullAfter bytes Io = Unit {0}
IsFullAfter bytes Memory = vec_capacity bytes ≡ length bytes.items
