-- Each register before this place that the memory does not have is to begin at 0.
use Rattle.tmw_c.proofs.Shared.{ℕ, ◌<◌, ◌≡◌, ◌≤◌}
use Rattle.std.specs.Prelude.{slice_index}
use Rattle.tmw_c.proofs.c_settings.CSettings.begins_well.Given as goal

abbrev pub invariant-loop-place : goal.invariant-loop-place
invariant-loop-place l = (register : ℕ) → l.self.registers ≤ register → register < l.place → slice_index l.self.start register ≡ 0
