-- A run in which all registers begin at 0 may have a header of either version.
use Rattle.std.proofs.Common.{List, [], drop, refl, suc, true, zero, ℕ, ◌∷◌, ◌≡◌}
use Rattle.tmw_defs.specs.Opaque.{zeros}
use Rattle.std.proofs.lemmas.Bool.{and_parts}
use Rattle.tmw_trace.specs.Version.{are_zeros, is_start}
use Rattle.tmw_trace.specs.declared.version.Version.{Version}
use Rattle.tmw_trace.specs.declared.version.Version.TheVariants.{One, Two}

are_zeros-drop : (values : List ℕ) (count : ℕ) → are_zeros values ≡ true → are_zeros (drop count values) ≡ true
are_zeros-drop values zero all = all
are_zeros-drop [] (suc count) all = refl
are_zeros-drop (v ∷ values) (suc count) all = are_zeros-drop values count (and_parts _ _ all).1

pub is_start-zeros : (version : Version) (registers : ℕ) → is_start version registers zeros ≡ true
is_start-zeros One registers = refl
is_start-zeros Two registers = are_zeros-drop zeros registers refl
