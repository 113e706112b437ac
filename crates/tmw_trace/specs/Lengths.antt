-- The longest texts of an event and of a header, and that longer ones are no text of either.
use Rattle.tmw_trace.specs.Shared.{A, All-take, AllByRecursion, C, FitsKind, IsNoHeader, IsNoItem, K, Kind, N, R, T, V, W, X, [], ap, arith, decimal, kind_text, length-append, length-decimal-le, recursion_from_All}
use Rattle.std.proofs.Common.{◌*◌}
use Rattle.std.specs.Prelude.{All, List, length, take, ℕ, ◌<◌, ◌^◌, ◌∷◌, ◌≤◌}
use Rattle.std.proofs.lemmas.List.{length-take-le}
use Rattle.tmw_trace.specs.Text.{values_text, initial_text, trace_grammar}
use Rattle.tmw_trace.specs.declared.version.Version.{Version}
use Rattle.tmw_trace.specs.declared.version.Version.TheVariants.{One, Two}

pub length-decimal : (n : ℕ) → n < 2 ^ 64 → length (decimal n) ≤ 20
length-decimal n small = length-decimal-le 20 n (omega arith) (omega arith) small

pub length-kind_text : (kind : Kind) → FitsKind kind → length (kind_text kind) ≤ 24
length-kind_text (R r) fits = omega arith
length-kind_text (V v) fits = omega (arith, length-decimal v fits)
length-kind_text (W r v) fits = omega (arith, length-decimal v fits)
length-kind_text K fits = omega arith
length-kind_text T fits = omega arith
length-kind_text C fits = omega arith
length-kind_text X fits = omega arith
length-kind_text A fits = omega arith
length-kind_text (N r v) fits = omega (arith, length-decimal v fits)

pub long_no_event : (version : Version) (text : List ℕ) → 4096 ≤ length text → IsNoItem trace_grammar version text
long_no_event version text long = λ event fits is.
    absurd (omega (arith, ap length is, length-kind_text event.kind fits.0))

length-values_text : (values : List ℕ) → AllByRecursion (λ value. value < 2 ^ 64) values
    → length (values_text values) ≤ 21 * length values
length-values_text [] fit = omega arith
length-values_text (v ∷ vs) fit =
    omega (arith, length-append (32 ∷ decimal v) (values_text vs), length-decimal v fit.0, length-values_text vs fit.1)

length-initial_text : (version : Version) (values : List ℕ) → length values ≤ 8 → All (λ value. value < 2 ^ 64) values
    → length (initial_text version values) ≤ 168
length-initial_text One values few fit = omega arith
length-initial_text Two values few fit =
    omega (arith, length-values_text values (recursion_from_All (λ value. value < 2 ^ 64) values fit))

pub long_no_header : (text : List ℕ) → 4096 ≤ length text → IsNoHeader trace_grammar text
long_no_header text long = λ header fits is.
    let n = header.registers.number in
    let counted = length-take-le n header.initial (omega (arith, fits.0, header.registers.most)) in
    let most = length-initial_text header.version (take n header.initial) (omega (arith, counted, header.registers.most))
    (All-take (λ value. value < 2 ^ 64) n header.initial fits.1) in
    absurd (omega (arith, ap length is, most))
