-- Two words name an event, and one word a place and a header.
use Rattle.tmw_events.proofs.Shared.{A, C, Event, IsHeader, K, Kind, N, R, T, V, W, X, ap, arith, header_of, joined, kind_code, kind_register, kind_value, pack, packed_header, refl, stamp_of, stamped, ℕ, ◌<◌, ◌^◌, ◌∙◌, ◌≡◌}
use Rattle.tmw_events.proofs.Same.{same_ix}

-- there are nine codes
code-small : (kind : Kind) → kind_code kind < 9
code-small (R r) = omega arith
code-small (V v) = omega arith
code-small (W r v) = omega arith
code-small K = omega arith
code-small T = omega arith
code-small C = omega arith
code-small X = omega arith
code-small A = omega arith
code-small (N r v) = omega arith

-- a register is below 8
register-small : (kind : Kind) → kind_register kind < 8
register-small (R r) = r.below
register-small (W r v) = r.below
register-small (N r v) = r.below
register-small (V v) = omega arith
register-small K = omega arith
register-small T = omega arith
register-small C = omega arith
register-small X = omega arith
register-small A = omega arith

-- a header has ten bits
pub packed_header-small : (e : Event) → packed_header e < 1024
packed_header-small e =
    let thread = e.thread.below in
    omega (arith, code-small e.kind, register-small e.kind, thread)

-- a kind's code, register and value name it
kind-named : (k m : Kind) → kind_code k ≡ kind_code m → kind_register k ≡ kind_register m → kind_value k ≡ kind_value m → k ≡ m
kind-named (R r) (R s) code register value = ap R (same_ix r s register)
kind-named (V v) (V w) code register value = ap V value
kind-named (W r v) (W s w) code register value = ap (λ x. W x v) (same_ix r s register) ∙ ap (λ x. W s x) value
kind-named K K code register value = refl
kind-named T T code register value = refl
kind-named C C code register value = refl
kind-named X X code register value = refl
kind-named A A code register value = refl
kind-named (N r v) (N s w) code register value = ap (λ x. N x v) (same_ix r s register) ∙ ap (λ x. N s x) value
kind-named _ _ code register value = absurd (omega (arith, code))

-- two events with one packed pair are the same event
pub pack-injective : (a b : Event) → pack a ≡ pack b → a ≡ b
pack-injective a b same =
    let header : packed_header a ≡ packed_header b = ap (λ words. words.0) same in
    let value : kind_value a.kind ≡ kind_value b.kind = ap (λ words. words.1) same in
    let threads = a.thread.below in
    let others = b.thread.below in
    let code : kind_code a.kind ≡ kind_code b.kind =
    omega (arith, header, threads, others, register-small a.kind, register-small b.kind) in
    let number : a.thread.number ≡ b.thread.number =
    omega (arith, header, code, threads, others, register-small a.kind, register-small b.kind) in
    let register : kind_register a.kind ≡ kind_register b.kind = omega (arith, header, code, number) in
    ap (λ t. let r : Event = record { thread = t; kind = a.kind } in r) (same_ix a.thread b.thread number)
    ∙ ap (λ k. let r : Event = record { thread = b.thread; kind = k } in r) (kind-named a.kind b.kind code register value)

-- the parts of a stamped word
pub stamped-parts : (stamp header : ℕ) → IsHeader header
    → (stamp_of (stamped stamp header) ≡ stamp) × (header_of (stamped stamp header) ≡ header)
stamped-parts stamp header small = (omega arith, omega arith)

-- a joined word has fewer than 64 bits
pub joined-small : (place header : ℕ) → place < 2 ^ 40 → header < 1024 → joined place header < 2 ^ 51
joined-small place header near small = omega arith
