-- The words of an event tell that event.
use Rattle.tmw_events.proofs.Shared.{A, C, Event, Ix, K, Kind, N, R, T, V, W, X, ap, arith, get_or, kind_code, kind_register, kind_value, pack, packed_header, refl, sym, ℕ, ◌%◌, ◌*◌, ◌+◌, ◌/◌, ◌<◌, ◌∙◌, ◌≡◌}
use Rattle.tmw_events.proofs.Same.{same_ix}
use Rattle.tmw_events.specs.EventOfWords.{unpacked, ix_of, kinds}

ix_of-number : (ix : Ix) (n : ℕ) → n % 8 ≡ ix.number → ix_of n ≡ ix
ix_of-number ix n e = same_ix (ix_of n) ix e

thread_of : (code thread register : ℕ) → thread < 8 → register < 8 → (code * 64 + thread * 8 + register) / 8 % 8 ≡ thread
thread_of code thread register t r = omega (arith, t, r)

register_of : (code thread register : ℕ) → register < 8 → (code * 64 + thread * 8 + register) % 8 ≡ register
register_of code thread register r = omega (arith, r)

code_of : (code thread register : ℕ) → thread < 8 → register < 8 → (code * 64 + thread * 8 + register) / 64 ≡ code
code_of code thread register t r = omega (arith, t, r)

-- the event of this code whose kind stands in the list at it
told : (kind : Kind) (thread register : Ix) (value : ℕ)
    → get_or (kinds register value) (kind_code kind) K ≡ kind → kind_register kind ≡ register.number
    → unpacked (kind_code kind * 64 + thread.number * 8 + register.number) value ≡ record { thread = thread; kind = kind }
told kind thread register value listed named =
    let code = kind_code kind in
    let header = code * 64 + thread.number * 8 + register.number in
    let t : ix_of (header / 8) ≡ thread = ix_of-number thread (header / 8) (thread_of code thread.number register.number thread.below register.below) in
    let r : ix_of header ≡ register = ix_of-number register header (register_of code thread.number register.number register.below) in
    let c : header / 64 ≡ code = code_of code thread.number register.number thread.below register.below in
    let made : Ix → Ix → ℕ → Event = λ a b k. record { thread = a; kind = get_or (kinds b value) k K } in
    ap (λ a. made a (ix_of header) (header / 64)) t ∙ ap (λ b. made thread b (header / 64)) r ∙ ap (made thread register) c
    ∙ ap (λ k. record { thread = thread; kind = k }) listed

abbrev zero_ix : Ix
zero_ix = ix_of 0

of_kind : (thread : Ix) (kind : Kind) → unpacked (packed_header (record { thread = thread; kind = kind })) (kind_value kind) ≡ record { thread = thread; kind = kind }
of_kind thread (R register) = told (R register) thread register 0 refl refl
of_kind thread (V value) = told (V value) thread zero_ix value refl refl
of_kind thread (W register value) = told (W register value) thread register value refl refl
of_kind thread K = told K thread zero_ix 0 refl refl
of_kind thread T = told T thread zero_ix 0 refl refl
of_kind thread C = told C thread zero_ix 0 refl refl
of_kind thread X = told X thread zero_ix 0 refl refl
of_kind thread A = told A thread zero_ix 0 refl refl
of_kind thread (N register value) = told (N register value) thread register value refl refl

pub unpacked-pack : (event : Event) → unpacked (packed_header event) (kind_value event.kind) ≡ event
unpacked-pack event = of_kind event.thread event.kind

-- So do two words that are an event's.
pub unpacked-words : (header value : ℕ) (event : Event) → pack event ≡ (header, value) → unpacked header value ≡ event
unpacked-words header value event words =
    let tell : ℕ × ℕ → Event = λ w. unpacked w.0 w.1 in ap tell (sym words) ∙ unpacked-pack event

-- the two words of an event
pub pack-words : (header value : ℕ) (event : Event) → header ≡ packed_header event → value ≡ kind_value event.kind
    → pack event ≡ (header, value)
pack-words header value event is_header is_value =
    let both : ℕ → ℕ → ℕ × ℕ = λ h v. (h, v) in
    ap (λ h. both h (kind_value event.kind)) (sym is_header) ∙ ap (both header) (sym is_value)
