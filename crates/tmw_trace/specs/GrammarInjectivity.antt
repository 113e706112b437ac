-- The text of a header names it, and so does that of an event; no such text has a line feed.
use Rattle.tmw_trace.specs.Shared.{All-take, AllByRecursion, Event, FitsKind, IsFree, IsNaming, Registers, [], and_from, and_parts, ap, arith, eqb-true, event_text, get_or, length-drop, not, recursion_from_All, refl, same_ix, subst, sym, take-append-drop}
use Rattle.std.proofs.Common.{◌==◌, ◌∙◌}
use Rattle.std.specs.Prelude.{List, drop, length, take, true, ℕ, ◌++◌, ◌<◌, ◌^◌, ◌∷◌, ◌≡◌, ◌≤◌}
use Rattle.std.proofs.Math.Bool.{Bool-set}
use Rattle.std.proofs.Math.Bridge.{le_prop}
use Rattle.tmw_trace.specs.Version.{are_zeros, is_start}
use Rattle.tmw_trace.specs.Text.{version_digit, initial_text, header_text, trace_grammar, FitsHeader}
use Rattle.tmw_trace.specs.declared.header.Header.{Header}
use Rattle.tmw_trace.specs.declared.version.Version.{Version}
use Rattle.tmw_trace.specs.declared.version.Version.TheVariants.{One, Two}
use Rattle.tmw_trace.specs.KindTextInjectivity.{no_feed, kind_text-injective, free-kind_text}
use Rattle.tmw_trace.specs.ValueTextInjectivity.{free-values_text, values_text-injective}

-- a number from 1 to 8 is one count of registers
same_registers : (a b : Registers) → a.number ≡ b.number → a ≡ b
same_registers a b same =
    let made : (n : ℕ) → 0 < n → n ≤ 8 → Registers = λ n some most. record { number = n; some = some; most = most } in
    let P : ℕ → Type 0 = λ n. (some : 0 < n) (most : n ≤ 8) → a ≡ made n some most in
    subst P same (λ some most. ap (λ p. made a.number p a.most) (le_prop a.some some) ∙ ap (made a.number some) (le_prop a.most most))
    b.some b.most

-- the fields that are told name a header
same_header : (a b : Header) → a.version ≡ b.version → a.registers ≡ b.registers → a.initial ≡ b.initial → a ≡ b
same_header a b version registers initial =
    let made : (v : Version) (r : Registers) (i : List ℕ) → is_start v r.number i ≡ true → Header =
    λ v r i starts. record { version = v; registers = r; initial = i; starts = starts } in
    let Q : Version → Registers → List ℕ → Type 0 = λ v r i. (starts : is_start v r.number i ≡ true) → a ≡ made v r i starts in
    let base : Q a.version a.registers a.initial =
    λ starts. ap (made a.version a.registers a.initial) (Bool-set _ _ a.starts starts) in
    let one : Q b.version a.registers a.initial = subst (λ v. Q v a.registers a.initial) version base in
    let two : Q b.version b.registers a.initial = subst (λ r. Q b.version r a.initial) registers one in
    subst (λ i. Q b.version b.registers i) initial two b.starts

event_text-injective : (e f : Event) → FitsKind e.kind → FitsKind f.kind → event_text e ≡ event_text f → e ≡ f
event_text-injective e f a b is =
    let thread = same_ix e.thread f.thread (omega (arith, ap (λ xs. get_or xs 0 0) is)) in
    let kind = kind_text-injective e.kind f.kind a b (ap (λ xs. drop 2 xs) is) in
    ap (λ t. let r : Event = record { thread = t; kind = e.kind } in r) thread
    ∙ ap (λ k. let r : Event = record { thread = f.thread; kind = k } in r) kind

free-event_text : (e : Event) → FitsKind e.kind → IsFree 10 (event_text e)
free-event_text e f = and_from _ _ (no_feed e.thread.number) (free-kind_text e.kind f)

free-initial_text : (version : Version) (values : List ℕ) → AllByRecursion (λ value. value < 2 ^ 64) values
    → IsFree 10 (initial_text version values)
free-initial_text One values f = refl
free-initial_text Two values f = free-values_text values f

free-version_digit : (version : Version) → not (version_digit version == 10) ≡ true
free-version_digit One = refl
free-version_digit Two = refl

-- the values that a header tells
told-values : (header : Header) → FitsHeader header
    → AllByRecursion (λ value. value < 2 ^ 64) (take header.registers.number header.initial)
told-values header fits =
    recursion_from_All (λ value. value < 2 ^ 64) (take header.registers.number header.initial)
    (All-take (λ value. value < 2 ^ 64) header.registers.number header.initial fits.1)

free-header_text : (header : Header) → FitsHeader header → IsFree 10 (header_text header)
free-header_text header fits =
    and_from _ _ (free-version_digit header.version) (and_from _ _ (no_feed header.registers.number)
    (free-initial_text header.version (take header.registers.number header.initial) (told-values header fits)))

version_digit-injective : (v w : Version) → version_digit v ≡ version_digit w → v ≡ w
version_digit-injective One One is = refl
version_digit-injective One Two is = absurd (omega (arith, is))
version_digit-injective Two One is = absurd (omega (arith, is))
version_digit-injective Two Two is = refl

same_zeros : (xs ys : List ℕ) → are_zeros xs ≡ true → are_zeros ys ≡ true → length xs ≡ length ys → xs ≡ ys
same_zeros [] [] a b same = refl
same_zeros [] (y ∷ ys) a b same = absurd (omega (arith, same))
same_zeros (x ∷ xs) [] a b same = absurd (omega (arith, same))
same_zeros (x ∷ xs) (y ∷ ys) a b same =
    let first : x ≡ y = eqb-true x 0 (and_parts _ _ a).0 ∙ sym (eqb-true y 0 (and_parts _ _ b).0) in
    ap (λ z. z ∷ xs) first
    ∙ ap (λ zs. y ∷ zs) (same_zeros xs ys (and_parts _ _ a).1 (and_parts _ _ b).1 (omega (arith, same)))

-- the values at the start are fixed by those told, since the others are 0
same_initial : (version : Version) (n : ℕ) (xs ys : List ℕ) → is_start version n xs ≡ true → is_start version n ys ≡ true
    → length xs ≡ length ys → AllByRecursion (λ x. x < 2 ^ 64) (take n xs) → AllByRecursion (λ y. y < 2 ^ 64) (take n ys)
    → initial_text version (take n xs) ≡ initial_text version (take n ys) → xs ≡ ys
same_initial One n xs ys a b same f g is = same_zeros xs ys a b same
same_initial Two n xs ys a b same f g is =
    let front = values_text-injective (take n xs) (take n ys) f g is in
    let back = same_zeros (drop n xs) (drop n ys) a b (simp length-drop (omega (arith, same))) in
    sym (take-append-drop n xs) ∙ ap (λ zs. zs ++ drop n xs) front ∙ ap (λ zs. take n ys ++ zs) back ∙ take-append-drop n ys

-- the same of two versions and two counts that are equal
same_initial-at : (v w : Version) (n m : ℕ) (xs ys : List ℕ) → v ≡ w → n ≡ m → is_start v n xs ≡ true → is_start w m ys ≡ true
    → length xs ≡ length ys → AllByRecursion (λ x. x < 2 ^ 64) (take n xs) → AllByRecursion (λ y. y < 2 ^ 64) (take m ys)
    → initial_text v (take n xs) ≡ initial_text w (take m ys) → xs ≡ ys
same_initial-at v w n m xs ys version number a b same f g is =
    same_initial w m xs ys (rw (version, number) at a) b same (rw number at f) g (rw (version, number) at is)

header_text-injective : (a b : Header) → FitsHeader a → FitsHeader b → header_text a ≡ header_text b → a ≡ b
header_text-injective a b f g is =
    let version = version_digit-injective a.version b.version (ap (λ xs. get_or xs 14 0) is) in
    let number : a.registers.number ≡ b.registers.number = omega (arith, ap (λ xs. get_or xs 16 0) is) in
    let registers = same_registers a.registers b.registers number in
    let same : length a.initial ≡ length b.initial = f.0 ∙ sym g.0 in
    same_header a b version registers
    (same_initial-at a.version b.version a.registers.number b.registers.number a.initial b.initial version number
    a.starts b.starts same (told-values a f) (told-values b g) (ap (λ xs. drop 17 xs) is))

-- headers and events have one text each, without a line feed
pub trace_naming : IsNaming trace_grammar
trace_naming = record {
  free_header = free-header_text;
  free_item = λ version event fits. free-event_text event fits.0;
  one_header = header_text-injective;
  one_item = λ version d e fits other. event_text-injective d e fits.0 other.0;
}
