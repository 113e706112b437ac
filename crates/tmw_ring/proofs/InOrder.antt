-- Items one behind another, as writers that go to threads or become recorders, and what holds of each at its place.
use Rattle.tmw_ring.proofs.Shared.{AreNewWriters, IsNewWriter, List, RingIs, WriterIs, WriterOf, [], ap, arith, get_or, length, subst, suc, sym, zero, ℕ, ◌++◌, ◌<◌, ◌∙◌, ◌∷◌, ◌≡◌}
use Rattle.std.proofs.Math.Seq.{get_or-append_seam}

-- What holds of each item at its place still does when one more is put behind them.
pub one_more : {A : Type 0} (P : ℕ → A → Type 0) (items : List A) (item : A)
    → ((place : ℕ) (fallback : A) → place < length items → P place (get_or items place fallback)) → P (length items) item
    → (place : ℕ) (fallback : A) → place < length (items ++ item ∷ []) → P place (get_or (items ++ item ∷ []) place fallback)
one_more P [] item each last zero fallback low = last
one_more P [] item each last (suc place) fallback low = absurd (omega (arith, low))
one_more P (first ∷ items) item each last zero fallback low = each zero fallback (omega arith)
one_more P (first ∷ items) item each last (suc place) fallback low =
    one_more (λ n. P (suc n)) items item (λ n d below. each (suc n) d (omega (arith, below))) last place fallback (omega (arith, low))

-- An item has a place.
pub shorter : {A : Type 0} (before : List A) (item : A) (after : List A) → length before < length (before ++ item ∷ after)
shorter [] item after = omega arith
shorter (first ∷ before) item after = let rest = shorter before item after in omega (arith, rest)

-- What holds of all items at their places holds of the one behind these.
pub at_seam : {A : Type 0} (P : ℕ → A → Type 0) (items before after : List A) (item : A)
    → ((place : ℕ) (fallback : A) → place < length items → P place (get_or items place fallback)) → before ++ item ∷ after ≡ items
    → P (length before) item
at_seam {A = A} P items before after item each is =
    let place = length before in
    let low : place < length items = subst (λ (l : List A). place < length l) is (shorter before item after) in
    let at : get_or items place item ≡ item = ap (λ (l : List A). get_or l place item) (sym is) ∙ get_or-append_seam before item after item in
    subst (P place) at (each place item low)

-- The writer behind so many new ones is a new one of that number.
pub next_new : (ring : RingIs) (writers before after : List WriterIs) (writer : WriterIs) → AreNewWriters ring writers
    → before ++ writer ∷ after ≡ writers → WriterOf ring writer × IsNewWriter (length before) writer
next_new ring writers before after writer new is = (
  at_seam (λ place one. WriterOf ring one) writers before after writer new.of_ring is,
  at_seam IsNewWriter writers before after writer new.each is,
)
