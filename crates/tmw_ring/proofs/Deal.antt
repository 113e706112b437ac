-- The parts of a new ring are dealt to its writers, one after another.
use Rattle.tmw_ring.proofs.Shared.{AreNewWriters, IsIdleWriter, IsNewWriter, IsWriter, Ix, List, Me, Parts, Reads, RingIs, RingSize, TableId, WriterIs, WriterOf, WriterPart, Writes, [], ap, arith, get_or, inl, inr, ix_of, length, new_reader, new_writer, new_writers, refl, second_alone, subst, suc, sym, without_second, writer_in, writer_is, zero, ℕ, ◌++◌, ◌+◌, ◌-◌, ◌<◌, ◌∷◌, ◌≡◌, ◌⊎◌}
use Rattle.tmw_events.proofs.Same.{same_ix}

-- the parts that are left when the writers below this number have theirs
abbrev pub left_parts : RingSize → ℕ → Parts
left_parts size number = Reads (new_reader size) ∷ new_writers size number (size.writers - number)

next_writers : (size : RingSize) (number : ℕ) → number < size.writers
    → left_parts size number
    ≡ Reads (new_reader size) ∷ Writes (new_writer size number) ∷ new_writers size (number + 1) (size.writers - (number + 1))
next_writers size number within = grind arith

module _ {S : Type 0} where
  -- The second of these parts is the next writer's.
  pub dealt : (size : RingSize) (number : ℕ) (me own : Me S Parts) → number < size.writers → me ≡ (left_parts size number, [])
      → own ≡ (second_alone me.0, []) → IsWriter (new_writer size number) own
  dealt size number me own within had is = grind arith

  -- The others are left.
  pub left_over : (size : RingSize) (number : ℕ) (me kept : Me S Parts) → number < size.writers → me ≡ (left_parts size number, [])
      → kept ≡ (without_second me.0, me.1) → kept ≡ (left_parts size (number + 1), [])
  left_over size number me kept within had is = grind (arith, without_second, next_writers)

  -- The new writer's seat is that of an idle writer.
  pub new_writer-idle : (size : RingSize) (number : Ix) (own : Me S Parts) → IsWriter (new_writer size number.number) own
      → IsIdleWriter number own
  new_writer-idle size number own is = grind (arith, same_ix, ix_of)

get_or_push : {A : Type 0} (items : List A) (item fallback : A) (place : ℕ) → place < length (items ++ item ∷ [])
    → ((place < length items) × (get_or (items ++ item ∷ []) place fallback ≡ get_or items place fallback))
    ⊎ ((place ≡ length items) × (get_or (items ++ item ∷ []) place fallback ≡ item))
get_or_push [] item fallback zero within = inr (refl, refl)
get_or_push [] item fallback (suc place) within = absurd (omega arith)
get_or_push (first ∷ items) item fallback zero within = inl (omega arith, refl)
get_or_push (first ∷ items) item fallback (suc place) within =
    grind (arith, (get_or_push items item fallback place (omega arith)))

-- One more new writer.
new_writers-push : (ring : RingIs) (writers : List WriterIs) (writer : WriterIs) (number : ℕ) → AreNewWriters ring writers
    → length writers ≡ number → WriterOf ring writer → IsNewWriter number writer → AreNewWriters ring (writers ++ writer ∷ [])
new_writers-push ring writers writer number are count of new = grind (arith, get_or_push)

-- What callers see of a new writer.
new_writer_is : (table : TableId) (size : RingSize) (number : ℕ) → number < 8
    → IsNewWriter number (writer_is table (new_writer size number))
new_writer_is table size number within = record { numbered = omega (arith, within); made = refl; seen = refl; run = refl }

module _ {S : Type 0} where
  -- One more writer, by whose seat it is new.
  pub new_writers-dealt : (ring : RingIs) (writers : List WriterIs) (number : ℕ) (table : TableId) (own : Me S Parts)
      → AreNewWriters ring writers → length writers ≡ number → number < 8 → table ≡ ring.table → IsWriter (new_writer ring.size number) own
      → AreNewWriters ring (writers ++ writer_is table (writer_in own.0) ∷ [])
  new_writers-dealt ring writers number table own are count small same is =
      let part : writer_in own.0 ≡ new_writer ring.size number = ap (λ (m : Me S Parts). writer_in m.0) is in
      new_writers-push ring writers (writer_is table (writer_in own.0)) number are count
      (same, ap (λ (w : WriterPart). w.size) part)
      (subst (λ (w : WriterPart). IsNewWriter number (writer_is table w)) (sym part) (new_writer_is table ring.size number small))
