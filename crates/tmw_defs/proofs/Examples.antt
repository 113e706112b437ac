-- Worked histories, by computation: each shows what a definition says of a history whose verdict is known.
use Rattle.tmw_defs.proofs.Shared.{A, Bool, C, Event, IsFinalOpaque, IsOpaque, IsTrue, Ix, K, Kind, List, N, R, State, T, V, W, X, [], and_parts, arith, both_ways, cases_lt, false, inl, inr, is_explained, is_well_formed, length, ltb-true, nat_lt, refl, replicate, suc, take, transactions, true, zero, zeros, ℕ, ◌&&◌, ◌++◌, ◌∷◌, ◌≡◌, ◌≤◌}
use Rattle.tmw_defs.proofs.DecisionProof.{is_explained-sound, is_explained-complete}

-- the number of a thread or a register
abbrev ix : (n : ℕ) → IsTrue (nat_lt n 8) → Ix
ix n below = record { number = n; below = ltb-true n 8 below }

abbrev zero_ix : Ix
zero_ix = ix 0 refl

abbrev one_ix : Ix
one_ix = ix 1 refl

-- an event of thread 0, and one of thread 1
abbrev by_zero : Kind → Event
by_zero kind = record { thread = zero_ix; kind = kind }

abbrev by_one : Kind → Event
by_one kind = record { thread = one_ix; kind = kind }

-- the search answers that this prefix is final-state opaque, and so of each up to this length
abbrev passes : ℕ → State → List Event → Bool
passes registers start history = is_well_formed registers history && is_explained start (transactions history)

abbrev each_passes : ℕ → State → List Event → ℕ → Bool
each_passes registers start history zero = passes registers start (take 0 history)
each_passes registers start history (suc n) = each_passes registers start history n && passes registers start (take (suc n) history)

final_opaque-passes : (registers : ℕ) (start : State) (history : List Event) → IsTrue (passes registers start history)
    → IsFinalOpaque registers start history
final_opaque-passes registers start history passed =
    let (formed, explained) = and_parts (is_well_formed registers history) _ passed in
    record { formed = formed; ordered = is_explained-sound start (transactions history) explained }

opaque_upto : (registers : ℕ) (start : State) (history : List Event) (n : ℕ)
    → IsTrue (each_passes registers start history n) → (k : ℕ) → k ≤ n
    → IsFinalOpaque registers start (take k history)
opaque_upto registers start history zero passed k within =
    let first : k ≡ 0 = omega arith in
    rw first (final_opaque-passes registers start (take 0 history) passed)
opaque_upto registers start history (suc n) passed k within =
    let (earlier, here) = and_parts (each_passes registers start history n) _ passed in
    elim (cases_lt n k) [
      | inl past ↦ let last : k ≡ suc n = omega arith in rw last (final_opaque-passes registers start (take (suc n) history) here)
      | inr before ↦ opaque_upto registers start history n earlier k before
    ]

opaque-passes : (registers : ℕ) (start : State) (history : List Event)
    → IsTrue (each_passes registers start history (length history)) → IsOpaque registers start history
opaque-passes registers start history passed = opaque_upto registers start history (length history) passed

not_final_opaque : (registers : ℕ) (start : State) (history : List Event)
    → is_explained start (transactions history) ≡ false → IsFinalOpaque registers start history → ⊥
not_final_opaque registers start history unexplained o = both_ways _ unexplained (is_explained-complete start (transactions history) o.ordered)

-- The dirty read: transaction 1 reads a value whose writer is not yet commit-pending. The whole is final-state opaque, and its prefix
-- of length 4 is not.
abbrev dirty_read : List Event
dirty_read =
    by_zero (W zero_ix 1) ∷ by_zero K ∷ by_one (R zero_ix) ∷ by_one (V 1)
    ∷ by_zero T ∷ by_zero C ∷ by_one T ∷ by_one C ∷ []

dirty_read-whole : IsFinalOpaque 1 zeros dirty_read
dirty_read-whole = record {
  formed = refl;
  ordered = (
    record { txn = record { thread = 0; first = 0; last = 5; text = W zero_ix 1 ∷ K ∷ T ∷ C ∷ [] }; held = true }
        ∷ record { txn = record { thread = 1; first = 2; last = 7; text = R zero_ix ∷ V 1 ∷ T ∷ C ∷ [] }; held = true } ∷ [],
    record { each = (0, refl, (0, refl, refl)); kept = refl; completed = refl; legal = refl },
  );
}

dirty_read-prefix : IsFinalOpaque 1 zeros (take 4 dirty_read) → ⊥
dirty_read-prefix = not_final_opaque 1 zeros (take 4 dirty_read) refl

dirty_read-three : IsOpaque 1 zeros (take 3 dirty_read)
dirty_read-three = opaque-passes 1 zeros (take 3 dirty_read) refl

dirty_read-verdict : IsOpaque 1 zeros dirty_read → ⊥
dirty_read-verdict o = dirty_read-prefix (o 4 (omega arith))

-- A read from a commit-pending transaction is opaque, since a completion may hold the writer.
abbrev pending_read : List Event
pending_read = by_zero (W zero_ix 1) ∷ by_zero K ∷ by_zero T ∷ by_one (R zero_ix) ∷ by_one (V 1) ∷ []

pending_read-order : IsFinalOpaque 1 zeros pending_read
pending_read-order = record {
  formed = refl;
  ordered = (
    record { txn = record { thread = 0; first = 0; last = 2; text = W zero_ix 1 ∷ K ∷ T ∷ [] }; held = true }
        ∷ record { txn = record { thread = 1; first = 3; last = 4; text = R zero_ix ∷ V 1 ∷ [] }; held = false } ∷ [],
    record { each = (0, refl, (0, refl, refl)); kept = refl; completed = refl; legal = refl },
  );
}

pending_read-committed : IsOpaque 1 zeros (pending_read ++ by_zero C ∷ [])
pending_read-committed = opaque-passes 1 zeros (pending_read ++ by_zero C ∷ []) refl

-- Once that writer aborts, nothing explains the read.
pending_read-opaque : IsOpaque 1 zeros pending_read
pending_read-opaque = opaque-passes 1 zeros pending_read refl

pending_read-aborted : IsFinalOpaque 1 zeros (pending_read ++ by_zero A ∷ []) → ⊥
pending_read-aborted = not_final_opaque 1 zeros (pending_read ++ by_zero A ∷ []) refl

-- A completion may also leave a commit-pending writer out, and here it has to: the writer read before a value that the other
-- thread then wrote, so it stands before that thread's second transaction, which did not see the pending write.
abbrev unseen_pending : List Event
unseen_pending =
    by_zero (R zero_ix) ∷ by_zero (V 0) ∷ by_zero (W one_ix 5) ∷ by_zero K ∷ by_zero T
    ∷ by_one (W zero_ix 1) ∷ by_one K ∷ by_one T ∷ by_one C ∷ by_one (R one_ix) ∷ by_one (V 0) ∷ []

unseen_pending-opaque : IsOpaque 2 zeros unseen_pending
unseen_pending-opaque = opaque-passes 2 zeros unseen_pending refl

-- The reader that aborts still counts: what it read between the two writes of a committed transaction no order explains.
abbrev aborted_reader : List Event
aborted_reader =
    by_zero (R zero_ix) ∷ by_zero (V 0) ∷ by_one (W zero_ix 1) ∷ by_one K ∷ by_one (W one_ix 1) ∷ by_one K ∷ by_one T ∷ by_one C
    ∷ by_zero (R one_ix) ∷ by_zero (V 1) ∷ by_zero T ∷ by_zero A ∷ []

aborted_reader-before : IsOpaque 2 zeros (take 9 aborted_reader)
aborted_reader-before = opaque-passes 2 zeros (take 9 aborted_reader) refl

aborted_reader-order : IsFinalOpaque 2 zeros (take 9 aborted_reader)
aborted_reader-order = record {
  formed = refl;
  ordered = (
    record { txn = record { thread = 0; first = 0; last = 8; text = R zero_ix ∷ V 0 ∷ R one_ix ∷ [] }; held = false }
        ∷ record { txn = record { thread = 1; first = 2; last = 7; text = W zero_ix 1 ∷ K ∷ W one_ix 1 ∷ K ∷ T ∷ C ∷ [] }; held = true } ∷ [],
    record { each = (0, refl, (0, refl, refl)); kept = refl; completed = refl; legal = refl },
  );
}

aborted_reader-read : IsFinalOpaque 2 zeros (take 10 aborted_reader) → ⊥
aborted_reader-read = not_final_opaque 2 zeros (take 10 aborted_reader) refl

aborted_reader-whole : IsFinalOpaque 2 zeros aborted_reader → ⊥
aborted_reader-whole = not_final_opaque 2 zeros aborted_reader refl

-- The stale read: the writer had committed before the reader's first event, so real time puts it first.
abbrev stale_read : List Event
stale_read = by_zero (W zero_ix 1) ∷ by_zero K ∷ by_zero T ∷ by_zero C ∷ by_one (R zero_ix) ∷ by_one (V 0) ∷ []

stale_read-before : IsOpaque 1 zeros (take 5 stale_read)
stale_read-before = opaque-passes 1 zeros (take 5 stale_read) refl

stale_read-verdict : IsFinalOpaque 1 zeros stale_read → ⊥
stale_read-verdict = not_final_opaque 1 zeros stale_read refl

-- A read of 0 that overlaps the write of 1: the reader stands before the writer.
abbrev overlapping_read : List Event
overlapping_read = by_one (R zero_ix) ∷ by_zero (W zero_ix 1) ∷ by_zero K ∷ by_zero T ∷ by_zero C ∷ by_one (V 0) ∷ []

overlapping_read-order : IsFinalOpaque 1 zeros overlapping_read
overlapping_read-order = record {
  formed = refl;
  ordered = (
    record { txn = record { thread = 1; first = 0; last = 5; text = R zero_ix ∷ V 0 ∷ [] }; held = false }
        ∷ record { txn = record { thread = 0; first = 1; last = 4; text = W zero_ix 1 ∷ K ∷ T ∷ C ∷ [] }; held = true } ∷ [],
    record { each = (0, refl, (0, refl, refl)); kept = refl; completed = refl; legal = refl },
  );
}

overlapping_read-opaque : IsOpaque 1 zeros overlapping_read
overlapping_read-opaque = opaque-passes 1 zeros overlapping_read refl

-- An add from a start state: 5 and 2 ^ 64 - 1 make 4. From zeros the add was answered wrongly.
abbrev fives : State
fives = 5 ∷ replicate 7 0

abbrev wrapping_add : List Event
wrapping_add = by_zero (N zero_ix 18446744073709551615) ∷ by_zero (V 5) ∷ by_zero (R zero_ix) ∷ by_zero (V 4) ∷ []

wrapping_add-order : IsFinalOpaque 1 fives wrapping_add
wrapping_add-order = record {
  formed = refl;
  ordered = (
    record { txn = record { thread = 0; first = 0; last = 3; text = N zero_ix 18446744073709551615 ∷ V 5 ∷ R zero_ix ∷ V 4 ∷ [] }; held = false } ∷ [],
    record { each = (0, refl, refl); kept = refl; completed = refl; legal = refl },
  );
}

wrapping_add-opaque : IsOpaque 1 fives wrapping_add
wrapping_add-opaque = opaque-passes 1 fives wrapping_add refl

wrapping_add-from_zeros : IsFinalOpaque 1 zeros (take 2 wrapping_add) → ⊥
wrapping_add-from_zeros = not_final_opaque 1 zeros (take 2 wrapping_add) refl

-- An add that committed is seen by later transactions, and one that aborted is not.
abbrev added : Kind → ℕ → List Event
added end seen = by_zero (N zero_ix 3) ∷ by_zero (V 5) ∷ by_zero T ∷ by_zero end ∷ by_one (R zero_ix) ∷ by_one (V seen) ∷ []

added-committed : IsOpaque 1 fives (added C 8)
added-committed = opaque-passes 1 fives (added C 8) refl

added-aborted : IsOpaque 1 fives (added A 5)
added-aborted = opaque-passes 1 fives (added A 5) refl

added-aborted_and_seen : IsFinalOpaque 1 fives (added A 8) → ⊥
added-aborted_and_seen = not_final_opaque 1 fives (added A 8) refl

-- What is ill-formed: an answer with no call, a call while one is pending, an answer that does not fit, an abort event with no call,
-- a register that the run does not have. A commit event begins the way for the thread's next transaction.
answer_alone : is_well_formed 1 (by_zero (V 1) ∷ []) ≡ false
answer_alone = refl

second_call : is_well_formed 1 (by_zero (R zero_ix) ∷ by_zero T ∷ []) ≡ false
second_call = refl

unfit_answer : is_well_formed 1 (by_zero (R zero_ix) ∷ by_zero K ∷ []) ≡ false
unfit_answer = refl

abort_alone : is_well_formed 1 (by_zero T ∷ by_zero C ∷ by_zero A ∷ []) ≡ false
abort_alone = refl

unknown_register : is_well_formed 1 (by_zero (R one_ix) ∷ []) ≡ false
unknown_register = refl

two_in_turn : is_well_formed 1 (by_zero T ∷ by_zero C ∷ by_zero X ∷ by_one (R zero_ix) ∷ by_zero A ∷ by_one A ∷ []) ≡ true
two_in_turn = refl
