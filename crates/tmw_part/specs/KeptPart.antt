-- What is kept of a window, a mark for each event, as a part of the window's transactions that agrees with them.
use Rattle.tmw_part.specs.Shared.{Call, Each, Event, IsLeftOf, Kind, Op, Txn, W, calls, is_among, is_unread, kept_of, list_all, may_go_whole, operations, owner_in, places_of, precedence, range_with_len, transactions, txn_at}
use Rattle.tmw_cuts.specs.RegisterUse.{left_by}
use Rattle.std.specs.Prelude.{Bool, IsTrue, List, None, Option, Some, [], false, if◌then◌else◌, map, not, slice_index_or, true, zip, ℕ, ◌&&◌, ◌+◌, ◌==◌, ◌||◌, ◌∷◌, ◌≡◌}
use Rattle.tmw_part.specs.Marks.{keeps_last}
use Rattle.tmw_kept.specs.UnlikeAnswers.{first_unlike, needed_of}

-- These numbers without the first that is this one.
abbrev pub without_number : ℕ → List ℕ → List ℕ
without_number n [] = []
without_number n (p ∷ places) = if p == n then places else p ∷ without_number n places

-- Each of these, of which the first has this number, has one of the places, or may go; and each place is one of theirs.
abbrev pub are_placed : (ℕ → ℕ → Bool) → ℕ → List ℕ → List Txn → Bool
are_placed unread n [] [] = true
are_placed unread n (p ∷ places) [] = false
are_placed unread n places (t ∷ ts) =
    if is_among n places then are_placed unread (n + 1) (without_number n places) ts
    else may_go_whole unread t && are_placed unread (n + 1) places ts

-- What is left has none, or what the whole has.
abbrev pub is_same_or_none : Option ℕ → Option ℕ → Bool
is_same_or_none None whole = true
is_same_or_none (Some v) None = false
is_same_or_none (Some v) (Some w) = v == w

abbrev pub is_same_pair_or_none : Option (ℕ × ℕ) → Option (ℕ × ℕ) → Bool
is_same_pair_or_none None whole = true
is_same_pair_or_none (Some p) None = false
is_same_pair_or_none (Some p) (Some q) = (p.0 == q.0) && (p.1 == q.1)

-- In the register, the operations that are left need nothing before them or what the whole needs, and leave nothing or what the whole
-- leaves there; and they were given no answer of it unlike the operations before it, or the first has the values of the first such
-- answer of the whole. (Calls without an answer don't count.)
abbrev pub agrees : List Op → List Op → ℕ → Bool
agrees left whole r =
    is_same_or_none (needed_of r left) (needed_of r whole)
    && (is_same_or_none (left_by r None left) (left_by r None whole)
    && is_same_pair_or_none (first_unlike r None left) (first_unlike r None whole))

abbrev pub agree : List Op → List Op → Bool
agree left whole = list_all (agrees left whole) (range_with_len 0 8)

-- The one transaction is what is left of the other, and agrees with it on each register.
pub record IsAlike (unread : ℕ → ℕ → Bool) (whole kept : Txn) : Type 0 where
  pub left : IsLeftOf unread whole kept
  pub agrees : IsTrue (agree (operations kept.text) (operations whole.text))

-- The transactions of what is kept; for each the number of that one of the window in which its own events lie, or how many there are; and
-- that one, or one without events.
abbrev pub part_of : List Bool → List Event → List Txn
part_of marks window = transactions (kept_of marks window)

abbrev pub owners : List Bool → List Event → List ℕ
owners marks window = map (owner_in (places_of marks) (transactions window)) (part_of marks window)

abbrev pub staying : List Bool → List Event → List Txn
staying marks window = map (txn_at (transactions window)) (owners marks window)

abbrev pub is_same : Bool → Bool → Bool
is_same true b = b
is_same false b = not b

-- The call is kept with its answer, or neither is.
abbrev pub is_whole : List Bool → Call → Bool
is_whole marks call = is_same (slice_index_or marks call.piece.from true) (slice_index_or marks call.piece.upto true)

-- An event of this kind may be missing: it calls no write, answered or not, of a value that the part reads.
abbrev pub may_miss : List Txn → Kind → Bool
may_miss part (W r v) = is_unread part r.number v
may_miss part _ = true

-- So may each that is not kept.
abbrev pub may_miss_all : List Txn → List Bool → List Event → Bool
may_miss_all part marks window = list_all (λ pair. pair.0 || may_miss part pair.1.kind) (zip marks window)

-- What is kept has the last event, whole calls and each write whose value it reads. It is a part of the window, each transaction of it
-- what is left of the one in which its own events lie, and agrees with that.
pub record IsKept (marks : List Bool) (window : List Event) : Type 0 where
  pub last : IsTrue (keeps_last marks)
  pub calls : IsTrue (list_all (is_whole marks) (calls window))
  pub writes : IsTrue (may_miss_all (part_of marks window) marks window)
  pub stay : IsTrue (are_placed (is_unread (part_of marks window)) 0 (owners marks window) (transactions window))
  pub left : Each (IsAlike (is_unread (part_of marks window))) (staying marks window) (part_of marks window)
  pub order : precedence (part_of marks window) ≡ precedence (staying marks window)
