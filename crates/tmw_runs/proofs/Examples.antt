-- Worked scripts: which events are runs of them, which begin one and which do not, and which answers stand.
use Rattle.tmw_runs.proofs.Shared.{A, AllStand, Answer, C, Call, IsBeginning, IsTrue, IsWholeRun, K, Kind, List, R, T, V, W, X, [], ap, are_transactions, arith, false, inl, inr, ltb-true, refl, true, ◌++◌, ◌∙◌, ◌∷◌, ◌≡◌}
use Rattle.tmw_tm.specs.Answers.Answer.{Abort, Done, Value}
use Rattle.tmw_tm.specs.Answers.Call.{Begin, Commit, Read}
use Rattle.tmw_events.specs.declared.ix.Ix.{Ix}
use Rattle.tmw_runs.proofs.TurnsOfRuns.{beginning_turns}
use Rattle.tmw_runs.proofs.WholeRuns.{whole_ends}

-- the first register
abbrev zero_ix : Ix
zero_ix = record { number = 0; below = ltb-true 0 8 refl }

-- A transaction that reads and asks to commit.
abbrev one_read : List (List Kind)
one_read = (R zero_ix ∷ T ∷ []) ∷ []

one_read-script : IsTrue (are_transactions 1 one_read)
one_read-script = refl

-- it reads 5 and commits
abbrev five_read : List Kind
five_read = R zero_ix ∷ V 5 ∷ T ∷ C ∷ []

five_read-whole : IsWholeRun one_read five_read
five_read-whole = (five_read, [], refl, (V 5, T ∷ C ∷ [], refl, refl, (C, [], refl, refl, refl)), refl)

-- its read is answered by an abort event, and nothing follows
abbrev read_aborted : List Kind
read_aborted = R zero_ix ∷ A ∷ []

read_aborted-whole : IsWholeRun one_read read_aborted
read_aborted-whole = (read_aborted, [], refl, (A, [], refl, refl, refl), refl)

read_aborted-over : (kind : Kind) (more : List Kind) → IsBeginning one_read (read_aborted ++ kind ∷ more) → ⊥
read_aborted-over kind more begins =
    absurd (let over : kind ∷ more ≡ [] = whole_ends one_read read_aborted (kind ∷ more) read_aborted-whole begins in cc)

-- before its request it is no whole run, but begins one
read_only-begins : IsBeginning one_read (R zero_ix ∷ V 5 ∷ [])
read_only-begins = (T ∷ C ∷ [], five_read-whole)

read_only-not_whole : IsWholeRun one_read (R zero_ix ∷ V 5 ∷ []) → ⊥
read_only-not_whole whole = absurd (let over : T ∷ C ∷ [] ≡ [] = whole_ends one_read _ (T ∷ C ∷ []) whole ([], five_read-whole) in cc)

-- a read is not answered as a write is, and the request does not come before the read
misanswered : IsBeginning one_read (R zero_ix ∷ K ∷ []) → ⊥
misanswered begins = absurd (let fits : false ≡ true = beginning_turns 1 one_read (R zero_ix ∷ K ∷ []) refl begins in cc)

read_left_out : IsBeginning one_read (T ∷ []) → ⊥
read_left_out (more, run) =
    let (text, rest, is, whole, none_left) = run in
    let (answer, tail, text_is, fits, on) = whole in
    absurd (let front : T ∷ more ≡ R zero_ix ∷ answer ∷ tail ++ rest = is ∙ ap (λ t. t ++ rest) text_is in cc)

-- Two transactions: after the first has aborted the second follows, from its first call.
abbrev read_then_write : List (List Kind)
read_then_write = (R zero_ix ∷ T ∷ []) ∷ (W zero_ix 3 ∷ T ∷ []) ∷ []

abbrev aborted_then_written : List Kind
aborted_then_written = R zero_ix ∷ A ∷ W zero_ix 3 ∷ K ∷ T ∷ C ∷ []

aborted_then_written-whole : IsWholeRun read_then_write aborted_then_written
aborted_then_written-whole = (
  read_aborted,
  W zero_ix 3 ∷ K ∷ T ∷ C ∷ [],
  refl,
  (A, [], refl, refl, refl),
  (W zero_ix 3 ∷ K ∷ T ∷ C ∷ [], [], refl, (K, T ∷ C ∷ [], refl, refl, (C, [], refl, refl, refl)), refl),
)

-- A memory that gives 7 to each read, carries each commit out, and may abort at a begin or not.
abbrev gives_seven : Call → Answer → Type 0
gives_seven (Read r) (Value v) = v ≡ 7
gives_seven Commit Done = Unit {0}
gives_seven Begin Done = Unit {0}
gives_seven Begin Abort = Unit {0}
gives_seven _ _ = ⊥

-- A memory that gives any value to each read, and lets no transaction begin.
abbrev never_begins : Call → Answer → Type 0
never_begins (Read r) (Value v) = Unit {0}
never_begins Begin Abort = Unit {0}
never_begins _ _ = ⊥

-- a read stands with that value alone
seven_read-stands : AllStand gives_seven true (R zero_ix ∷ V 7 ∷ T ∷ C ∷ [])
seven_read-stands = (inl ((λ first. tt), refl), (inl ((λ first. tt), tt), tt))

five_read-falls : AllStand gives_seven true five_read → ⊥
five_read-falls (stands, rest) =
    elim stands [
      | inl given ↦ absurd (let seven : 5 ≡ 7 = given.1 in omega arith)
      | inr late ↦ absurd (let ended : V 5 ≡ A = late.1 in cc)
    ]

-- an abort event stands after the first call of a transaction, and after an abort request anywhere, but after no later call
begin_aborted-stands : AllStand gives_seven true (R zero_ix ∷ A ∷ R zero_ix ∷ V 7 ∷ X ∷ A ∷ [])
begin_aborted-stands = (inr (refl, refl, tt), (inl ((λ first. tt), refl), (inl ((λ first. tt), tt), tt)))

later_aborted-falls : AllStand gives_seven true (R zero_ix ∷ V 7 ∷ R zero_ix ∷ A ∷ []) → ⊥
later_aborted-falls (first, (stands, rest)) =
    elim stands [ inl given ↦ given.1 | inr late ↦ absurd (let first_call : false ≡ true = late.0 in cc) ]

-- no answer but an abort event stands after a first call where no transaction may begin
unbegun_read-falls : AllStand never_begins true (R zero_ix ∷ V 7 ∷ []) → ⊥
unbegun_read-falls (stands, rest) =
    elim stands [ inl given ↦ given.0 refl | inr late ↦ absurd (let ended : V 7 ≡ A = late.1 in cc) ]
