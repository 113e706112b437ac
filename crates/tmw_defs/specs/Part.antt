-- Parts of a history's transactions: what is left of them when some are taken out, and some operations of others.
use Rattle.std.specs.Prelude.{◌≡◌, ◌==◌, ◌&&◌, ◌+◌, ◌%◌, ◌^◌, ◌⊎◌, ℕ, Bool, true, false, not, List, [], ◌∷◌, map, IsTrue}
use Rattle.std.specs.List.{list_all}
use Rattle.tmw_defs.specs.declared.criterion.Criterion.{Criterion}
use Rattle.tmw_defs.specs.declared.op.Op.{Op}
use Rattle.tmw_defs.specs.declared.op.Op.TheVariants.{Read, Write, Add}
use Rattle.tmw_defs.specs.Criteria.{ExplainsBy}
use Rattle.tmw_defs.specs.History.{Txn, status_of, operations}
use Rattle.tmw_defs.specs.Opaque.{State, Placed, precedes}

-- The operation was answered this value of this register.
abbrev pub is_answered : ℕ → ℕ → Op → Bool
is_answered r v (Read q w) = (q.number == r) && (w == v)
is_answered r v (Write q w) = false
is_answered r v (Add q d w) = (q.number == r) && (w == v)

-- No operation of these transactions was answered this value of this register.
abbrev pub is_unread : List Txn → ℕ → ℕ → Bool
is_unread ts r v = list_all (λ t. list_all (λ op. not (is_answered r v op)) (operations t.text)) ts

-- An operation may go if nobody reads what it leaves in its register: each read, and each write and add whose value is unread.
abbrev pub may_go : (ℕ → ℕ → Bool) → Op → Bool
may_go unread (Read r v) = true
may_go unread (Write r v) = unread r.number v
may_go unread (Add r d v) = unread r.number ((v + d) % 2 ^ 64)

-- The operations that are left of these, in order. The others may go.
abbrev pub AreOpsLeft : (ℕ → ℕ → Bool) → List Op → List Op → Type 0
AreOpsLeft unread left [] = left ≡ []
AreOpsLeft unread left (op ∷ ops) =
    (IsTrue (may_go unread op) × AreOpsLeft unread left ops)
    ⊎ ((more : List Op) × (left ≡ op ∷ more) × AreOpsLeft unread more ops)

-- The one transaction is what is left of the other: it has the same status, and lacks only operations that may go.
pub record IsLeftOf (unread : ℕ → ℕ → Bool) (whole left : Txn) : Type 0 where
  pub status : status_of left.text ≡ status_of whole.text
  pub ops : AreOpsLeft unread (operations left.text) (operations whole.text)

-- The transaction may go if each of its operations may.
abbrev pub may_go_whole : (ℕ → ℕ → Bool) → Txn → Bool
may_go_whole unread t = list_all (may_go unread) (operations t.text)

-- The members of two lists of one length are so related, one by one.
abbrev pub Each : {A B : Type 0} → (A → B → Type 0) → List A → List B → Type 0
Each Rel [] [] = Unit {0}
Each Rel [] (b ∷ bs) = ⊥
Each Rel (a ∷ as') [] = ⊥
Each Rel (a ∷ as') (b ∷ bs) = Rel a b × Each Rel as' bs

-- For each of these transactions, which of them precede it in real time.
abbrev pub precedence : List Txn → List (List Bool)
precedence ts = map (λ b. map (λ a. precedes a b) ts) ts

-- Some serial order explains the transactions from the state, by this criterion.
abbrev pub HasOrderBy : Criterion → State → List Txn → Type 0
HasOrderBy criterion s ts = (order : List Placed) × ExplainsBy criterion s ts order
