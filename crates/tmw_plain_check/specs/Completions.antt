-- Whether what some completion of transactions holds has a legal serial order, by trying each choice of what it holds. That this
-- decides strict serializability is proved in proofs/CompletionProof.
use Rattle.std.specs.Prelude.{◌&&◌, ◌||◌, ◌++◌, Bool, true, false, List, [], ◌∷◌}
use Rattle.tmw_defs.specs.OrderDecision.{is_explained}
use Rattle.tmw_defs.specs.History.{Txn, status_of}
use Rattle.tmw_defs.specs.Opaque.{State, may_hold}

-- Whether some completion of these members, and of what it may hold of the transactions behind, has a legal serial order.
abbrev pub goes_with : State → List Txn → List Txn → Bool
goes_with s members [] = is_explained s members
goes_with s members (t ∷ ts) =
    may_hold (status_of t.text) true && goes_with s (members ++ t ∷ []) ts || may_hold (status_of t.text) false && goes_with s members ts

abbrev pub has_completion : State → List Txn → Bool
has_completion s ts = goes_with s [] ts
