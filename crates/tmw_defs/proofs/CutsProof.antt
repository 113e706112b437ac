-- Over a cut, serial orders of a history are those of what went before followed by those of what follows.
use Rattle.tmw_defs.proofs.Shared.{Event, IsTrue, Leads, List, State, Txn, [], ap, append-nil, arith, is_cut, length, sym, transactions, transactions_from, ℕ, ◌++◌, ◌+◌, ◌∙◌, ◌∷◌, ◌≡◌}
use Rattle.tmw_defs.proofs.Along.{Pairs, Keeps, leads-along}
use Rattle.tmw_defs.proofs.Apart.{leads_split}
use Rattle.tmw_defs.proofs.Before.{is_before, leads-append}
use Rattle.tmw_defs.proofs.Places.{IsLater, is_before-lies, later-transactions, lies-transactions, transactions_from-append, transactions_from-ended}

pub keeps-later : (n : ℕ) → Keeps (IsLater n)
keeps-later n = grind arith

pub keeps-earlier : (n : ℕ) → Keeps (λ t u. IsLater n u t)
keeps-earlier n = grind arith

pub pairs-flip : (Rel : Txn → Txn → Type 0) (ts us : List Txn) → Pairs Rel ts us → Pairs (λ u t. Rel t u) us ts
pairs-flip Rel [] [] pairs = tt
pairs-flip Rel [] (u ∷ us) pairs = absurd pairs
pairs-flip Rel (t ∷ ts) [] pairs = absurd pairs
pairs-flip Rel (t ∷ ts) (u ∷ us) pairs = (pairs.0, pairs-flip Rel ts us pairs.1)

-- the transactions behind the cut, in the whole and on their own
pub behind : List Event → List Event → List Txn
behind past rest = transactions_from (length past) [] rest

pub behind-later : (past rest : List Event) → Pairs (IsLater (length past)) (behind past rest) (transactions rest)
unfolding behind
behind-later past rest =
    let same : 0 + length past ≡ length past = omega arith in
    rw same at (later-transactions (length past) 0 [] [] rest tt)

pub transactions-cut : (past rest : List Event) → IsTrue (is_cut past)
    → transactions (past ++ rest) ≡ transactions past ++ behind past rest
unfolding behind
transactions-cut past rest cut =
    let same : 0 + length past ≡ length past = omega arith in
    transactions_from-append 0 [] past rest ∙ ap (λ n. transactions_from n (transactions past) rest) same
    ∙ ap (λ ts. transactions_from (length past) ts rest) (sym (append-nil (transactions past)))
    ∙ transactions_from-ended (length past) (transactions past) [] rest cut

pub comes_apart : (past rest : List Event) → IsTrue (is_cut past) → IsTrue (is_before (transactions past) (behind past rest))
unfolding behind
comes_apart past rest cut =
    let same : 0 + length past ≡ length past = omega arith in
    grind (arith, lies-transactions, is_before-lies)

-- over a cut, orders of the whole are orders of the past followed by orders of the rest
pub leads_over : (s r : State) (past rest : List Event) → IsTrue (is_cut past) → Leads s (transactions (past ++ rest)) r
    → (m : State) × Leads s (transactions past) m × Leads m (transactions rest) r
leads_over s r past rest cut leads =
    let split = leads_split s r (transactions past) (behind past rest) (comes_apart past rest cut)
    (rw (transactions-cut past rest cut) at leads) in (
      split.0,
      split.1,
      leads-along (IsLater (length past)) (keeps-later (length past)) (behind past rest) (transactions rest)
          (behind-later past rest) split.0 r split.2,
    )

pub leads-over : (s m r : State) (past rest : List Event) → IsTrue (is_cut past) → Leads s (transactions past) m
    → Leads m (transactions rest) r → Leads s (transactions (past ++ rest)) r
leads-over s m r past rest cut one two =
    rw (transactions-cut past rest cut)
    (leads-append s m r (transactions past) (behind past rest) (comes_apart past rest cut) one
    (leads-along (λ t u. IsLater (length past) u t) (keeps-earlier (length past)) (transactions rest) (behind past rest)
    (pairs-flip (IsLater (length past)) (behind past rest) (transactions rest) (behind-later past rest)) m r two))
