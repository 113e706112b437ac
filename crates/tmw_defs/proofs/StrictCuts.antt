-- Over a cut, serial orders of what a completion of a history holds are those of what went before followed by those of what follows.
use Rattle.tmw_defs.proofs.Shared.{Event, Explains, IsTrue, LeadsBy, List, State, Strict, Txn, and_from, ap, arith, end_state, is_cut, length, list_all-append, transactions, ◌++◌, ◌∙◌}
use Rattle.tmw_defs.proofs.Along.{Pairs, Keeps, explains-along}
use Rattle.tmw_defs.proofs.Apart.{explains_split}
use Rattle.tmw_defs.proofs.Before.{is_before, explains-append, end_state-append}
use Rattle.tmw_defs.proofs.CutsProof.{keeps-later, keeps-earlier, pairs-flip, behind, behind-later, comes_apart, transactions-cut}
use Rattle.tmw_defs.proofs.Completions.{held-append, held_split, held-along, is_before-held, all_held-along}
use Rattle.tmw_defs.proofs.Places.{IsLater}

pub strict_leads-append : (s m r : State) (ts us : List Txn) → IsTrue (is_before ts us) → LeadsBy Strict s ts m → LeadsBy Strict m us r
    → LeadsBy Strict s (ts ++ us) r
strict_leads-append s m r ts us before (one, a, is_m) (two, b, is_r) = (
  one ++ two,
  record {
    members = a.members ++ b.members;
    are = held-append ts us a.members b.members a.are b.are;
    explains = explains-append s a.members b.members one two (is_before-held ts us a.members b.members a.are b.are before)
        a.explains (rw is_m b.explains);
    held = rw (list_all-append (λ p. p.held) one two) (and_from _ _ a.held b.held);
  },
  end_state-append s one two ∙ ap (λ x. end_state x two) is_m ∙ is_r,
)

pub strict_leads_split : (s r : State) (ts us : List Txn) → IsTrue (is_before ts us) → LeadsBy Strict s (ts ++ us) r
    → (m : State) × LeadsBy Strict s ts m × LeadsBy Strict m us r
strict_leads_split s r ts us before (order, a, is_r) =
    let parts = held_split ts us a.members a.are in
    let apart = is_before-held ts us parts.one parts.two parts.first parts.others before in
    let explains : Explains s (parts.one ++ parts.two) order = rw parts.joined at a.explains in
    let split = explains_split s parts.one parts.two order apart explains in
    grind (arith, list_all-append, end_state-append)

-- where the ones lead, others that are pairwise like them do
pub strict_leads-along : (Rel : Txn → Txn → Type 0) → Keeps Rel → (ts us : List Txn) → Pairs Rel ts us → (s r : State)
    → LeadsBy Strict s ts r → LeadsBy Strict s us r
strict_leads-along Rel keeps ts us pairs s r (order, a, is_r) =
    let held = held-along Rel keeps ts us a.members pairs a.are in
    let along = explains-along Rel keeps a.members held.other held.pairs s order a.explains in
    grind (arith, all_held-along)

pub strict_leads_over : (s r : State) (past rest : List Event) → IsTrue (is_cut past) → LeadsBy Strict s (transactions (past ++ rest)) r
    → (m : State) × LeadsBy Strict s (transactions past) m × LeadsBy Strict m (transactions rest) r
strict_leads_over s r past rest cut leads =
    let split = strict_leads_split s r (transactions past) (behind past rest) (comes_apart past rest cut)
    (rw (transactions-cut past rest cut) at leads) in (
      split.0,
      split.1,
      strict_leads-along (IsLater (length past)) (keeps-later (length past)) (behind past rest) (transactions rest)
          (behind-later past rest) split.0 r split.2,
    )

pub strict_leads-over : (s m r : State) (past rest : List Event) → IsTrue (is_cut past) → LeadsBy Strict s (transactions past) m
    → LeadsBy Strict m (transactions rest) r → LeadsBy Strict s (transactions (past ++ rest)) r
strict_leads-over s m r past rest cut one two =
    rw (transactions-cut past rest cut)
    (strict_leads-append s m r (transactions past) (behind past rest) (comes_apart past rest cut) one
    (strict_leads-along (λ t u. IsLater (length past) u t) (keeps-earlier (length past)) (transactions rest) (behind past rest)
    (pairs-flip (IsLater (length past)) (behind past rest) (transactions rest) (behind-later past rest)) m r two))
