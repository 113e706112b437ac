-- Quiet events and opacity: an order of a history's transactions is still one, with the same states, after a quiet event.
use Rattle.tmw_defs.proofs.Shared.{A, Add, AllByRecursion, Bool, C, Event, IsFinalOpaque, IsTrue, Ix, Kind, Leads, List, Op, Pending, Placed, Read, Some, State, Txn, Write, [], add_event, and_from, and_parts, ap, arith, awaits_commit, cases_Bool, end_state, false, inl, inr, is_ended, is_pending, is_quiet, is_text, is_well_formed, length, list_all, list_all-append, may_be, may_hold, precedes, reads_hold, refl, slice_index, slice_set, status_after, status_of, transactions, true, ℕ, ◌%◌, ◌&&◌, ◌++◌, ◌+◌, ◌==◌, ◌^◌, ◌||◌, ◌∙◌, ◌∷◌, ◌≡◌, ◌≤◌, ◌⊎◌}
use Rattle.tmw_defs.proofs.Along.{Pairs, Eases, Keeps, leads-along}
use Rattle.tmw_defs.proofs.Before.{none_precedes, places-append, keeps-append, is_legal-append, end_state-append}
use Rattle.tmw_defs.proofs.OneMore.{joins, begun, longer, add_event_past, transactions-push}
use Rattle.tmw_defs.proofs.Places.{Lies, lies-transactions}
use Rattle.tmw_defs.proofs.QuietTexts.{tells_no_value, AddsAWrite, operations-push, status_of-push, pending-answered}
use Rattle.tmw_defs.proofs.Removals.{list_all-places}

-- a write at the end is read by nothing
pub reads_hold-write : (s : State) (ops : List Op) (r : Ix) (v : ℕ) → reads_hold s (ops ++ Write r v ∷ []) ≡ reads_hold s ops
reads_hold-write s [] r v = refl
reads_hold-write s (Read q w ∷ ops) r v = ap (λ b. (slice_index s q.number == w) && b) (reads_hold-write s ops r v)
reads_hold-write s (Write q w ∷ ops) r v = reads_hold-write (slice_set s q.number w) ops r v
reads_hold-write s (Add q d w ∷ ops) r v =
    ap (λ b. (slice_index s q.number == w) && b) (reads_hold-write (slice_set s q.number ((w + d) % 2 ^ 64)) ops r v)

reads_hold-adds : (s : State) (old new : List Op) → AddsAWrite old new → IsTrue (reads_hold s old) → IsTrue (reads_hold s new)
reads_hold-adds s old new adds reads = grind (arith, reads_hold-write)

-- what a quiet event is not
quiet-kind : (ts : List Txn) (thread : ℕ) (k : Kind) → IsTrue (is_quiet ts thread k)
    → IsTrue (tells_no_value k) × (k ≡ C → ⊥) × (k ≡ A → awaits_commit ts thread ≡ false)
quiet-kind ts thread k quiet = grind arith

-- a transaction may be left out unless it has committed
pub left_out : (k : Kind) → (k ≡ C → ⊥) → may_hold (status_after (Some k)) false ≡ true
left_out k other = grind arith

-- a live transaction and the same with a quiet event more are alike
eases-longer : (registers place : ℕ) (e : Event) (t : Txn) → is_ended t.text ≡ false → (status_of t.text ≡ Pending → ⊥)
    → IsTrue (tells_no_value e.kind) → (e.kind ≡ C → ⊥) → IsTrue (is_text registers (t.text ++ e.kind ∷ []))
    → Eases t (longer place e t)
eases-longer registers place e t unended pending value commit formed =
    grind (arith, reads_hold-adds, operations-push, status_of-push)

-- the one is the other, or the other with an event more at this place
record IsLonger (n : ℕ) (t u : Txn) : Type 0 where
  first : t.first ≡ u.first
  within : u.first ≤ n
  eases : Eases t u
  ends : IsTrue (is_ended u.text) → ((is_ended t.text ≡ true) × (t.last ≡ u.last)) ⊎ (n ≤ u.last)

longer-same : (n : ℕ) (t : Txn) → Lies 0 n t → IsLonger n t t
longer-same n t l = grind arith

pairs-same : (n : ℕ) (ts : List Txn) → AllByRecursion (Lies 0 n) ts → Pairs (IsLonger n) ts ts
pairs-same n [] all = tt
pairs-same n (t ∷ ts) all = (longer-same n t all.0, pairs-same n ts all.1)

precedes-longer : (n : ℕ) (t u a b : Txn) → IsLonger n t u → IsLonger n a b → IsTrue (precedes u b) → IsTrue (precedes t a)
precedes-longer n t u a b l m h = grind arith

keeps-longer : (n : ℕ) → Keeps (IsLonger n)
keeps-longer n = record { turn = λ t u l. l.eases; order = λ t u a b l m. precedes-longer n t u a b l m }

-- what an event does to the transactions: one is longer, or one has begun
record Grows (registers n : ℕ) (e : Event) (ts : List Txn) : Type 0 where
  all : AllByRecursion (Lies 0 n) ts
  formed : IsTrue (list_all (λ t. is_text registers t.text) (add_event n e ts))
  aborts : e.kind ≡ A → awaits_commit ts e.thread.number ≡ false

pub or_none : (a b : Bool) → (a || b) ≡ false → (a ≡ false) × (b ≡ false)
or_none a b h = grind arith

-- the transaction that the event joins is not commit-pending
pub joined_live : (registers n : ℕ) (e : Event) (t : Txn) (ts : List Txn) → joins e t ≡ true → (e.kind ≡ C → ⊥)
    → (e.kind ≡ A → awaits_commit (t ∷ ts) e.thread.number ≡ false) → IsTrue (is_text registers (t.text ++ e.kind ∷ []))
    → status_of t.text ≡ Pending → ⊥
joined_live registers n e t ts here commit aborts formed pending = grind (arith, pending-answered)

grown : (registers n : ℕ) (e : Event) (ts : List Txn) → Grows registers n e ts → IsTrue (tells_no_value e.kind) → (e.kind ≡ C → ⊥)
    → Pairs (IsLonger n) ts (add_event n e ts) ⊎ (add_event n e ts ≡ ts ++ begun n e ∷ [])
grown registers n e [] g value commit = inr refl
grown registers n e (t ∷ ts) g value commit =
    elim (cases_Bool (joins e t)) [
      | inl here ↦ grind (arith, eases-longer, joined_live, pairs-same)
      | inr past ↦
          let list = add_event_past n e t ts past in
          let rest : Grows registers n e ts =
          grind
          (arith, and_parts, is_text, or_none, is_pending, status_of) in grind (arith, longer-same, (grown registers n e ts rest value commit))
    ]

-- a transaction that has begun goes to the end of an order, and is left out of the completion
none_before : (n : ℕ) (e : Event) (ts : List Txn) → AllByRecursion (Lies 0 n) ts
    → IsTrue (list_all (λ t. none_precedes (record { txn = begun n e; held = false } ∷ []) t) ts)
none_before n e [] all = refl
none_before n e (t ∷ ts) all = grind (arith, (none_before n e ts all.1))

leads-begun : (n : ℕ) (e : Event) (ts : List Txn) (s r : State) → AllByRecursion (Lies 0 n) ts → (e.kind ≡ C → ⊥)
    → Leads s ts r → Leads s (ts ++ begun n e ∷ []) r
leads-begun n e ts s r all commit (order, a, is_r) =
    let new : Placed = record { txn = begun n e; held = false } in (
      order ++ new ∷ [],
      record {
        each = places-append ts (begun n e ∷ []) order (new ∷ []) a.each (0, refl, refl);
        kept = keeps-append order (new ∷ []) a.kept refl
            (rw (list_all-places (λ t. none_precedes (new ∷ []) t) ts order a.each) (none_before n e ts all));
        completed = rw (list_all-append may_be order (new ∷ []))
            (and_from _ _ a.completed (and_from _ true (left_out e.kind commit) refl));
        legal = rw (is_legal-append s order (new ∷ [])) (and_from _ _ a.legal refl);
      },
      end_state-append s order (new ∷ []) ∙ is_r,
    )

-- an order still leads where it led
pub leads-quiet : (registers : ℕ) (s r : State) (h : List Event) (e : Event) → IsTrue (is_well_formed registers (h ++ e ∷ []))
    → IsTrue (is_quiet (transactions h) e.thread.number e.kind) → Leads s (transactions h) r → Leads s (transactions (h ++ e ∷ [])) r
leads-quiet registers s r h e formed quiet leads =
    let kind = quiet-kind (transactions h) e.thread.number e.kind quiet in
    let same : 0 + length h ≡ length h = omega arith in
    let all = rw same at (lies-transactions 0 0 [] h (omega arith) tt) in
    let g : Grows registers (length h) e (transactions h) =
    record { all = all; formed = rw (transactions-push h e) at formed; aborts = kind.2 } in
    rw (transactions-push h e)
    (elim (grown registers (length h) e (transactions h) g kind.0 kind.1) [
      | inl pairs ↦ leads-along (IsLonger (length h)) (keeps-longer (length h)) (transactions h)
          (add_event (length h) e (transactions h)) pairs s r leads
      | inr last ↦ rw last (leads-begun (length h) e (transactions h) s r all kind.1 leads)
    ])

-- so a history that was final-state opaque still is
pub final_opaque-quiet : (registers : ℕ) (start : State) (h : List Event) (e : Event) → IsFinalOpaque registers start h
    → IsTrue (is_well_formed registers (h ++ e ∷ [])) → IsTrue (is_quiet (transactions h) e.thread.number e.kind)
    → IsFinalOpaque registers start (h ++ e ∷ [])
final_opaque-quiet registers start h e o formed quiet =
    let (order, a) = o.ordered in
    let leads = leads-quiet registers start (end_state start order) h e formed quiet (order, a, refl) in
    record { formed = formed; ordered = (leads.0, leads.1) }
