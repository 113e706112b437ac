-- What is to be shown of events when there is one more.
use Rattle.tmw_cuts.proofs.Shared.{AllByRecursion, Event, Found, Kind, Lies, List, Txn, View, [], add_event, and-true, and_right, ap, append-nil, append_assoc, arith, before_of, call_of, completed_mask, false, find_open, further, is_ended, le-ltb, length, lies-transactions, lt-ltb, map, new_view, operation, operations, option_map, precedes, refl, status_of-push, transactions, transactions-push, view_of, views_of, ℕ, ◌++◌, ◌+◌, ◌∙◌, ◌∷◌, ◌≡◌, ◌≤◌}
use Rattle.tmw_cuts.proofs.NextViews.{answered_ops, next_view, views_after}
use Rattle.tmw_defs.proofs.OneMore as more

operations-push : (text : List Kind) (k : Kind) → operations (text ++ k ∷ []) ≡ operations text ++ answered_ops (call_of text) k
operations-push [] k = refl
operations-push (call ∷ []) k = append-nil (operation call k)
operations-push (call ∷ answer ∷ rest) k = grind (arith, append_assoc, (operations-push rest k))

-- which transactions precede one depends on its first event alone
before_of-first : (ts : List Txn) (u w : Txn) → u.first ≡ w.first → before_of ts u ≡ before_of ts w
before_of-first [] u w same = refl
before_of-first (t ∷ ts) u w same = grind (arith, (before_of-first ts u w same))

-- an event is behind the first event of each transaction, so it makes none precede another
not_preceding : (n : ℕ) (t u : Txn) → t.last ≡ n → u.first ≤ n → precedes t u ≡ false
not_preceding n t u last first = and_right (is_ended t.text) _ (le-ltb t.last u.first (omega arith))

before_of-add : (n : ℕ) (e : Event) (ts : List Txn) (u : Txn) → u.first ≤ n → before_of (add_event n e ts) u ≡ before_of ts u
before_of-add n e [] u first = grind (arith, (not_preceding n (more.begun n e) u refl first))
before_of-add n e (t ∷ ts) u first = grind (arith, (before_of-add n e ts u first), (not_preceding n (more.longer n e t) u refl first))

-- those that precede one that begins now are those that have completed
before_of-now : (n : ℕ) (all ts : List Txn) (u : Txn) → u.first ≡ n → AllByRecursion (Lies 0 n) ts
    → before_of ts u ≡ completed_mask (map (view_of all) ts)
before_of-now n all [] u now lies = refl
before_of-now n all (t ∷ ts) u now lies =
    let more = before_of-now n all ts u now lies.1 in
    let earlier = lt-ltb t.last u.first (omega (arith, lies.0.high)) in
    grind (arith, and-true)

-- the others are shown as before
view_of-add : (n : ℕ) (e : Event) (all : List Txn) (t : Txn) → t.first ≤ n → view_of (add_event n e all) t ≡ view_of all t
view_of-add n e all t first = ap (λ b. record (view_of all t) { before = b }) (before_of-add n e all t first)

views-add_others : (n : ℕ) (e : Event) (all ts : List Txn) → AllByRecursion (Lies 0 n) ts
    → map (view_of (add_event n e all)) ts ≡ map (view_of all) ts
views-add_others n e all [] lies = refl
views-add_others n e all (t ∷ ts) lies =
    let first : t.first ≤ n = omega (arith, lies.0.ordered, lies.0.high) in
    grind (arith, view_of-add, (views-add_others n e all ts lies.1))

view_of-longer : (n : ℕ) (e : Event) (all : List Txn) (t : Txn) → t.first ≤ n
    → view_of (add_event n e all) (more.longer n e t) ≡ next_view e.kind (answered_ops (call_of t.text) e.kind) (view_of all t)
view_of-longer n e all t first =
    grind (arith, before_of-add, before_of-first, operations-push, status_of-push)

view_of-begun : (n : ℕ) (e : Event) (all : List Txn) → AllByRecursion (Lies 0 n) all
    → view_of (add_event n e all) (more.begun n e) ≡ new_view e.kind (completed_mask (map (view_of all) all))
view_of-begun n e all lies =
    ap (new_view e.kind)
    (before_of-add n e all (more.begun n e) (omega arith) ∙ before_of-now n all all (more.begun n e) refl lies)

shift_views : (f : Found) (k : Kind) (before : ℕ) (v : View) (vs : List View)
    → (v ∷ views_after f k before vs) ≡ views_after (option_map further f) k before (v ∷ vs)
shift_views f k before v vs = grind arith

views-add : (n : ℕ) (e : Event) (all ts : List Txn) → AllByRecursion (Lies 0 n) all → AllByRecursion (Lies 0 n) ts
    → map (view_of (add_event n e all)) (add_event n e ts)
    ≡ views_after (find_open e.thread.number ts) e.kind (completed_mask (map (view_of all) all)) (map (view_of all) ts)
views-add n e all [] whole lies = ap (λ v. v ∷ []) (view_of-begun n e all whole)
views-add n e all (t ∷ ts) whole lies =
    let first : t.first ≤ n = omega (arith, lies.0.ordered, lies.0.high) in
    let rest = views-add n e all ts whole lies.1 in
    let others = views-add_others n e all ts lies.1 in
    grind (arith, view_of-longer, view_of-add, shift_views)

-- what is to be shown with one event more
pub views_of-push : (events : List Event) (e : Event)
    → views_of (events ++ e ∷ [])
    ≡ views_after (find_open e.thread.number (transactions events)) e.kind (completed_mask (views_of events)) (views_of events)
views_of-push events e =
    let same : 0 + length events ≡ length events = omega arith in
    let lies : AllByRecursion (Lies 0 (length events)) (transactions events) =
    rw same at (lies-transactions 0 0 [] events (omega arith) tt) in
    rw (transactions-push events e) (views-add (length events) e (transactions events) (transactions events) lies lies)
