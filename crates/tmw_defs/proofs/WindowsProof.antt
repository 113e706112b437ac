-- The windows and the cuts of a history with one event more: each window is one of the history's, or the open one.
use Rattle.tmw_defs.proofs.Shared.{Criterion, Event, HasWide, IsCutAt, IsLastCut, IsTrue, Kind, List, Txn, [], and_parts, ap, append_assoc, arith, awaits_commit, between, cases_lt, drop, drop-append-le, drop_all, false, inl, inr, is_cut, is_ended, is_pending, is_quiet_by, length, length-append, list_all, list_all-append, list_any-append, refl, status_of, sym, take, take-append-drop, take-append-le, take_all, transactions, ℕ, ◌&&◌, ◌++◌, ◌+◌, ◌<◌, ◌==◌, ◌||◌, ◌∙◌, ◌∷◌, ◌≡◌, ◌≤◌, ◌⊎◌}
use Rattle.tmw_defs.proofs.Along.{Pairs}
use Rattle.tmw_defs.proofs.CutsProof.{behind, behind-later, transactions-cut}
use Rattle.tmw_defs.proofs.Places.{IsLater}

-- the lengths and the prefixes of a history with one event more
pub length-push : (h : List Event) (e : Event) → length (h ++ e ∷ []) ≡ length h + 1
length-push h e = length-append h (e ∷ [])

pub take-push : (k : ℕ) (h : List Event) (e : Event) → k ≤ length h → take k (h ++ e ∷ []) ≡ take k h
take-push k h e within = take-append-le k h (e ∷ []) within

pub take_all-push : (h : List Event) (e : Event) → take (length h + 1) (h ++ e ∷ []) ≡ h ++ e ∷ []
take_all-push h e = take_all (length h + 1) (h ++ e ∷ []) (let same = length-push h e in omega (arith, same))

-- the history is what precedes the cut, and then the open window with the new event
pub take-append-drop-push : (c : ℕ) (h : List Event) (e : Event) → take c h ++ (drop c h ++ e ∷ []) ≡ h ++ e ∷ []
take-append-drop-push c h e =
    sym (append_assoc (take c h) (drop c h) (e ∷ []))
    ∙ ap (λ (xs : List Event). xs ++ e ∷ []) (take-append-drop c h)

-- a history over a cut is at a cut where what follows the cut, on its own, is
list_all-later : (n : ℕ) (ts us : List Txn) → Pairs (IsLater n) ts us
    → list_all (λ t. is_ended t.text) ts ≡ list_all (λ t. is_ended t.text) us
list_all-later n [] [] pairs = refl
list_all-later n [] (u ∷ us) pairs = absurd pairs
list_all-later n (t ∷ ts) [] pairs = absurd pairs
list_all-later n (t ∷ ts) (u ∷ us) pairs = cc (list_all-later n ts us pairs.1)

pub is_cut-append : (past rest : List Event) → IsTrue (is_cut past) → is_cut (past ++ rest) ≡ is_cut rest
is_cut-append past rest cut =
    ap (list_all (λ t. is_ended t.text)) (transactions-cut past rest cut)
    ∙ list_all-append (λ t. is_ended t.text) (transactions past) (behind past rest)
    ∙ ap (λ b. b && list_all (λ t. is_ended t.text) (behind past rest)) cut
    ∙ list_all-later (length past) (behind past rest) (transactions rest) (behind-later past rest)

awaits_commit-ended : (ts : List Txn) (thread : ℕ) → IsTrue (list_all (λ t. is_ended t.text) ts) → awaits_commit ts thread ≡ false
awaits_commit-ended [] thread ended = refl
awaits_commit-ended (t ∷ ts) thread ended =
    let (here, more) = and_parts (is_ended t.text) _ ended in
    grind (arith, (awaits_commit-ended ts thread more))

awaits_commit-later : (n : ℕ) (ts us : List Txn) (thread : ℕ) → Pairs (IsLater n) ts us
    → awaits_commit ts thread ≡ awaits_commit us thread
awaits_commit-later n [] [] thread pairs = refl
awaits_commit-later n [] (u ∷ us) thread pairs = absurd pairs
awaits_commit-later n (t ∷ ts) [] thread pairs = absurd pairs
awaits_commit-later n (t ∷ ts) (u ∷ us) thread pairs =
    cc (awaits_commit-later n ts us thread pairs.1)

pub awaits_commit-append : (past rest : List Event) (thread : ℕ) → IsTrue (is_cut past)
    → awaits_commit (transactions (past ++ rest)) thread ≡ awaits_commit (transactions rest) thread
awaits_commit-append past rest thread cut =
    ap (λ ts. awaits_commit ts thread) (transactions-cut past rest cut)
    ∙ list_any-append (λ t. (t.thread == thread) && is_pending (status_of t.text)) (transactions past) (behind past rest)
    ∙ ap (λ b. b || awaits_commit (behind past rest) thread) (awaits_commit-ended (transactions past) thread cut)
    ∙ awaits_commit-later (length past) (behind past rest) (transactions rest) thread (behind-later past rest)

pub is_quiet_by-append : (c : Criterion) (past rest : List Event) (thread : ℕ) (kind : Kind) → IsTrue (is_cut past)
    → is_quiet_by c (transactions (past ++ rest)) thread kind ≡ is_quiet_by c (transactions rest) thread kind
is_quiet_by-append c past rest thread kind cut = grind (arith, awaits_commit-append)

-- with one event more, the cuts up to the old length stay the cuts
pub IsCutAt-push : (h : List Event) (e : Event) (at : ℕ) → IsCutAt h at → IsCutAt (h ++ e ∷ []) at
IsCutAt-push h e at (within, cut) = grind (arith, length-push, take-push)

pub IsCutAt_push : (h : List Event) (e : Event) (at : ℕ) → at ≤ length h → IsCutAt (h ++ e ∷ []) at → IsCutAt h at
IsCutAt_push h e at within (longer, cut) = (within, rw (take-push at h e within) at cut)

pub is_cut-push : (c : ℕ) (h : List Event) (e : Event) → IsCutAt h c → is_cut (h ++ e ∷ []) ≡ is_cut (drop c h ++ e ∷ [])
is_cut-push c h e (within, cut) =
    ap is_cut (sym (take-append-drop-push c h e)) ∙ is_cut-append (take c h) (drop c h ++ e ∷ []) cut

-- the open window, with the event, goes from the last cut to the end
pub between-open : (c : ℕ) (h : List Event) (e : Event) → c ≤ length h → between c (length h + 1) (h ++ e ∷ []) ≡ drop c h ++ e ∷ []
between-open c h e within = ap (drop c) (take_all-push h e) ∙ drop-append-le c h (e ∷ []) within

pub HasWide-open : (most c : ℕ) (h : List Event) (e : Event) → IsLastCut h c
    → most < length (transactions (drop c h ++ e ∷ [])) → HasWide most (h ++ e ∷ [])
HasWide-open most c h e last wide = record {
  from = c;
  upto = length h + 1;
  window = record {
    order = let within = last.is.0 in omega (arith, within);
    opens = IsCutAt-push h e c last.is;
    inside = λ at after before cut. last.last at after (IsCutAt_push h e at (omega (arith, before)) cut);
    closes = inl (sym (length-push h e));
  };
  wide = rw (between-open c h e last.is.0) wide;
}

-- a window that closes before the event is one of the history without it
HasWide-before : (most : ℕ) (h : List Event) (e : Event) (w : HasWide most (h ++ e ∷ [])) → w.upto ≤ length h → HasWide most h
HasWide-before most h e w within = grind (arith, length-push, take-push)

-- one that goes to the end begins at the last cut, or has no transaction
HasWide-after : (most c : ℕ) (h : List Event) (e : Event) → IsLastCut h c → (w : HasWide most (h ++ e ∷ []))
    → w.upto ≡ length h + 1 → most < length (transactions (drop c h ++ e ∷ []))
HasWide-after most c h e last w end =
    let wide : most < length (transactions (drop w.from (h ++ e ∷ []))) = rw (end, take_all-push h e) at w.wide in
    let same = length-push h e in
    elim (cases_lt (length h) w.from) [
      | inl past ↦ grind (arith, drop_all)
      | inr within ↦
          let opens = IsCutAt_push h e w.from within w.window.opens in
          let inside = last.is.0 in
          let from : w.from ≡ c = elim (cases_lt c w.from) [
            | inl later ↦ absurd (last.last w.from later opens)
            | inr least ↦ elim (cases_lt w.from c) [
              | inl earlier ↦ absurd (w.window.inside c earlier (
                  omega arith) (IsCutAt-push h e c last.is))
              | inr greatest ↦ omega (arith, least, greatest)
            ]
          ] in grind (arith, drop-append-le)
    ]

-- so no window is too wide where the open one with the event isn't, and none was without it
pub HasWide_push : (most c : ℕ) (h : List Event) (e : Event) → IsLastCut h c → HasWide most (h ++ e ∷ [])
    → HasWide most h ⊎ (most < length (transactions (drop c h ++ e ∷ [])))
HasWide_push most c h e last w =
    elim (cases_lt (length h) w.upto) [
      | inl past ↦
          let upto : w.upto ≤ length h + 1 = grind (arith, length-push) in
          inr (HasWide-after most c h e last w (omega arith))
      | inr within ↦ inl (HasWide-before most h e w within)
    ]
