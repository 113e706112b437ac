-- A counter that stands for a history, one event further.
use Rattle.tmw_counts.proofs.Shared.{AllByRecursion, AreCounted, Bool, Counter, Counts, CountsSo, Event, HasCounts, HasThreads, HasWide, IsStep, IsTrue, Kind, Lies, List, None, Notes, Option, Some, Threads, Txn, X, [], aborts, add_event, and_parts, ap, arith, begun, both_ways, call_of, cases_Bool, cases_lt, commits, count_by, end_of, ends, eq-eqb, eqb-true, false, goes_on, if◌then◌else◌, inl, inr, is_aborted, is_call, is_committed, is_cut, is_some, is_unasked, is_well_formed, length, length-add, length-map, lies-transactions, live_count, live_count-add, live_of, lt-ltb, ltb-true, max, meets, nat_lt, not, one_if, overlaps_any, pending_call, prefixes, refl, status_of, still, subst, suc, sym, take-push, take_all-push, text_of, transactions, transactions-push, transactions_from, true, zero, ℕ, ◌&&◌, ◌++◌, ◌+◌, ◌-◌, ◌<◌, ◌==◌, ◌^◌, ◌↔◌, ◌∙◌, ◌∷◌, ◌≡◌, ◌≤◌}
use Rattle.tmw_defs.proofs.TextsProof.{texts_law}
use Rattle.tmw_wellformed.specs.declared.note.End.{End}
use Rattle.tmw_wellformed.specs.declared.note.Note.{Note}
use Rattle.tmw_wellformed.specs.declared.tracker.Tracker.{Tracker}
use Rattle.tmw_wellformed.specs.Tracker.{Tracks}
use Rattle.tmw_wellformed.proofs.TrackerSteps.{is_well_formed-push}
use Rattle.tmw_counts.proofs.Outcomes.{aborted-after, committed-after, ended-add, not_aborted, not_committed, unasked-add}
use Rattle.tmw_counts.specs.Counter.{held}
use Rattle.tmw_counts.proofs.Overlaps.{apart-begins, apart-ends, apart-grows, apart-none, begins-add, grows-add, is_apart, old-all, overlapping-begins, overlapping-grows}
use Rattle.tmw_counts.proofs.Sums.{count-cons, count-length, one_if-le}
use Rattle.tmw_counts.proofs.Windows.{cuts-push, last-cut, last-uncut, widest-open, widest-push}

-- a history has no more transactions than events, and no more cuts
transactions-few : (h : List Event) → length (transactions h) ≤ length h
transactions-few h = (let all = few 0 [] h in omega (arith, all))
  where
    few : (place : ℕ) (ts : List Txn) (es : List Event) → length (transactions_from place ts es) ≤ length ts + length es
    few place ts [] = omega arith
    few place ts (e ∷ es) =
        let rest = few (place + 1) (add_event place e ts) es in
        let added = length-add place e ts in
        omega (arith, rest, added)

prefixes-few : (h : List Event) → length (prefixes h) ≤ length h
prefixes-few [] = omega arith
prefixes-few (e ∷ es) = let rest = prefixes-few es in omega (arith, rest, length-map (prefixes es) (λ (xs : List Event). e ∷ xs))

pub lies : (h : List Event) → AllByRecursion (Lies 0 (length h)) (transactions h)
lies h = grind (arith, length, transactions, lies-transactions)

-- the text of a thread's live transaction has its pending call
pending-text : (thread : ℕ) (h : List Event) → pending_call thread h ≡ call_of (text_of (live_of thread (transactions h)))
pending-text thread h = grind (arith, live_of, transactions)

-- What is known of an event that the tracker has taken.
pub record Taken (registers : ℕ) (history : List Event) (e : Event) (note : Note) (others asked : Bool) (live : ℕ) : Type 0 where
  pub before : IsTrue (is_well_formed registers history)
  pub formed : IsTrue (is_well_formed registers (history ++ e ∷ []))
  pub notes : Notes history e note
  pub some : others ≡ true → 0 < live_count history
  pub none : others ≡ false → live_count history ≡ 0
  pub asks : IsTrue asked ↔ (pending_call e.thread.number history ≡ Some X)
  pub count : live ≡ live_count (history ++ e ∷ [])
  pub cut : (live ≡ 0) ↔ IsTrue (is_cut (history ++ e ∷ []))

abbrev pub live_in : List Event → Event → Option Txn
live_in h e = live_of e.thread.number (transactions h)

goes : (registers : ℕ) (h : List Event) (e : Event) → IsTrue (is_well_formed registers h) → IsTrue (is_well_formed registers (h ++ e ∷ []))
    → goes_on registers (pending_call e.thread.number h) e.kind ≡ true
goes registers h e before formed = sym (is_well_formed-push registers h e before) ∙ formed

-- an abort event answers a call
answers_call : (registers : ℕ) (pending : Option Kind) (k : Kind) → goes_on registers pending k ≡ true → aborts (end_of k) ≡ true → is_some pending ≡ true
answers_call registers pending k on is = grind arith

-- the first event of a transaction is a call
begins_open : (registers : ℕ) (k : Kind) → is_call registers k ≡ true → ends k ≡ false
begins_open registers k is = grind arith

no_call : (live : Option Txn) → is_some live ≡ false → call_of (text_of live) ≡ None
no_call live none = grind arith

pub begins-ends : (registers : ℕ) (h : List Event) (e : Event) → IsTrue (is_well_formed registers h) → IsTrue (is_well_formed registers (h ++ e ∷ []))
    → is_some (live_in h e) ≡ false → ends e.kind ≡ false
begins-ends registers h e before formed none =
    let idle : pending_call e.thread.number h ≡ None = pending-text e.thread.number h ∙ no_call (live_in h e) none in
    begins_open registers e.kind (rw idle at (goes registers h e before formed))

-- whether it begins one
begins_is : (h : List Event) (e : Event) (note : Note) → Notes h e note → note.begins ≡ not (is_some (live_in h e))
begins_is h e note notes =
    grind (
      arith,
      length,
      transactions-push,
      length-add,
      transactions,
      cases_Bool,
      is_some,
      live_in,
      one_if,
      not,
    )

some-live : (thread : ℕ) (ts : List Txn) → is_some (live_of thread ts) ≡ true → 0 < count_by still ts
some-live thread [] has = absurd (cc)
some-live thread (t ∷ ts) has =
    elim (cases_Bool ((t.thread == thread) && still t)) [
      | inl here ↦ omega (arith, count-cons still t ts, ap one_if (and_parts (t.thread == thread) _ here).1)
      | inr past ↦ omega (arith, count-cons still t ts, some-live thread ts (rw past at has))
    ]

zero_is : (n : ℕ) (cut : Bool) → (n ≡ 0) ↔ IsTrue cut → (n == 0) ≡ cut
zero_is n cut tells = grind (arith, cases_Bool, eq-eqb, both_ways, eqb-true)

one_if-not : (b : Bool) → one_if (not b) + one_if b ≡ 1
one_if-not b = grind arith

-- the event goes on with a transaction: who overlaps whom stays
record Meets (h : List Event) (e : Event) (begins others was : Bool) (live : ℕ) : Type 0 where
  pub overlapping : count_by (overlaps_any (transactions (h ++ e ∷ []))) (transactions (h ++ e ∷ []))
      ≡ count_by (overlaps_any (transactions h)) (transactions h) + meets begins others was
  pub apart : one_if (if begins then not others else (was && not (live == 0)))
      ≡ count_by (is_apart (transactions (h ++ e ∷ []))) (transactions (h ++ e ∷ []))

meets-goes : (registers : ℕ) (h : List Event) (e : Event) (note : Note) (others asked apart : Bool) (live : ℕ)
    → Taken registers h e note others asked live → one_if apart ≡ count_by (is_apart (transactions h)) (transactions h)
    → is_some (live_in h e) ≡ true → Meets h e false others apart live
meets-goes registers h e note others asked apart live taken was has =
    let ts = transactions h in
    let pairs = grows-add (length h) e ts (lies h) has in
    let same = transactions-push h e in
    let counted = live_count-add (length h) e ts in
    let now : live ≡ count_by still (add_event (length h) e ts) = taken.count ∙ ap (count_by still) same in
    let some = some-live e.thread.number ts has in
    record {
      overlapping = rw same (let all = overlapping-grows (length h) e ts (add_event (length h) e ts) pairs in omega (arith, all));
      apart = rw same (elim (cases_Bool (live == 0)) [
        | inl none ↦
            let gone = apart-none (add_event (length h) e ts) (sym now ∙ eqb-true live 0 none) in
            rw none (omega (arith, gone, never apart))
        | inr more ↦
            let several : 0 < live = positive live more in
            elim (cases_Bool (ends e.kind)) [
              | inr on ↦
                  let all = apart-grows (length h) e ts (add_event (length h) e ts) on pairs in
                  rw more (omega (arith, all, was, always apart))
              | inl over ↦
                  let all = apart-ends (length h) e ts (add_event (length h) e ts) over pairs (texts_law h e.thread.number).ended
                  (omega (arith, counted, now, several, ap one_if has, ap (λ (b : Bool). one_if (not b)) over)) in
                  rw more (omega (arith, all, was, always apart))
            ]
      ]);
    }
  where
    never : (b : Bool) → one_if (b && not true) ≡ 0
    never true = refl
    never false = refl

    always : (b : Bool) → one_if (b && not false) ≡ one_if b
    always true = refl
    always false = refl

    positive : (n : ℕ) → (n == 0) ≡ false → 0 < n
    positive zero is = absurd (cc)
    positive (suc n) is = omega arith

meets-begins : (registers : ℕ) (h : List Event) (e : Event) (note : Note) (others asked apart : Bool) (live : ℕ)
    → Taken registers h e note others asked live → one_if apart ≡ count_by (is_apart (transactions h)) (transactions h)
    → is_some (live_in h e) ≡ false → Meets h e true others apart live
meets-begins registers h e note others asked apart live taken was none =
    let ts = transactions h in
    let old = old-all (length h) e ts (lies h) none in
    let lasts = begins-ends registers h e taken.before taken.formed none in
    let same : transactions (h ++ e ∷ []) ≡ ts ++ begun (length h) e ∷ [] = transactions-push h e ∙ begins-add (length h) e ts old in
    record {
      overlapping = rw same (overlapping-begins (length h) e ts others apart lasts old taken.some taken.none was);
      apart = rw same (sym (apart-begins (length h) e ts others lasts old taken.some taken.none));
    }

meets-push : (registers : ℕ) (h : List Event) (e : Event) (note : Note) (others asked apart : Bool) (live : ℕ)
    → Taken registers h e note others asked live → one_if apart ≡ count_by (is_apart (transactions h)) (transactions h)
    → Meets h e note.begins others apart live
meets-push registers h e note others asked apart live taken was =
    let begins = begins_is h e note taken.notes in
    elim (cases_Bool (is_some (live_in h e))) [
      | inl has ↦ subst (λ (b : Bool). Meets h e b others apart live) (sym (begins ∙ ap not has))
          (meets-goes registers h e note others asked apart live taken was has)
      | inr none ↦ subst (λ (b : Bool). Meets h e b others apart live) (sym (begins ∙ ap not none))
          (meets-begins registers h e note others asked apart live taken was none)
    ]

-- a count of transactions by how they end, after an event that may end one
ended-more : (p : Txn → Bool) (goes : Option End → Bool) (h : List Event) (e : Event) (note : Note) {new old : ℕ}
    → new ≡ held (old + one_if (goes note.ends)) → old ≡ count_by p (transactions h) → note.ends ≡ end_of e.kind → length h < 2 ^ 64 - 1
    → count_by p (add_event (length h) e (transactions h)) ≡ count_by p (transactions h) + one_if (goes (end_of e.kind))
    → new ≡ count_by p (transactions (h ++ e ∷ []))
ended-more p goes h e note step was ended low more =
    let now = ap (count_by p) (transactions-push h e) ∙ more in
    let same = ap (λ (o : Option End). one_if (goes o)) ended in
    omega (arith, step, was, now, same, count-length p (transactions h), transactions-few h, low, one_if-le (goes note.ends))

-- the counts of the history with the event
counted-push : (registers : ℕ) (h : List Event) (e : Event) (note : Note) (others asked : Bool) (live : ℕ) (old : Counter) (counts : Counts)
    → length h < 2 ^ 64 - 1 → CountsSo registers h old → Taken registers h e note others asked live
    → AreCounted note others asked live old counts → HasCounts (h ++ e ∷ []) counts
counted-push registers h e note others asked live old counts low so taken step =
    let ts = transactions h in
    let was = so.counts in
    let same = transactions-push h e in
    let few = transactions-few h in
    let grown = ap length same in
    let counted = length-add (length h) e ts in
    let begins = ap one_if (begins_is h e note taken.notes) in
    let flip = one_if-not (is_some (live_in h e)) in
    let all : counts.transactions ≡ length (transactions (h ++ e ∷ [])) =
    omega (arith, step.all, was.all, grown, counted, begins, flip, few, low) in
    record {
      all = all;
      committed = ended-more (λ (t : Txn). is_committed (status_of t.text)) commits h e note step.committed was.committed taken.notes.ends low
          (ended-add is_committed commits not_committed committed-after refl (length h) e ts);
      aborted = ended-more (λ (t : Txn). is_aborted (status_of t.text)) aborts h e note step.aborted was.aborted taken.notes.ends low
          (ended-add is_aborted aborts not_aborted aborted-after refl (length h) e ts);
      live = step.live_now ∙ taken.count;
      unasked =
          let text = pending-text e.thread.number h in
          let on = goes registers h e taken.before taken.formed in
          ended-more (λ (t : Txn). is_unasked t.text) (λ (o : Option End). aborts o && not asked) h e note step.unasked was.unasked taken.notes.ends low
          (unasked-add (length h) e ts asked
          (λ aborted. subst (λ (p : Option Kind). is_some p ≡ true) text (answers_call registers (pending_call e.thread.number h) e.kind on aborted))
          (λ holds. sym text ∙ taken.asks.0 holds, λ is. taken.asks.1 (text ∙ is)));
      overlapping =
          let more = (meets-push registers h e note others asked old.apart live taken so.apart).overlapping in
          let most = count-length (overlaps_any (transactions (h ++ e ∷ []))) (transactions (h ++ e ∷ [])) in
          omega (arith, step.overlapping, was.overlapping, more, most, grown, counted, few, low);
      cuts =
          let more = cuts-push h e in
          let cut = ap one_if (zero_is live (is_cut (h ++ e ∷ [])) taken.cut) in
          let grows = λ (b : Bool). if b then held (old.counts.cuts + 1) else old.counts.cuts in
          elim (cases_Bool (live == 0)) [
            | inl is ↦ omega (arith, step.cuts ∙ ap grows is, ap one_if is, was.cuts, more, cut, count-length is_cut (prefixes h), prefixes-few h, low)
            | inr apart ↦ omega (arith, step.cuts ∙ ap grows apart, ap one_if apart, was.cuts, more, cut)
          ];
      widest = λ most.
          let next = widest-push old.counts.widest so.cut h e so.last was.widest most in
          let grows = λ (b : Bool). if b then max old.counts.widest (counts.transactions - old.before) else old.counts.widest in
          let most_is : counts.widest ≡ max old.counts.widest (counts.transactions - old.before) = elim (cases_Bool note.begins) [
            | inl is ↦ step.widest ∙ ap grows is
            | inr past ↦
                let within = widest-open old.counts.widest so.cut h so.last was.widest in
                let none = ap one_if past in
                step.widest ∙ ap grows past ∙ omega (arith, all, grown, counted, begins, flip, none, so.before, within)
          ] in
          subst (λ (n : ℕ). HasWide most (h ++ e ∷ []) ↔ most < n)
          (sym (most_is ∙ ap (λ (n : ℕ). max old.counts.widest (n - old.before)) all
          ∙ ap (λ (n : ℕ). max old.counts.widest (length (transactions (h ++ e ∷ [])) - n)) so.before)) next;
    }

-- the counter has taken the event
counts-push : (registers : ℕ) (h : List Event) (e : Event) (note : Note) (others asked : Bool) (live : ℕ) (old new : Counter) (tracker : Tracker)
    (threads : Threads) → length h < 2 ^ 64 - 1 → CountsSo registers h old → Tracks registers (h ++ e ∷ []) tracker → HasThreads (h ++ e ∷ []) threads
    → Taken registers h e note others asked live → IsStep note others asked live (record old { tracker = tracker; threads = threads }) new
    → CountsSo registers (h ++ e ∷ []) new
counts-push registers h e note others asked live old new tracker threads low so tracks of_threads taken step =
    let counts : HasCounts (h ++ e ∷ []) new.counts =
    counted-push registers h e note others asked live old new.counts low so taken (as_old step.counts) in
    let apart : one_if new.apart ≡ count_by (is_apart (transactions (h ++ e ∷ []))) (transactions (h ++ e ∷ [])) =
    ap one_if step.apart ∙ (meets-push registers h e note others asked old.apart live taken so.apart).apart in
    let cut = zero_is live (is_cut (h ++ e ∷ [])) taken.cut in
    let known : HasThreads (h ++ e ∷ []) new.threads = subst (λ (t : Threads). HasThreads (h ++ e ∷ []) t) (sym step.threads) of_threads in
    let followed : Tracks registers (h ++ e ∷ []) new.tracker = subst (λ (t : Tracker). Tracks registers (h ++ e ∷ []) t) (sym step.tracker) tracks in
    elim (cases_Bool (is_cut (h ++ e ∷ []))) [
      | inl holds ↦ record {
        tracks = followed;
        counts = counts;
        cut = length h + 1;
        last = last-cut h e holds;
        before = step.before ∙ ap (λ (b : Bool). if b then new.counts.transactions else old.before) (cut ∙ holds) ∙ counts.all
            ∙ ap (λ (xs : List Event). length (transactions xs)) (sym (take_all-push h e));
        apart = apart;
        threads = known;
      }
      | inr fails ↦ record {
        tracks = followed;
        counts = counts;
        cut = so.cut;
        last = last-uncut so.cut h e so.last fails;
        before = step.before ∙ ap (λ (b : Bool). if b then new.counts.transactions else old.before) (cut ∙ fails) ∙ so.before
            ∙ ap (λ (xs : List Event). length (transactions xs)) (sym (take-push so.cut h e so.last.is.0));
        apart = apart;
        threads = known;
      }
    ]
  where
    as_old : AreCounted note others asked live (record old { tracker = tracker; threads = threads }) new.counts → AreCounted note others asked live old new.counts
    as_old counted = record {
      aborted = counted.aborted;
      committed = counted.committed;
      cuts = counted.cuts;
      live_now = counted.live_now;
      overlapping = counted.overlapping;
      all = counted.all;
      unasked = counted.unasked;
      widest = counted.widest;
    }

-- so much is known of one, by how many transactions were live before it
taken-of : (registers : ℕ) (h : List Event) (e : Event) (note : Note) (asked : Bool) (before live : ℕ) (old new : Tracker)
    → Tracks registers h old → Tracks registers (h ++ e ∷ []) new → Notes h e note → before ≡ live_count h
    → (IsTrue asked ↔ (pending_call e.thread.number h ≡ Some X)) → live ≡ live_count (h ++ e ∷ [])
    → ((live ≡ 0) ↔ IsTrue (is_cut (h ++ e ∷ []))) → Taken registers h e note (nat_lt 0 before) asked live
taken-of registers h e note asked before live old new was now notes others asks count cut = record {
  before = was.formed;
  formed = now.formed;
  notes = notes;
  some = λ is. (let more = ltb-true 0 before is in omega (arith, more, others));
  none = λ is. elim (cases_lt 0 before) [
    | inl more ↦ absurd (both_ways _ is (lt-ltb 0 before more))
    | inr least ↦ omega (arith, least, others)
  ];
  asks = asks;
  count = count;
  cut = cut;
}

module _ {registers : ℕ} {h : List Event} {e : Event} {note : Note} {others asked : Bool} {live : ℕ}
    (taken : Taken registers h e note others asked live) where
  -- an event that begins a transaction ends none
  pub begins-none : note.begins ≡ true → note.ends ≡ None
  begins-none is = taken.notes.ends ∙ no_end e.kind (begins-ends registers h e taken.before taken.formed (goes-on is))
    where
      goes-on : note.begins ≡ true → is_some (live_in h e) ≡ false
      goes-on is = elim (cases_Bool (is_some (live_in h e))) [
        | inl has ↦ absurd (let bad : true ≡ false = sym is ∙ (begins_is h e note taken.notes ∙ ap not has) in cc)
        | inr none ↦ none
      ]

      no_end : (k : Kind) → ends k ≡ false → end_of k ≡ None
      no_end k is = grind arith

  -- one that begins none goes on with its thread's
  pub goes-live : note.begins ≡ false → is_some (live_in h e) ≡ true
  goes-live is = elim (cases_Bool (is_some (live_in h e))) [
    | inl has ↦ has
    | inr none ↦ absurd (let bad : true ≡ false = sym (begins_is h e note taken.notes ∙ ap not none) ∙ is in cc)
  ]

  -- an event in the midst of a transaction changes no count
  pub step-midst : (old : Counter) (tracker : Tracker) → length h < 2 ^ 64 - 1 → CountsSo registers h old → note.begins ≡ false → note.ends ≡ None
      → IsStep note others asked live (record old { tracker = tracker; threads = old.threads }) (record old { tracker = tracker })
  step-midst old tracker low so begins ends_none = grind (arith, transactions, transactions-few, goes-live, ends, count_by, still, transactions-push, live_count-add, length, one_if, not, some-live, aborts, commits, count-length, is_aborted, status_of, is_committed, is_cut, prefixes, prefixes-few, meets, overlaps_any, is_unasked, max, end_of, ℕ, cases_Bool, eqb-true)

  -- the step by what is known of the event
  pub step-begins : (old new : Counter) → note.begins ≡ true
      → IsStep (record { begins = true; ends = None }) others asked live old new → IsStep note others asked live old new
  step-begins old new is step =
      subst (λ (b : Bool). IsStep (record { begins = b; ends = note.ends }) others asked live old new) (sym is)
      (subst (λ (o : Option End). IsStep (record { begins = true; ends = o }) others asked live old new) (sym (begins-none is)) step)

  pub step-ends : (old new : Counter) (end : End) → note.begins ≡ false → note.ends ≡ Some end
      → IsStep (record { begins = false; ends = Some end }) others asked live old new → IsStep note others asked live old new
  step-ends old new end is ended step = grind (arith, ends)

-- the counter has taken an event that the tracker has
pub takes-event : (registers : ℕ) (h : List Event) (e : Event) (note : Note) (asked : Bool) (before live : ℕ) (old new : Counter) (tracker : Tracker)
    (threads : Threads) → length h < 2 ^ 64 - 1 → CountsSo registers h old
    → ((registers : ℕ) (h : List Event) → Tracks registers h old.tracker → Tracks registers (h ++ e ∷ []) tracker)
    → ((registers : ℕ) (h : List Event) → Tracks registers h old.tracker → Notes h e note)
    → ((registers : ℕ) (h : List Event) → Tracks registers h old.tracker → before ≡ live_count h)
    → ((registers : ℕ) (h : List Event) → Tracks registers h old.tracker → IsTrue asked ↔ (pending_call e.thread.number h ≡ Some X))
    → ((registers : ℕ) (h : List Event) → Tracks registers h tracker → live ≡ live_count h)
    → ((registers : ℕ) (h : List Event) → Tracks registers h tracker → (live ≡ 0) ↔ IsTrue (is_cut h))
    → (Taken registers h e note (nat_lt 0 before) asked live → HasThreads (h ++ e ∷ []) threads)
    → (Taken registers h e note (nat_lt 0 before) asked live
    → IsStep note (nat_lt 0 before) asked live (record old { tracker = tracker; threads = threads }) new) → CountsSo registers (h ++ e ∷ []) new
takes-event registers h e note asked before live old new tracker threads low so takes notes others asks count none of_threads step =
    let was = so.tracks in
    let now = takes registers h was in
    let taken = taken-of registers h e note asked before live old.tracker tracker was now (notes registers h was) (others registers h was)
    (asks registers h was) (count registers (h ++ e ∷ []) now) (none registers (h ++ e ∷ []) now) in
    counts-push registers h e note _ asked live old new tracker threads low so now (of_threads taken) taken (step taken)
