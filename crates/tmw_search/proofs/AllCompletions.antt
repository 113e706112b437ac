-- The ends from each start and by each completion are those of the criterion.
use Rattle.tmw_search.proofs.Shared.{Adds, Agree, AllOpen, AreEnds, AreEndsFrom, Bool, Completes, Contains, Criterion, Effect, EndsBy, EndsByMore, EndsByReading, EndsFromAll, EndsIn, Entails, Event, In, IsEndOf, IsLegal, IsNode, IsRead, IsRoot, IsTrue, LeadsBy, List, Node, Open, Reads, ReadsAll, State, States, Window, [], arith, bit_at-zero, bit_at_ones, bit_or, contains_none, effects, false, get_or, get_or_default, inl, inr, length, map, members, members_of, refl, slice_index, subst, sym, transactions, true, view, views, ℕ, ◌%◌, ◌*◌, ◌+◌, ◌-◌, ◌<◌, ◌^◌, ◌↔◌, ◌∙◌, ◌≡◌, ◌≤◌}
use Rattle.tmw_search.specs.declared.completion_ends.Reading.{Reading}
use Rattle.tmw_search.specs.declared.end_states.EndStates.{EndStates}
use Rattle.tmw_search.specs.declared.end_states.EndStates.TheVariants.{Few, Many}
use Rattle.tmw_search.proofs.AddMembers.{OfFirst, adds-to, adds-empty, adds-both}
use Rattle.tmw_search.proofs.SearchAnswers.{Begun, Shown, legal-root, shown-of, start-at, start-size}
use Rattle.tmw_search.proofs.Bits.{bit_cases, masks, same_place}
use Rattle.tmw_search.proofs.Branches.{never-true}
use Rattle.tmw_search.proofs.LastWriters.{writes-in}
use Rattle.tmw_search.proofs.LegalOrdersProof.{are_ranked}
use Rattle.tmw_cuts.specs.declared.txn.Txn as cuts

all-registers : (r : ℕ) → r < 8 → In 255 r
all-registers r few = bit_at_ones 8 r few

-- an end of other orders that are legal too
moved : {xs : List Effect} {one other : State} {node next : Node} {base e : State}
    → ((held : ℕ) (rank : ℕ → ℕ) → IsLegal xs one 0 node held rank → IsLegal xs other 0 next held rank)
    → IsEndOf xs one node 255 base e → IsEndOf xs other next 255 base e
moved onto x = record { held = x.held; rank = x.rank; legal = onto x.held x.rank x.legal; size = x.size; settled = x.settled; rest = x.rest }

-- from another start that has the same in each register that is read
pub start-same : (xs : List Effect) (held : ℕ) (one other : State) (rank : ℕ → ℕ) (j r : ℕ) → slice_index other r ≡ slice_index one r
    → Reads xs held one rank j r Open → Reads xs held other rank j r Open
start-same = grind arith

pub legal-start : {xs : List Effect} {one other : State} {root : Node} → IsNode xs one 0 root → AllOpen root.choices.reads root → ReadsAll xs root
    → ((j r : ℕ) → j < 8 → r < 8 → IsRead root.choices j r → slice_index other r ≡ slice_index one r)
    → (held : ℕ) (rank : ℕ → ℕ) → IsLegal xs one 0 root held rank → IsLegal xs other 0 root held rank
legal-start = grind (arith, masks, start-same)

-- the ends of a reading are the root's from each start that has the same in each register that is read
pub ends-read : {xs : List Effect} {start : State} {root : Node} {done : Bool} {old new : List State} (needed : ℕ) (reading : Reading)
    → ((state : State) → IsNode xs state 0 root) → AllOpen root.choices.reads root → ReadsAll xs root
    → ((j r : ℕ) → j < 8 → r < 8 → IsRead root.choices j r → In needed r)
    → ((r : ℕ) → r < 8 → In needed r → slice_index reading.start r ≡ slice_index start r)
    → Entails xs reading.start 0 root reading.node reading.alive
    → Adds done old new (EndsByReading xs reading start) → Adds done old new (IsEndOf xs start root 255 start)
ends-read {start = start} {root = root} needed reading nodes waits all reads same f a =
    let agree = λ (j r : ℕ) (within_j : j < 8) (within_r : r < 8) (read : IsRead root.choices j r). same r within_r (reads j r within_j within_r read) in
    let onto = legal-start (nodes start) waits all agree in
    adds-to
    (λ e (lives, x). moved (λ held rank l. legal-start (nodes reading.start) waits all (λ j r within_j within_r read. sym (agree j r within_j within_r read)) held rank
    (f.into held rank lives l)) x)
    (λ done e y. ((f.onto y.held y.rank (onto y.held y.rank y.legal)).0, moved (λ held rank l. (f.onto held rank (onto held rank l)).1) y)) a

pub same-ends : (xs : List Effect) (one other : State) (root : Node) (shown : ℕ) (e : State) → IsNode xs one 0 root → AllOpen root.choices.reads root
    → ReadsAll xs root → ((j r : ℕ) → j < 8 → r < 8 → IsRead root.choices j r → In shown r)
    → ((r : ℕ) → r < 8 → (In shown r → ⊥) → (k : ℕ) × (k < 8) × In (slice_index root.choices.writers r) k)
    → ((r : ℕ) → r < 8 → In shown r → slice_index other r ≡ slice_index one r)
    → IsEndOf xs one root 255 one e → IsEndOf xs other root 255 other e
same-ends xs one other root shown e n waits all needed written same x = record {
  held = x.held;
  rank = x.rank;
  legal = legal-start n waits all (λ j r within_j within_r read. same r within_r (needed j r within_j within_r read)) x.held x.rank x.legal;
  size = x.size;
  settled = λ r few out. absurd (out (all-registers r few));
  rest = λ r few is. elim (x.rest r few is) [
    | inr last ↦ inr last
    | inl (nobody, value) ↦ elim (bit_cases shown r) [
      | inr has ↦ inl (nobody, value ∙ sym (same r few has))
      | inl none ↦
          let (k, low, has) = written r few (λ there. absurd (omega (arith, none, there))) in
          absurd (nobody k (writes-in xs one root r k x.held x.rank few low n x.legal has))
    ]
  ];
}

-- an end from the start at the index
abbrev pub EndsAtIndex : List Effect → List State → Node → ℕ → State → Type 0
EndsAtIndex xs starts root i e = IsEndOf xs (get_or starts i []) root 255 (get_or starts i []) e

pub below-same : (xs : List Effect) (starts : List State) (root : Node) (n shown : ℕ) (old now : List State) → 0 < n
    → ((start : State) → IsNode xs start 0 root) → AllOpen root.choices.reads root → ReadsAll xs root
    → ((j r : ℕ) → j < 8 → r < 8 → IsRead root.choices j r → In shown r)
    → ((r : ℕ) → r < 8 → (In shown r → ⊥) → (k : ℕ) × (k < 8) × In (slice_index root.choices.writers r) k)
    → ((r : ℕ) → r < 8 → In shown r → slice_index (get_or starts (n - 1) []) r ≡ slice_index (get_or starts n []) r)
    → Adds true old now (OfFirst (EndsAtIndex xs starts root) n) → Adds true old now (OfFirst (EndsAtIndex xs starts root) (n + 1))
below-same xs starts root n shown old now some nodes waits all needed written same a =
    adds-to (λ e (i, less, x). (i, omega (arith, less), x)) (λ done e (i, less, x). elim (same_place i n) [
      | inl last ↦ (
        n - 1,
        omega (arith, some),
        same-ends xs (get_or starts n []) (get_or starts (n - 1) []) root shown e (nodes (get_or starts n [])) waits all needed written same (rw last at x),
      )
      | inr apart ↦ (i, omega (arith, less, apart), x)
    ]) a

pub below-all : {xs : List Effect} {starts : List State} {root : Node} {n : ℕ} {done : Bool} {old new : List State} → n ≤ length starts
    → (IsTrue done → n ≡ length starts) → Adds done old new (OfFirst (EndsAtIndex xs starts root) n) → Adds done old new (EndsFromAll xs starts root)
below-all {xs = xs} {starts = starts} {root = root} most all a = adds-to
    (λ e (i, less, x). record { start = get_or starts i []; from = start-at starts i (omega (arith, less, most)); ends = x })
    (λ done e x.
    let (j, within, is) = x.from in
    (j, omega (arith, within, all done), subst (λ (s : State). IsEndOf xs s root 255 s e) (sym is ∙ get_or_default starts j x.start [] within) x.ends)) a

-- the node's ends are those of the law
ends-law : (criterion : Criterion) (xs : List Effect) (n : ℕ) (start : State) (reach : List ℕ) (held : ℕ) (node : Node) (e : State)
    → ((i : ℕ) → In held i → i < n) → IsRoot criterion xs n reach held node
    → IsEndOf xs start node 255 start e ↔ ((more : ℕ) × Completes held 0 more × EndsIn xs start reach (members_of criterion n more) more e)
ends-law criterion xs n start reach held node e within is =
    let legal = λ (more : ℕ) (rank : ℕ → ℕ). legal-root criterion xs start n reach held 0 more rank node is
    (λ i has. elim has [ inl own ↦ within i own | inr none ↦ absurd (omega (arith, none, bit_at-zero i)) ]) in (
      λ x.
          let (c, w) = (legal x.held x.rank).0 x.legal in
          (x.held, c, record { rank = x.rank; within = w; size = x.size; each = λ r few. x.rest r few (all-registers r few) }),
      λ ends.
          let (more, c, y) = ends in
          record {
            held = more;
            rank = y.rank;
            legal = (legal more y.rank).1 (c, y.within);
            size = y.size;
            settled = λ r few out. absurd (out (all-registers r few));
            rest = λ r few has. y.each r few;
          },
    )

pub held-added : {criterion : Criterion} {xs : List Effect} {n : ℕ} {starts : List State} {reach : List ℕ} {held : ℕ} {node : Node} {done : Bool}
    {old new : List State} → ((i : ℕ) → In held i → i < n) → IsRoot criterion xs n reach held node
    → Adds done old new (EndsFromAll xs starts node) → Adds done old new (EndsByMore criterion xs n starts reach held 0)
held-added within is a = adds-to
    (λ e x. let (more, c, y) = (ends-law _ _ _ x.start _ _ _ e within is).0 x.ends in
    record { more = more; completes = c; start = x.start; from = x.from; ends = y })
    (λ done e y. record { start = y.start; from = y.from; ends = (ends-law _ _ _ y.start _ _ _ e within is).1 (y.more, y.completes, y.ends) }) a

pub held-none : {criterion : Criterion} {xs : List Effect} {n : ℕ} {starts : List State} {reach : List ℕ} {held : ℕ} {node : Node}
    {old : List State} → ((i : ℕ) → In held i → i < n) → IsRoot criterion xs n reach held node → (Agree xs node.members → ⊥)
    → Adds true old old (EndsByMore criterion xs n starts reach held 0)
held-none = grind (arith, adds-empty, ends-law)

-- the same end by a completion of others
by-others : {criterion : Criterion} {xs : List Effect} {n : ℕ} {starts : List State} {reach : List ℕ} {held left now rest : ℕ} {e : State}
    → (y : EndsByMore criterion xs n starts reach held left e) → Completes now rest y.more → EndsByMore criterion xs n starts reach now rest e
by-others y c = record { more = y.more; completes = c; start = y.start; from = y.from; ends = y.ends }

fewer : (left i held more : ℕ) → i < 8 → In left i → Completes held (left - 1 * 2 ^ i % 2 ^ 8) more → Completes held left more
fewer left i held more within one c = record { all = c.all; only = grind (arith, masks) }

-- one of those left is held, or not
pub more-next : {criterion : Criterion} {xs : List Effect} {n : ℕ} {starts : List State} {reach : List ℕ} {held left i : ℕ} {done : Bool}
    {old mid new : List State} → i < 8 → In left i
    → Adds true old mid (EndsByMore criterion xs n starts reach held (left - 1 * 2 ^ i % 2 ^ 8))
    → Adds done mid new (EndsByMore criterion xs n starts reach (bit_or held (1 * 2 ^ i % 2 ^ 8)) (left - 1 * 2 ^ i % 2 ^ 8))
    → Adds done old new (EndsByMore criterion xs n starts reach held left)
more-next {held = held} {left = left} {i = i} within one a b =
    adds-both a b (λ e y. by-others y (fewer left i held y.more within one y.completes))
    (λ e y. let c = y.completes in by-others y (record { all = grind (arith, masks); only = grind (arith, masks) }))
    (λ e y.
    let c = y.completes in
    elim (bit_cases y.more i) [
      | inl out ↦ inl (by-others y (record { all = c.all; only = grind (arith, masks) }))
      | inr in_more ↦ inr (by-others y (record { all = grind (arith, masks); only = grind (arith, masks) }))
    ])

pub more-part : {criterion : Criterion} {xs : List Effect} {n : ℕ} {starts : List State} {reach : List ℕ} {held left i : ℕ}
    {old new : List State} → i < 8 → In left i → Adds false old new (EndsByMore criterion xs n starts reach held (left - 1 * 2 ^ i % 2 ^ 8))
    → Adds false old new (EndsByMore criterion xs n starts reach held left)
more-part {held = held} {left = left} {i = i} within one a =
    adds-to (λ e y. by-others y (fewer left i held y.more within one y.completes)) (λ never. absurd (never-true never)) a

-- an end from the start, by some completion
pub record RankedEnd (criterion : Criterion) (items : List cuts.Txn) (start : State) (committed pending : ℕ) (reach : List ℕ) (e : State) : Type 0 where
  pub more : ℕ
  pub completes : Completes committed pending more
  pub ends : EndsIn (effects items) start reach (members_of criterion (length items) more) more e

pub leads-of : (criterion : Criterion) (items : List cuts.Txn) (events : List Event) (start : State) (committed pending : ℕ) (reach : List ℕ)
    (e : State) → Shown criterion items events committed pending reach → length start ≡ 8
    → LeadsBy criterion start (transactions events) e ↔ RankedEnd criterion items start committed pending reach e
leads-of criterion items events start committed pending reach e s size =
    let ts = transactions events in
    let xs = effects items in
    let law = are_ranked criterion ts xs reach start s.acts s.few s.order size e in (
      λ leads.
          let (more, c, y) = law.0 (start, refl, leads) in
          record { more = more; completes = (s.completes more).0 c; ends = subst (λ (n : ℕ). EndsIn xs start reach (members_of criterion n more) more e) s.same y },
      λ y.
          let (t, is, leads) = law.1
          (y.more, (s.completes y.more).1 y.completes, subst (λ (n : ℕ). EndsIn xs start reach (members_of criterion n y.more) y.more e) (sym s.same) y.ends) in
          subst (λ (x : State). LeadsBy criterion x ts e) is leads,
    )

pub ends-of : (criterion : Criterion) (items : List cuts.Txn) (events : List Event) (starts : List State) (committed pending : ℕ)
    (reach : List ℕ) (e : State) → Shown criterion items events committed pending reach
    → ((i : ℕ) → i < length starts → length (get_or starts i []) ≡ 8)
    → EndsByMore criterion (effects items) (length items) starts reach committed pending e
    ↔ EndsBy criterion (Contains starts) (transactions events) e
ends-of criterion items events starts committed pending reach e s sizes =
    let law = λ (start : State) (has : Contains starts start). leads-of criterion items events start committed pending reach e s (start-size starts start sizes has) in (
      λ y. (y.start, y.from, (law y.start y.from).1 (record { more = y.more; completes = y.completes; ends = y.ends })),
      λ (start, has, leads).
          let y = (law start has).0 leads in
          record { more = y.more; completes = y.completes; start = start; from = has; ends = y.ends },
    )

-- the ends are few, or too many
pub ends-few : {criterion : Criterion} {items : List cuts.Txn} {starts : List State} {cap committed pending : ℕ} {reach : List ℕ} (ends : States)
    → Begun criterion items committed pending reach → ((i : ℕ) → i < length starts → length (get_or starts i []) ≡ 8) → length (members ends) ≤ cap
    → Adds true [] (members ends) (EndsByMore criterion (effects items) (length items) starts reach committed pending)
    → AreEndsFrom criterion items starts cap (Few ends)
ends-few ends b sizes few a = λ events shown. (
  few,
  λ e.
      let law = ends-of _ _ events _ _ _ _ e (shown-of b events shown) sizes in (
        λ has. elim (a.only e has) [ inl none ↦ absurd (contains_none e none) | inr y ↦ law.0 y ],
        λ is. a.all refl e (law.1 is),
      ),
)

pub ends-many : {criterion : Criterion} {items : List cuts.Txn} {starts : List State} {cap committed pending : ℕ} {reach : List ℕ} {done : Bool}
    (ends : States) → Begun criterion items committed pending reach → ((i : ℕ) → i < length starts → length (get_or starts i []) ≡ 8)
    → cap < length (members ends) → Adds done [] (members ends) (EndsByMore criterion (effects items) (length items) starts reach committed pending)
    → AreEndsFrom criterion items starts cap Many
ends-many ends b sizes more a = λ events shown. (
  members ends,
  ends.rising,
  more,
  λ e has. elim (a.only e has) [
    | inl none ↦ absurd (contains_none e none)
    | inr y ↦ (ends-of _ _ events _ _ _ _ e (shown-of b events shown) sizes).0 y
  ],
)

-- the ends of the transactions that a window shows are those of its events
pub ends-window : (criterion : Criterion) (states : States) (window : Window) (items : List cuts.Txn) (starts : List State) (cap : ℕ)
    (ends : EndStates) → map view items ≡ views window → starts ≡ members states → AreEndsFrom criterion items starts cap ends
    → AreEnds criterion states window cap ends
ends-window = grind arith
