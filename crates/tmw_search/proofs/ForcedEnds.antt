-- From each start that meets what the reads need, committed and aborted transactions that force their end lead to the known end, with what
-- the start holds where none writes.
use Rattle.tmw_search.proofs.Shared.{Adds, AddsForced, AreAlike, AreForced, Completes, Contains, Criterion, Effect, EndsBy, Event, HaveEight, IfSome, In, IsOverlaid, IsRow, IsTrue, List, MatchOption, Meets, Needs, NeedsOfStart, None, Option, ShowWriters, ShowsNeeds, ShowsStatus, Some, State, Status, TakesNeeds, View, [], and_le_r, and_parts, ap, arith, bit_and, bit_at, bit_at_ones, bit_or, cases_lt, contains_none, effects, eq-eqb, get_or, get_or_default, has_asked, inl, inr, is_cut, is_ended, is_over, is_pending, length, length-map, list_all, list_all-remove, map, orderly, refl, slice_get, slice_get_some, slice_index, status_of, subst, suc, sym, transactions, true, view, views_of, zero, ℕ, ◌%◌, ◌*◌, ◌+◌, ◌-◌, ◌<◌, ◌^◌, ◌↔◌, ◌∙◌, ◌≡◌, ◌≤◌, ◌⊎◌}
use Rattle.tmw_search.specs.declared.forced_ends.StartNeeds.{StartNeeds}
use Rattle.tmw_search.proofs.AllCompletions.{RankedEnd, leads-of, start-same}
use Rattle.tmw_search.proofs.Bits.{bit_cases, masks}
use Rattle.tmw_search.proofs.OneEnd.{forced-end_by, shown-forced}
use Rattle.tmw_search.proofs.RootNode.{Rows, held-member, marks-within, rows-begin, rows-more, rows-none}
use Rattle.tmw_search.proofs.SearchAnswers.{Begun, Shown, begun, start-at, start-size}
use Rattle.tmw_search.proofs.WindowViews.{shows-views_of}
use Rattle.tmw_cuts.specs.declared.txn.Txn as cuts

-- the state is one of the first so many
abbrev pub Upto : List State → ℕ → State → Type 0
Upto starts n s = (i : ℕ) × (i < n) × (get_or starts i [] ≡ s)

pub upto-all : (starts : List State) (n : ℕ) → n ≡ length starts → (s : State) → Upto starts n s ↔ Contains starts s
upto-all starts n all s = (
  λ (i, less, is). subst (λ (x : State). Contains starts x) is (start-at starts i (omega (arith, less, all))),
  λ (i, within, is). (i, omega (arith, within, all), sym (get_or_default starts i s [] within) ∙ is),
)

pub fits-none : {needs : StartNeeds} {writers : List ℕ} {end : State} {old : List State} (starts : List State) → AddsForced needs writers end (Upto starts 0) old old
fits-none starts = record {
  only = λ e has. inl has;
  kept = λ e has. has;
  all = λ s (i, less, is) meets. absurd (omega (arith, less));
}

pub fits-next : {needs : StartNeeds} {writers : List ℕ} {end z : State} {old mid new : List State} (starts : List State) (n : ℕ)
    → AddsForced needs writers end (Upto starts n) old mid → Meets needs (get_or starts n []) → Adds true mid new (λ e. e ≡ z)
    → IsOverlaid writers (get_or starts n []) end z → AddsForced needs writers end (Upto starts (n + 1)) old new
fits-next {writers = writers} {end = end} {z = z} starts n a meets b o = record {
  only = λ e has. elim (b.only e has) [
    | inr same ↦ inr (get_or starts n [], (n, omega arith, refl), meets, subst (λ (x : State). IsOverlaid writers (get_or starts n []) end x) (sym same) o)
    | inl was ↦ elim (a.only e was) [
      | inl before ↦ inl before
      | inr (s, (i, less, is), m, p) ↦ inr (s, (i, omega (arith, less), is), m, p)
    ]
  ];
  kept = λ e has. b.kept e (a.kept e has);
  all = λ s (i, less, is) m. elim (cases_lt i n) [
    | inl low ↦ (let (e, has, p) = a.all s (i, low, is) m in (e, b.kept e has, p))
    | inr high ↦
        let last : i ≡ n = omega (arith, less, high) in
        (z, b.all refl z refl, subst (λ (x : State). IsOverlaid writers x end z) (rw last at is) o)
  ];
}

pub fits-past : {needs : StartNeeds} {writers : List ℕ} {end : State} {old new : List State} (starts : List State) (n : ℕ)
    → AddsForced needs writers end (Upto starts n) old new → (Meets needs (get_or starts n []) → ⊥)
    → AddsForced needs writers end (Upto starts (n + 1)) old new
fits-past starts n a never = record {
  only = λ e has. elim (a.only e has) [
    | inl before ↦ inl before
    | inr (s, (i, less, is), m, p) ↦ inr (s, (i, omega (arith, less), is), m, p)
  ];
  kept = a.kept;
  all = λ s (i, less, is) m. elim (cases_lt i n) [
    | inl low ↦ a.all s (i, low, is) m
    | inr high ↦ (let last : i ≡ n = omega (arith, less, high) in absurd (never (rw (rw last at is) m)))
  ];
}

-- The states so far that meet the needs hold the same as the one that was seen, if one was, in each register that is open.
abbrev pub AlikeUpto : StartNeeds → List State → ℕ → Option State → Type 0
AlikeUpto needs starts n fit = MatchOption fit ((s : State) → Upto starts n s → Meets needs s → ⊥)
    (λ one. (s : State) → Upto starts n s → Meets needs s → (r : ℕ) → r < 8 → In needs.open r → slice_index one r ≡ slice_index s r)

pub alike-next : (needs : StartNeeds) (starts : List State) (n : ℕ) (fit : Option State) → AlikeUpto needs starts n fit
    → IfSome fit (λ one. (r : ℕ) → r < 8 → In needs.open r → slice_index one r ≡ slice_index (get_or starts n []) r)
    → AlikeUpto needs starts (n + 1) (Some (get_or starts n []))
alike-next needs starts n None never one s (i, less, is) m r few free = elim (cases_lt i n) [
  | inl low ↦ absurd (never s (i, low, is) m)
  | inr high ↦ (let last : i ≡ n = omega (arith, less, high) in ap (λ (x : State). slice_index x r) (rw last at is))
]
alike-next needs starts n (Some x) alike one s (i, less, is) m r few free = elim (cases_lt i n) [
  | inl low ↦ sym (one r few free) ∙ alike s (i, low, is) m r few free
  | inr high ↦ (let last : i ≡ n = omega (arith, less, high) in ap (λ (x : State). slice_index x r) (rw last at is))
]

pub alike-past : (needs : StartNeeds) (starts : List State) (n : ℕ) (fit : Option State) → AlikeUpto needs starts n fit
    → (Meets needs (get_or starts n []) → ⊥) → AlikeUpto needs starts (n + 1) fit
alike-past needs starts n None never out = λ s (i, less, is) m. elim (cases_lt i n) [
  | inl low ↦ never s (i, low, is) m
  | inr high ↦ (let last : i ≡ n = omega (arith, less, high) in out (rw (rw last at is) m))
]
alike-past needs starts n (Some x) alike out = λ s (i, less, is) m r few free. elim (cases_lt i n) [
  | inl low ↦ alike s (i, low, is) m r few free
  | inr high ↦ (let last : i ≡ n = omega (arith, less, high) in absurd (out (rw (rw last at is) m)))
]

pub alike-all : (needs : StartNeeds) (starts : List State) (n : ℕ) (fit : Option State) → n ≡ length starts → AlikeUpto needs starts n fit
    → AreAlike needs (Contains starts)
alike-all needs starts n None all never = ([], λ s has m. absurd (never s ((upto-all starts n all s).1 has) m))
alike-all needs starts n (Some x) all alike = (x, λ s has. alike s ((upto-all starts n all s).1 has))

pub fits-all : {needs : StartNeeds} {writers : List ℕ} {end : State} {old new : List State} (starts : List State) (n : ℕ) → n ≡ length starts
    → AddsForced needs writers end (Upto starts n) old new → AddsForced needs writers end (Contains starts) old new
fits-all starts n all a = record {
  only = λ e has. elim (a.only e has) [
    | inl before ↦ inl before
    | inr (s, up, m, p) ↦ inr (s, (upto-all starts n all s).0 up, m, p)
  ];
  kept = a.kept;
  all = λ s has. a.all s ((upto-all starts n all s).1 has);
}

-- what the reads of the first so many need
pub record NeedsUpto (xs : List Effect) (held n : ℕ) (needs : StartNeeds) : Type 0 where
  pub fixed : (r : ℕ) → r < 8 → In needs.fixed r → NeedsOfStart xs held r (slice_index needs.values r)
  pub all : (j r : ℕ) → j < n → r < 8 → Needs xs j r → In needs.fixed r ⊎ In needs.open r

pub needs-next : {xs : List Effect} {held n : ℕ} {old new : StartNeeds} → NeedsUpto xs held n old → TakesNeeds xs held n old new
    → NeedsUpto xs held (n + 1) new
needs-next {xs = xs} {held = held} {n = n} u t = record {
  fixed = λ r few is. elim (t.fixed r few is) [
    | inr own ↦ own
    | inl (was, same) ↦ subst (λ (v : ℕ). NeedsOfStart xs held r v) (sym same) (u.fixed r few was)
  ];
  all = λ j r less few need. elim (cases_lt j n) [
    | inl low ↦ t.kept r few (u.all j r low few need)
    | inr high ↦ (let last : j ≡ n = omega (arith, less, high) in t.all r few (subst (λ (k : ℕ). Needs xs k r) last need))
  ];
}

-- at a cut none is pending
pub none-pending : (items : List cuts.Txn) (events : List Event) (committed pending : ℕ) → ShowsStatus (map view items) committed pending
    → map view items ≡ views_of events → IsTrue (is_cut events) → (i : ℕ) → i < 8 → In pending i → ⊥
none-pending items events committed pending shows shown cut i few is =
    let ts = transactions events in
    let xs = map view items in
    let low = marks-within has_asked xs (length xs) pending i shows.pending_at is in
    let (x, at) = slice_get_some xs i low in
    let asked : is_pending x.status ≡ true = sym (shows.pending_at.below i x low at) ∙ eq-eqb (bit_at pending i) 1 is in
    let both = shows-views_of events in
    let (t, at_t) = slice_get_some ts i (let same = both.same_length in omega (arith, low, ap (length {A = View}) shown, same)) in
    let status = (both.each i x t (subst (λ (vs : List View). slice_get vs i ≡ Some x) shown at) at_t).status in
    let over : is_over (status_of t.text) ≡ true = (and_parts (is_ended t.text) _ (rw (list_all-remove (λ u. is_ended u.text) ts i t at_t) at cut)).0 in
    absurd (never-both (status_of t.text) (ap is_pending (sym status) ∙ asked) over)
  where
    never-both : (status : Status) → is_pending status ≡ true → is_over status ≡ true → ⊥
    never-both = grind arith

-- masks that tell who precedes whom there always are
some-rows : (mask : ℕ) (xs : List View) (n : ℕ) → n ≤ length xs → length xs ≤ 8
    → (reach : List ℕ) × (before : ℕ) × Rows mask xs n reach before
some-rows mask xs zero most few = (_, 0, rows-none mask xs)
some-rows mask xs (suc n) most few =
    let (reach, before, r) = some-rows mask xs n (omega (arith, most)) few in
    let (x, at) = slice_get_some xs n (omega (arith, most)) in
    subst (λ (m : ℕ). (rows : List ℕ) × (after : ℕ) × Rows mask xs m rows after) (omega arith) (more n (omega (arith, most, few)) reach before x at r)
  where
    alone-row : (mask next n : ℕ) → n < 8 → bit_at mask n ≡ 0 → IsRow mask next n (1 * 2 ^ n % 2 ^ 8)
    alone-row = grind (arith, masks)

    joined-row : (mask next n : ℕ) → n < 8 → In mask n → IsRow mask next n (bit_and (bit_or (bit_and next mask) (1 * 2 ^ n % 2 ^ 8)) 255)
    joined-row = grind (arith, masks, bit_at_ones 8)

    more : (n : ℕ) → n < 8 → (reach : List ℕ) (before : ℕ) (x : View) → slice_get xs n ≡ Some x → Rows mask xs n reach before
        → (rows : List ℕ) × (after : ℕ) × Rows mask xs (n + 1) rows after
    more n within reach before x at r =
        let next = bit_or before (bit_and x.before (2 ^ n - 1)) in
        let one = 1 * 2 ^ n % 2 ^ 8 in
        elim (bit_cases mask n) [
          | inl out ↦ (_, next, rows-more mask xs n (2 ^ n) reach before one x refl within (omega arith) at r (alone-row mask next n within out))
          | inr has ↦ (
            _,
            next,
            rows-more mask xs n (2 ^ n) reach before (bit_and (bit_or (bit_and next mask) one) 255) x refl within
                (omega (arith, and_le_r (bit_or (bit_and next mask) one) 255)) at r (joined-row mask next n within has),
          )
        ]

pub some-begun : (criterion : Criterion) (items : List cuts.Txn) (committed pending : ℕ) → length items ≤ 8 → HaveEight items
    → ShowsStatus (map view items) committed pending
    → (reach : List ℕ) × Begun criterion items committed pending reach
some-begun criterion items committed pending few eight status =
    let xs = map view items in
    let mask = orderly criterion committed pending in
    let low : length xs ≤ 8 = omega (arith, few, length-map items view) in
    let (reach, before, rows) = some-rows mask xs (length xs) (omega arith) low in
    (reach, begun few eight status refl (rows-begin mask xs (length xs) reach before refl low rows))

module _ (criterion : Criterion) (items : List cuts.Txn) (events : List Event) (committed pending : ℕ) (reach : List ℕ)
    (s : Shown criterion items events committed pending reach) (none : (i : ℕ) → i < 8 → In pending i → ⊥) (needs : StartNeeds)
    (shows : ShowsNeeds (effects items) committed needs) where
  held-same : (more : ℕ) → Completes committed pending more → (i : ℕ) → i < 8 → In more i → In committed i
  held-same more c i few is = elim (c.only i few is) [ inl own ↦ own | inr may ↦ absurd (none i few may) ]

  -- a start from which there is an order holds what is needed
  pub meets : (start e : State) → RankedEnd criterion items start committed pending reach e → Meets needs start
  meets start e y r few is =
      let f = shows.fixed r few is in
      let member = held-member criterion (length items) y.more f.reader (let low = s.within f.reader (inl f.taken) in omega (arith, low, s.same)) (y.completes.all f.reader f.within f.taken) in
      elim (y.ends.within.reads f.reader r f.within few member f.needs) [
        | inl x ↦ x.value ∙ sym f.is
        | inr (i, x) ↦ absurd (f.never (i, (x.writes.0, held-same y.more y.completes i x.writes.0 x.writes.1, x.writes.2), x.value ∙ sym f.is))
      ]

  -- an order is one from another start that holds the same where any reads
  pub moves : (one other end e : State) (writers : List ℕ) → ShowWriters (effects items) committed writers → IsOverlaid writers other end e
      → ((r : ℕ) → r < 8 → In needs.fixed r ⊎ In needs.open r → slice_index other r ≡ slice_index one r)
      → RankedEnd criterion items one committed pending reach end → RankedEnd criterion items other committed pending reach e
  moves one other end e writers writes o same y =
      let x = y.ends in record {
        more = y.more;
        completes = y.completes;
        ends = record {
          rank = x.rank;
          within = record {
            ranking = x.within.ranking;
            agree = x.within.agree;
            reads = λ j r low few is need. start-same (effects items) y.more one other x.rank j r (same r few (shows.all j r low few need))
                (x.within.reads j r low few is need);
          };
          size = o.size;
          each = λ r few. elim (x.each r few) [
            | inl (nobody, value) ↦ inl (
              nobody,
              o.rest r few (λ k low has. let (own, leaves) = (writes r k few low).0 has in nobody k (low, y.completes.all k low own, leaves)),
            )
            | inr (place, l) ↦ inr (
              place,
              record {
                writes = l.writes;
                is = o.written r place few l.writes.0 ((writes r place few l.writes.0).1
                    (held-same y.more y.completes place l.writes.0 l.writes.1, l.writes.2)) ∙ l.is;
                last = l.last;
              },
            )
          ];
        };
      }

  pub forced-ends : (starts found : List State) (writers : List ℕ) (end : State) → ((i : ℕ) → i < length starts → length (get_or starts i []) ≡ 8)
      → ShowWriters (effects items) committed writers → AreForced (map view items) → map view items ≡ views_of events
      → IsTrue (list_all (λ t. is_ended t.text) (transactions events)) → AddsForced needs writers end (Contains starts) [] found
      → AreAlike needs (Contains starts) → EndsBy criterion (Contains starts) (transactions events) end
      → (e : State) → Contains found e ↔ EndsBy criterion (Contains starts) (transactions events) e
  forced-ends starts found writers end sizes writes forced shown ended adds alike known e =
      let ts = transactions events in
      let only = shown-forced ts ts (subst (λ (v : List View). AreForced v) shown forced) in
      let law = λ (start : State) (has : Contains starts start) (z : State). leads-of criterion items events start committed pending reach z s
      (start-size starts start sizes has) in
      let (first, from, leads) = known in
      let y = (law first from end).0 leads in
      let (common, agree) = alike in
      let led = λ (start : State) (has : Contains starts start) (fits : Meets needs start) (z : State) (o : IsOverlaid writers start end z).
      (law start has z).1 (moves first start end z writers writes o (λ r few is. elim is [
        | inl fixed ↦ fits r few fixed ∙ sym (meets first end y r few fixed)
        | inr free ↦ sym (agree start has fits r few free) ∙ agree first from (meets first end y) r few free
      ]) y) in (
        λ has. elim (adds.only e has) [
          | inl never ↦ absurd (contains_none e never)
          | inr (start, within, fits, o) ↦ (start, within, led start within fits e o)
        ],
        λ (start, within, leads_to).
            let fits = meets start e ((law start within e).0 leads_to) in
            let (z, has, o) = adds.all start within fits in
            let same : z ≡ e = forced-end_by criterion start z e ts only ended (led start within fits z o) leads_to in
            subst (λ (x : State). Contains found x) same has,
      )
