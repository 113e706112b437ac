-- At a cut where each transaction that has not committed can come first, in a serial order of the committed ones those can be put first.
use Rattle.tmw_search.proofs.Shared.{Completes, Contains, Effect, EndsBy, Event, HaveEight, In, IsTrue, List, Op, Opacity, Open, Reads, ShowsStatus, Some, State, Strict, Txn, View, [], ap, arith, bit_at, bit_at-zero, cases_lt, effects, get_or, if◌then◌else◌, inl, inr, is_cut, length, length-map, map, members_of, operations, pow_pos, precedes, reads_hold, slice_get, slice_get_some, slice_get_within, subst, sym, transactions, true, view, views_of, ℕ, ◌+◌, ◌-◌, ◌<◌, ◌==◌, ◌^◌, ◌∙◌, ◌≡◌, ◌≤◌}
use Rattle.tmw_search.proofs.AllCompletions.{RankedEnd, leads-of}
use Rattle.tmw_search.proofs.Bits.{bit_cases, bit_within, same_place}
use Rattle.tmw_search.proofs.ForcedEnds.{none-pending, some-begun}
use Rattle.tmw_search.proofs.SearchAnswers.{Shown, shown-of, start-size}
use Rattle.tmw_search.proofs.WindowViews.{shows-views_of}
use Rattle.tmw_cuts.specs.declared.txn.Txn as cuts

-- none precedes it, and each of its operations was answered what each of the states holds
abbrev pub CanBeFirst : List State → View → Type 0
CanBeFirst starts x = (x.before ≡ 0) × ((s : State) → Contains starts s → IsTrue (reads_hold s x.ops))

-- so it is for each of the first so many that the mask has not
abbrev pub FirstUpto : ℕ → List View → List State → ℕ → Type 0
FirstUpto mask xs starts n = (j : ℕ) (x : View) → j < n → slice_get xs j ≡ Some x → bit_at mask j ≡ 0 → CanBeFirst starts x

pub first-next : (mask : ℕ) (xs : List View) (starts : List State) (n : ℕ) (x : View) → slice_get xs n ≡ Some x → FirstUpto mask xs starts n
    → (bit_at mask n ≡ 0 → CanBeFirst starts x) → FirstUpto mask xs starts (n + 1)
first-next mask xs starts n x at was here j y less at_y out = elim (cases_lt j n) [
  | inl low ↦ was j y low at_y out
  | inr high ↦
      let last : j ≡ n = omega (arith, less, high) in
      let same : x ≡ y = (let there : slice_get xs n ≡ Some y = subst (λ (k : ℕ). slice_get xs k ≡ Some y) last at_y in cc) in
      subst (λ (z : View). CanBeFirst starts z) same (here (subst (λ (k : ℕ). bit_at mask k ≡ 0) last out))
]

-- those that are held as they were, behind all others
abbrev behind : ℕ → (ℕ → ℕ) → ℕ → ℕ
behind held rank j = if bit_at held j == 1 then rank j + 8 else j

behind-held : (held : ℕ) (rank : ℕ → ℕ) (j : ℕ) → In held j → behind held rank j ≡ rank j + 8
behind-held = grind arith

behind-other : (held : ℕ) (rank : ℕ → ℕ) (j : ℕ) → bit_at held j ≡ 0 → behind held rank j ≡ j
behind-other = grind arith

behind-apart : (held : ℕ) (rank : ℕ → ℕ) → ((i j : ℕ) → i < 8 → j < 8 → rank i ≡ rank j → i ≡ j)
    → (i j : ℕ) → i < 8 → j < 8 → behind held rank i ≡ behind held rank j → i ≡ j
behind-apart held rank apart i j low_i low_j same = elim (bit_cases held i) [
  | inl out_i ↦ elim (bit_cases held j) [
    | inl out_j ↦ sym (behind-other held rank i out_i) ∙ same ∙ behind-other held rank j out_j
    | inr in_j ↦ absurd (omega (arith, low_i, same, behind-other held rank i out_i, behind-held held rank j in_j))
  ]
  | inr in_i ↦ elim (bit_cases held j) [
    | inl out_j ↦ absurd (omega (arith, low_j, same, behind-held held rank i in_i, behind-other held rank j out_j))
    | inr in_j ↦ apart i j low_i low_j (omega (arith, same, behind-held held rank i in_i, behind-held held rank j in_j))
  ]
]

-- those that are held read what they read
behind-reads : (xs : List Effect) (held : ℕ) (start : State) (rank : ℕ → ℕ) (j r : ℕ) → In held j → Reads xs held start rank j r Open
    → Reads xs held start (behind held rank) j r Open
behind-reads xs held start rank j r has (inl x) = inl (record {
  value = x.value;
  others = λ k writes. (let le = x.others k writes in omega (arith, le, behind-held held rank j has, behind-held held rank k writes.1));
})
behind-reads xs held start rank j r has (inr (i, x)) = inr (
  i,
  record {
    writes = x.writes;
    value = x.value;
    below = (let less = x.below in omega (arith, less, behind-held held rank i x.writes.1, behind-held held rank j has));
    others = λ k writes. elim (x.others k writes) [
      | inl le ↦ inl (omega (arith, le, behind-held held rank k writes.1, behind-held held rank i x.writes.1))
      | inr le ↦ inr (omega (arith, le, behind-held held rank j has, behind-held held rank k writes.1))
    ];
  },
)

module _ (items : List cuts.Txn) (events : List Event) (committed pending : ℕ) (strict opaque : List ℕ)
    (s : Shown Strict items events committed pending strict) (o : Shown Opacity items events committed pending opaque)
    (none : (i : ℕ) → i < 8 → In pending i → ⊥) (shown : map view items ≡ views_of events) (starts : List State)
    (free : FirstUpto committed (map view items) starts (length items)) where
  held-same : (more : ℕ) → Completes committed pending more → (i : ℕ) → i < 8 → In more i → In committed i
  held-same more c i few is = elim (c.only i few is) [ inl own ↦ own | inr may ↦ absurd (none i few may) ]

  -- what the view of one that is not held says
  out-of : (more : ℕ) → Completes committed pending more → (j : ℕ) (t : Txn) → j < 8 → bit_at more j ≡ 0 → slice_get (transactions events) j ≡ Some t
      → ((i : ℕ) (u : Txn) → slice_get (transactions events) i ≡ Some u → precedes u t ≡ true → ⊥)
      × ((start : State) → Contains starts start → IsTrue (reads_hold start (operations t.text)))
  out-of more c j t few out at =
      let both = shows-views_of events in
      let low = slice_get_within (transactions events) j t at in
      let (x, at_x) = slice_get_some (map view items) j (omega (arith, low, s.same, length-map items view)) in
      let shows = both.each j x t (subst (λ (vs : List View). slice_get vs j ≡ Some x) shown at_x) at in
      let not_in : bit_at committed j ≡ 0 = elim (bit_cases committed j) [
        | inl is ↦ is
        | inr has ↦ absurd (let held = c.all j few has in omega (arith, held, out))
      ] in
      let (first, holds) = free j x (omega (arith, low, s.same)) at_x not_in in (
        λ i u at_u before. let bit = shows.bits i u at_u in
            absurd (omega (arith, rw before at bit, ap (λ (m : ℕ). bit_at m i) first, bit_at-zero i)),
        λ start has. subst (λ (ops : List Op). IsTrue (reads_hold start ops)) shows.ops (holds start has),
      )

  pub first-end : (start e : State) → Contains starts start → length start ≡ 8 → RankedEnd Strict items start committed pending strict e
      → RankedEnd Opacity items start committed pending opaque e
  first-end start e from size y =
      let xs = effects items in
      let n = length items in
      let ts = transactions events in
      let more = y.more in
      let old = y.ends.rank in
      let rank = behind more old in
      let w = y.ends.within in
      let completion = (s.completes more).1 y.completes in
      let real = o.order more completion in
      let told = s.order more completion in
      let member : (j : ℕ) → In (members_of Opacity n more) j → j < n = λ j is. bit_within (2 ^ n - 1) n j (omega (arith, pow_pos n)) is in
      let at = λ (j : ℕ) (low : j < n). slice_get_some ts j (omega (arith, low, s.same)) in
      let fits = λ (j : ℕ) (t : Txn) (low : j < 8) (out : bit_at more j ≡ 0) (at_t : slice_get ts j ≡ Some t).
      ((s.acts j t at_t).reads start size).0 ((out-of more y.completes j t low out at_t).1 start from) in
      record {
        more = more;
        completes = y.completes;
        ends = record {
          rank = rank;
          within = record {
            ranking = record {
              apart = λ i j low_i low_j same. behind-apart more old (λ p q low_p low_q is. w.ranking.apart p q low_p low_q is) i j low_i low_j same;
              kept = λ i j low_i low_j has. elim (same_place i j) [
                | inl same ↦ omega (arith, ap rank same)
                | inr apart ↦
                    let (t, u, at_t, at_u, is_i, before) = real.only i j low_i low_j apart has in
                    elim (bit_cases more j) [
                      | inl out ↦ absurd ((out-of more y.completes j u low_j out at_u).0 i t at_t before)
                      | inr in_j ↦ elim (bit_cases more i) [
                        | inl out ↦ omega (arith, low_i, behind-other more old i out, behind-held more old j in_j)
                        | inr in_i ↦
                            let le = w.ranking.kept i j low_i low_j (told.each i j t u at_t at_u in_i in_j before) in
                            omega (arith, le, behind-held more old i in_i, behind-held more old j in_j)
                      ]
                    ]
              ];
            };
            agree = λ j low is. elim (bit_cases more j) [
              | inr has ↦ w.agree j low has
              | inl out ↦ (let (t, at_t) = at j (member j is) in ((fits j t low out at_t).0))
            ];
            reads = λ j r low few is need. elim (bit_cases more j) [
              | inr has ↦ behind-reads xs more start old j r has (w.reads j r low few has need)
              | inl out ↦
                  let (t, at_t) = at j (member j is) in
                  inl (record {
                    value = (fits j t low out at_t).1 r few need;
                    others = λ k writes. omega (arith, low, behind-other more old j out, behind-held more old k writes.1);
                  })
            ];
          };
          size = y.ends.size;
          each = λ r few. elim (y.ends.each r few) [
            | inl left ↦ inl left
            | inr (place, l) ↦ inr (
              place,
              record {
                writes = l.writes;
                is = l.is;
                last = λ k writes. (let le = l.last k writes in
                    omega (arith, le, behind-held more old k writes.1, behind-held more old place l.writes.1));
              },
            )
          ];
        };
      }

-- so each end by strict serializability is one by opacity
pub alike-ends : (items : List cuts.Txn) (events : List Event) (committed pending : ℕ) (starts : List State) → length items ≤ 8 → HaveEight items
    → ShowsStatus (map view items) committed pending → map view items ≡ views_of events → IsTrue (is_cut events)
    → ((i : ℕ) → i < length starts → length (get_or starts i []) ≡ 8) → FirstUpto committed (map view items) starts (length items)
    → (e : State) → EndsBy Strict (Contains starts) (transactions events) e → EndsBy Opacity (Contains starts) (transactions events) e
alike-ends items events committed pending starts few eight status shown cut sizes free e (start, has, leads) =
    let (strict, b) = some-begun Strict items committed pending few eight status in
    let (opaque, d) = some-begun Opacity items committed pending few eight status in
    let s = shown-of b events shown in
    let o = shown-of d events shown in
    let size = start-size starts start sizes has in
    let none = none-pending items events committed pending status shown cut in
    let y = (leads-of Strict items events start committed pending strict e s size).0 leads in (
      start,
      has,
      (leads-of Opacity items events start committed pending opaque e o size).1
          (first-end items events committed pending strict opaque s o none shown starts free start e has size y),
    )
