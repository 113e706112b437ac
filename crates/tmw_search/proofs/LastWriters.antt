-- Which of a register's writers is its last, one other after another.
use Rattle.tmw_search.proofs.Shared.{Adds, Bool, ComeBefore, ComesLast, Effect, EndWith, EndsAt, Has, HasNone, In, IsEndOf, IsFound, IsLast, IsLegal, IsNode, IsOrder, IsPutLast, IsRead, IsTrue, Joins, LeftByOne, List, Narrows, Node, State, Writes, ap, arith, bit_and, bit_at, bit_at-lt, bit_at-zero, bit_at_and, bit_at_clear_other, bit_at_clear_same, bit_at_not, bit_not, bit_or, cases_lt, ext_get_or, get_or-map, get_or-set_other, get_or-set_same, inl, inr, left_at, length, length-map, length-set, map, or_of_8, ordered, refl, slice_index, slice_set, subst, sym, true, w8, ℕ, ◌%◌, ◌*◌, ◌+◌, ◌<◌, ◌^◌, ◌↔◌, ◌∙◌, ◌≡◌}
use Rattle.tmw_search.proofs.Bits.{masks, or_either, same_place, bit_cases, IsLess, or-left, or-right}
use Rattle.tmw_search.proofs.AddMembers.{ByOne, adds-to, adds-empty}
use Rattle.tmw_search.proofs.Nodes.{found-clear, legal-chosen, legal-less, legal-with, node-ordered}
use Rattle.tmw_search.proofs.Ranks.{one-end}
use Rattle.std.specs.Int.Bits.{or_zero_r}
use Rattle.tmw_search.proofs.Consequences.{narrows-then, same-narrows, joined, joins-each, joined-order, joined-narrows}

-- those that come before one below the place
pub record FindsBefore (reach : List ℕ) (these place before : ℕ) : Type 0 where
  pub only : (i : ℕ) → i < 8 → bit_at before i ≡ 1
      → (j : ℕ) × (j < 8) × (bit_at these j ≡ 1) × (bit_at (slice_index reach j) i ≡ 1) × (i ≡ j → ⊥)
  pub all : (i j : ℕ) → i < 8 → j < place → bit_at these j ≡ 1 → bit_at (slice_index reach j) i ≡ 1 → (i ≡ j → ⊥) → bit_at before i ≡ 1

pub finds-more : (reach : List ℕ) (these before place : ℕ) → place < 8 → bit_at these place ≡ 1 → FindsBefore reach these place before
    → FindsBefore reach these (place + 1)
    (bit_or before (bit_and (slice_index reach place) (bit_not w8 (1 * 2 ^ place % 2 ^ 8))))
finds-more reach these before place within one f =
    let own = bit_and (slice_index reach place) (bit_not w8 (1 * 2 ^ place % 2 ^ 8)) in
    record {
      only = λ i within_i is. elim (or_either before own i is) [
        | inl was ↦ f.only i within_i was
        | inr here ↦
            let apart : i ≡ place → ⊥ = λ same.
            absurd (omega (arith, here, ap (bit_at own) same, bit_at_clear_same w8 (slice_index reach place) place within)) in
            (place, within, one, sym (bit_at_clear_other w8 (slice_index reach place) place within i within_i apart) ∙ here, apart)
      ];
      all = grind (arith, masks);
    }

-- one that is none of these changes nothing
pub finds-none : (reach : List ℕ) (these before place : ℕ) → (bit_at these place ≡ 1 → ⊥) → FindsBefore reach these place before
    → FindsBefore reach these (place + 1) (bit_or before 0)
finds-none reach these before place not f = record {
  only = λ i within is. f.only i within (rw (or_zero_r before) at is);
  all = λ i j within below among has apart. rw (or_zero_r before) (elim (cases_lt j place) [
    | inl less ↦ f.all i j within less among has apart
    | inr above ↦ (let at : j ≡ place = omega (arith, above, below) in absurd (not (rw at at among)))
  ]);
}

-- The one that comes before no other writer is put behind all of them, and all that come before them.
module _ {i writers before : ℕ} {old new : List ℕ} (within_i : i < 8) (o : IsOrder old) (comes : ComeBefore old writers before)
    (writes : In writers i) (free : In before i → ⊥) (joins : Joins i (bit_or writers before) old new) where
  -- each of those added is a writer or comes before one
  of-writer : (a : ℕ) → a < 8 → In (bit_or writers before) a → (w : ℕ) × (w < 8) × In writers w × Has old a w
  of-writer a within_a is = elim (or_either writers before a is) [
    | inl one ↦ (a, within_a, one, o.self a within_a)
    | inr first ↦ (let (w, few, one, has, apart) = comes.only a within_a first in (w, few, one, has))
  ]

  -- one that comes before one of them is one of them
  add_below : (b a : ℕ) → b < 8 → a < 8 → Has old b a → In (bit_or writers before) a → In (bit_or writers before) b
  add_below b a within_b within_a has is =
      let (w, few, one, below) = of-writer a within_a is in
      elim (same_place b w) [
        | inl same ↦ or-left writers before b (subst (λ (m : ℕ). In writers m) (sym same) one)
        | inr apart ↦ or-right writers before b (comes.all b w within_b few one (o.closed b a w within_b within_a few has below) apart)
      ]

  -- none of them comes after it
  none_after : (a : ℕ) → a < 8 → Has old i a → In (bit_or writers before) a → a ≡ i
  none_after a within_a has is =
      let (w, few, one, below) = of-writer a within_a is in
      elim (same_place i w) [
        | inl same ↦ o.apart a i within_a within_i (subst (λ (m : ℕ). Has old a m) (sym same) below) has
        | inr apart ↦ absurd (free (comes.all i w within_i few one (o.closed i a w within_i within_a few has below) apart))
      ]

  pub last-order : IsOrder new
  last-order = joined-order i (bit_or writers before) old new within_i o add_below none_after joins

  pub last-narrows : Narrows (ComesLast writers i) old new true
  last-narrows = joined-narrows i (bit_or writers before) old new within_i o add_below none_after joins (ComesLast writers i)
      (λ rank r is a within_a added.
      let (w, few, one, below) = of-writer a within_a added in
      omega (arith, r.kept a w within_a few below, is w few one))

  pub last-has : (k : ℕ) → k < 8 → In writers k → Has new k i
  last-has k within one = joins.adds k i within_i (o.self i within_i) (or-left writers before k one)

-- who writes a register in a legal order is what the node says
pub writer-of : (xs : List Effect) (start : State) (node : Node) (r k held : ℕ) (rank : ℕ → ℕ) → r < 8 → IsNode xs start 0 node
    → IsLegal xs start 0 node held rank → Writes xs held r k → In (slice_index node.choices.writers r) k
writer-of xs start node r k held rank within n l w = grind (arith, masks, l.only k w.0 w.1, n.writers r k within w.0, w.2)

pub writes-in : (xs : List Effect) (start : State) (node : Node) (r k held : ℕ) (rank : ℕ → ℕ) → r < 8 → k < 8 → IsNode xs start 0 node
    → IsLegal xs start 0 node held rank → In (slice_index node.choices.writers r) k → Writes xs held r k
writes-in xs start node r k held rank within few n l is =
    let (own, leaves) = (n.writers r k within few).0 is in
    (few, l.more k few own, leaves)

-- no register is left
pub settled_end : (xs : List Effect) (start : State) (node : Node) (registers : ℕ) (base e : State) → registers ≡ 0 → length base ≡ 8
    → IsEndOf xs start node registers base e → e ≡ base
settled_end xs start node registers base e none size x =
    ext_get_or 0 e base (x.size ∙ sym size) (λ q within. x.settled q (omega (arith, within, x.size))
    (λ is. absurd (omega (arith, is, ap (λ (m : ℕ). bit_at m q) none, bit_at-zero q))))

pub ends-found : {done : Bool} (xs : List Effect) (start : State) (node found : Node) (base : State) (old new : List State) → length base ≡ 8
    → IsFound xs start 0 node found → Adds done old new (λ e. e ≡ base) → Adds done old new (IsEndOf xs start node 0 base)
ends-found xs start node found base old new size f adds =
    let here : IsEndOf xs start node 0 base base = record {
      held = found.held;
      rank = f.rank;
      legal = f.legal f.rank f.ranking;
      size = size;
      settled = λ r few out. refl;
      rest = λ r few is. absurd (omega (arith, is, bit_at-zero r));
    } in
    adds-to (λ e same. subst (IsEndOf xs start node 0 base) (sym same) here) (λ all e x. settled_end xs start node 0 base e refl size x)
    adds

pub ends-none : (xs : List Effect) (start : State) (node : Node) (registers : ℕ) (base : State) (old : List State)
    → HasNone xs start 0 node → Adds true old old (IsEndOf xs start node registers base)
ends-none xs start node registers base old none =
    adds-empty (λ e x. none x.held x.rank x.legal)

-- where no read is looked at each order is legal
pub plain-found : (xs : List Effect) (start : State) (node : Node) → ((j r : ℕ) → IsRead node.choices j r → ⊥) → IsNode xs start 0 node
    → IsFound xs start 0 node node
plain-found xs start node plain n =
    found-clear n (λ j within r few is. absurd (plain j r is)) (λ j r within few is. absurd (plain j r is))

-- an end that the one at the place leaves last
pub record LeavesAt (xs : List Effect) (start : State) (node : Node) (r registers : ℕ) (base : State) (place : ℕ) (e : State) : Type 0 where
  pub ends : IsEndOf xs start node registers base e
  pub last : IsLast xs ends.held ends.rank r (slice_index e r) place

-- a writer before which no other of them comes behind
pub free-bit : (writers before i : ℕ) → before < 2 ^ 8 → i < 8 → In writers i → bit_at before i ≡ 0 → In (bit_and writers (bit_not w8 before)) i
free-bit writers before i fits few one none =
    omega (arith, one, none, bit_at_and writers (bit_not w8 before) i, bit_at_not w8 before i fits few)

pub free-writer : (writers before i : ℕ) → i < 8 → In (bit_and writers (bit_not w8 before)) i → In writers i
free-writer writers before i few is =
    omega (arith, is, bit_at_and writers (bit_not w8 before) i, bit_at-lt writers i, bit_at-lt (bit_not w8 before) i)

pub free-before : (writers before i : ℕ) → before < 2 ^ 8 → i < 8 → In (bit_and writers (bit_not w8 before)) i → In before i → ⊥
free-before writers before i fits few is has =
    absurd (omega (arith, is, has, bit_at_and writers (bit_not w8 before) i, bit_at_not w8 before i fits few, bit_at-lt writers i))

joined_all : (reach : List ℕ) (place before : ℕ) → IsOrder reach → before < 256 → Joins place before reach (map (joined place before) reach)
joined_all reach place before o small =
    joins-each place before reach (map (joined place before) reach) (length-map reach (joined place before) ∙ o.size) o.fits small
    (λ k within. get_or-map (joined place before) reach k 0 0 (omega (arith, within, o.size)))

abbrev held_of : Node → ℕ
held_of node = node.held

put-here : (base : State) (r value : ℕ) → r < 8 → length base ≡ 8 → slice_index (slice_set base r value) r ≡ value
put-here base r value within size = get_or-set_same base r value 0 (omega (arith, within, size))

-- The ends of a node, one register after another: this is the next.
module _ {xs : List Effect} {start : State} {r registers rest : ℕ} (base : State) (within : r < 8) (size : length base ≡ 8)
    (is_in : In registers r) (less : IsLess registers r rest) where
  abbrev put-value : (node other : Node) (value : ℕ) (e : State) (x : IsEndOf xs start node registers base e) → slice_index e r ≡ value
      → IsLegal xs start 0 other x.held x.rank → IsEndOf xs start other rest (slice_set base r value) e
  put-value node other value e x is legal = record {
    held = x.held;
    rank = x.rank;
    legal = legal;
    size = x.size;
    settled = grind (arith, masks);
    rest = λ q few has.
        let apart : q ≡ r → ⊥ = λ same. absurd (omega (arith, has, ap (bit_at rest) same, less.new)) in
        subst (λ (v : ℕ). EndsAt xs x.held x.rank q v (slice_index e q)) (sym (get_or-set_other base r q value 0 apart))
        (x.rest q few (less.other q apart ∙ has));
  }

  ends-here : (other : Node) (value : ℕ) (e : State) → IsEndOf xs start other rest (slice_set base r value) e → slice_index e r ≡ value
  ends-here other value e x = x.settled r within (λ has. absurd (omega (arith, has, less.new))) ∙ put-here base r value within size

  abbrev take-value : (node other : Node) (value : ℕ) (e : State) (x : IsEndOf xs start other rest (slice_set base r value) e)
      → IsLegal xs start 0 node x.held x.rank → EndsAt xs x.held x.rank r (slice_index base r) value → IsEndOf xs start node registers base e
  take-value node other value e x legal ends = record {
    held = x.held;
    rank = x.rank;
    legal = legal;
    size = x.size;
    settled = grind (arith, masks);
    rest = λ q few has. elim (same_place q r) [
      | inl same ↦
          subst (λ (p : ℕ). EndsAt xs x.held x.rank p (slice_index base p) (slice_index e p)) (sym same)
          (subst (EndsAt xs x.held x.rank r (slice_index base r)) (sym (ends-here other value e x)) ends)
      | inr apart ↦
          subst (λ (v : ℕ). EndsAt xs x.held x.rank q v (slice_index e q)) (get_or-set_other base r q value 0 apart)
          (x.rest q few (sym (less.other q apart) ∙ has))
    ];
  }

  -- a register whose end is known needs no choice
  pub known-ends : (node : Node) (value : ℕ) (e : State) → IsNode xs start 0 node → EndWith xs node r (slice_index base r) value
      → IsEndOf xs start node registers base e ↔ IsEndOf xs start node rest (slice_set base r value) e
  known-ends node value e n known = (
    λ x. put-value node node value e x (one-end (λ i j w v. x.legal.ranking.apart i j w.0 v.0)
        (x.rest r within is_in) (known start n x.held x.rank x.legal)) x.legal,
    λ x. take-value node node value e x x.legal (known start n x.held x.rank x.legal),
  )

  -- one of the writers is put last
  module _ (node : Node) (i : ℕ) (reach : List ℕ) (alive : Bool) (n : IsNode xs start 0 node)
      (m : Narrows (IsPutLast node.choices (slice_index node.choices.writers r) i) node.reach reach alive) where
    pub child-of : (e : State) → LeavesAt xs start node r registers base i e
        → IsTrue alive × IsEndOf xs start (ordered node reach) rest (slice_set base r (left_at xs i r)) e
    child-of e w =
        let x = w.ends in
        let put : IsPutLast node.choices (slice_index node.choices.writers r) i x.rank = (
          λ k few is. w.last.last k (writes-in xs start node r k x.held x.rank within few n x.legal is),
          legal-chosen n x.legal,
        ) in (
          m.told x.rank x.legal.ranking put,
          put-value node (ordered node reach) (left_at xs i r) e x w.last.is
              (legal-with (m.all x.rank x.legal.ranking put) x.legal),
        )

    pub of-child : i < 8 → In (slice_index node.choices.writers r) i
        → ((k : ℕ) → k < 8 → In (slice_index node.choices.writers r) k → Has reach k i) → (e : State)
        → IsEndOf xs start (ordered node reach) rest (slice_set base r (left_at xs i r)) e → LeavesAt xs start node r registers base i e
    of-child within_i writes last e x =
        let legal = legal-less {xs = xs} {start = start} {node = node} m.grows x.legal in
        let l : IsLast xs x.held x.rank r (left_at xs i r) i = record {
          writes = writes-in xs start node r i x.held x.rank within within_i n legal writes;
          is = refl;
          last = λ k w. x.legal.ranking.kept k i w.0 within_i (last k w.0 (writer-of xs start node r k x.held x.rank within n legal w));
        } in
        record {
          ends = take-value node (ordered node reach) (left_at xs i r) e x legal (inr (i, l));
          last = record { writes = l.writes; is = ends-here (ordered node reach) (left_at xs i r) e x; last = l.last };
        }

  -- Those that come before another writer are not its last, and some writer is.
  module _ (node : Node) (before : ℕ) (fits : before < 2 ^ 8) (n : IsNode xs start 0 node)
      (comes : ComeBefore node.reach (slice_index node.choices.writers r) before)
      (some : (k : ℕ) × (k < 8) × In (slice_index node.choices.writers r) k) where
    last-at : (e : State) → IsEndOf xs start node registers base e
        → ByOne (LeavesAt xs start node r registers base) (bit_and (slice_index node.choices.writers r) (bit_not w8 before)) e
    last-at e x = elim (x.rest r within is_in) [
      | inl (nobody, same) ↦
          let (k, few, one) = some in
          absurd (nobody k (writes-in xs start node r k x.held x.rank within few n x.legal one))
      | inr (place, l) ↦
          let few = l.writes.0 in
          let one = writer-of xs start node r place x.held x.rank within n x.legal l.writes in
          elim (bit_cases before place) [
            | inl none ↦ (
              place,
              few,
              free-bit (slice_index node.choices.writers r) before place fits few one none,
              record { ends = x; last = l },
            )
            | inr first ↦
                let (k, few_k, is, has, apart) = comes.only place few first in
                let above = x.legal.ranking.kept place k few few_k has in
                let most = l.last k (writes-in xs start node r k x.held x.rank within few_k n x.legal is) in
                absurd (apart (x.legal.ranking.apart place k few few_k (omega (arith, above, most))))
          ]
    ]

    pub all-last : (old new : List State)
        → Adds true old new (ByOne (LeavesAt xs start node r registers base) (bit_and (slice_index node.choices.writers r) (bit_not w8 before)))
        → Adds true old new (IsEndOf xs start node registers base)
    all-last old new a = adds-to (λ e (i, few, is, w). w.ends) (λ all. last-at) a

    -- of the last register, where each order is legal
    pub adds-last : {done : Bool} (old new : List State) → slice_index node.choices.writers r < 2 ^ 8 → rest ≡ 0
        → ((j q : ℕ) → IsRead node.choices j q → ⊥)
        → Adds done old new (LeftByOne xs r (bit_and (slice_index node.choices.writers r) (bit_not w8 before)) base)
        → Adds done old new (IsEndOf xs start node registers base)
    adds-last old new small none plain a =
        let writers = slice_index node.choices.writers r in
        let long : (value : ℕ) → length (slice_set base r value) ≡ 8 = λ value. length-set base r value ∙ size in
        adds-to (λ e (i, few, one, same).
        let writes = free-writer writers before i few one in
        let free = free-before writers before i fits few one in
        let reach = map (joined i (bit_or writers before)) node.reach in
        let j = joined_all node.reach i (bit_or writers before) n.order (or_of_8 writers before small fits) in
        let m = last-narrows few n.order comes writes free j in
        let f = plain-found xs start (ordered node reach) plain (node-ordered m.grows m.order n) in
        let w = of-child node i reach true n (narrows-then (λ rank is. is) (λ rank is. is.0) (same-narrows n.order) m) few writes
        (last-has few n.order comes writes free j) e (record {
          held = held_of node;
          rank = f.rank;
          legal = f.legal f.rank f.ranking;
          size = ap length same ∙ long (left_at xs i r);
          settled = λ q low out. ap (λ (s : State). slice_index s q) same;
          rest = λ q low is. absurd (omega (arith, is, ap (λ (p : ℕ). bit_at p q) none, bit_at-zero q));
        }) in
        w.ends)
        (λ all e x.
        let (place, few, is, w) = last-at e x in
        let value = left_at xs place r in (
          place,
          few,
          is,
          settled_end xs start node rest (slice_set base r value) e none (long value)
              (put-value node node value e w.ends w.last.is w.ends.legal),
        )) a
