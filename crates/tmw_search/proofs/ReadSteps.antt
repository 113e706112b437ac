-- What follows from each read, one after another.
use Rattle.tmw_search.proofs.Shared.{Bool, Branch, Chosen, Effect, Entails, From, Gives, HasNone, In, IsBranch, IsFalse, IsLegal, IsNode, IsOnly, IsRead, IsTrue, KeepsOthers, LeavesOut, List, Narrows, Node, NoneMay, Open, ReadSource, Reads, ReadsFrom, SettledSource, Settles, Sourced, Start, State, TakesIn, Writes, ap, arith, bit_and, bit_at, bit_at-zero, bit_at_clear_other, bit_not, eq-eqb, false, inl, inr, looking, need_at, ordered, refl, slice_index, source_at, subst, sym, true, w8, ℕ, ◌%◌, ◌*◌, ◌+◌, ◌-◌, ◌<◌, ◌==◌, ◌^◌, ◌↔◌, ◌∙◌, ◌≡◌, ◌≤◌, ◌⊎◌}
use Rattle.tmw_search.proofs.Bits.{masks, same_place}
use Rattle.tmw_search.proofs.Branches.{never-true}
use Rattle.tmw_search.proofs.Nodes.{is_pair, sound-more, node-ordered, legal-chosen, legal-with, legal-less, reads-sourced, sourced-reads}

pub follows-then : {xs : List Effect} {start : State} {may : ℕ} {old mid new : Node} {alive : Bool} → Entails xs start may old mid true
    → Entails xs start may mid new alive → Entails xs start may old new alive
follows-then f g = record {
  is = g.is;
  into = λ held rank lives l. f.into held rank refl (g.into held rank lives l);
  onto = λ held rank l. g.onto held rank (f.onto held rank l).1;
}

-- there is no legal order
pub follows-none : {xs : List Effect} {start : State} {may : ℕ} {old new : Node} → HasNone xs start may old → Entails xs start may old new false
follows-none none = record {
  is = λ alive. absurd (never-true alive);
  into = λ held rank alive l. absurd (never-true alive);
  onto = λ held rank l. absurd (none held rank l);
}

-- nodes that differ in what is looked at have the same legal orders
legal-looking : {xs : List Effect} {start : State} {may : ℕ} {node : Node} {held : ℕ} {rank : ℕ → ℕ} (reads : List ℕ)
    → IsLegal xs start may node held rank ↔ IsLegal xs start may (looking node reads) held rank
legal-looking = grind arith

-- a settled read is left out
pub follows-left : {xs : List Effect} {start : State} {may j r : ℕ} {old new : Node} → LeavesOut j r old new → Settles xs start may old j r
    → IsNode xs start may old → Entails xs start may old new true
follows-left {xs = xs} {start = start} {may = may} {j = j} {r = r} {old = old} {new = new} lo settled n =
    subst (λ (node : Node). Entails xs start may old node true) (sym lo.is) (record {
      is = λ alive. record {
        order = n.order;
        writers = n.writers;
        reads = λ a q within_a within_q is. n.reads a q within_a within_q (lo.only a q within_a within_q is);
        rest = λ a q within_a within_q in_it needs. elim (is_pair a q j r) [
          | inl (same, here) ↦ inr (rw (same, here) settled)
          | inr differ ↦ elim (n.rest a q within_a within_q in_it needs) [
            | inl read ↦ inl (lo.kept a q within_a within_q differ read)
            | inr s ↦ inr s
          ]
        ];
        members = n.members;
        agree = n.agree;
        sound = n.sound;
      };
      into = λ held rank alive l. (legal-looking new.choices.reads).1 l;
      onto = λ held rank l. (refl, (legal-looking new.choices.reads).0 l);
    })

-- a writer of the register is one that the node holds
held-writes : (xs : List Effect) (start : State) (may r k held : ℕ) (node : Node) → r < 8 → IsNode xs start may node → NoneMay xs may r
    → ((i : ℕ) → i < 8 → In held i → In node.held i ⊎ In may i) → Writes xs held r k → In (slice_index node.choices.writers r) k
held-writes = grind arith

-- no other writes the register
pub alone : (mask j k : ℕ) → bit_and mask (bit_not w8 (1 * 2 ^ j % 2 ^ 8)) ≡ 0 → k < 8 → j < 8 → In mask k → k ≡ j
alone mask j k none within within_j is = elim (same_place k j) [
  | inl same ↦ same
  | inr apart ↦ absurd (omega (arith, is, ap (λ (m : ℕ). bit_at m k) none, bit_at-zero k, bit_at_clear_other w8 mask j within_j k within apart))
]

pub follows-alone : {xs : List Effect} {start : State} {may j r : ℕ} {old new : Node} {b : Bool} → j < 8 → r < 8 → IsNode xs start may old
    → IsRead old.choices j r → source_at old.choices j r ≡ Open → NoneMay xs may r
    → ((k : ℕ) → k < 8 → In (slice_index old.choices.writers r) k → k ≡ j) → LeavesOut j r old new
    → b ≡ (slice_index start r == need_at xs j r) → (IsTrue b → slice_index start r ≡ need_at xs j r) → Entails xs start may old new b
follows-alone {xs = xs} {start = start} {may = may} {j = j} {r = r} {old = old} {b = b} within_j within_r n read free none only lo tells value =
    let mine : (held k : ℕ) → ((i : ℕ) → i < 8 → In held i → In old.held i ⊎ In may i) → Writes xs held r k → k ≡ j =
    λ held k among w. only k w.0 (held-writes xs start may r k held old within_r n none among w) in
    let settled : IsTrue b → Settles xs start may old j r = λ alive held rank ranks more among.
    subst (λ (s : ReadSource). Reads xs held start rank j r s) (sym free)
    (inl (record { value = value alive; others = λ k w. omega (arith, ap rank (mine held k among w)) })) in
    record {
      is = λ alive. (follows-left lo (settled alive) n).is refl;
      into = λ held rank alive l. (follows-left lo (settled alive) n).into held rank refl l;
      onto = λ held rank l.
          let (in_it, needs) = n.reads j r within_j within_r read in
          let reads : Reads xs held start rank j r Open =
          subst (λ (s : ReadSource). Reads xs held start rank j r s) free (l.reads j r within_j within_r (inl in_it) needs) in
          elim reads [
            | inl s ↦
                let alive : IsTrue b = tells ∙ eq-eqb _ _ s.value in
                (alive, ((follows-left lo (settled alive) n).onto held rank l).1)
            | inr (i, f) ↦ absurd (omega (arith, f.below, ap rank (mine held i l.only f.writes)))
          ];
    }

-- none offered, none legal
pub follows-never : {xs : List Effect} {start : State} {may : ℕ} {node : Node} {b : Branch} → IsBranch xs start may node b → b.writers ≡ 0
    → (IsTrue b.start → ⊥) → Entails xs start may node node false
follows-never is none not = follows-none (λ held rank l. elim (is.all held rank l) [
  | inl (yes_start, s) ↦ absurd (not yes_start)
  | inr (i, few, one, f) ↦ absurd (omega (arith, one, ap (λ (m : ℕ). bit_at m i) none, bit_at-zero i))
])

false-true : (b : Bool) → IsFalse b → IsTrue b → ⊥
false-true = grind arith

only-reads : (xs : List Effect) (start : State) (may : ℕ) (node : Node) (b : Branch) (source : ReadSource) → IsBranch xs start may node b
    → IsOnly b source → (held : ℕ) (rank : ℕ → ℕ) → IsLegal xs start may node held rank → Reads xs held start rank b.reader b.register source
only-reads xs start may node b Open is only held rank l = absurd only
only-reads xs start may node b Start is only held rank l = elim (is.all held rank l) [
  | inl (yes_start, s) ↦ s
  | inr (i, few, one, f) ↦ absurd (omega (arith, one, ap (λ (m : ℕ). bit_at m i) only.1, bit_at-zero i))
]
only-reads xs start may node b (From i) is only held rank l = elim (is.all held rank l) [
  | inl (yes_start, s) ↦ absurd (false-true b.start only.0 yes_start)
  | inr (k, few, one, f) ↦ subst (λ (m : ℕ). ReadsFrom xs held rank b.reader b.register m) (only.3 k few one) f
]

-- the read has been given its source, and what follows is known
pub follows-given : {xs : List Effect} {start : State} {may : ℕ} {old mid : Node} {reach : List ℕ} {b : Branch} {source : ReadSource} {alive : Bool}
    → IsBranch xs start may old b → IsOnly b source → Gives xs start may old b.reader b.register source mid
    → Narrows (Sourced (slice_index mid.choices.writers b.register) b.reader source) mid.reach reach alive
    → Entails xs start may old (ordered mid reach) alive
follows-given {xs = xs} {start = start} {may = may} {old = old} {mid = mid} {reach = reach} {b = b} {source = source} is only g n = record {
  is = λ lives. node-ordered n.grows n.order g.is;
  into = λ held rank lives l. g.into held rank (legal-less n.grows l);
  onto = λ held rank l.
      let reads = only-reads xs start may old b source is only held rank l in
      let next = g.onto held rank l reads in
      let sourced = reads-sourced xs start held rank b.reader b.register (slice_index mid.choices.writers b.register) source
      (λ k within one.
      let (holds, leaves) = (g.is.writers b.register k is.register within).0 one in
      (within, next.more k within holds, leaves)) reads in
      (n.told rank next.ranking sourced, legal-with (n.all rank next.ranking sourced) next);
}

-- what follows from all sources that are chosen is known
pub follows-settled : {xs : List Effect} {start : State} {may : ℕ} {old mid : Node} {reach : List ℕ} {alive : Bool} → Entails xs start may old mid true
    → Narrows (Chosen mid.choices) mid.reach reach alive → Entails xs start may old (ordered mid reach) alive
follows-settled {xs = xs} {start = start} {may = may} {mid = mid} {reach = reach} f n = record {
  is = λ lives. node-ordered n.grows n.order (f.is refl);
  into = λ held rank lives l. f.into held rank refl (legal-less n.grows l);
  onto = λ held rank l.
      let next = (f.onto held rank l).1 in
      let chosen = legal-chosen (f.is refl) next in
      (n.told rank next.ranking chosen, legal-with (n.all rank next.ranking chosen) next);
}

-- by who precedes whom the read is settled
pub settled-by : {xs : List Effect} {start : State} {may : ℕ} {node : Node} (j r : ℕ) (source : ReadSource) → j < 8 → r < 8
    → IsNode xs start may node → NoneMay xs may r → source_at node.choices j r ≡ source → (source ≡ Open → ⊥)
    → SettledSource (slice_index node.choices.writers r) j source node.reach → Settles xs start may node j r
settled-by = grind (arith, sourced-reads, held-writes, sound-more)

pub only-closed : (b : Branch) (source : ReadSource) → IsOnly b source → source ≡ Open → ⊥
only-closed = grind arith

-- the reads of one transaction, those of the mask left
pub record ReadBy (xs : List Effect) (start : State) (may j left : ℕ) (old now : Node) : Type 0 where
  pub follows : Entails xs start may old now true
  pub waits : (q : ℕ) → q < 8 → In left q → IsRead now.choices j q × (source_at now.choices j q ≡ Open)
  pub others : (a q : ℕ) → a < 8 → q < 8 → (a ≡ j → ⊥) → IsRead old.choices a q
      → IsRead now.choices a q × (source_at now.choices a q ≡ source_at old.choices a q)

pub read-more : {xs : List Effect} {start : State} {may j left : ℕ} {old mid new : Node} (r : ℕ) → j < 8 → r < 8 → In left r
    → ReadBy xs start may j left old mid → Entails xs start may mid new true → KeepsOthers j r mid new
    → ReadBy xs start may j (left - 1 * 2 ^ r % 2 ^ 8) old new
read-more r within_j within_r one b f kept = record {
  follows = follows-then b.follows f;
  waits = grind (arith, masks);
  others = grind (arith, masks);
}

-- the reads of the transactions from this one on
pub record ReadFrom (xs : List Effect) (start : State) (may j : ℕ) (reads : List ℕ) (old now : Node) : Type 0 where
  pub follows : Entails xs start may old now true
  pub waits : (a q : ℕ) → j ≤ a → a < 8 → q < 8 → In (slice_index reads a) q → IsRead now.choices a q × (source_at now.choices a q ≡ Open)

pub read-next : {xs : List Effect} {start : State} {may j : ℕ} {reads : List ℕ} {old mid new : Node} → ReadFrom xs start may j reads old mid
    → Entails xs start may mid new true
    → ((a q : ℕ) → a < 8 → q < 8 → (a ≡ j → ⊥) → IsRead mid.choices a q
    → IsRead new.choices a q × (source_at new.choices a q ≡ source_at mid.choices a q))
    → ReadFrom xs start may (j + 1) reads old new
read-next = grind (arith, follows-then, masks)

pub kept-given : {xs : List Effect} {start : State} {may : ℕ} {old new : Node} {j r : ℕ} {source : ReadSource}
    → Gives xs start may old j r source new → KeepsOthers j r old new
kept-given g = λ a q within_a within_q differ is. (g.reads a q within_a within_q is, g.others a q within_q differ)

pub kept-left : {mid new : Node} {j r : ℕ} (old : Node) → LeavesOut j r mid new → KeepsOthers j r old mid → KeepsOthers j r old new
kept-left = grind arith

pub taken-given : {xs : List Effect} {start : State} {may : ℕ} {old mid : Node} {reach : List ℕ} {b : Branch} {source : ReadSource} {alive : Bool}
    → IsBranch xs start may old b → IsOnly b source → Gives xs start may old b.reader b.register source mid
    → Narrows (Sourced (slice_index mid.choices.writers b.register) b.reader source) mid.reach reach alive
    → TakesIn xs start may b.reader b.register old (ordered mid reach) alive
taken-given is only g n = record { follows = follows-given is only g n; others = kept-given g }
