-- What the legal orders of a node are where more is known, and where a read is given its source.
use Rattle.tmw_search.proofs.Shared.{AllSettled, Before, Bool, Chosen, Effect, From, FromIs, Gives, Has, HasNone, Holds, In, IsBetween, IsFound, IsLegal, IsNode, IsOrder, IsRanking, IsRead, IsSound, IsTrue, Leaves, List, MayGive, Narrows, Needs, Node, Open, ReadSource, Reads, SettledSource, Settles, Sourced, State, WithinSource, Writes, ap, arith, bit_at, bit_or, cond, count_by, false, get_or, get_or-set_other, get_or-set_same, idle, inl, inr, is_open, length, ordered, refl, set, slice_index, source_at, subst, sum_by-set, sym, ℕ, ◌%◌, ◌*◌, ◌+◌, ◌<◌, ◌^◌, ◌↔◌, ◌∙◌, ◌≡◌, ◌⊎◌}
use Rattle.tmw_search.specs.declared.source_choices.Choices.{Choices}
use Rattle.tmw_search.proofs.Bits.{same_place, masks}
use Rattle.tmw_search.proofs.Consequences.{Grows, rank_of, order-ranks}

pub ranking-less : (old new : List ℕ) (rank : ℕ → ℕ) → Grows old new → IsRanking rank new → IsRanking rank old
ranking-less = grind arith

-- a read that is settled stays so, where fewer orders are kept and more is held
pub settles-with : (xs : List Effect) (start : State) (may : ℕ) (old new : Node) (j r : ℕ)
    → ((rank : ℕ → ℕ) → IsRanking rank new.reach → IsRanking rank old.reach) → source_at new.choices j r ≡ source_at old.choices j r
    → ((k : ℕ) → k < 8 → In old.held k → In new.held k) → ((k : ℕ) → k < 8 → In new.held k → In old.held k ⊎ In may k)
    → Settles xs start may old j r → Settles xs start may new j r
settles-with xs start may old new j r less same more only s held rank ranks has among =
    subst (λ (source : ReadSource). Reads xs held start rank j r source) (sym same)
    (s held rank (less rank ranks) (λ k within is. has k within (more k within is))
    (λ k within is. elim (among k within is) [ inl own ↦ only k within own | inr might ↦ inr might ]))

pub node-ordered : {xs : List Effect} {start : State} {may : ℕ} {node : Node} {reach : List ℕ} → Grows node.reach reach → IsOrder reach
    → IsNode xs start may node → IsNode xs start may (ordered node reach)
node-ordered {xs = xs} {start = start} {may = may} {node = node} {reach = reach} grows o n = record {
  order = o;
  writers = n.writers;
  reads = n.reads;
  rest = λ j r within_j within_r in_it needs. elim (n.rest j r within_j within_r in_it needs) [
    | inl read ↦ inl read
    | inr settles ↦ inr (settles-with xs start may node (ordered node reach) j r (λ rank ranks. ranking-less node.reach reach rank grows ranks)
        refl (λ k within is. is) (λ k within is. inl is) settles)
  ];
  members = n.members;
  agree = n.agree;
  sound = n.sound;
}

-- a source that the ranking reads from is its last writer among those that are held
pub reads-sourced : (xs : List Effect) (start : State) (held : ℕ) (rank : ℕ → ℕ) (j r writers : ℕ) (source : ReadSource)
    → ((k : ℕ) → k < 8 → In writers k → Writes xs held r k) → Reads xs held start rank j r source → Sourced writers j source rank
reads-sourced = grind arith

pub legal-chosen : {xs : List Effect} {start : State} {may : ℕ} {node : Node} {held : ℕ} {rank : ℕ → ℕ} → IsNode xs start may node
    → IsLegal xs start may node held rank → Chosen node.choices rank
legal-chosen = grind (arith, reads-sourced)

-- a legal order with more known, and with less
pub legal-with : {xs : List Effect} {start : State} {may : ℕ} {node : Node} {reach : List ℕ} {held : ℕ} {rank : ℕ → ℕ} → IsRanking rank reach
    → IsLegal xs start may node held rank → IsLegal xs start may (ordered node reach) held rank
legal-with = grind arith

pub legal-less : {xs : List Effect} {start : State} {may : ℕ} {node : Node} {reach : List ℕ} {held : ℕ} {rank : ℕ → ℕ}
    → Grows node.reach reach → IsLegal xs start may (ordered node reach) held rank → IsLegal xs start may node held rank
legal-less = grind (arith, ranking-less)

pub none-settled : {xs : List Effect} {start : State} {may : ℕ} {node : Node} {reach : List ℕ} {alive : Bool} → IsNode xs start may node
    → Narrows (Chosen node.choices) node.reach reach alive → alive ≡ false → HasNone xs start may node
none-settled n s dead = λ held rank l. absurd (let t = s.told rank l.ranking (legal-chosen n l) in cc)

-- none where more is known, and so none
pub none-with : {xs : List Effect} {start : State} {may : ℕ} {node : Node} {reach : List ℕ} {alive : Bool} → IsNode xs start may node
    → Narrows (Chosen node.choices) node.reach reach alive → HasNone xs start may (ordered node reach) → HasNone xs start may node
none-with n s none = λ held rank l. none held rank (legal-with (s.all rank l.ranking (legal-chosen n l)) l)

pub found-from : {xs : List Effect} {start : State} {may : ℕ} {node next found : Node}
    → ((held : ℕ) (rank : ℕ → ℕ) → IsLegal xs start may next held rank → IsLegal xs start may node held rank)
    → IsFound xs start may next found → IsFound xs start may node found
found-from {found = found} into f = record {
  order = f.order;
  rank = f.rank;
  ranking = f.ranking;
  legal = λ rank r. into found.held rank (f.legal rank r);
}

pub found-less : {xs : List Effect} {start : State} {may : ℕ} {node found : Node} {reach : List ℕ} → Grows node.reach reach
    → IsFound xs start may (ordered node reach) found → IsFound xs start may node found
found-less grows f = found-from (λ held rank l. legal-less grows l) f

-- all is settled, and so any order is legal
pub before-of : (reach : List ℕ) (rank : ℕ → ℕ) (i j : ℕ) → i < 8 → j < 8 → IsRanking rank reach → Has reach i j → (i ≡ j → ⊥) → rank i < rank j
before-of = grind arith

pub sourced-reads : (xs : List Effect) (start : State) (held : ℕ) (rank : ℕ → ℕ) (reach : List ℕ) (j r writers : ℕ) (source : ReadSource) → j < 8
    → (source ≡ Open → ⊥) → ((k : ℕ) → Writes xs held r k → In writers k) → IsSound xs start held j r source → IsRanking rank reach
    → SettledSource writers j source reach → Reads xs held start rank j r source
sourced-reads = grind (arith, before-of)

abbrev pub NoneOpen : Choices → Type 0
NoneOpen c = (j r : ℕ) → j < 8 → r < 8 → IsRead c j r → source_at c j r ≡ Open → ⊥

pub found-clear : {xs : List Effect} {start : State} {may : ℕ} {node : Node} → IsNode xs start may node → AllSettled node.choices node.reach
    → NoneOpen node.choices → IsFound xs start may node node
found-clear {xs = xs} {start = start} {node = node} n s closed =
    let member : (j : ℕ) → j < 8 → In node.members j ⊎ In node.held j → In node.members j =
    λ j within is. elim is [ inl here ↦ here | inr held ↦ n.members j within held ] in
    record {
      order = n.order;
      rank = rank_of node.reach;
      ranking = order-ranks node.reach n.order;
      legal = λ rank ranks. record {
        ranking = ranks;
        more = λ i within is. is;
        only = λ i within is. inl is;
        agree = λ j within is. n.agree j within (member j within is);
        reads = λ j r within_j within_r is needs.
            elim (n.rest j r within_j within_r (member j within_j is) needs) [
              | inl read ↦
                  sourced-reads xs start node.held rank node.reach j r (slice_index node.choices.writers r) (source_at node.choices j r) within_j
                  (closed j r within_j within_r read) (λ k w. (n.writers r k within_r w.0).1 (w.1, w.2)) (n.sound j r within_j within_r) ranks
                  (s j within_j r within_r read)
              | inr settles ↦ settles node.held rank ranks (λ k within has. has) (λ k within has. inl has)
            ];
      };
    }

-- one of the two sides of a pair
pub none-sides : {xs : List Effect} {start : State} {may : ℕ} {node : Node} {i j k : ℕ} {one other : List ℕ} {alive_one alive_other : Bool}
    → IsNode xs start may node → IsBetween (Chosen node.choices) node.reach i j k → Narrows (Before k i) node.reach one alive_one
    → Narrows (Before j k) node.reach other alive_other
    → (IsTrue alive_one → HasNone xs start may (ordered node one)) → (IsTrue alive_other → HasNone xs start may (ordered node other))
    → HasNone xs start may node
none-sides n b m q none_one none_other = λ held rank l.
    elim (b.out rank (legal-chosen n l)) [
      | inl before ↦ none_one (m.told rank l.ranking before) held rank (legal-with (m.all rank l.ranking before) l)
      | inr after ↦ none_other (q.told rank l.ranking after) held rank (legal-with (q.all rank l.ranking after) l)
    ]

-- a mask with one more has that one and its own
pub set_or : (mask i k : ℕ) → i < 8 → In (bit_or mask (1 * 2 ^ i % 2 ^ 8)) k ↔ (In mask k ⊎ (k ≡ i))
set_or mask i k within = grind (arith, masks)

abbrev opened : ReadSource → ℕ
opened source = cond (is_open source) 1 0

closed-zero : (source : ReadSource) → (source ≡ Open → ⊥) → opened source ≡ 0
closed-zero = grind arith

-- the source of a read is chosen
pub opens-less : (sources : List ReadSource) (k : ℕ) (source : ReadSource) → k < length sources → get_or sources k Open ≡ Open
    → (source ≡ Open → ⊥) → count_by is_open (set sources k source) < count_by is_open sources
opens-less = grind (arith, sum_by-set, closed-zero)

pub given-closed : (xs : List Effect) (start : State) (may : ℕ) (node : Node) (j r : ℕ) (source : ReadSource) → MayGive xs start may node j r source
    → source ≡ Open → ⊥
given-closed = grind arith

pub sound-more : (xs : List Effect) (start : State) (old new j r : ℕ) (source : ReadSource) → ((k : ℕ) → k < 8 → In old k → In new k)
    → IsSound xs start old j r source → IsSound xs start new j r source
sound-more = grind arith

-- the reads that are looked at, where a transaction more is held
pub record HasReads (xs : List Effect) (old new : Node) : Type 0 where
  pub only : (a q : ℕ) → a < 8 → q < 8 → IsRead new.choices a q → In new.members a × Needs xs a q
  pub kept : (a q : ℕ) → a < 8 → q < 8 → IsRead old.choices a q → IsRead new.choices a q
  pub all : (a q : ℕ) → a < 8 → q < 8 → In new.members a → Needs xs a q → In old.members a ⊎ IsRead new.choices a q

-- a transaction more is held
pub held-with : (xs : List Effect) (start : State) (may i : ℕ) (old new : Node) → i < 8
    → (In old.held i ⊎ (In may i × IsTrue (get_or xs i idle).agrees)) → IsNode xs start may old → new.reach ≡ old.reach → new.choices.sources ≡ old.choices.sources
    → ((k : ℕ) → k < 8 → In new.held k ↔ (In old.held k ⊎ (k ≡ i)))
    → ((k : ℕ) → k < 8 → In new.members k ↔ (In old.members k ⊎ (k ≡ i)))
    → ((r k : ℕ) → r < 8 → k < 8 → In (slice_index new.choices.writers r) k ↔ (In (slice_index old.choices.writers r) k ⊎ ((k ≡ i) × Leaves xs i r)))
    → HasReads xs old new → Holds xs start may (From i) old new
held-with xs start may i old new within given n reach sources held members writers reads = record {
  is = record {
    order = subst (λ (m : List ℕ). IsOrder m) (sym reach) n.order;
    writers = grind (arith, masks);
    reads = reads.only;
    rest = λ a q within_a within_q in_it needs. elim (reads.all a q within_a within_q in_it needs) [
      | inr read ↦ inl read
      | inl was ↦ elim (n.rest a q within_a within_q was needs) [
        | inl read ↦ inl (reads.kept a q within_a within_q read)
        | inr settles ↦ inr (settles-with xs start may old new a q (λ rank ranks. subst (λ (m : List ℕ). IsRanking rank m) reach ranks)
            (ap (λ (s : List ReadSource). get_or s (8 * a + q) Open) sources) (λ k few is. (held k few).1 (inl is))
            (λ k few is. elim ((held k few).0 is) [
              | inl own ↦ inl own
              | inr same ↦ elim given [
                | inl own ↦ inl (subst (λ (m : ℕ). In old.held m) (sym same) own)
                | inr (might, agrees) ↦ inr (subst (λ (m : ℕ). In may m) (sym same) might)
              ]
            ]) settles)
      ]
    ];
    members = grind (arith, masks);
    agree = grind (arith, masks);
    sound = λ j r within_j within_r.
        subst (λ (s : List ReadSource). IsSound xs start new.held j r (get_or s (8 * j + r) Open)) (sym sources)
        (sound-more xs start old.held new.held j r (source_at old.choices j r) (λ k few is. (held k few).1 (inl is)) (n.sound j r within_j within_r));
  };
  reach = reach;
  sources = sources;
  held = held;
  members = members;
  reads = reads.kept;
}

pub mid-same : {xs : List Effect} {start : State} {may : ℕ} {source : ReadSource} {node : Node} → IsNode xs start may node
    → ((k : ℕ) → FromIs source k → ⊥) → Holds xs start may source node node
mid-same = grind arith

-- the node with the source of a read chosen
abbrev pub chosen : Node → ℕ → ℕ → ReadSource → Node
chosen node j r source = record node { choices = record node.choices { sources = set node.choices.sources (8 * j + r) source } }

pub chosen-here : (node : Node) (j r : ℕ) (source : ReadSource) → j < 8 → r < 8 → length node.choices.sources ≡ 64
    → source_at (chosen node j r source).choices j r ≡ source
chosen-here = grind (arith, get_or-set_same)

pub chosen-else : (node : Node) (j r : ℕ) (source : ReadSource) (a q : ℕ) → r < 8 → q < 8 → ((a ≡ j) × (q ≡ r) → ⊥)
    → source_at (chosen node j r source).choices a q ≡ source_at node.choices a q
chosen-else = grind (arith, get_or-set_other)

given-sound : (xs : List Effect) (start : State) (may held j r : ℕ) (node : Node) (source : ReadSource) → ((k : ℕ) → k < 8 → FromIs source k → In held k)
    → MayGive xs start may node j r source → IsSound xs start held j r source
given-sound = grind arith

-- what is read from a source is read
given-open : (xs : List Effect) (held : ℕ) (start : State) (rank : ℕ → ℕ) (j r : ℕ) (source : ReadSource) → Reads xs held start rank j r source
    → Reads xs held start rank j r Open
given-open = grind arith

-- a source that is read from is held
read-held : (xs : List Effect) (held : ℕ) (start : State) (rank : ℕ → ℕ) (j r : ℕ) (source : ReadSource) → Reads xs held start rank j r source
    → (k : ℕ) → FromIs source k → In held k
read-held = grind arith

pub may-agree : (xs : List Effect) (start : State) (may : ℕ) (node : Node) (j r : ℕ) (source : ReadSource) → MayGive xs start may node j r source
    → (k : ℕ) → FromIs source k → In node.held k ⊎ (In may k × IsTrue (get_or xs k idle).agrees)
may-agree = grind arith

pub is_pair : (a q j r : ℕ) → ((a ≡ j) × (q ≡ r)) ⊎ ((a ≡ j) × (q ≡ r) → ⊥)
is_pair = grind (arith, same_place)

pub gives-of : {xs : List Effect} {start : State} {may : ℕ} {node mid : Node} {j r : ℕ} {source : ReadSource} → j < 8 → r < 8
    → IsRead node.choices j r → source_at node.choices j r ≡ Open → IsNode xs start may node → MayGive xs start may node j r source
    → Holds xs start may source node mid → length mid.choices.sources ≡ 64 → Gives xs start may node j r source (chosen mid j r source)
gives-of {xs = xs} {start = start} {may = may} {node = node} {mid = mid} {j = j} {r = r} {source = source} within_j within_r read free n m d long =
    let next = chosen mid j r source in
    let here : source_at next.choices j r ≡ source = chosen-here mid j r source within_j within_r long in
    let other : (a q : ℕ) → q < 8 → ((a ≡ j) × (q ≡ r) → ⊥) → source_at next.choices a q ≡ source_at node.choices a q =
    λ a q few differ. chosen-else mid j r source a q within_r few differ ∙ ap (λ (s : List ReadSource). get_or s (8 * a + q) Open) d.sources in
    record {
      is = record {
        order = d.is.order;
        writers = d.is.writers;
        reads = d.is.reads;
        rest = λ a q within_a within_q in_it needs. elim (is_pair a q j r) [
          | inl (same, is) ↦ inl (d.reads a q within_a within_q (rw (same, is) read))
          | inr differ ↦ elim (d.is.rest a q within_a within_q in_it needs) [
            | inl looked ↦ inl looked
            | inr settles ↦ inr (settles-with xs start may mid next a q (λ rank ranks. ranks)
                (chosen-else mid j r source a q within_r within_q differ) (λ k few is. is) (λ k few is. inl is) settles)
          ]
        ];
        members = d.is.members;
        agree = d.is.agree;
        sound = λ a q within_a within_q. elim (is_pair a q j r) [
          | inl (same, is) ↦ rw (same, is, here) (given-sound xs start may mid.held j r node source (λ k few of. (d.held k few).1 (inr of)) m)
          | inr differ ↦
              subst (λ (s : ReadSource). IsSound xs start mid.held a q s) (sym (chosen-else mid j r source a q within_r within_q differ))
              (d.is.sound a q within_a within_q)
        ];
      };
      into = λ held rank l. record {
        ranking = subst (λ (x : List ℕ). IsRanking rank x) d.reach l.ranking;
        more = λ k within is. l.more k within ((d.held k within).1 (inl is));
        only = grind (arith, may-agree xs start may node j r source m);
        agree = λ k within is. l.agree k within (elim is [ inl was ↦ inl ((d.members k within).1 (inl was)) | inr holds ↦ inr holds ]);
        reads = λ a q within_a within_q is needs.
            let given = l.reads a q within_a within_q (elim is [ inl was ↦ inl ((d.members a within_a).1 (inl was)) | inr holds ↦ inr holds ]) needs in
            elim (is_pair a q j r) [
              | inl (same, at) ↦ rw (same, at, free) (given-open xs held start rank j r source (rw (same, at, here) at given))
              | inr differ ↦ subst (λ (s : ReadSource). Reads xs held start rank a q s) (other a q within_q differ) given
            ];
      };
      onto = λ held rank l from. record {
        ranking = subst (λ (x : List ℕ). IsRanking rank x) (sym d.reach) l.ranking;
        more = grind (arith, read-held xs held start rank j r source from);
        only = λ k within is. elim (l.only k within is) [ inl was ↦ inl ((d.held k within).1 (inl was)) | inr might ↦ inr might ];
        agree = λ k within is. l.agree k within (before held rank k within from is);
        reads = λ a q within_a within_q is needs. elim (is_pair a q j r) [
          | inl (same, at) ↦ rw (same, at, here) from
          | inr differ ↦
              subst (λ (s : ReadSource). Reads xs held start rank a q s) (sym (other a q within_q differ))
              (l.reads a q within_a within_q (before held rank a within_a from is) needs)
        ];
      };
      reach = d.reach;
      given = here;
      reads = d.reads;
      others = other;
    }
  where
    before : (held : ℕ) (rank : ℕ → ℕ) (k : ℕ) → k < 8 → Reads xs held start rank j r source → In mid.members k ⊎ In held k
        → In node.members k ⊎ In held k
    before held rank k within from = grind (arith, d.members k within, read-held xs held start rank j r source from k)

pub member-already : (mask i k : ℕ) → In mask i → In mask k ↔ (In mask k ⊎ (k ≡ i))
member-already mask i k has = (λ is. inl is, λ is. elim is [ inl was ↦ was | inr same ↦ ap (bit_at mask) same ∙ has ])

pub reads-with : (xs : List Effect) (start : State) (may i : ℕ) (node new : Node) → i < 8 → (In node.members i → ⊥)
    → length node.choices.reads ≡ 8 → IsNode xs start may node
    → ((k : ℕ) → k < 8 → In new.members k ↔ (In node.members k ⊎ (k ≡ i)))
    → new.choices.reads ≡ set node.choices.reads i (get_or xs i idle).needed → HasReads xs node new
reads-with = grind (arith, masks)

pub reads-same : (xs : List Effect) (start : State) (may i : ℕ) (node new : Node) → In node.members i → IsNode xs start may node
    → ((k : ℕ) → k < 8 → In new.members k ↔ (In node.members k ⊎ (k ≡ i)))
    → new.choices.reads ≡ node.choices.reads → HasReads xs node new
reads-same xs start may i node new has n members same = record { only = grind (arith, masks); kept = grind (arith, masks); all = grind (arith, masks) }

pub may-within : (xs : List Effect) (start : State) (may : ℕ) (node : Node) (j r : ℕ) (source : ReadSource) → MayGive xs start may node j r source
    → WithinSource source
may-within = grind arith
