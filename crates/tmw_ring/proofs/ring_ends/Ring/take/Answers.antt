use Rattle.tmw_ring.proofs.Shared.{HasFoundNone, HasTaken, ReaderIs, ap, arith, reader_in, reader_is, subst, sym, ℕ, ◌∙◌}
use Rattle.tmw_ring.proofs.TakeSteps.{looked_none, looked_ready, read_told, freed_taken}
use Rattle.tmw_ring.proofs.ring_ends.Ring.take.Goals as goal

pub returns-then-stamp-front-clause-none : goal.returns-then-stamp-front-clause-none
returns-then-stamp-front-clause-none c =
    let stamp = ap (λ (words : ℕ × ℕ). words.0) c.split-stamp.ensures in
    subst (λ (old : ReaderIs). HasFoundNone old (reader_is c.see_stamp-word.new.seat.table_id (reader_in c.see_stamp-word.new.seat.me.0)))
    c.reader.view_is
    (looked_none c.reader.inside.seat.table_id c.see_stamp-word.new.seat.table_id c.reader.inside.front c.see_stamp-word.result
    c.reader.inside.seat.me c.see_stamp-word.new.seat.me c.reader.invariant c.see_stamp-word.ensures.seen
    (λ same. c.if-stamp-front.true (stamp ∙ same)))

pub read-value-requires-clause-ready : goal.read-value-requires-clause-ready
read-value-requires-clause-ready c = grind (arith, looked_ready)

pub free-requires-clause-told : goal.free-requires-clause-told
free-requires-clause-told c =
    let stamp = ap (λ (words : ℕ × ℕ). words.0) c.split-stamp.ensures in
    read_told c.reader.inside.front c.read-value.result c.see_stamp-word.new.seat.me c.read-value.new.seat.me
    (looked_ready c.reader.inside.front c.see_stamp-word.result c.reader.inside.seat.me c.see_stamp-word.new.seat.me c.reader.invariant
    c.see_stamp-word.ensures.seen (sym stamp ∙ c.if-stamp-front.false))
    c.read-value.ensures.read

pub returns-clause-some : goal.returns-clause-some
returns-clause-some c =
    let stamp = ap (λ (words : ℕ × ℕ). words.0) c.split-stamp.ensures in
    let header = ap (λ (words : ℕ × ℕ). words.1) c.split-stamp.ensures in
    subst (λ (old : ReaderIs). HasTaken old c.in-Some.event (reader_is c.free.new.seat.table_id (reader_in c.free.new.seat.me.0)))
    c.reader.view_is
    (freed_taken c.reader.inside.seat.table_id c.free.new.seat.table_id c.reader.inside.front c.see_stamp-word.result c.read-value.result
    c.in-Some.event c.reader.inside.seat.me c.see_stamp-word.new.seat.me c.read-value.new.seat.me c.free.new.seat.me
    c.reader.invariant c.see_stamp-word.ensures.seen (sym stamp ∙ c.if-stamp-front.false) c.read-value.ensures.read
    c.free.ensures.freed
    (c.in-Some.ensures.some ∙ ap (λ (h : ℕ). let words : ℕ × ℕ = (h, c.read-value.result) in words) header))
