-- What was held went out, and then the line, or a beginning of it.
use Rattle.tmw_streams.proofs.Shared.{[], ap, bounded_bytes, BoundedSink, length, List, take, TakesBeginning, to_bounded, ℕ, ◌++◌, ◌∙◌, ◌∷◌, ◌≡◌}
use lib.Seq.{take-append_seam}
use Rattle.tmw_streams.proofs.PutsOn.{PutsOn-gone, PutsOn-front}
use Rattle.tmw_streams.proofs.item_lines.pass_line.Goals as goal

-- bytes that a beginning of a line came behind are had again
front : (old new more : List ℕ) (count : ℕ) → count ≡ length old → new ≡ old ++ more → take count new ≡ old
front old new more count counted is = ap (λ n. take n new) counted ∙ ap (take (length old)) is ∙ take-append_seam old more

-- behind a failed write of more, the bytes that are kept are those that were held before it
held_again : (before after : BoundedSink) (count : ℕ) (kept text : List ℕ) → TakesBeginning to_bounded before text after
    → count ≡ length (bounded_bytes before) → kept ≡ take count (bounded_bytes after) → kept ≡ bounded_bytes before
held_again before after count kept text begun counted is =
    is ∙ front (bounded_bytes before) (bounded_bytes after) (take begun.0 text) count counted begun.2.1

pub returns-in_ok-put_all-in-Err : goal.returns-in_ok-put_all-in-Err
returns-in_ok-put_all-in-Err g c =
    let old = bounded_bytes c.args.held.now in
    let text = g.T.Texts.text c.args.item.now ++ 10 ∷ [] in
    let same = held_again c.args.held.now c.put_line.new.sink c.len-count.result c.bytes.result.now text c.in-Err.ensures.0
    c.len-count.ensures (c.bytes.ensures ∙ c.truncate.ensures.held) in
    PutsOn-gone g.K.Sink.to c.args.sink.now c.put_all.new.sink old text c.put_line-in-Err.new.sink (bounded_bytes c.clear.new.self)
    c.put_line-in-Err.result c.clear.ensures.held (rw same at c.in_ok-put_all-in-Err.ensures) c.put_line-in-Err.ensures

pub returns-in_err-put_all-in-Err : goal.returns-in_err-put_all-in-Err
returns-in_err-put_all-in-Err g c =
    let old = bounded_bytes c.args.held.now in
    let text = g.T.Texts.text c.args.item.now ++ 10 ∷ [] in
    let same = held_again c.args.held.now c.put_line.new.sink c.len-count.result c.bytes.result.now text c.in-Err.ensures.0
    c.len-count.ensures (c.bytes.ensures ∙ c.truncate.ensures.held) in
    PutsOn-front g.K.Sink.to c.args.sink.now old text c.put_all.new.sink (bounded_bytes c.truncate.new.self)
    c.from_residual.result c.from_residual.ensures.0 (rw same at c.in_err-put_all-in-Err.ensures)
