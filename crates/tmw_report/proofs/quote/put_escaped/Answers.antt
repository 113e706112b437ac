-- A byte came after all the bytes before it.
use Rattle.tmw_report.proofs.Shared.{List, Puts, Puts-front, Puts-more, drop, escaped, escaped_byte, get_or, refl, subst, sym, take, ℕ, ◌++◌, ◌+◌}
use Rattle.tmw_streams.proofs.FlatMaps.{flat_map-split}
use Rattle.tmw_report.proofs.quote.put_escaped.Goals as goal

pub returns-in_err-put_escaped_byte : goal.returns-in_err-put_escaped_byte
returns-in_err-put_escaped_byte g c =
    let bytes = c.args.bytes.now in
    let i = c.loop-byte.byte-index in
    let byte = get_or bytes i 0 in
    let rest = escaped (drop (i + 1) bytes) in
    let result = c.from_residual.result in
    let P : List ℕ → Type 0 = λ xs. Puts g.K.Sink.to c.args.sink.now xs c.put_escaped_byte.new.sink result in
    subst P (sym (flat_map-split escaped_byte bytes i byte 0 refl c.loop-byte-test.true))
    (Puts-more g.K.Sink.to c.args.sink.now c.loop-byte.sink (escaped (take i bytes)) (escaped_byte byte ++ rest)
    c.put_escaped_byte.new.sink result c.loop-byte.invariant
    (Puts-front g.K.Sink.to c.loop-byte.sink c.put_escaped_byte.new.sink (escaped_byte byte) rest result
    c.from_residual.ensures.0 c.in_err-put_escaped_byte.ensures))
