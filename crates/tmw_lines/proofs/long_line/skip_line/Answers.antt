use Rattle.tmw_lines.proofs.Shared.{ap, arith, bytes_of, length, position_or_len, ◌++◌, ◌<◌, ◌==◌, ◌∙◌, ◌≡◌, ◌≤◌}
use Rattle.tmw_lines.proofs.LongLines.{HasSkipped-more, Skips-feed}
use Rattle.tmw_lines.proofs.long_line.skip_line.Goals as goal

pub returns-then-length_before-bytes-clause-skips : goal.returns-then-length_before-bytes-clause-skips
returns-then-length_before-bytes-clause-skips g c =
    let more = c.in-Ok.ensures.more in
    let held : bytes_of c.read.new.self ≡ more.0 = more.2 ∙ ap (λ xs. xs ++ more.0) c.clear.ensures in
    let same : c.bytes-bytes.result.now ≡ more.0 = c.bytes-bytes.ensures.value ∙ held in
    let at = rw same at c.length_before.ensures in
    let within : position_or_len (λ byte. byte == 10) more.0 < length more.0 =
    omega (arith, at, ap length same, c.if-length_before-bytes.true) in
    Skips-feed g.S.Source.from c.args.source.now (g.S.Source.from.ended c.read.new.source)
    c.parts.source c.read.new.source more.0 c.parts.invariant.0 more.1 within

pub parts-preserved : goal.parts-preserved
parts-preserved g c =
    let more = c.in-Ok.ensures.more in
    let held : bytes_of c.read.new.self ≡ more.0 = more.2 ∙ ap (λ xs. xs ++ more.0) c.clear.ensures in
    let same : c.bytes-bytes.result.now ≡ more.0 = c.bytes-bytes.ensures.value ∙ held in
    let at = rw same at c.length_before.ensures in
    let all : length more.0 ≤ position_or_len (λ byte. byte == 10) more.0 =
    omega (arith, at, ap length same, c.if-length_before-bytes.false) in (
      HasSkipped-more g.S.Source.from c.args.source.now c.parts.source c.read.new.source more.0
          c.parts.invariant.0 more.1 all,
      c.in-Ok.ensures.well ∙ c.parts.invariant.1,
    )
