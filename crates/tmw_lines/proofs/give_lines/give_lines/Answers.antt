-- Each line is given behind those before it.
use Rattle.tmw_lines.proofs.Shared.{ap, arith, drop, drop-drop, length, length-drop, sym, take, take_rest, ◌+◌, ◌-◌, ◌<◌, ◌∙◌, ◌≡◌}
use Rattle.tmw_lines.proofs.GiveLines.{AreTaken-push, AreTakenUpTo-push, line-long}
use Rattle.tmw_lines.proofs.give_lines.give_lines.Goals as goal

pub give_first-requires : goal.give_first-requires
give_first-requires g c =
    let (within, shorter, is, taken) = c.loop-more.invariant in
    (c.loop-more.count, omega (arith, within), taken.counts)

pub loop-more-smaller : goal.loop-more-smaller
loop-more-smaller g c =
    let rest = c.loop-more.rest.now in
    let more = c.in-Taken.more in
    let given = c.in-Taken.ensures in
    let fewer : length (take (length rest - more) (drop more rest)) ≡ length rest - more = ap length (take_rest rest more) ∙ length-drop more rest in
    let some : 0 < more = line-long _ _ rest more given.0 given.2 in
    omega (arith, fewer, some, given.0)

pub loop-more-preserved : goal.loop-more-preserved
loop-more-preserved g c =
    let bytes = c.args.bytes.now in
    let rest = c.loop-more.rest.now in
    let more = c.in-Taken.more in
    let (within, shorter, is, taken) = c.loop-more.invariant in
    let given = rw is at c.in-Taken.ensures in
    let at = length bytes - length rest in
    let next = take (length rest - more) (drop more rest) in
    let moved : next ≡ drop (at + more) bytes = take_rest rest more ∙ (ap (λ xs. drop more xs) is ∙ drop-drop more at bytes) in
    let fewer : length next ≡ length rest - more = ap length (take_rest rest more) ∙ length-drop more rest in
    let on : length bytes - length next ≡ at + more = omega (arith, fewer, shorter, given.0, length-drop at bytes) in
    let some : 0 < more = line-long _ _ rest more c.in-Taken.ensures.0 c.in-Taken.ensures.2 in
    let pushed = AreTaken-push g.met.T.Taker.takes_more taken (omega (arith, within)) given.0 given.2 given.3 given.4 in
    (omega (arith, within, fewer, some, given.0), omega (arith, fewer, shorter), moved ∙ ap (λ n. drop n bytes) (sym on), rw on pushed)

pub returns-in-Stopped : goal.returns-in-Stopped
returns-in-Stopped g c =
    let (within, shorter, is, taken) = c.loop-more.invariant in
    let given = rw is at c.in-Stopped.ensures in
    AreTakenUpTo-push g.met.T.Taker.takes_more taken (omega (arith, within)) given.0 given.2 given.3
