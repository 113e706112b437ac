use Rattle.tmw_texts.specs.ItemTexts.{blanks}
use Rattle.std.proofs.Common.{◌++◌, ◌≡◌}
use Rattle.tmw_texts.proofs.numbers.push_blanks.Given as goal

abbrev pub invariant-loop-place : goal.invariant-loop-place
invariant-loop-place l = l.text.items ≡ l.fn.text.items ++ blanks l._place
