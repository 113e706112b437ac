-- The words so far, as they stand.
use Rattle.tmw_args.proofs.Shared.{map, take, texts, ◌≡◌}
use Rattle.tmw_args.proofs.parse.texts_of.Given as goal

abbrev pub invariant-loop-word : goal.invariant-loop-word
invariant-loop-word g l = texts l.spelled.items ≡ map g.S.AsStr.text (take l.word-index l.words)
