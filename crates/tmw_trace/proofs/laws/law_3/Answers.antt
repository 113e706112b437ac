use Rattle.tmw_trace.proofs.Shared.{trace_grammar}
use Rattle.tmw_events.proofs.EventWords.{pack-injective}
use Rattle.tmw_lines.proofs.TextNames.{lines_text-injective}
use Rattle.tmw_trace.specs.GrammarInjectivity.{trace_naming}
use Rattle.tmw_trace.proofs.laws.law_3.Goals as goal

pub returns-clause-texts : goal.returns-clause-texts
returns-clause-texts c =
    λ a b. lines_text-injective trace_grammar trace_naming a.header b.header a.events.items b.events.items

pub returns-clause-pairs : goal.returns-clause-pairs
returns-clause-pairs c = pack-injective
