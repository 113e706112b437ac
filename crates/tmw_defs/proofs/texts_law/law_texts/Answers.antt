-- The law, by its proof for every history.
use Rattle.tmw_defs.proofs.TextsProof.{texts_law}
use Rattle.tmw_defs.proofs.texts_law.law_texts.Goals as goal

pub returns : goal.returns
returns c = texts_law
