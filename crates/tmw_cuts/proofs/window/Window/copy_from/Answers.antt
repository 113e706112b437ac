-- The transactions that are used show the same.
use Rattle.tmw_cuts.proofs.Shared.{◌∙◌}
use Rattle.tmw_cuts.proofs.window.Window.copy_from.Goals as goal

pub returns-clause-shown : goal.returns-clause-shown
returns-clause-shown c = c.copy_txns.ensures.shown

pub returns-clause-stands : goal.returns-clause-stands
returns-clause-stands c events stands = record {
  formed = stands.formed;
  turns = stands.turns;
  shows = c.copy_txns.ensures.shown ∙ stands.shows;
  masks = stands.masks;
}
