-- An event that begins a transaction is noted so.
use Rattle.tmw_cuts.proofs.Shared.{[], ap, begun_by, false, length, sym, transactions, true, ◌++◌, ◌+◌, ◌∙◌, ◌∷◌, ◌≡◌}
use Rattle.tmw_cuts.proofs.OneEventMore.{grows}
use Rattle.tmw_cuts.proofs.window.Window.push.Goals.{in-Begin, in_default-matches}
use Rattle.tmw_cuts.proofs.window.Window.push.Goals as goal

pub returns-else-not-matches-clause-stands : goal.returns-else-not-matches-clause-stands
returns-else-not-matches-clause-stands c events stands formed notes =
    elim c.match-matches.branch [
      | in-Begin w ↦
          let more : length (transactions (events ++ c.args.event ∷ [])) ≡ length (transactions events) + 1
          = grows events c.args.event c.args.self.now c.in-Ok.step stands c.in-Ok.ensures.ok
          ∙ ap (λ move. length (transactions events) + begun_by move) w.in-Begin.is in
          let bad : true ≡ false = sym (notes.begins.1 more) ∙ c.if-note.false in
          absurd (cc)
      | in_default-matches w ↦ let bad : true ≡ false = sym c.if-not-matches.false ∙ w.matches-is in absurd (cc)
    ]
