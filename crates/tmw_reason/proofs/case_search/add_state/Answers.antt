use Rattle.tmw_reason.proofs.Shared.{Contains-append_left, [], asked_at, length, rules, sym, ◌++◌, ◌∙◌, ◌∷◌, ◌≡◌}
use Rattle.tmw_reason.proofs.PlacesProof.{once-said}
use Rattle.tmw_reason.proofs.DerivationsProof.{made-again}
use Rattle.tmw_reason.proofs.case_search.add_state.Goals as goal

pub returns-then-branch : goal.returns-then-branch
returns-then-branch c =
    let all = c.args.all.now in
    let same : c.in_ok-places.places.items ≡ c.args.case.now.states.items = search rules in
    let longer : c.push.new.self.items ≡ c.args.case.now.states.items ++ c.args.place ∷ [] = rw same at c.in_ok-push.ensures.items in
    let refuted = rw (c.deref-3.ensures.value, c.deref-4.ensures.value) at (c.in_ok-refute_at.ensures c.if-branch.true) in
    record {
      made = record {
        are = made-again (asked_at all c.args.case.now.states.items) (asked_at all c.push.new.self.items) c.args.candidates.now
            c.args.case.now.derivations.items c.requires.made.are refuted.are;
        refute = refuted.refute;
      };
      said = λ place has. rw longer (Contains-append_left c.args.case.now.states.items (c.args.place ∷ []) place has);
      once = λ once. rw longer (once-said (length all.states) c.args.place c.args.others.now c.args.case.now.states.items c.requires.within
          (rw c.deref.ensures.value at (sym c.is_among.ensures ∙ c.if-is_among.false)) (sym c.is_said_for.ensures ∙ c.if-is_said_for.false) once);
    }
