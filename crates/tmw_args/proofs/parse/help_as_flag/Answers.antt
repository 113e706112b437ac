-- `help` is taken out, and its flag put behind.
use Rattle.tmw_args.proofs.Shared.{ap, help_as_flag, names_help, refl, subst, sym, texts, true, ◌∙◌, ◌≡◌}
use Rattle.tmw_args.proofs.HelpWords.{help_as_flag-named, help_as_flag-other}
use Rattle.tmw_args.proofs.parse.help_as_flag.Goals as goal
use Rattle.tmw_args.proofs.parse.help_as_flag.Goals.{then-names_help+in_ok-push, else-names_help}

pub returns : goal.returns
returns g c =
    let given = ap texts c.deref.ensures.value ∙ c.in_ok-spelled.ensures in
    elim c.if-names_help.branch [
      | then-names_help+in_ok-push w ↦
          let named = subst (λ xs. names_help (texts xs) ≡ true) c.deref.ensures.value (sym c.names_help.ensures ∙ w.if-names_help.true) in
          rw w.spelled-is (help_as_flag-named c.in_ok-spelled.spelled.items w.remove.new.self.items w.push.new.self.items _ w.remove.ensures.items
          w.in_ok-push.ensures.items refl named ∙ ap help_as_flag c.in_ok-spelled.ensures)
      | else-names_help w ↦
          let is = w.spelled-is in
          rw is (ap texts (sym c.deref.ensures.value)
          ∙ help_as_flag-other c.deref.result.now (sym c.names_help.ensures ∙ w.if-names_help.false) ∙ ap help_as_flag given)
    ]
