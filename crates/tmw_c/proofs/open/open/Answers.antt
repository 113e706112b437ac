use Rattle.tmw_c.proofs.Shared.{AreHandlesOf, AreSettings, Some, ap, refl, rules, subst, sym, ℕ, ◌∙◌}
use Rattle.tmw_c.proofs.open.open.Goals as goal

pub returns : goal.returns
returns c =
    let settings = c.in-Ok.settings in
    let swapped = c.swap_with_slice.ensures in
    let recorders = c.in-Ok-open.opened.1.items in (
      record { watch_empty = search rules; handles_empty = c.if-not-are_empty.ensures.yes refl },
      record {
        settings = settings;
        wanted_are = subst (λ (n : ℕ). AreSettings c.args.wanted.now n settings) (sym {A = ℕ} swapped.len) c.in-Ok.ensures.ok;
        opened = c.in-Ok-open.opened.0;
        recorders = recorders;
        new = c.in-Ok-open.ensures.ok;
        held = c.of.ensures ∙ ap Some c.in-Ok-new.ensures.ok;
        each = subst (AreHandlesOf settings.registers recorders) (sym (swapped.after ∙ c.deref_mut.ensures.value)) c.in-Some.ensures;
      },
      swapped.len,
    )
