use Rattle.tmw_reason.proofs.Shared.{append_assoc}
use Rattle.tmw_reason.proofs.drawn_steps.push_sources_at.Goals as goal

pub returns : goal.returns
returns c =
    let needed = rw c.get.ensures.value at c.in-Some.ensures in
    rw (
      c.in_ok-extend_from_slice.ensures.items,
      c.deref.ensures.value,
      c.in_ok-others.ensures,
      c.in_ok-push.ensures.items,
      ← c.reader.view_is,
      ← needed,
    ) (simp append_assoc)
