-- Each part follows the one before it.
use Rattle.tmw_show.proofs.Shared.{append_assoc}
use Rattle.tmw_show.proofs.page.json.push_window.Goals as goal

pub returns : goal.returns
returns c =
    rw (
      c.in_ok-push.ensures.items,
      c.in_ok-push_list-2.ensures,
      c.in_ok-extend_from_slice-2.ensures.items,
      c.in_ok-push_list.ensures,
      c.in_ok-extend_from_slice.ensures.items,
    ) (simp append_assoc)
