-- Each part follows the one before it, and nothing precedes the first.
use Rattle.tmw_show.proofs.Shared.{append_assoc}
use Rattle.tmw_show.proofs.page.page_text.Goals as goal

pub returns : goal.returns
returns c =
    rw (c.in_ok-extend_from_slice-2.ensures.items, c.in_ok-push_json.ensures, c.in_ok-extend_from_slice.ensures.items, c.new-text.ensures.items)
    (simp append_assoc)
