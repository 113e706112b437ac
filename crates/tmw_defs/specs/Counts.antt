-- What a history has shown beside its verdict: how many transactions it has and how they ended, how many overlap another, its cuts
-- and its widest window.
use Rattle.std.specs.Prelude.{◌≡◌, ◌==◌, ◌&&◌, ◌-◌, ◌<◌, ◌↔◌, ℕ, Bool, true, false, not, List, [], ◌∷◌, length, map, count_by, slice_get, Option, Some}
use Rattle.std.specs.List.{list_any}
use Rattle.tmw_events.specs.declared.event.Event.{Event}
use Rattle.tmw_events.specs.declared.event.Kind.{Kind}
use Rattle.tmw_events.specs.declared.event.Kind.TheVariants.{X}
use Rattle.tmw_defs.specs.declared.counts.Counts.{Counts}
use Rattle.tmw_defs.specs.declared.status.Status.{Status}
use Rattle.tmw_defs.specs.declared.status.Status.TheVariants.{Committed, Aborted}
use Rattle.tmw_defs.specs.Cuts.{is_cut}
use Rattle.tmw_defs.specs.History.{Txn, is_ended, status_of, transactions}
use Rattle.tmw_defs.specs.Opaque.{precedes}
use Rattle.tmw_defs.specs.Windows.{HasWide}

abbrev pub is_committed : Status → Bool
is_committed Committed = true
is_committed _ = false

abbrev pub is_aborted : Status → Bool
is_aborted Aborted = true
is_aborted _ = false

-- The event is an abort request.
abbrev pub is_request : Option Kind → Bool
is_request (Some X) = true
is_request _ = false

-- The transaction has aborted, and its abort event answers no abort request.
abbrev pub is_unasked : List Kind → Bool
is_unasked text = is_aborted (status_of text) && not (is_request (slice_get text (length text - 2)))

-- Transactions of two threads overlap when neither precedes the other in real time. Those of one thread never do.
abbrev pub overlap : Txn → Txn → Bool
overlap t u = not (t.thread == u.thread) && (not (precedes t u) && not (precedes u t))

-- The transaction overlaps another one of these.
abbrev pub overlaps_any : List Txn → Txn → Bool
overlaps_any ts t = list_any (overlap t) ts

-- The prefixes of a history, from length 1 on.
abbrev pub prefixes : List Event → List (List Event)
prefixes [] = []
prefixes (e ∷ es) = (e ∷ []) ∷ map (λ es. e ∷ es) (prefixes es)

-- The counts are those of the history. The widest of its windows, the last one included, has `widest` transactions.
pub record HasCounts (history : List Event) (counts : Counts) : Type 0 where
  pub all : counts.transactions ≡ length (transactions history)
  pub committed : counts.committed ≡ count_by (λ t. is_committed (status_of t.text)) (transactions history)
  pub aborted : counts.aborted ≡ count_by (λ t. is_aborted (status_of t.text)) (transactions history)
  pub live : counts.live ≡ count_by (λ t. not (is_ended t.text)) (transactions history)
  pub unasked : counts.unasked ≡ count_by (λ t. is_unasked t.text) (transactions history)
  pub overlapping : counts.overlapping ≡ count_by (overlaps_any (transactions history)) (transactions history)
  pub cuts : counts.cuts ≡ count_by is_cut (prefixes history)
  pub widest : (most : ℕ) → HasWide most history ↔ most < counts.widest

-- The history has events of two threads or more.
abbrev pub has_two_threads : List Event → Bool
has_two_threads [] = false
has_two_threads (e ∷ es) = list_any (λ other. not (other.thread.number == e.thread.number)) es

-- No two transactions have overlapped, although there are two threads or more.
abbrev pub none_overlapped : List Event → Counts → Bool
none_overlapped history counts = has_two_threads history && (counts.overlapping == 0)
