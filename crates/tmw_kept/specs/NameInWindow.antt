-- Which transactions of a window are those of what is kept of it.
use Rattle.tmw_kept.specs.Shared.{Event, Txn, transactions}
use Rattle.std.specs.Prelude.{Bool, List, [], length, map, nat_le, position, slice_index_or, unwrap_or, ℕ, ◌&&◌, ◌==◌}
use Rattle.tmw_kept.specs.declared.name_in_window.Name.{Name}
use Rattle.tmw_kept.specs.KeptEvents.{kept_of, places_of}

-- The transaction at this place of a list; of none, one without events.
abbrev pub nothing : Txn
nothing = record { thread = 0; first = 0; last = 0; text = [] }

abbrev pub txn_at : List Txn → ℕ → Txn
txn_at ts place = slice_index_or ts place nothing

-- The transaction is the thread's, and the events from the one place up to the other lie in it.
abbrev pub lies_in : ℕ → ℕ → ℕ → Txn → Bool
lies_in thread from upto t = (t.thread == thread) && (nat_le t.first from && nat_le upto t.last)

-- The number of that one of these transactions in which those events lie, or how many there are.
abbrev pub owner : List Txn → ℕ → ℕ → ℕ → ℕ
owner ts thread from upto = unwrap_or (position (lies_in thread from upto) ts) (length ts)

-- Of a transaction of what is kept, whose events have these places in the window: the place there of its first event, and that of the
-- window's transaction in which its events lie.
abbrev pub name_in : List ℕ → List Txn → Txn → Name
name_in places window t = record {
  first = slice_index_or places t.first 0;
  transaction = owner window t.thread (slice_index_or places t.first 0) (slice_index_or places t.last 0);
}

-- So of each transaction of what is kept, in order.
abbrev pub names_of : List Bool → List Event → List Name
names_of marks window = map (name_in (places_of marks) (transactions window)) (transactions (kept_of marks window))

abbrev pub owner_in : List ℕ → List Txn → Txn → ℕ
owner_in places window t = (name_in places window t).transaction
