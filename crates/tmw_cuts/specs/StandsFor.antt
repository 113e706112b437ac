-- Which events a window stands for: it shows their transactions, in the order of their first events.
use Rattle.tmw_cuts.specs.Shared.{Kind, Txn, is_well_formed, lacks_register, operations, precedes, status_of, transactions}
use Rattle.std.specs.Prelude.{IsTrue, List, Ok, Option, [], false, length, map, option_map, slice_index_or, take, ℕ, ◌*◌, ◌+◌, ◌<◌, ◌∷◌, ◌≡◌}
use Rattle.tmw_events.specs.declared.event.Event.{Event}
use Rattle.tmw_cuts.specs.declared.turn.Move.{Move}
use Rattle.tmw_cuts.specs.declared.turn.Move.TheVariants.{Begin}
use Rattle.tmw_cuts.specs.declared.turn.Turn.{Turn}
use Rattle.tmw_cuts.specs.declared.window.Window.{Window}
use Rattle.tmw_cuts.specs.Turns.{between, Found, after_call, find_open, found_in, kept_in}
use Rattle.tmw_cuts.specs.Views.{View, view, bit, completed_mask}
use Rattle.tmw_cuts.specs.declared.txn.Txn as cuts

-- The number whose bit j says that transaction j of these precedes this one in real time.
abbrev pub before_of : List Txn → Txn → ℕ
before_of [] u = 0
before_of (t ∷ ts) u = bit (precedes t u) + 2 * before_of ts u

-- What is to be shown of a transaction among these.
abbrev pub view_of : List Txn → Txn → View
view_of ts t = record { ops = operations t.text; status = status_of t.text; before = before_of ts t }

-- What is to be shown of these events.
abbrev pub views_of : List Event → List View
views_of events = map (view_of (transactions events)) (transactions events)

-- The transactions that the window has.
abbrev pub txns_of : Window → List cuts.Txn
txns_of window = take window.count window.slots

-- What the window shows.
abbrev pub views : Window → List View
views window = map view (txns_of window)

-- How many transactions it shows.
abbrev pub count_of : Window → ℕ
count_of window = length (views window)

-- Where it has the thread.
abbrev pub turn_at : Window → ℕ → Turn
turn_at window thread = slice_index_or window.turns thread between

-- What it notes of its transactions: those that have completed, as a mask.
abbrev pub completed_of : Window → ℕ
completed_of window = window.completed

-- The events are well-formed; the window shows their transactions, has for each thread the place of its open one and its pending call,
-- and knows which have completed.
pub record StandsFor (window : Window) (events : List Event) : Type 0 where
  pub formed : IsTrue (is_well_formed window.registers.number events)
  pub turns : (thread : ℕ) → thread < 8 → found_in (turn_at window thread) ≡ find_open thread (transactions events)
  pub shows : views window ≡ views_of events
  pub masks : completed_of window ≡ completed_mask (views_of events)

-- This is what the event is to its thread, and the run has the register that it names.
pub record IsNext (window : Window) (event : Event) (move : Move) : Type 0 where
  pub has : lacks_register window.registers.number event.kind ≡ false
  pub moves : after_call (kept_in (turn_at window event.thread.number)) event.kind ≡ Ok move

-- How many transactions an event begins.
abbrev pub begun_by : Move → ℕ
begun_by Begin = 1
begun_by _ = 0

-- The calls of a thread's open transaction that have no answer: none, or one, or that it has no open transaction.
abbrev pub calls_in : Found → Option (Option Kind)
calls_in found = option_map (λ f. f.1) found

-- The history, of a run with so many registers, is well-formed, and each thread's turn has the pending call of its open transaction.
pub record Follows (registers : ℕ) (history : List Event) (window : Window) : Type 0 where
  pub number : window.registers.number ≡ registers
  pub formed : IsTrue (is_well_formed registers history)
  pub calls : (thread : ℕ) → thread < 8 → calls_in (found_in (turn_at window thread)) ≡ calls_in (find_open thread (transactions history))
