-- The texts of the replies to a ring's steps. Numbers are decimal, without sign and without leading zeros.
use Rattle.std.specs.Prelude.{ℕ, List, ◌++◌, codes}
use Rattle.std.specs.List.{flat_map}
use Rattle.std.specs.Fmt.{decimal}
use Rattle.tmw_events.specs.Text.{event_text}
use Rattle.tmw_lines.specs.LineFeeds.{line}
use Rattle.tmw_ring_defs.specs.declared.ring_step.Reply.{Reply}
use Rattle.tmw_ring_defs.specs.declared.ring_step.Reply.TheVariants.{Saw, Cleared, Full, Spent, Place, Filled, Published, Ready, NotReady, Word, Taken, Stopped, NotNow}

-- how a step is answered, in words, with its numbers or its event after one space each
abbrev pub reply_text : Reply → List ℕ
reply_text (Saw front) = codes "saw " ++ decimal front
reply_text Cleared = codes "cleared"
reply_text (Full front tail) = codes "full " ++ (decimal front ++ (codes " " ++ decimal tail))
reply_text (Spent tail) = codes "spent " ++ decimal tail
reply_text (Place place) = codes "place " ++ decimal place
reply_text Filled = codes "filled"
reply_text (Published place) = codes "published " ++ decimal place
reply_text Ready = codes "ready"
reply_text NotReady = codes "not ready"
reply_text (Word word) = codes "word " ++ decimal word
reply_text (Taken event) = codes "event " ++ event_text event
reply_text Stopped = codes "stopped"
reply_text NotNow = codes "not now"

-- a line for each reply
abbrev pub lines_text : List Reply → List ℕ
lines_text replies = flat_map (λ reply. line (reply_text reply)) replies

-- how many places were claimed, and how many events were taken
abbrev pub counts_text : ℕ → ℕ → List ℕ
counts_text log taken = codes "log " ++ (decimal log ++ (codes " taken " ++ decimal taken))

-- a line for each reply, and then a line that counts the places that were claimed and the events that were taken
abbrev pub replies_text : List Reply → ℕ → ℕ → List ℕ
replies_text replies log taken = lines_text replies ++ line (counts_text log taken)
