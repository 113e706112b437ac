-- The line that tells how each thread has ended: compact JSON, with its line feed.
use Rattle.tmw_drive_command.specs.Shared.{Ending}
use Rattle.std.specs.Prelude.{List, [], codes, ℕ, ◌++◌, ◌∷◌}
use Rattle.tmw_workers.specs.declared.ending.Ending.TheVariants.{Done, Left, Stopped}
use Rattle.tmw_ring.specs.declared.refused.Refused.TheVariants.{Full, Spent}

-- the word for an end: for a thread that was stopped the one for its refusal
abbrev pub end_word : Ending → List ℕ
end_word Done = codes "done"
end_word Left = codes "left"
end_word (Stopped (Full front tail)) = codes "full"
end_word (Stopped (Spent tail)) = codes "spent"

-- the word in quotes
abbrev pub end_text : Ending → List ℕ
end_text end = codes "\"" ++ (end_word end ++ codes "\"")

-- the ends behind the first, each with a comma before it
abbrev pub more_ends : List Ending → List ℕ
more_ends [] = []
more_ends (end ∷ ends) = codes "," ++ (end_text end ++ more_ends ends)

-- the ends in their order, with commas between them
abbrev pub listed_ends : List Ending → List ℕ
listed_ends [] = []
listed_ends (end ∷ ends) = end_text end ++ more_ends ends

-- the line of the ends
abbrev pub ends_line : List Ending → List ℕ
ends_line ends = codes "{\"ends\":[" ++ (listed_ends ends ++ codes "]}\n")
