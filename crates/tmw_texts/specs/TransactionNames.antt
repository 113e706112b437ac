-- The names of a window's transactions: T1, T2 .. in the order of their first events.
use Rattle.tmw_texts.specs.Shared.{decimal}
use Rattle.tmw_kept.specs.declared.name_in_window.Name.{Name}
use Rattle.std.specs.Prelude.{List, None, Option, Some, codes, find, option_map, ℕ, ◌++◌, ◌+◌, ◌==◌}

-- of the transaction at this place among those of the window, from 0
abbrev pub name_text : ℕ → List ℕ
name_text place = codes "T" ++ decimal (place + 1)

-- the transaction whose first event has this place in the window
abbrev pub begun_at : List Name → ℕ → Option ℕ
begun_at names place = option_map (λ name. name.transaction) (find (λ name. name.first == place) names)

-- what stands before the event at this place: the name of the transaction that it begins, or blanks
abbrev pub label_by : Option ℕ → List ℕ
label_by None = codes "   "
label_by (Some transaction) = name_text transaction ++ codes " "

abbrev pub label_at : List Name → ℕ → List ℕ
label_at names place = label_by (begun_at names place)
