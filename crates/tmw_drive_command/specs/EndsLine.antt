-- The JSON object that tells how each thread has ended, of which the line is the compact text.
use Rattle.tmw_drive_command.specs.Shared.{Ending, items_of}
use Rattle.std.specs.Prelude.{List, codes, map}
use Rattle.serde_json.specs.Data.{Data, array, member, no_members, object, string}
use Rattle.tmw_drive_command.specs.Ends.{end_word}

-- the string for an end
abbrev pub end_data : Ending → Data
end_data end = string (end_word end)

-- the object of these ends
abbrev pub ends_object : List Ending → Data
ends_object ends = object (member (codes "ends") (array (items_of (map end_data ends))) no_members)
