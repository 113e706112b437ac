-- What the sentences on a violation are made of. Values that are among some have names.
use Rattle.tmw_show.specs.Shared.{ValueSource, decimal, name_text, value_text}
use Rattle.std.specs.Prelude.{List, None, Option, Some, codes, ℕ, ◌++◌}

-- who read which value from which register
abbrev pub read_text : List ℕ → ValueSource → List ℕ
read_text values s =
    name_text s.reader ++ (codes " read " ++ (value_text values s.value ++ (codes " from register " ++ decimal s.register.number)))

-- who left which value
abbrev pub left_text : List ℕ → ℕ → ℕ → List ℕ
left_text values rival value = name_text rival ++ (codes " left " ++ value_text values value)

-- the transaction that left a value, or the start
abbrev pub writer_text : Option ℕ → List ℕ
writer_text None = codes "the start"
writer_text (Some writer) = name_text writer

-- the one stands before the other
abbrev pub before_text : ℕ → ℕ → List ℕ
before_text one other = name_text one ++ (codes " before " ++ name_text other)
