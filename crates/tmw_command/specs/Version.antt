-- The line that tells which program this is.
use Rattle.std.specs.Prelude.{List, codes, ℕ}

-- its name and version, and what it judges by, with a line feed
abbrev pub version_line : List ℕ
version_line = codes "tmwatch 0.1.0, by opacity (Guerraoui and Kapalka 2008) and by strict serializability\n"
