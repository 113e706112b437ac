-- What is read of a line, and what then stands at the front.
use Rattle.std.specs.Prelude.{◌≡◌, ℕ, ◌+◌, ◌≤◌, List, ◌∷◌, length, take, drop}
use Rattle.tmw_lines.specs.FreeParts.{IsFree}
use Rattle.tmw_streams.specs.Transfers.{one_more}
use Rattle.tmw_lines.specs.declared.line_piece.LinePiece.{LinePiece}
use Rattle.tmw_lines.specs.declared.line_piece.LinePiece.TheVariants.{Line, End, Long, Failed}

-- so many bytes at the front hold no line feed
pub record IsSeen (seen : ℕ) (bytes : List ℕ) : Type 0 where
  pub within : seen ≤ length bytes
  pub free : IsFree 10 (take seen bytes)

-- the bytes held begin with this piece; `Ended` says that the source has
abbrev pub IsPiece : LinePiece → Type 0 → List ℕ → Type 0
IsPiece (Line count) Ended bytes = IsFree 10 (take count bytes) × (drop count bytes ≡ 10 ∷ drop (count + 1) bytes)
IsPiece End Ended bytes = Ended × IsFree 10 bytes
IsPiece Long Ended bytes = (length bytes ≡ 4096) × IsFree 10 bytes
IsPiece Failed Ended bytes = (Ended → ⊥) × IsFree 10 bytes

-- a source's count of failures after this piece
abbrev pub piece_failures : LinePiece → ℕ → ℕ
piece_failures Failed count = one_more count
piece_failures _ count = count

-- this holds where no read failed
abbrev pub UnlessFailed : LinePiece → Type 0 → Type 0
UnlessFailed Failed P = Unit {0}
UnlessFailed _ P = P
