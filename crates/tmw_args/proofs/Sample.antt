-- A program whose names stand at the address 0: there is one.
use Rattle.tmw_args.proofs.Shared.{App, Bor, criteria_names, Err, Error, FailsAs, IfErr, inl, IsErrAnd, IsProgram, kind_of, List, map, memory_names, Names, Ok, OutOfMemory, program_among, refl, Result, shown_names, Text, ◌≡◌}

abbrev lent : {X : Type 0} → X → Bor X
lent value = record { ref_ptr = (0, 0); now = value }

abbrev names : List Text → Bor (List (Bor Text))
names texts = lent (map lent texts)

abbrev pub sample : App
sample = program_among (Names (names criteria_names)) (Names (names shown_names)) (Names (names memory_names))

pub is_sample : IsProgram sample
is_sample = record {
  criteria = names criteria_names;
  shown = names shown_names;
  memories = names memory_names;
  criteria_are = refl;
  shown_are = refl;
  memories_are = refl;
  is = refl;
}

-- without memory for the program, it may refuse any words so
pub without_memory : {T : Type 0} (result : Result T Error) (words : List Text) → IsErrAnd result (λ error. kind_of error ≡ OutOfMemory)
    → IfErr result (λ error. (program : App) × IsProgram program × FailsAs program words (kind_of error))
without_memory (Ok value) words is = tt
without_memory (Err error) words is = (sample, is_sample, inl is)
