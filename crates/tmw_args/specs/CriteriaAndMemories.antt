-- The names of criteria and memories.
use Rattle.std.specs.Prelude.{List, [], ◌∷◌, Option, codes, find}
use Rattle.std.specs.Str.{bytes_eq}
use Rattle.clap.specs.Words.{Text}
use Rattle.tmw_defs.specs.declared.criterion.Asked.{Asked}
use Rattle.tmw_defs.specs.declared.criterion.Asked.TheVariants.{Opacity, Strict, Both}
use Rattle.tmw_defs.specs.declared.criterion.Criterion.{Criterion}
use Rattle.tmw_defs.specs.declared.criterion.Criterion.TheVariants as by
use Rattle.tmw_args.specs.declared.which_memory.Which.{Which}
use Rattle.tmw_args.specs.declared.which_memory.Which.TheVariants.{NoRec, Lock, Torn}

-- the first of these that has this name, if one has
abbrev pub named : {A : Type 0} → (A → Text) → List A → Text → Option A
named name_of all name = find (λ one. bytes_eq name (name_of one)) all

-- the name of the criteria that are asked for
abbrev pub asked_name : Asked → Text
asked_name Opacity = codes "opacity"
asked_name Strict = codes "strict"
asked_name Both = codes "both"

abbrev pub every_asked : List Asked
every_asked = Opacity ∷ Strict ∷ Both ∷ []

abbrev pub asked_named : Text → Option Asked
asked_named = named asked_name every_asked

-- the name of a criterion
abbrev pub criterion_name : Criterion → Text
criterion_name by.Opacity = codes "opacity"
criterion_name by.Strict = codes "strict"

abbrev pub every_criterion : List Criterion
every_criterion = by.Opacity ∷ by.Strict ∷ []

abbrev pub criterion_named : Text → Option Criterion
criterion_named = named criterion_name every_criterion

-- the name of a memory
abbrev pub memory_name : Which → Text
memory_name NoRec = codes "norec"
memory_name Lock = codes "lock"
memory_name Torn = codes "torn"

abbrev pub every_memory : List Which
every_memory = NoRec ∷ Lock ∷ Torn ∷ []

abbrev pub memory_named : Text → Option Which
memory_named = named memory_name every_memory
