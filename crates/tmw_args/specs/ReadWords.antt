-- How the words of a command line are read.
use Rattle.std.specs.Prelude.{◌≡◌, ◌≢◌, ◌⊎◌, List, Result, Ok, Err}
use Rattle.clap.specs.Words.{App, IsAmong, Text}
use Rattle.clap.specs.declared.error.kind.ErrorKind.{ErrorKind}
use Rattle.clap.specs.declared.error.kind.ErrorKind.TheVariants.{ArgumentConflict, DisplayHelp, DisplayVersion, OutOfMemory}
use Rattle.tmw_args.specs.Grammar.{IsProgram}
use Rattle.tmw_args.specs.CommandOrder.{Asks, AsksForHelp, AsksForNothing, AsksForVersion, IsWrong, kinds_of}
use Rattle.tmw_args.specs.declared.command_order.Order.{Order}
use Rattle.tmw_args.specs.declared.refusal.Refusal.{Refusal}
use Rattle.tmw_args.specs.declared.refusal.Refusal.TheVariants.{Help, Version, Usage, Memory}

-- So this program reads the words: as the order that right words ask for; as a request for help, or for the version; as no command line of the
-- program. Of the text of help, and of the one that tells what is wrong, the parser's contract says nothing. `Memory` may answer any
-- words: only tests show that an allocation failed.
abbrev pub Reads : App → List Text → Result Order Refusal → Type 0
Reads program words (Ok order) = Asks program words order
Reads program words (Err (Help text)) = AsksForHelp program words
Reads program words (Err Version) = AsksForVersion program words
Reads program words (Err (Usage text)) = IsWrong program words
Reads program words (Err Memory) = Unit {0}

-- So the words are read by the program. Where its names stand in memory makes no difference: the parser compares the names alone.
pub record IsReading (words : List Text) (reading : Result Order Refusal) : Type 0 where
  pub program : App
  pub is : IsProgram program
  pub reads : Reads program words reading

-- A parse of the words may fail by an error of this kind. Words in which the parser finds no fault, and which still give no order, fail as a
-- conflict: so do `--trace` and `--page` of `show` together.
abbrev pub FailsAs : App → List Text → ErrorKind → Type 0
FailsAs program words kind =
    (kind ≡ OutOfMemory) ⊎ (IsAmong kind (kinds_of program words) ⊎ ((kind ≡ ArgumentConflict) × AsksForNothing program words))

-- So an error of this kind is told.
abbrev pub IsRefusal : ErrorKind → Refusal → Type 0
IsRefusal kind (Help text) = kind ≡ DisplayHelp
IsRefusal kind Version = kind ≡ DisplayVersion
IsRefusal kind (Usage text) = (kind ≢ OutOfMemory) × (kind ≢ DisplayHelp) × (kind ≢ DisplayVersion)
IsRefusal kind Memory = Unit {0}
