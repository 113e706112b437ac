-- The program's memories.
use Rattle.tmw_command.specs.Shared.{Which}
use Rattle.tmw_command.specs.declared.memories.Memories.{Memories}
use Rattle.tmw_args.specs.declared.which_memory.Which.TheVariants.{NoRec, Lock, Torn}

-- the memory that `which` picks
abbrev pub memory_picked : {M : Type 0} → Memories M → Which → M
memory_picked memories NoRec = memories.norec
memory_picked memories Lock = memories.lock
memory_picked memories Torn = memories.torn
