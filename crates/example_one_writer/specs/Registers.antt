-- The registers that the memory has.
use Rattle.tmw_events.specs.declared.registers.Registers.{Registers}
use Rattle.example_one_writer.specs.declared.one_writer.OneWriter.{OneWriter}

abbrev pub registers_of : OneWriter → Registers
registers_of memory = memory.registers
