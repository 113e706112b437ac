-- The registers that a memory has.
use Rattle.tmw_events.specs.declared.registers.Registers.{Registers}
use Rattle.tmw_memories.specs.declared.gate_memory.Gated.{Gated}
use Rattle.tmw_memories.specs.declared.norec.NoRec.{NoRec}

abbrev pub norec_registers : NoRec → Registers
norec_registers memory = memory.registers

abbrev pub gated_registers : {G : Type 0} → Gated G → Registers
gated_registers memory = memory.registers
