-- The line of each fault is what its arm writes.
use Rattle.tmw_report.proofs.fault_line.write_fault.Goals as goal

pub returns-in-BadHeader : goal.returns-in-BadHeader
returns-in-BadHeader g c = rw c.in-BadHeader.is c.put_all.ensures

pub returns-in-BadLine : goal.returns-in-BadLine
returns-in-BadLine g c = rw c.in-BadLine.is c.put_numbered.ensures

pub returns-in-Cut : goal.returns-in-Cut
returns-in-Cut g c = rw c.in-Cut.is c.put_numbered-in-Cut.ensures

pub returns-in-TooLong : goal.returns-in-TooLong
returns-in-TooLong g c = rw c.in-TooLong.is c.put_all-in-TooLong.ensures

pub returns-in-Memory : goal.returns-in-Memory
returns-in-Memory g c = rw c.in-Memory.is c.put_all-in-Memory.ensures

pub returns-in-Io : goal.returns-in-Io
returns-in-Io g c = rw c.in-Io.is c.put_all-in-Io.ensures

pub returns-in-Json : goal.returns-in-Json
returns-in-Json g c = rw c.in-Json.is c.put_all-in-Json.ensures

pub returns-in-Shape : goal.returns-in-Shape
returns-in-Shape g c = rw c.in-Shape.is c.put_all-in-Shape.ensures

pub returns-in-Registers : goal.returns-in-Registers
returns-in-Registers g c = rw c.in-Registers.is c.put_all-in-Registers.ensures

pub returns-in-Ring : goal.returns-in-Ring
returns-in-Ring g c = rw c.in-Ring.is c.put_all-in-Ring.ensures

pub returns-in-Spawn : goal.returns-in-Spawn
returns-in-Spawn g c = rw c.in-Spawn.is c.put_all-in-Spawn.ensures

pub returns-in-Size : goal.returns-in-Size
returns-in-Size g c = rw c.in-Size.is c.put_all-in-Size.ensures

pub returns-in-Limit : goal.returns-in-Limit
returns-in-Limit g c = rw c.in-Limit.is c.put_all-in-Limit.ensures

pub returns-in-Usage : goal.returns-in-Usage
returns-in-Usage g c = rw c.in-Usage.is c.put_all-in-Usage.ensures
