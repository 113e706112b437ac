use Rattle.tmw_events.proofs.Shared.{arith}
use Rattle.tmw_events.proofs.KindTexts.{no_register}
use Rattle.tmw_events.proofs.kind_line.kind_of.Goals as goal

pub returns-in_default-ix_of-clause-none : goal.returns-in_default-ix_of-clause-none
returns-in_default-ix_of-clause-none c =
    λ kind fits. no_register c.args.bytes.now kind (omega arith) (λ h. omega arith) c.in_default-ix_of.ensures.none

pub returns-in_default-ix_of-2-clause-none : goal.returns-in_default-ix_of-2-clause-none
returns-in_default-ix_of-2-clause-none c =
    λ kind fits. no_register c.args.bytes.now kind (omega arith) (λ h. omega arith) c.in_default-ix_of-2.ensures.none

pub returns-in_default-ix_of-3-clause-none : goal.returns-in_default-ix_of-3-clause-none
returns-in_default-ix_of-3-clause-none c =
    λ kind fits. no_register c.args.bytes.now kind (omega arith) (λ h. omega arith) c.in_default-ix_of-3.ensures.none
