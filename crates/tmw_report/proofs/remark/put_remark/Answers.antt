use Rattle.tmw_report.proofs.remark.put_remark.Goals as goal

pub returns-in-NothingShown : goal.returns-in-NothingShown
returns-in-NothingShown g c = rw c.in-NothingShown.is c.put_all.ensures

pub returns-in-Undecided : goal.returns-in-Undecided
returns-in-Undecided g c = rw c.in-Undecided.is (rw c.undecided_text.ensures at c.put_all-in-Undecided.ensures)

pub returns-in-Broken : goal.returns-in-Broken
returns-in-Broken g c = rw c.in-Broken.is c.put_numbered.ensures
