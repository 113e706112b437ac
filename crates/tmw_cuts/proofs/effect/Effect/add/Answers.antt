use Rattle.tmw_cuts.proofs.effect.Effect.add.Goals as goal

pub returns-in-Read : goal.returns-in-Read
returns-in-Read c = λ ops sums. rw c.in-Read.is (c.read.ensures ops sums)

pub returns-in-Write : goal.returns-in-Write
returns-in-Write c = λ ops sums. rw c.in-Write.is (c.write.ensures ops sums)

pub returns-in-Add : goal.returns-in-Add
returns-in-Add c = λ ops sums. rw c.in-Add.is (c.add_to.ensures ops sums)
