use Rattle.view_command.proofs.refusal.RefusalDisplay.fmt.Goals as goal

pub returns-in-Table-clause-writes : goal.returns-in-Table-clause-writes
returns-in-Table-clause-writes g c = rw (c.in-Table.is, ← c.as_str-in-Table.ensures.value, ← c.number.ensures) c.write-in-Table.ensures.writes

pub returns-in-Crowded-clause-writes : goal.returns-in-Crowded-clause-writes
returns-in-Crowded-clause-writes g c = rw (c.in-Crowded.is) c.write-in-Crowded.ensures.writes
