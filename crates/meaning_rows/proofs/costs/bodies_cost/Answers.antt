use Rattle.std.proofs.Common.{refl}
use Rattle.meaning_rows.proofs.Computing.{reading_texts}
use Rattle.meaning_rows.proofs.costs.bodies_cost.Goals as goal

pub returns-clause-smallest : goal.returns-clause-smallest
unfolding reading_texts
returns-clause-smallest c = refl

pub returns-clause-reporting : goal.returns-clause-reporting
unfolding reading_texts
returns-clause-reporting c = refl

pub returns-clause-sums : goal.returns-clause-sums
unfolding reading_texts
returns-clause-sums c = refl

pub returns-clause-loops : goal.returns-clause-loops
unfolding reading_texts
returns-clause-loops c = refl

pub returns-clause-two_processes : goal.returns-clause-two_processes
unfolding reading_texts
returns-clause-two_processes c = refl

pub returns-clause-recursive : goal.returns-clause-recursive
unfolding reading_texts
returns-clause-recursive c = refl

pub returns-clause-dividing : goal.returns-clause-dividing
unfolding reading_texts
returns-clause-dividing c = refl
