use Rattle.finding_lines.specs.Views.{owned_path}
use Rattle.finding_lines.proofs.Turns.{if_pair}
use Rattle.finding_lines.proofs.walk.pair_line.Goals as goal

pub returns-clause-value : goal.returns-clause-value
returns-clause-value c =
    if_pair (owned_path c.args.section.now) (owned_path c.in_ok-path.path.items) _ _ _ c.args.start.now _ _ c.inside.result c.in_ok-key.ensures.value c.in_ok-path.ensures (rw c.as_slice.ensures.value at c.in_ok-add.ensures) (rw c.as_slice-2.ensures.value at c.inside.ensures.value)
