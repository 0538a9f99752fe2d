use Rattle.std.proofs.Common.{◌≡◌, ◌==◌, true, false, slice_index, arith}
use Rattle.std.proofs.lemmas.Grind.{common_steps}
use Rattle.toml_parser.specs.Lexical.{first}
use Rattle.finding_lines.proofs.Turns.{line_array, line_pair, line_table}
use Rattle.finding_lines.proofs.walk.line.Goals as goal

pub returns-then-byte_at-eq91-clause-value : goal.returns-then-byte_at-eq91-clause-value
returns-then-byte_at-eq91-clause-value c =
    let s = c.args.start.now in
    let a : (first s == 91) ≡ true = grind (arith, common_steps) in
    let b : (slice_index s 1 == 91) ≡ true = grind (arith, common_steps) in
    rw (line_array _ _ s a b) c.array_line.ensures.value

pub returns-then-first-eq91-2-clause-value : goal.returns-then-first-eq91-2-clause-value
returns-then-first-eq91-2-clause-value c =
    let s = c.args.start.now in
    let a : (first s == 91) ≡ true = grind (arith, common_steps) in
    let b : (slice_index s 1 == 91) ≡ false = grind (arith, common_steps) in
    rw (line_table _ _ s a b) c.table_line.ensures.value

pub returns-else-first-eq91-2-clause-value : goal.returns-else-first-eq91-2-clause-value
returns-else-first-eq91-2-clause-value c =
    let s = c.args.start.now in
    let a : (first s == 91) ≡ false = grind (arith, common_steps) in
    rw (line_pair _ _ s a) (rw c.as_slice.ensures.value at c.pair_line.ensures.value)
