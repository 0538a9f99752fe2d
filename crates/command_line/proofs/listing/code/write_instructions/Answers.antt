use Rattle.std.proofs.Common.{◌≡◌, ◌+◌, List, ℕ, [], ◌++◌, drop, ap, sym, ◌∙◌}
use Rattle.std.proofs.lemmas.List.{drop_more}
use Rattle.command_line.specs.Code.{instruction_lines}
use Rattle.command_line.proofs.UnderWay.{cut_off, goes_on}
use Rattle.command_line.proofs.listing.code.write_instructions.Goals as goal

pub returns-in_err-write_line : goal.returns-in_err-write_line
returns-in_err-write_line g c =
    let code = c.args.code.now in
    let i = c.loop-index.index in
    let rest = instruction_lines (i + 1) (drop (i + 1) code) in
    let split : instruction_lines i (drop i code) ≡ c.instruction_line.result.items ++ rest =
    ap (instruction_lines i) (drop_more code i [] c.loop-index-test.true) ∙ ap (λ (line : List ℕ). line ++ rest) (sym c.instruction_line.ensures) in
    cut_off (instruction_lines 0 code) (instruction_lines i (drop i code)) c.instruction_line.result.items rest _ _ _ _ _ _ c.from_residual.result split c.loop-index.invariant c.in_err-write_line.ensures c.from_residual.ensures.0

pub loop-index-preserved : goal.loop-index-preserved
loop-index-preserved g c =
    let code = c.args.code.now in
    let i = c.loop-index.index in
    let rest = instruction_lines (i + 1) (drop (i + 1) code) in
    let split : instruction_lines i (drop i code) ≡ c.instruction_line.result.items ++ rest =
    ap (instruction_lines i) (drop_more code i [] c.loop-index-test.true) ∙ ap (λ (line : List ℕ). line ++ rest) (sym c.instruction_line.ensures) in
    goes_on (instruction_lines 0 code) (instruction_lines i (drop i code)) c.instruction_line.result.items rest _ _ _ _ _ _ split c.loop-index.invariant c.in_ok-write_line.ensures
