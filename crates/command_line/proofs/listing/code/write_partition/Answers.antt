use Rattle.std.proofs.Common.{List, ℕ, ◌≡◌, ◌++◌, ap, sym}
use Rattle.command_line.specs.Code.{instruction_lines, name_line}
use Rattle.command_line.proofs.UnderWay.{cut_off, goes_on, last_listed, starts}
use Rattle.command_line.proofs.listing.code.write_partition.Goals as goal

pub returns-in_err-write_line : goal.returns-in_err-write_line
returns-in_err-write_line g c =
    let rest = instruction_lines 0 c.args.item.now.section.code.items in
    let text = name_line c.args.item.now.row.name ++ rest in
    let split : text ≡ c.name_line.result.items ++ rest = ap (λ (line : List ℕ). line ++ rest) (sym c.name_line.ensures) in
    cut_off text text c.name_line.result.items rest _ _ _ _ _ _ c.from_residual.result split (starts text _ _) c.in_err-write_line.ensures c.from_residual.ensures.0

pub returns : goal.returns
returns g c =
    let rest = instruction_lines 0 c.args.item.now.section.code.items in
    let text = name_line c.args.item.now.row.name ++ rest in
    let split : text ≡ c.name_line.result.items ++ rest = ap (λ (line : List ℕ). line ++ rest) (sym c.name_line.ensures) in
    let way = goes_on text text c.name_line.result.items rest _ _ _ _ _ _ split (starts text _ _) c.in_ok-write_line.ensures in
    last_listed text rest (instruction_lines 0 c.as_slice.result.now) _ _ _ _ _ _ c.write_instructions.result (ap (instruction_lines 0) (sym c.as_slice.ensures.value)) way c.write_instructions.ensures
