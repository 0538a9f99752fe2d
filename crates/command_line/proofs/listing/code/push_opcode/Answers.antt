use Rattle.std.proofs.Common.{◌≡◌, ◌≤◌, length, Some, arith, ap, sym, ◌∙◌}
use Rattle.std.specs.Option.{option_map}
use Rattle.machine_meaning.specs.Instructions.{name_of_opcode}
use Rattle.command_line.proofs.OpcodeNames.{name_is_short}
use Rattle.command_line.proofs.listing.code.push_opcode.Goals as goal

pub push_text-requires : goal.push_text-requires
push_text-requires c =
    let got : name_of_opcode c.args.opcode ≡ Some c.in-Some.name.now = sym c.op_name.ensures ∙ ap (option_map (λ s. s.now)) c.in-Some.is in
    let short : length c.in-Some.name.now ≤ 4 = name_is_short c.args.opcode c.in-Some.name.now got in
    omega (arith, short, c.requires)

pub returns-in-Some-clause-len : goal.returns-in-Some-clause-len
returns-in-Some-clause-len c =
    let got : name_of_opcode c.args.opcode ≡ Some c.in-Some.name.now = sym c.op_name.ensures ∙ ap (option_map (λ s. s.now)) c.in-Some.is in
    let short : length c.in-Some.name.now ≤ 4 = name_is_short c.args.opcode c.in-Some.name.now got in
    omega (arith, short, c.push_text.ensures.len)
