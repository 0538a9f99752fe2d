use Rattle.std.proofs.Common.{rules, ◌≡◌, false, subst, true}
use Rattle.text_beginnings.specs.Settled.{settles_table}
use Rattle.command_line.proofs.BegunModules.{read_too_much, read_whole}
use Rattle.command_line.proofs.reading.read_table.Goals as goal

pub returns-then-is_longer_than_a_table-clause-refused : goal.returns-then-is_longer_than_a_table-clause-refused
returns-then-is_longer_than_a_table-clause-refused g c =
    let bytes = c.in_ok-bytes.bytes.items in
    let long : settles_table bytes ≡ true = subst (λ text. settles_table text ≡ true) c.as_slice.ensures.value (search rules) in
    (search rules, read_too_much (g.F.Files.contents c.args.files.now) c.args.name.now bytes long c.in_ok-bytes.ensures.held)

pub returns-clause-held : goal.returns-clause-held
returns-clause-held g c =
    let bytes = c.in_ok-bytes.bytes.items in
    let short : settles_table bytes ≡ false = subst (λ text. settles_table text ≡ false) c.as_slice.ensures.value (search rules) in
    read_whole (g.F.Files.contents c.args.files.now) c.args.name.now bytes short c.in_ok-bytes.ensures.held
