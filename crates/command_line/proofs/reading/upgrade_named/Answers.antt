use Rattle.command_line.specs.declared.refusal.Refusal.TheVariants.{Run}
use Rattle.command_line.proofs.Begun.{unloaded_whole, upgraded_whole}
use Rattle.command_line.proofs.Ran.{told_as}
use Rattle.command_line.proofs.reading.upgrade_named.Goals as goal

pub returns-in_err-upgraded-clause-refused : goal.returns-in_err-upgraded-clause-refused
returns-in_err-upgraded-clause-refused g c =
    told_as _ (Run c.in_err-upgraded.field-0.0) c.from_residual-in_err-upgraded.result c.from_residual-in_err-upgraded.ensures
    (unloaded_whole (g.F.Files.contents c.args.files.now) c.args.name.now c.in_ok-bytes.bytes.items c.as_slice.result.now c.in_err-upgraded.field-0.0 c.as_slice.ensures.value c.in_ok-bytes.ensures.held c.in_err-upgraded.ensures.refused)

pub returns-clause-upgraded : goal.returns-clause-upgraded
returns-clause-upgraded g c =
    upgraded_whole (g.F.Files.contents c.args.files.now) c.args.name.now c.in_ok-bytes.bytes.items c.as_slice.result.now c.in_ok-upgraded.field-0.items c.as_slice.ensures.value c.in_ok-bytes.ensures.held c.in_ok-upgraded.ensures.upgraded
