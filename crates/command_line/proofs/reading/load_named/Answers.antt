use Rattle.image.specs.Views.{image_of}
use Rattle.command_line.specs.declared.refusal.Refusal.TheVariants.{Run}
use Rattle.command_line.proofs.Begun.{loaded_whole, unloaded_whole}
use Rattle.command_line.proofs.Ran.{told_as}
use Rattle.command_line.proofs.reading.load_named.Goals as goal

pub returns-in_err-load-clause-refused : goal.returns-in_err-load-clause-refused
returns-in_err-load-clause-refused g c =
    told_as _ (Run c.in_err-load.field-0.0) c.from_residual-in_err-load.result c.from_residual-in_err-load.ensures
    (unloaded_whole (g.F.Files.contents c.args.files.now) c.args.name.now c.in_ok-bytes.bytes.items c.as_slice.result.now c.in_err-load.field-0.0 c.as_slice.ensures.value c.in_ok-bytes.ensures.held c.in_err-load.ensures.refused)

pub returns-clause-loaded : goal.returns-clause-loaded
returns-clause-loaded g c =
    loaded_whole (g.F.Files.contents c.args.files.now) c.args.name.now c.in_ok-bytes.bytes.items c.as_slice.result.now (image_of c.in_ok-load.field-0) c.as_slice.ensures.value c.in_ok-bytes.ensures.held c.in_ok-load.ensures.loaded
