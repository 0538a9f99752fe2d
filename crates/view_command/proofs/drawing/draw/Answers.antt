use Rattle.view_command.specs.Summed.{AreLinesIn}
use Rattle.view_command.specs.Windows.{windows_known}
use Rattle.view_command.specs.declared.drawing.Sketch.{Sketch}
use Rattle.view_command.proofs.Sketched.{drawing_in}
use Rattle.view_laws.proofs.OfDrawings.{machines_drawn, modules_drawn}
use Rattle.view_command.proofs.drawing.draw.Goals as goal

pub returns-in-Ok-clause-drawing : goal.returns-in-Ok-clause-drawing
returns-in-Ok-clause-drawing g c =
    let first : Sketch = record { picture = c.new.result; windows = c.in_ok-windows.windows } in
    drawing_in (g.R.Read.remaining c.args.text.reader) c.args.request.now.kept c.args.request.now.from c.args.request.now.to (windows_known c.args.table) first c.in_ok-last.last c.in-Ok.drawing
    c.new.ensures.shown c.new.ensures.partitions c.new.ensures.shapes c.in_ok-windows.ensures c.in_ok-last.ensures.taken c.in-Ok.ensures

pub returns-in-Ok-clause-machines : goal.returns-in-Ok-clause-machines
returns-in-Ok-clause-machines g c =
    machines_drawn (AreLinesIn (g.R.Read.remaining c.args.text.reader) c.args.request.now.kept) c.args.request.now.from c.args.request.now.to (windows_known c.args.table) c.in-Ok.drawing (returns-in-Ok-clause-drawing g c)

pub returns-in-Ok-clause-modules : goal.returns-in-Ok-clause-modules
returns-in-Ok-clause-modules g c =
    modules_drawn (AreLinesIn (g.R.Read.remaining c.args.text.reader) c.args.request.now.kept) c.args.request.now.from c.args.request.now.to (windows_known c.args.table) c.in-Ok.drawing (returns-in-Ok-clause-drawing g c)
