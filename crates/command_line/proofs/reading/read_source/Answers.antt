use Rattle.std.proofs.Common.{sym, subst}
use Rattle.text_beginnings.specs.Settled.{settles_source}
use Rattle.streams.specs.Beginnings.{HoldsFrom}
use Rattle.command_line.proofs.BegunModules.{cut}
use Rattle.command_line.proofs.reading.read_source.Goals as goal

pub returns-clause-held : goal.returns-clause-held
returns-clause-held g c =
    let files = g.F.Files.contents c.args.files.now in
    subst (HoldsFrom settles_source files c.args.name.now) (sym c.truncate.ensures.items)
    (cut files c.args.name.now c.in_ok-bytes.bytes.items c.in_ok-bytes.ensures.held)
