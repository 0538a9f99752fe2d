use Rattle.std.proofs.Common.{rules, ◌≡◌, length}
use Rattle.command_line.specs.Reading.{texts_of}
use Rattle.command_line.proofs.BegunModules.{all_begun}
use Rattle.command_line.proofs.Read.{all_read}
use Rattle.command_line.proofs.reading.read_sources.Goals as goal

pub returns-clause-held : goal.returns-clause-held
returns-clause-held g c =
    let at : c.loop-name.name-index ≡ length c.args.names.now = search rules in
    all_begun (g.F.Files.contents c.args.files.now) c.args.names.now c.loop-name.name-index (texts_of c.loop-name.texts.items) at c.loop-name.invariant.held

pub returns-clause-remembered : goal.returns-clause-remembered
returns-clause-remembered g c =
    let at : c.loop-name.name-index ≡ length c.args.names.now = search rules in
    all_read c.args.names.now c.loop-name.name-index (g.F.Files.reads c.args.files.now) (g.F.Files.reads c.loop-name.files) at c.loop-name.invariant.read
