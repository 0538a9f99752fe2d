use Rattle.std.proofs.Common.{rules, map, ◌∙◌}
use Rattle.text_beginnings.specs.Settled.{settles_source}
use Rattle.command_line.specs.Made.{made_in}
use Rattle.command_line.specs.Reading.{HoldAllFrom, texts_of}
use Rattle.command_words.proofs.Failed.{on_ok}
use Rattle.command_line.proofs.BegunModules.{named_of_files, refused_of_files}
use Rattle.command_line.proofs.Read.{unnamed_text}
use Rattle.command_line.proofs.naming.module_named.Goals as goal

pub returns-clause-built : goal.returns-clause-built
returns-clause-built g c =
    let names = map (λ s. s.now) c.args.names.sources.now in
    let sources : HoldAllFrom settles_source (g.F.Files.contents c.read_table.new.files) names (texts_of c.in_ok-sources.sources.items) = search rules in
    named_of_files (g.F.Files.contents c.args.files.now) (g.F.Files.contents c.read_table.new.files) c.args.names.table.now names c.in_ok-table.table.items c.as_slice.result.now (texts_of c.in_ok-sources.sources.items)
    c.in_ok-table.ensures.unchanged c.as_slice.ensures.value c.in_ok-table.ensures.held sources (λ m. m.image.items) made_in c.module_of.result c.module_of.ensures.built

pub returns-clause-refused : goal.returns-clause-refused
returns-clause-refused g c =
    let names = map (λ s. s.now) c.args.names.sources.now in
    let sources : HoldAllFrom settles_source (g.F.Files.contents c.read_table.new.files) names (texts_of c.in_ok-sources.sources.items) = search rules in
    refused_of_files (g.F.Files.contents c.args.files.now) (g.F.Files.contents c.read_table.new.files) c.args.names.table.now names c.in_ok-table.table.items c.as_slice.result.now (texts_of c.in_ok-sources.sources.items)
    c.in_ok-table.ensures.unchanged c.as_slice.ensures.value c.in_ok-table.ensures.held sources c.module_of.result c.module_of.ensures.refused

pub returns-clause-noted : goal.returns-clause-noted
returns-clause-noted g c = on_ok c.module_of.result (c.in_ok-sources.ensures.noted ∙ c.in_ok-table.ensures.noted)

pub returns-clause-named : goal.returns-clause-named
returns-clause-named g c =
    unnamed_text (g.F.Files.failed c.args.files.now) (g.F.Files.failed c.read_sources.new.files) c.as_slice.result.now (texts_of c.in_ok-sources.sources.items) c.module_of.result (c.in_ok-sources.ensures.noted ∙ c.in_ok-table.ensures.noted) c.module_of.ensures.refused
