use Rattle.std.proofs.Common.{rules, map, ◌∙◌}
use Rattle.text_beginnings.specs.Settled.{settles_source}
use Rattle.command_line.specs.Reading.{HoldAllFrom, texts_of}
use Rattle.command_words.proofs.Failed.{on_ok}
use Rattle.command_line.proofs.BegunModules.{built_of_files, refused_of_files}
use Rattle.command_line.proofs.Read.{read_first, unnamed_text}
use Rattle.command_line.proofs.reading.build_named.Goals as goal

pub returns-clause-built : goal.returns-clause-built
returns-clause-built g c =
    let names = map (λ s. s.now) c.args.names.sources.now in
    let sources : HoldAllFrom settles_source (g.F.Files.contents c.read_table.new.files) names (texts_of c.as_slice-2.result.now) = search rules in
    built_of_files (g.F.Files.contents c.args.files.now) (g.F.Files.contents c.read_table.new.files) c.args.names.table.now names c.in_ok-table.table.items c.as_slice.result.now (texts_of c.as_slice-2.result.now)
    c.in_ok-table.ensures.unchanged c.as_slice.ensures.value c.in_ok-table.ensures.held sources (λ image. image.items) c.build_texts.result c.build_texts.ensures.built

pub returns-clause-refused : goal.returns-clause-refused
returns-clause-refused g c =
    let names = map (λ s. s.now) c.args.names.sources.now in
    let sources : HoldAllFrom settles_source (g.F.Files.contents c.read_table.new.files) names (texts_of c.as_slice-2.result.now) = search rules in
    refused_of_files (g.F.Files.contents c.args.files.now) (g.F.Files.contents c.read_table.new.files) c.args.names.table.now names c.in_ok-table.table.items c.as_slice.result.now (texts_of c.as_slice-2.result.now)
    c.in_ok-table.ensures.unchanged c.as_slice.ensures.value c.in_ok-table.ensures.held sources c.build_texts.result c.build_texts.ensures.refused

pub returns-clause-remembered : goal.returns-clause-remembered
returns-clause-remembered g c =
    let reads = g.F.Files.reads in
    on_ok c.build_texts.result (read_first c.args.names.table.now (map (λ s. s.now) c.args.names.sources.now) (reads c.args.files.now) (reads c.read_table.new.files) (reads c.read_sources.new.files) c.in_ok-table.ensures.remembered c.in_ok-sources.ensures.remembered)

pub returns-clause-noted : goal.returns-clause-noted
returns-clause-noted g c = on_ok c.build_texts.result (c.in_ok-sources.ensures.noted ∙ c.in_ok-table.ensures.noted)

pub returns-clause-named : goal.returns-clause-named
returns-clause-named g c =
    unnamed_text (g.F.Files.failed c.args.files.now) (g.F.Files.failed c.read_sources.new.files) c.as_slice.result.now (texts_of c.as_slice-2.result.now) c.build_texts.result (c.in_ok-sources.ensures.noted ∙ c.in_ok-table.ensures.noted) c.build_texts.ensures.refused
