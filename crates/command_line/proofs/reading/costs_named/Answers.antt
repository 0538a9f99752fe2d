use Rattle.std.proofs.Common.{rules, map, ◌∙◌}
use Rattle.text_beginnings.specs.Settled.{settles_source}
use Rattle.command_line.specs.Reading.{HoldAllFrom, texts_of}
use Rattle.command_words.proofs.Failed.{on_ok}
use Rattle.command_line.proofs.BegunModules.{costed_of_files, uncosted_of_files}
use Rattle.command_line.proofs.Read.{unnamed_costs}
use Rattle.command_line.proofs.reading.costs_named.Goals as goal

pub returns-clause-costed : goal.returns-clause-costed
returns-clause-costed g c =
    let names = map (λ s. s.now) c.args.names.sources.now in
    let sources : HoldAllFrom settles_source (g.F.Files.contents c.read_table.new.files) names (texts_of c.as_slice-2.result.now) = search rules in
    costed_of_files (g.F.Files.contents c.args.files.now) (g.F.Files.contents c.read_table.new.files) c.args.names.table.now names c.in_ok-table.table.items c.as_slice.result.now (texts_of c.as_slice-2.result.now)
    c.in_ok-table.ensures.unchanged c.as_slice.ensures.value c.in_ok-table.ensures.held sources (λ costs. costs.items) c.costs_of_texts.result c.costs_of_texts.ensures.costed

pub returns-clause-refused : goal.returns-clause-refused
returns-clause-refused g c =
    let names = map (λ s. s.now) c.args.names.sources.now in
    let sources : HoldAllFrom settles_source (g.F.Files.contents c.read_table.new.files) names (texts_of c.as_slice-2.result.now) = search rules in
    uncosted_of_files (g.F.Files.contents c.args.files.now) (g.F.Files.contents c.read_table.new.files) c.args.names.table.now names c.in_ok-table.table.items c.as_slice.result.now (texts_of c.as_slice-2.result.now)
    c.in_ok-table.ensures.unchanged c.as_slice.ensures.value c.in_ok-table.ensures.held sources c.costs_of_texts.result c.costs_of_texts.ensures.refused

pub returns-clause-noted : goal.returns-clause-noted
returns-clause-noted g c = on_ok c.costs_of_texts.result (c.in_ok-sources.ensures.noted ∙ c.in_ok-table.ensures.noted)

pub returns-clause-named : goal.returns-clause-named
returns-clause-named g c =
    unnamed_costs (g.F.Files.failed c.args.files.now) (g.F.Files.failed c.read_sources.new.files) c.as_slice.result.now (texts_of c.as_slice-2.result.now) c.costs_of_texts.result (c.in_ok-sources.ensures.noted ∙ c.in_ok-table.ensures.noted) c.costs_of_texts.ensures.refused
