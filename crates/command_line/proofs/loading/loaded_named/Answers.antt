use Rattle.std.proofs.Common.{rules, map, ap}
use Rattle.std.proofs.lemmas.List.{nil_from_length}
use Rattle.text_beginnings.specs.Settled.{settles_source}
use Rattle.command_line.specs.Loaded.{shown_of}
use Rattle.command_line.specs.Reading.{HoldAllFrom, texts_of}
use Rattle.command_line.proofs.Loaded.{alone, alone_refused, together, together_refused}
use Rattle.command_line.proofs.loading.loaded_named.Goals as goal

pub returns-clause-loaded : goal.returns-clause-loaded
returns-clause-loaded g c =
    let names = map (λ s. s.now) c.args.names.sources.now in
    let sources : HoldAllFrom settles_source (g.F.Files.contents c.read_table.new.files) names (texts_of c.as_slice-in-Some-2.result.now) = search rules in
    together (λ l. shown_of l) (g.F.Files.contents c.args.files.now) (g.F.Files.contents c.read_table.new.files) c.args.names.table.now names _ _ c.in_ok-table.table.items c.as_slice-in-Some.result.now (texts_of c.as_slice-in-Some-2.result.now) c.load_of_texts.result
    (ap (map (λ s. s.now)) c.in-Some.ensures.cases.0) c.in_ok-table.ensures.unchanged c.as_slice-in-Some.ensures.value c.in_ok-table.ensures.held sources c.load_of_texts.ensures.loaded

pub returns-clause-refused : goal.returns-clause-refused
returns-clause-refused g c =
    let names = map (λ s. s.now) c.args.names.sources.now in
    let sources : HoldAllFrom settles_source (g.F.Files.contents c.read_table.new.files) names (texts_of c.as_slice-in-Some-2.result.now) = search rules in
    together_refused (g.F.Files.contents c.args.files.now) (g.F.Files.contents c.read_table.new.files) c.args.names.table.now names _ _ c.in_ok-table.table.items c.as_slice-in-Some.result.now (texts_of c.as_slice-in-Some-2.result.now) c.load_of_texts.result
    (ap (map (λ s. s.now)) c.in-Some.ensures.cases.0) c.in_ok-table.ensures.unchanged c.as_slice-in-Some.ensures.value c.in_ok-table.ensures.held sources c.load_of_texts.ensures.refused

pub returns-in-None-clause-loaded : goal.returns-in-None-clause-loaded
returns-in-None-clause-loaded g c =
    alone (g.F.Files.contents c.args.files.now) c.args.names.table.now c.in_ok-table.table.items c.as_slice.result.now c.as_slice.ensures.value c.in_ok-table.ensures.held
    (λ l. shown_of l) (map (λ s. s.now) c.args.names.sources.now) c.load_of_text.result (ap (map (λ s. s.now)) (nil_from_length c.args.names.sources.now c.in-None.ensures.cases)) c.load_of_text.ensures.loaded

pub returns-in-None-clause-refused : goal.returns-in-None-clause-refused
returns-in-None-clause-refused g c =
    alone_refused (g.F.Files.contents c.args.files.now) c.args.names.table.now c.in_ok-table.table.items c.as_slice.result.now c.as_slice.ensures.value c.in_ok-table.ensures.held
    (map (λ s. s.now) c.args.names.sources.now) c.load_of_text.result (ap (map (λ s. s.now)) (nil_from_length c.args.names.sources.now c.in-None.ensures.cases)) c.load_of_text.ensures.refused
