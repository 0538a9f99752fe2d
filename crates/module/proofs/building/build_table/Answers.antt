use Rattle.module.proofs.Prelude.{rules, ◌≡◌, List, length, map, sym, ◌∙◌, length-map, partition_view, table_of, PartitionRow, AreSourceRefusals, IsLengthRefusal, programs_of}
use Rattle.std.proofs.Common.{subst}
use Rattle.module.proofs.Headline.{lawful_image}
use Rattle.module.proofs.Refused.{passed_on, source_refused, are_accepted, as_many, all_short, built_from, same_sources, length_refused}
use Rattle.module.proofs.building.build_table.Goals as goal

pub returns-in_err-accepted-clause-refused : goal.returns-in_err-accepted-clause-refused
returns-in_err-accepted-clause-refused c =
    let texts = map (λ s. s.now) c.args.sources.now in
    let e : length c.args.sources.now ≡ length c.args.table.partitions.items = search rules in
    let count : length texts ≡ length (table_of c.args.table).partitions = length-map c.args.sources.now (λ s. s.now) ∙ e ∙ sym (length-map c.args.table.partitions.items partition_view) in
    let here = subst (λ (rows : List PartitionRow). AreSourceRefusals (map partition_view rows) texts c.in_err-accepted.field-0.0) c.as_slice.ensures.value c.in_err-accepted.ensures.refused in
    passed_on _ _ c.in_err-accepted.field-0.0 c.from_residual.result c.from_residual.ensures (source_refused (table_of c.args.table) texts count) here

pub returns-in_err-judge_lengths-clause-refused : goal.returns-in_err-judge_lengths-clause-refused
returns-in_err-judge_lengths-clause-refused c =
    let texts = map (λ s. s.now) c.args.sources.now in
    let given = c.deref.result.now in
    let accepted = same_sources c.as_slice.result.now c.args.table.partitions.items texts c.in_ok-accepted.accepted.items given c.as_slice.ensures.value c.deref.ensures.value c.in_ok-accepted.ensures.accepted in
    let here = subst (λ (rows : List PartitionRow). IsLengthRefusal (map partition_view rows) (programs_of given) c.in_err-judge_lengths.field-0.0) c.as_slice-2.ensures.value c.in_err-judge_lengths.ensures.refused in
    passed_on _ _ c.in_err-judge_lengths.field-0.0 c.from_residual-in_err-judge_lengths.result c.from_residual-in_err-judge_lengths.ensures (length_refused (table_of c.args.table) texts given accepted) here

pub build_accepted-requires-clause-count : goal.build_accepted-requires-clause-count
build_accepted-requires-clause-count c =
    let texts = map (λ s. s.now) c.args.sources.now in
    let given = c.deref-2.result.now in
    let accepted = same_sources c.as_slice.result.now c.args.table.partitions.items texts c.in_ok-accepted.accepted.items given c.as_slice.ensures.value c.deref-2.ensures.value c.in_ok-accepted.ensures.accepted in
    as_many (table_of c.args.table).partitions texts given accepted ∙ length-map c.args.table.partitions.items partition_view

pub build_accepted-requires-clause-lawful : goal.build_accepted-requires-clause-lawful
build_accepted-requires-clause-lawful c =
    let texts = map (λ s. s.now) c.args.sources.now in
    let given = c.deref-2.result.now in
    let accepted = same_sources c.as_slice.result.now c.args.table.partitions.items texts c.in_ok-accepted.accepted.items given c.as_slice.ensures.value c.deref-2.ensures.value c.in_ok-accepted.ensures.accepted in
    lawful_image (table_of c.args.table) texts (programs_of given) c.requires (are_accepted (table_of c.args.table).partitions texts given accepted)

pub build_accepted-requires-clause-short : goal.build_accepted-requires-clause-short
build_accepted-requires-clause-short c =
    let texts = map (λ s. s.now) c.args.sources.now in
    let given = c.deref-2.result.now in
    let accepted = same_sources c.as_slice.result.now c.args.table.partitions.items texts c.in_ok-accepted.accepted.items given c.as_slice.ensures.value c.deref-2.ensures.value c.in_ok-accepted.ensures.accepted in
    all_short c.as_slice-2.result.now c.args.table.partitions.items texts c.deref.result.now given c.as_slice-2.ensures.value (c.deref.ensures.value ∙ sym c.deref-2.ensures.value) accepted c.in_ok-judge_lengths.ensures.none

pub returns-clause-built : goal.returns-clause-built
returns-clause-built c =
    let texts = map (λ s. s.now) c.args.sources.now in
    let given = c.deref-2.result.now in
    let accepted = same_sources c.as_slice.result.now c.args.table.partitions.items texts c.in_ok-accepted.accepted.items given c.as_slice.ensures.value c.deref-2.ensures.value c.in_ok-accepted.ensures.accepted in
    let short = all_short c.as_slice-2.result.now c.args.table.partitions.items texts c.deref.result.now given c.as_slice-2.ensures.value (c.deref.ensures.value ∙ sym c.deref-2.ensures.value) accepted c.in_ok-judge_lengths.ensures.none in
    built_from (table_of c.args.table) texts given c.in_ok-build_accepted.field-0.items accepted short c.in_ok-build_accepted.ensures.spelled c.in_ok-build_accepted.ensures.coded
