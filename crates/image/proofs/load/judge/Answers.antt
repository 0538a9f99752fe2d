use Rattle.std.proofs.Common.{◌≡◌, Bool, true, false, rules, ◌∙◌}
use Rattle.machine_meaning.specs.ImageReading.{keeps_table_rules}
use Rattle.image.specs.Views.{fields_of}
use Rattle.image.proofs.Limits.{windows_apart, periods_within, kept_is, refused}
use Rattle.image.proofs.load.judge.Goals as goal

pub invariant_of-schedule-clause-apart : goal.invariant_of-schedule-clause-apart
invariant_of-schedule-clause-apart c =
    windows_apart c.args.fields _ c.as_slice.result.now c.has_wrong_window.result c.requires c.as_slice.ensures.value c.has_wrong_window.ensures c.if-has_wrong_window.false

pub keeps_rules-requires-clause-periods : goal.keeps_rules-requires-clause-periods
keeps_rules-requires-clause-periods c = rw c.as_slice-2.ensures.value (periods_within c.args.fields c.requires)

pub returns-then-not-branch : goal.returns-then-not-branch
returns-then-not-branch c =
    let kept : Bool = c.in_ok-keeps_rules.field-0 in
    let is : keeps_table_rules (fields_of c.args.fields) ≡ kept = kept_is c.args.fields kept c.as_slice-2.result.now c.as_slice-3.result.now c.as_slice-2.ensures.value c.as_slice-3.ensures.value c.in_ok-keeps_rules.ensures in
    let not_kept : kept ≡ false = search rules in
    refused c.args.fields (is ∙ not_kept)

pub invariant_of-result : goal.invariant_of-result
invariant_of-result c =
    let kept : Bool = c.in_ok-keeps_rules.field-0 in
    let is : keeps_table_rules (fields_of c.args.fields) ≡ kept = kept_is c.args.fields kept c.as_slice-2.result.now c.as_slice-3.result.now c.as_slice-2.ensures.value c.as_slice-3.ensures.value c.in_ok-keeps_rules.ensures in
    let keeps : kept ≡ true = search rules in
    record { lawful = record { limits = c.requires; rules = is ∙ keeps } }
