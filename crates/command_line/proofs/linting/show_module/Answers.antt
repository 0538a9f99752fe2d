use Rattle.std.proofs.Common.{rules, ◌≡◌, List, [], sym, subst}
use Rattle.lint.specs.declared.report.PartitionFindings.{PartitionFindings}
use Rattle.command_line.specs.Linting.{AreFoundOfModule, AreToldOf}
use Rattle.streams.specs.States.{seen}
use Rattle.command_line.specs.declared.refusal.Refusal.TheVariants.{Write}
use Rattle.command_line.proofs.Linted.{module_found}
use Rattle.command_line.proofs.Answered.{refused_as}
use Rattle.command_line.proofs.linting.show_module.Goals as goal

pub returns : goal.returns
returns g c =
    let m = c.args.read.now in
    let none : c.new-found.result.items ≡ [] = search rules in
    let are = module_found m c.as_slice-rows.result.now c.as_slice-trees.result.now c.as_slice-sources.result.now c.new-found.result.items c.add_found.new.found.items
    c.as_slice-rows.ensures.value c.as_slice-trees.ensures.value c.as_slice-sources.ensures.value none c.in_ok-add_found.ensures in (
      (
        c.as_slice-shown.result.now,
        subst (λ (found : List PartitionFindings). AreFoundOfModule m found) (sym c.as_slice-shown.ensures.value) are,
        sym c.of_findings.ensures,
        c.in_ok-show_findings.ensures.0,
      ),
      c.in_ok-show_findings.ensures.1,
    )

pub returns-in_err-show_findings : goal.returns-in_err-show_findings
returns-in_err-show_findings g c =
    let out = seen g.O.Sink.taken g.O.Sink.failures g.O.Stream.is_flushed in
    let m = c.args.read.now in
    let none : c.new-found.result.items ≡ [] = search rules in
    let are = module_found m c.as_slice-rows.result.now c.as_slice-trees.result.now c.as_slice-sources.result.now c.new-found.result.items c.add_found.new.found.items
    c.as_slice-rows.ensures.value c.as_slice-trees.ensures.value c.as_slice-sources.ensures.value none c.in_ok-add_found.ensures in
    refused_as (AreToldOf m (out c.args.out.now) _) Write c.from_residual-in_err-show_findings.result c.from_residual-in_err-show_findings.ensures (
      c.in_err-show_findings.ensures.1,
      c.as_slice-shown.result.now,
      subst (λ (found : List PartitionFindings). AreFoundOfModule m found) (sym c.as_slice-shown.ensures.value) are,
      c.in_err-show_findings.ensures.0,
    )
