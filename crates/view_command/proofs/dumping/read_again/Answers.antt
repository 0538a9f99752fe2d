use Rattle.std.proofs.Common.{refl, string_bytes, subst}
use Rattle.view_command.specs.Faults.{IsUnopened}
use Rattle.view_command.proofs.Dumped.{unopened_again}
use Rattle.view_command.proofs.dumping.read_again.Goals as goal

pub returns-in_err-text-clause-cut : goal.returns-in_err-text-clause-cut
returns-in_err-text-clause-cut g c =
    let r = c.in_err-text.field-0.0 in
    let unopened = g.F.Sources.unopened in
    unopened_again (string_bytes c.args.request.now.trace) _ _ r c.from_residual.result refl
    (subst (λ n. IsUnopened n (unopened c.args.sources.now) (unopened c.open_text.new.sources) r) c.as_str-trace.ensures.value c.in_err-text.ensures.refused) c.from_residual.ensures
