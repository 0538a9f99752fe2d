use Rattle.std.proofs.Common.{◌≡◌, ◌<◌, ◌^◌, subst, ap, ◌∙◌, rules}
use Rattle.std.specs.Prelude.{FitsSigned}
use Rattle.std.specs.Int.{w64}
use Rattle.machine_meaning.specs.Instructions.{HasBytes, bytes_of, reading}
use Rattle.processor.proofs.Spelling.{reads_back}
use Rattle.processor.proofs.codec.encode.Goals as goal

pub returns-clause-reads_back : goal.returns-clause-reads_back
returns-clause-reads_back c =
    let i = c.args.instruction.now in
    let fits : FitsSigned w64 c.field_v.result = search rules in
    let has : HasBytes i = record {
      x = subst (λ n. n < 2 ^ 32) c.field_x.ensures c.field_x.type_inv;
      v = subst (λ z. FitsSigned w64 z) c.field_v.ensures fits;
    } in
    let spelled : c.spell.result ≡ bytes_of i = search (rules, c.spell.ensures) in
    ap reading spelled ∙ reads_back i has
