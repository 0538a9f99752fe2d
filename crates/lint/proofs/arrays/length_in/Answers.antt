use Rattle.std.proofs.Common.{ap, ◌∙◌}
use Rattle.lint.specs.Plain.{number_in}
use Rattle.lint.proofs.arrays.length_in.Goals as goal

pub returns : goal.returns
returns c = λ names. c.number_in.ensures names ∙ ap number_in (c.third_plain.ensures names)
