use Rattle.std.proofs.Common.{◌∙◌}
use Rattle.lint.proofs.UsedNames.{known}
use Rattle.lint.proofs.used.Used.has.Goals as goal

pub returns : goal.returns
returns c = c.contains.ensures ∙ known c.args.self.now.texts.keys c.args.name.now
