use Rattle.std.proofs.Common.{ap, ◌∙◌, refl}
use Rattle.lint.specs.Unused.{is_used}
use Rattle.lint.proofs.UsedNames.{inserted, texts_of}
use Rattle.lint.proofs.used.Used.add.Goals as goal

pub returns : goal.returns
returns c = λ q. ap (λ ks. is_used (texts_of ks) q) c.in_ok-insert.ensures.keys ∙ inserted _ (λ x y. refl) c.args.text c.args.self.now.texts.keys q
