use Rattle.std.proofs.Common.{[], ◌∷◌, length, ap, ◌∙◌}
use Rattle.regions.specs.Space.{Space}
use Rattle.partition_base.proofs.Places.{length_put}
use Rattle.library_tests.proofs.executor.ScriptedExecutor.write.Goals as goal

pub returns-then-place-ge0-clause-fits : goal.returns-then-place-ge0-clause-fits
returns-then-place-ge0-clause-fits c = ap (λ (s : Space). length s.words ∷ []) c.put.ensures ∙ ap (λ n. n ∷ []) (length_put c.args.mem.now.words c.unsigned_abs.result c.args.array.now) ∙ c.requires
