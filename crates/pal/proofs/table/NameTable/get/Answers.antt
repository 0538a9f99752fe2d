use Rattle.std.proofs.Common.{ℕ, List, ◌∙◌, Bor}
use Rattle.pal.proofs.Tables.{found}
use Rattle.pal.proofs.table.NameTable.get.Goals as goal

pub returns : goal.returns
returns c = c.copied.ensures ∙ c.get.ensures.value ∙ found (λ (k : Bor (List ℕ)). k.now) c.args.text.now c.args.self.now.entries.entries
