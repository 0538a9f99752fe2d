use Rattle.std.proofs.Common.{List, ℕ, subst, sym}
use Rattle.std.specs.Str.{IsAscii}
use Rattle.pal_base.proofs.Names.{name_is_ascii}
use Rattle.pal_base.proofs.word.word_at.Goals as goal

pub name_of-requires : goal.name_of-requires
name_of-requires c =
    let P : List ℕ → Type 0 = λ bs. IsAscii bs in
    subst P (sym c.split_run.ensures.front) (name_is_ascii c.args.text.now)
