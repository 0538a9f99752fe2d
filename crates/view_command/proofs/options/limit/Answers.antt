use Rattle.std.proofs.Common.{rules, ◌≡◌, map, subst, codes}
use Rattle.std.specs.Prelude.{IfErr}
use Rattle.clap.specs.Matches.{found_of}
use Rattle.clap.specs.Walk.{rows_of}
use Rattle.command_words.specs.Found.{words_at}
use Rattle.command_words.proofs.Found.{words_are}
use Rattle.view_command.specs.Answers.{IsLimitFailure}
use Rattle.view_command.proofs.options.limit.Goals as goal

pub returns : goal.returns
returns c =
    let f = found_of c.args.found.now in
    let words : map (λ s. s.now) c.unwrap_or.result.now ≡ words_at (codes "at-most") (rows_of f) =
    words_are f (codes "at-most") c.get_strs.result _ c.unwrap_or.result c.get_strs.ensures (search rules) c.unwrap_or.ensures in
    subst (λ ws. IfErr c.limit_in.result (λ x. IsLimitFailure ws x)) words c.limit_in.ensures
