use Rattle.std.proofs.Common.{rules, ap, ◌∙◌}
use Rattle.std.specs.List.{list_any}
use Rattle.clap.specs.Matches.{found_of}
use Rattle.command_words.proofs.Found.{words_are}
use Rattle.command_line.specs.Orders.{is_dash}
use Rattle.command_line.proofs.dashes.has_dash_at.Goals as goal

pub returns : goal.returns
returns c =
    c.are_dashed.ensures ∙ ap (list_any is_dash)
    (words_are (found_of c.args.found.now) c.args.name.now c.get_strs.result _ c.unwrap_or.result c.get_strs.ensures (search rules) c.unwrap_or.ensures)
