use Rattle.std.proofs.Common.{rules}
use Rattle.clap.specs.Matches.{found_of}
use Rattle.command_words.proofs.Found.{words_are}
use Rattle.command_line.proofs.order.words.Goals as goal

pub returns : goal.returns
returns c = words_are (found_of c.args.found.now) c.args.name.now c.get_strs.result _ c.unwrap_or.result c.get_strs.ensures (search rules) c.unwrap_or.ensures
