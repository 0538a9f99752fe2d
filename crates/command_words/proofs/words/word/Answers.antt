use Rattle.std.proofs.Common.{rules}
use Rattle.clap.specs.Matches.{found_of}
use Rattle.command_words.proofs.Found.{word_is}
use Rattle.command_words.proofs.words.word.Goals as goal

pub returns : goal.returns
returns c = word_is (found_of c.args.found.now) c.args.name.now c.get_str.result _ c.unwrap_or.result c.get_str.ensures (search rules) c.unwrap_or.ensures
