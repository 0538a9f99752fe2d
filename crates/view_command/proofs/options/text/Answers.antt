use Rattle.std.proofs.Common.{rules, string_bytes}
use Rattle.clap.specs.Matches.{found_of}
use Rattle.view_command.proofs.Found.{no_text, text_word}
use Rattle.view_command.proofs.options.text.Goals as goal

pub returns-in_ok-from_str-in-Some : goal.returns-in_ok-from_str-in-Some
returns-in_ok-from_str-in-Some c =
    text_word (found_of c.args.found.now) c.args.option.now c.get_str.result c.in-Some.word (string_bytes c.in_ok-from_str-in-Some.field-0) c.get_str.ensures (search rules) (search rules)

pub returns-in-None : goal.returns-in-None
returns-in-None c = no_text (found_of c.args.found.now) c.args.option.now c.get_str.result c.get_str.ensures (search rules)
