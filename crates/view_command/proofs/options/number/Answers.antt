use Rattle.std.proofs.Common.{rules}
use Rattle.clap.specs.Matches.{found_of}
use Rattle.clap.specs.Walk.{first_of, rows_of}
use Rattle.view_command.proofs.Found.{bad_word, no_word, tick_word, value_of}
use Rattle.view_command.proofs.options.number.Goals as goal

pub returns-in_default-clause-read : goal.returns-in_default-clause-read
returns-in_default-clause-read c = no_word (found_of c.args.found.now) c.args.option.now c.get_str.result c.get_str.ensures (search rules)

pub returns-in-Some-number_of-clause-read : goal.returns-in-Some-number_of-clause-read
returns-in-Some-number_of-clause-read c =
    tick_word (found_of c.args.found.now) c.args.option.now c.get_str.result c.in-Some.word c.number_of.result c.in-Some-number_of.number c.get_str.ensures (search rules) (search rules) (search rules)

pub returns-in_ok-bad_value-in-None-clause-failed : goal.returns-in_ok-bad_value-in-None-clause-failed
returns-in_ok-bad_value-in-None-clause-failed c =
    bad_word (found_of c.args.found.now) c.args.option.now c.get_str.result c.in-Some.word c.number_of.result _ c.get_str.ensures (search rules) (search rules) (search rules) (search rules)

pub returns-in_default-clause-value : goal.returns-in_default-clause-value
returns-in_default-clause-value c =
    value_of (first_of c.args.option.now (rows_of (found_of c.args.found.now))) _ (no_word (found_of c.args.found.now) c.args.option.now c.get_str.result c.get_str.ensures (search rules))

pub returns-in-Some-number_of-clause-value : goal.returns-in-Some-number_of-clause-value
returns-in-Some-number_of-clause-value c =
    value_of (first_of c.args.option.now (rows_of (found_of c.args.found.now))) _
    (tick_word (found_of c.args.found.now) c.args.option.now c.get_str.result c.in-Some.word c.number_of.result c.in-Some-number_of.number c.get_str.ensures (search rules) (search rules) (search rules))
