use Rattle.std.proofs.Common.{rules}
use Rattle.clap.specs.Matches.{found_of}
use Rattle.view_command.proofs.Found.{bad_kinds, no_kinds_asked, some_kinds}
use Rattle.view_command.proofs.options.kinds.Goals as goal

pub returns-in_default-clause-kinds : goal.returns-in_default-clause-kinds
returns-in_default-clause-kinds c = no_kinds_asked (found_of c.args.found.now) c.args.option.now c.get_str.result c.get_str.ensures (search rules)

pub returns-in-Some-named-clause-kinds : goal.returns-in-Some-named-clause-kinds
returns-in-Some-named-clause-kinds c =
    some_kinds (found_of c.args.found.now) c.args.option.now c.get_str.result c.in-Some.word c.named.result c.in-Some-named.kinds c.get_str.ensures (search rules) (search rules) (search rules)

pub returns-in_ok-bad_value-in-None-clause-failed : goal.returns-in_ok-bad_value-in-None-clause-failed
returns-in_ok-bad_value-in-None-clause-failed c =
    bad_kinds (found_of c.args.found.now) c.args.option.now c.get_str.result c.in-Some.word c.named.result _ c.get_str.ensures (search rules) (search rules) (search rules) (search rules)
