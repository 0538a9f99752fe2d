use Rattle.std.proofs.Common.{◌≡◌, false, fold, map, drop}
use Rattle.clap.specs.Simple.{app_of, with_rule}
use Rattle.clap.specs.declared.builder.command.Command.TheViews.{out-Command}
use Rattle.command_words.specs.Grammar.{command_app, rule}
use Rattle.command_words.proofs.table.CommandRow.command.Given as goal

-- with the arguments that are left it is the command of the row
abbrev pub invariant-loop-argument : goal.invariant-loop-argument
invariant-loop-argument l =
    (fold with_rule (app_of l.command) (map rule (drop l.argument-index l.fn.self.arguments.now)) ≡ command_app l.fn.self)
    × ((out-Command l.command).has_globals ≡ false)
