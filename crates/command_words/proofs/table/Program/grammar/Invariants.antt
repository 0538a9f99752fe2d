use Rattle.std.proofs.Common.{◌≡◌, false, fold, map, drop}
use Rattle.clap.specs.Simple.{app_of, with_subcommand}
use Rattle.clap.specs.declared.builder.command.Command.TheViews.{out-Command}
use Rattle.command_words.specs.Grammar.{command_app, program_app}
use Rattle.command_words.proofs.table.Program.grammar.Given as goal

-- with the commands that are left it is the whole program
abbrev pub invariant-loop-row : goal.invariant-loop-row
invariant-loop-row l =
    (fold with_subcommand (app_of l.program) (map (λ row. (command_app row).top) (drop l.row-index l.fn.self.commands.now)) ≡ program_app l.fn.self)
    × ((out-Command l.program).has_globals ≡ false)
