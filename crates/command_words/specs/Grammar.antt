-- Commands and their arguments, as the library of command lines reads them.
use Rattle.std.specs.Prelude.{◌≡◌, ℕ, List, Some, true, false, fold, map}
use Rattle.clap.specs.Lexer.{usize_max}
use Rattle.clap.specs.Simple.{App, app_of, new_app, new_rule, on_top, with_rule, with_subcommand}
use Rattle.clap.specs.Walk.{Rule}
use Rattle.clap.specs.declared.builder.action.ArgAction.TheVariants.{Append, Set, SetTrue}
use Rattle.clap.specs.declared.builder.command.Command.{Command}
use Rattle.clap.specs.declared.builder.command.Command.TheViews.{out-Command}
use Rattle.command_words.specs.declared.table.Argument.{Argument}
use Rattle.command_words.specs.declared.table.Argument.TheVariants as argument
use Rattle.command_words.specs.declared.table.CommandRow.{CommandRow}
use Rattle.command_words.specs.declared.table.Program.{Program}

-- a word that has to be there
abbrev pub word_rule : List ℕ → Rule
word_rule name = record (new_rule name) { required = true; action = Some Set }

-- one word or more
abbrev pub words_rule : List ℕ → Rule
words_rule name = record (new_rule name) { required = true; range = Some (record { start_inclusive = 1; end_inclusive = usize_max }); action = Some Append }

-- as many words as are given, or none
abbrev pub any_words_rule : List ℕ → Rule
any_words_rule name = record (new_rule name) { range = Some (record { start_inclusive = 1; end_inclusive = usize_max }); action = Some Append }

-- an option without a value
abbrev pub flag_rule : List ℕ → Rule
flag_rule name = record (new_rule name) { long = Some name; action = Some SetTrue }

-- an option with one value, with two, and with one word or more
abbrev pub option_rule : List ℕ → Rule
option_rule name = record (new_rule name) { long = Some name; value_names = 1; action = Some Set }

abbrev pub pair_rule : List ℕ → Rule
pair_rule name = record (new_rule name) { long = Some name; value_names = 2; action = Some Set }

abbrev pub sequence_rule : List ℕ → Rule
sequence_rule name = record (new_rule name) { long = Some name; range = Some (record { start_inclusive = 1; end_inclusive = usize_max }); action = Some Append; value_names = 1 }

-- an argument of a table
abbrev pub rule : Argument → Rule
rule (argument.Word name help) = word_rule name.now
rule (argument.Words name help) = words_rule name.now
rule (argument.AnyWords name help) = any_words_rule name.now
rule (argument.Flag name help) = flag_rule name.now
rule (argument.Option name value help) = option_rule name.now
rule (argument.Pair name values help) = pair_rule name.now
rule (argument.Sequence name value help) = sequence_rule name.now

-- a program that reports its version
abbrev pub versioned : App → App
versioned app = on_top (λ s. record s { has_version = true }) app

-- a command of a table, with its arguments in their order
abbrev pub command_app : CommandRow → App
command_app row = fold with_rule (new_app row.name.now) (map rule row.arguments.now)

-- a program without its commands, and with them in their order
abbrev pub top_app : Program → App
top_app program = on_top (λ s. record s { subcommand_required = program.wants_command }) (versioned (new_app program.name.now))

abbrev pub program_app : Program → App
program_app program = fold with_subcommand (top_app program) (map (λ row. (command_app row).top) program.commands.now)

-- a command with these arguments and no other, none of them for its own commands
pub record IsCommand (command : Command) (app : App) : Type 0 where
  pub reads : app_of command ≡ app
  pub local : (out-Command command).has_globals ≡ false
