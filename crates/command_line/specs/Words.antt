-- The commands and their arguments, as the library of command lines reads them.
use Rattle.std.specs.Prelude.{ℕ, List, codes}
use Rattle.clap.specs.Simple.{App, new_app, with_rule, with_subcommand}
use Rattle.clap.specs.Walk.{Rule}
use Rattle.command_words.specs.Grammar.{any_words_rule, flag_rule, option_rule, sequence_rule, versioned, word_rule, words_rule}

-- the flag that asks for an explanation of a refusal
abbrev pub explain_rule : Rule
explain_rule = flag_rule (codes "explain")

-- and for one in JSON objects
abbrev pub explain_json_rule : Rule
explain_json_rule = flag_rule (codes "explain-json")

-- a command that takes the flags
abbrev pub explained_app : List ℕ → App
explained_app name = with_rule (with_rule (new_app name) explain_rule) explain_json_rule

abbrev pub check_app : App
check_app = with_rule (with_rule (explained_app (codes "check")) (word_rule (codes "TABLE"))) (words_rule (codes "SOURCE"))

abbrev pub build_app : App
build_app = with_rule (with_rule (with_rule (explained_app (codes "build")) (word_rule (codes "TABLE"))) (word_rule (codes "IMAGE"))) (words_rule (codes "SOURCE"))

-- a command that may report how far it is
abbrev pub watched_app : List ℕ → App
watched_app name = with_rule (explained_app name) (flag_rule (codes "progress"))

-- with the words of a line that the run waits for
abbrev pub run_flags_app : App
run_flags_app = with_rule (watched_app (codes "run")) (sequence_rule (codes "until"))

abbrev pub run_app : App
run_app = with_rule (with_rule (with_rule run_flags_app (word_rule (codes "IMAGE"))) (word_rule (codes "DEVICES"))) (word_rule (codes "TICKS"))

-- a command on one partition of an image
abbrev pub partition_app : App → App
partition_app app = with_rule (with_rule app (word_rule (codes "IMAGE"))) (word_rule (codes "PARTITION"))

abbrev pub replay_app : App
replay_app = with_rule (with_rule (partition_app (explained_app (codes "replay"))) (word_rule (codes "INPUTS"))) (word_rule (codes "TICKS"))

abbrev pub inputs_app : App
inputs_app = with_rule (with_rule (partition_app (watched_app (codes "inputs"))) (word_rule (codes "DEVICES"))) (word_rule (codes "TICKS"))

abbrev pub state_flags_app : App
state_flags_app =
    with_rule (with_rule (with_rule (with_rule (explained_app (codes "state")) (flag_rule (codes "json"))) (option_rule (codes "partition"))) (option_rule (codes "every"))) (sequence_rule (codes "until"))

abbrev pub state_words_app : App
state_words_app = with_rule (with_rule (with_rule (with_rule state_flags_app (flag_rule (codes "sources"))) (word_rule (codes "IMAGE"))) (word_rule (codes "DEVICES"))) (word_rule (codes "TICK"))

abbrev pub state_app : App
state_app = with_rule state_words_app (any_words_rule (codes "SOURCE"))

abbrev pub cost_app : App
cost_app = with_rule (with_rule (explained_app (codes "cost")) (word_rule (codes "TABLE"))) (words_rule (codes "SOURCE"))

abbrev pub dis_app : App
dis_app = with_rule (explained_app (codes "dis")) (word_rule (codes "IMAGE"))

abbrev pub upgrade_app : App
upgrade_app = with_rule (with_rule (explained_app (codes "upgrade")) (word_rule (codes "OLD"))) (word_rule (codes "NEW"))

abbrev pub load_flags_app : App
load_flags_app = with_rule (with_rule (explained_app (codes "load")) (flag_rule (codes "csv"))) (flag_rule (codes "svg"))

abbrev pub load_app : App
load_app = with_rule (with_rule load_flags_app (word_rule (codes "TABLE"))) (any_words_rule (codes "SOURCE"))

abbrev pub lint_app : App
lint_app = with_rule (with_rule (explained_app (codes "lint")) (word_rule (codes "TABLE"))) (words_rule (codes "SOURCE"))

-- the program without its commands
abbrev pub top_app : App
top_app = versioned (new_app (codes "mb"))

abbrev pub mb_app : App
mb_app =
    with_subcommand (with_subcommand (with_subcommand (with_subcommand (with_subcommand (with_subcommand (with_subcommand (with_subcommand (with_subcommand (with_subcommand (with_subcommand
    top_app check_app.top) build_app.top) run_app.top) replay_app.top) inputs_app.top) state_app.top) cost_app.top) dis_app.top) upgrade_app.top) load_app.top) lint_app.top
