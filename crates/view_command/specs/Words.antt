-- The commands and their arguments, as the library of command lines reads them.
use Rattle.std.specs.Prelude.{ℕ, List, true, codes}
use Rattle.clap.specs.Simple.{App, new_app, on_top, with_rule, with_subcommand}
use Rattle.clap.specs.Walk.{Rule}
use Rattle.command_words.specs.Grammar.{flag_rule, option_rule, pair_rule, versioned, word_rule}

-- the required name of the trace
abbrev pub trace_rule : Rule
trace_rule = word_rule (codes "TRACE")

abbrev pub csv_rule : Rule
csv_rule = flag_rule (codes "csv")

-- a command that shows the ticks of a trace
abbrev pub shown_app : List ℕ → App
shown_app name = with_rule (with_rule (with_rule (new_app name) trace_rule) (option_rule (codes "from"))) (option_rule (codes "to"))

-- a command on the lines of a partition
abbrev pub of_partition_app : List ℕ → App
of_partition_app name = with_rule (shown_app name) (option_rule (codes "partition"))

-- a command on lines that are chosen by what they name, of which the trace may have to know a process
abbrev pub known_app : App → App
known_app app = with_rule app (flag_rule (codes "known"))

abbrev pub lines_app : List ℕ → App
lines_app name = known_app (with_rule (with_rule (with_rule (of_partition_app name) (option_rule (codes "process"))) (option_rule (codes "kind"))) (option_rule (codes "port")))

-- and that takes for how many ticks the module ran
abbrev pub run_app : List ℕ → App
run_app name = with_rule (lines_app name) (option_rule (codes "ticks"))

-- the same of two traces
abbrev pub lines_of_both : App → App
lines_of_both app =
    with_rule (known_app (with_rule (with_rule (with_rule (with_rule (with_rule (with_rule app (option_rule (codes "from"))) (option_rule (codes "to"))) (option_rule (codes "partition")))
    (option_rule (codes "process"))) (option_rule (codes "kind"))) (option_rule (codes "port")))) (option_rule (codes "ticks"))

abbrev pub summary_app : App
summary_app = with_rule (with_rule (run_app (codes "summary")) (option_rule (codes "table"))) csv_rule

-- the command that shows the summaries of two traces
abbrev pub both_app : App
both_app = with_rule (with_rule (lines_of_both (with_rule (with_rule (new_app (codes "compare")) trace_rule) (word_rule (codes "OTHER")))) (option_rule (codes "table"))) csv_rule

-- the command that draws a picture
abbrev pub svg_app : App
svg_app = with_rule (with_rule (run_app (codes "svg")) (option_rule (codes "table"))) (option_rule (codes "width"))

-- the command that writes a dump
abbrev pub vcd_app : App
vcd_app = with_rule (with_rule (run_app (codes "vcd")) (option_rule (codes "table"))) (flag_rule (codes "gtkw"))

-- the command that writes a page, which shows all ticks of a trace
abbrev pub page_app : App
page_app = with_rule (with_rule (new_app (codes "html")) trace_rule) (option_rule (codes "partition"))

abbrev pub page_lines_app : App
page_lines_app = with_rule (with_rule (with_rule page_app (option_rule (codes "process"))) (option_rule (codes "kind"))) (option_rule (codes "port"))

abbrev pub html_app : App
html_app = with_rule (with_rule (with_rule (known_app page_lines_app) (option_rule (codes "ticks"))) (option_rule (codes "table"))) (option_rule (codes "state"))

abbrev pub list_app : App
list_app = with_rule (lines_app (codes "list")) (option_rule (codes "table"))

abbrev pub check_app : App
check_app = with_rule (with_rule (with_rule (with_rule (of_partition_app (codes "check")) (option_rule (codes "no"))) (pair_rule (codes "at-most"))) (option_rule (codes "missed"))) (option_rule (codes "table"))

-- the command that compares two traces
abbrev pub diff_app : App
diff_app = with_rule (with_rule (with_rule (with_rule (new_app (codes "diff")) trace_rule) (word_rule (codes "OTHER"))) (option_rule (codes "partition"))) (option_rule (codes "table"))

abbrev pub top_app : App
top_app = on_top (λ s. record s { subcommand_required = true }) (versioned (new_app (codes "mbview")))

-- the program, with the commands that sum up or draw a trace
abbrev pub pictures_app : App
pictures_app = with_subcommand (with_subcommand (with_subcommand (with_subcommand top_app summary_app.top) both_app.top) svg_app.top) vcd_app.top

abbrev pub view_app : App
view_app = with_subcommand (with_subcommand (with_subcommand (with_subcommand pictures_app list_app.top) check_app.top) diff_app.top) html_app.top
