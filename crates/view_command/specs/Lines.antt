-- The line of each refusal, without its line feed.
use Rattle.std.specs.Prelude.{ℕ, List, ◌++◌, codes, string_bytes, if◌then◌else◌}
use Rattle.std.specs.Fmt.{decimal}
use Rattle.std.specs.Str.{bytes_eq}
use Rattle.window_table.specs.Answers.{number_of}
use Rattle.view_command.specs.declared.refusal.Refusal.{Refusal}
use Rattle.view_command.specs.declared.refusal.Refusal.TheVariants.{Open, Read, Line, Late, TooMany, Crowded, Table, NoRow, Foreign, Unknown, Memory, Write}

-- the name of a text in a line: `-` means the standard input
abbrev pub called : List ℕ → List ℕ
called name = if bytes_eq name (codes "-") then codes "the standard input" else name

abbrev pub line_of : Refusal → List ℕ
line_of (Open trace) = codes "mbview: " ++ string_bytes trace ++ codes " cannot be opened"
line_of (Read trace) = codes "mbview: " ++ string_bytes trace ++ codes " cannot be read to its end"
line_of (Line number trace) = codes "mbview: line " ++ decimal number ++ codes " of " ++ string_bytes trace ++ codes " is no line of a trace"
line_of (Late number trace) = codes "mbview: line " ++ decimal number ++ codes " of " ++ string_bytes trace ++ codes " is behind the last tick of the run"
line_of TooMany = codes "mbview: the view would have too many windows; choose fewer ticks with --from and --to"
line_of (Crowded shapes from until elements) =
    codes "mbview: beside windows, the picture would have "
    ++ (decimal shapes
    ++ (codes " bars, arrows, flags and marks; from tick "
    ++ (decimal from
    ++ (codes " on it has "
    ++ (decimal elements
    ++ (codes " elements before tick " ++ (decimal until ++ (codes ", and more than 5000 with it; end it there with --to " ++ decimal until))))))))
line_of (Table fault table) = codes "mbview: " ++ (string_bytes table ++ (codes " breaks rule " ++ (decimal (number_of fault) ++ codes " of a module table")))
line_of (NoRow number states) = codes "mbview: line " ++ decimal number ++ codes " of " ++ string_bytes states ++ codes " is no row of a state"
line_of (Foreign partition) = codes "mbview: the trace has a partition that the module table has not: " ++ partition
line_of (Unknown line) = codes "mbview: " ++ string_bytes line
line_of Memory = codes "mbview: there is too little memory"
line_of Write = codes "mbview: the output cannot be written"
