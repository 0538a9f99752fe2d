-- The text of an image's instructions: the exact bytes of each line.
use Rattle.std.specs.Prelude.{ℕ, ◌+◌, ◌/◌, ◌%◌, List, [], ◌∷◌, ◌++◌, map, flat_map, codes, Option, Some, None}
use Rattle.std.specs.Fmt.{decimal, signed_decimal}
use Rattle.machine_meaning.specs.Image.{Image, Item}
use Rattle.machine_meaning.specs.Instructions.{opcode_in, x_in, v_in, name_of_opcode}

-- a number below 100,000 in 5 digits, with zeros in front
abbrev pub five_digits : ℕ → List ℕ
five_digits n = map (λ unit. 48 + n / unit % 10) (10000 ∷ 1000 ∷ 100 ∷ 10 ∷ 1 ∷ [])

-- the name, or `?` and the number of an opcode that has none
abbrev pub name_or_number : ℕ → Option (List ℕ) → List ℕ
name_or_number op (Some name) = name
name_or_number op None = codes "?" ++ decimal op

abbrev pub opcode_text : ℕ → List ℕ
opcode_text op = name_or_number op (name_of_opcode op)

-- the line of an instruction: its index, its opcode, its fields x and v, a line feed
abbrev pub instruction_line : ℕ → List ℕ → List ℕ
instruction_line index bytes =
    five_digits index ++ codes " " ++ opcode_text (opcode_in bytes) ++ codes " " ++ decimal (x_in bytes) ++ codes " " ++ signed_decimal (v_in bytes) ++ 10 ∷ []

-- the lines of instructions, the first of which has this index
abbrev pub instruction_lines : ℕ → List (List ℕ) → List ℕ
instruction_lines index [] = []
instruction_lines index (bytes ∷ others) = instruction_line index bytes ++ instruction_lines (index + 1) others

-- the line of a partition's name
abbrev pub name_line : List ℕ → List ℕ
name_line name = codes "partition " ++ name ++ 10 ∷ []

-- a partition: the line of its name, then the lines of its instructions from 0
abbrev pub partition_text : Item → List ℕ
partition_text it = name_line it.partition.name ++ instruction_lines 0 it.section.code

-- the text of an image: its partitions, in their order
abbrev pub code_text : Image → List ℕ
code_text image = flat_map partition_text image.items
