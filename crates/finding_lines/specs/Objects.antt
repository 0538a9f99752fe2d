-- The JSON object of a finding. Its members are in the order of their keys.
use Rattle.std.specs.Prelude.{ℕ, List, ◌++◌, codes}
use Rattle.serde_json.specs.Data.{Data, Members, member, no_members, number, object, string, unsigned}
use Rattle.serde_json.specs.Written.{compact_text}

-- on a separate line
abbrev pub object_line : Data → List ℕ
object_line finding = compact_text finding ++ codes "\n"

abbrev pub text : List ℕ → List ℕ → Members → Members
text key value others = member key (string value) others

abbrev pub count : List ℕ → ℕ → Members → Members
count key value others = member key (number (unsigned value)) others

-- what each object has
abbrev pub told : List ℕ → List ℕ → List ℕ → Members
told rule said advice = text (codes "advice") advice (text (codes "message") said (text (codes "rule") rule no_members))

-- a finding at a place of a text; the line and the column count from 1
abbrev pub at_place : List ℕ → ℕ → ℕ → List ℕ → List ℕ → List ℕ → Data
at_place file line column rule said advice =
    object (text (codes "advice") advice (count (codes "column") column (text (codes "file") file (count (codes "line") line (text (codes "message") said (text (codes "rule") rule no_members))))))

-- a finding at a byte of a file that is no text, counted from 0
abbrev pub at_byte : List ℕ → ℕ → List ℕ → List ℕ → List ℕ → Data
at_byte file byte rule said advice =
    object (text (codes "advice") advice (count (codes "byte") byte (text (codes "file") file (text (codes "message") said (text (codes "rule") rule no_members)))))

-- a finding on a whole file
abbrev pub of_file : List ℕ → List ℕ → List ℕ → List ℕ → Data
of_file file rule said advice =
    object (text (codes "advice") advice (text (codes "file") file (text (codes "message") said (text (codes "rule") rule no_members))))

-- a refusal that is about no file
abbrev pub of_rule : List ℕ → List ℕ → List ℕ → Data
of_rule rule said advice = object (told rule said advice)
