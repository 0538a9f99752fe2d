-- What is found at a call, and at what else a statement does.
use Rattle.std.specs.Prelude.{ℕ, Bool, ◌&&◌, List, [], ◌∷◌, ◌++◌, Some, flat_map}
use Rattle.apex_types.specs.declared.row.PortRow.{PortRow}
use Rattle.pal_meaning.specs.Syntax as written
use Rattle.lint.specs.Arrays.{array_of, is_beyond, long_length, name_or_none, small_array}
use Rattle.lint.specs.Calls.{Call}
use Rattle.lint.specs.Mentions.{Mention, Element, ByZero, Endless}
use Rattle.lint.specs.Plain.{first_of, name_in}
use Rattle.lint.specs.Ports.{wrong_use}
use Rattle.lint.specs.Services.{takes_number}
use Rattle.lint.specs.Uses.{is_unset}
use Rattle.lint.specs.Views.{Found, if_so}
use Rattle.lint.specs.declared.finding.FindingKind.TheVariants as finding

-- the service takes a variable for the number of something, and nothing writes the variable
abbrev pub unset_number : Call → List Found
unset_number c = if_so (takes_number c.service && is_unset c.id) (record { kind = finding.UnsetNumber; subject = name_or_none (name_in (first_of c.arguments)) })

abbrev pub found_at_call : List PortRow → List written.Declaration → Call → List Found
found_at_call ports ds c = wrong_use ports c ++ small_array ports ds c ++ long_length ports ds c ++ unset_number c

abbrev pub found_at_calls : List PortRow → List written.Declaration → List Call → List Found
found_at_calls ports ds calls = flat_map (found_at_call ports ds) calls

-- an index beyond the array, a division by 0, a loop without an end
abbrev pub found_at_mention : List written.Declaration → Mention → List Found
found_at_mention ds (Element array index) = if_so (is_beyond (array_of ds (Some array)) index) (record { kind = finding.BadIndex; subject = array })
found_at_mention ds ByZero = record { kind = finding.DivisionByZero; subject = [] } ∷ []
found_at_mention ds Endless = record { kind = finding.EndlessLoop; subject = [] } ∷ []
found_at_mention ds _ = []

abbrev pub found_at_mentions : List written.Declaration → List Mention → List Found
found_at_mentions ds mentions = flat_map (found_at_mention ds) mentions
