-- The beginnings that settle how a text of a kind is judged.
use Rattle.std.specs.Prelude.{ℕ, Bool, List}
use Rattle.text_beginnings.specs.Settled.{settles_image, settles_inputs, settles_source, settles_table}
use Rattle.text_beginnings.specs.declared.kind.TextKind.{TextKind}
use Rattle.text_beginnings.specs.declared.kind.TextKind.TheVariants.{Table, Source, Image, Inputs}

abbrev pub settles : TextKind → List ℕ → Bool
settles Table = settles_table
settles Source = settles_source
settles Image = settles_image
settles Inputs = settles_inputs
