-- The image that a module table and the programs of its partitions become.
use Rattle.std.specs.Prelude.{◌≡◌, ◌≤◌, ℕ, false, List, [], ◌∷◌, map, Some, All, FitsSigned}
use Rattle.std.specs.Int.{w64}
use Rattle.std.specs.List.{list_any}
use Rattle.apex_types.specs.Limits.{MOST_INSTRUCTIONS}
use Rattle.apex_types.specs.declared.version.ImageVersion.TheVariants.{Third}
use Rattle.pal_meaning.specs.Program.{size_of}
use Rattle.pal_meaning.specs.Program.{Program}
use Rattle.compiling_laws.specs.CompiledCode.{code_of, section_of}
use Rattle.compiling_laws.specs.Fits.{Fits}
use Rattle.module_meaning.specs.Table.{Partition, Table}
use Rattle.machine_meaning.specs.Image.{Item, Image}
use Rattle.machine_meaning.specs.ImageLimits.{IsLawful}
use Rattle.machine_meaning.specs.ImageSpelling.{spelling}
use Rattle.machine_meaning.specs.Instructions.{reading}
use Rattle.module_meaning.specs.Accepted.{AreAccepted}
use Rattle.module.specs.Refusals.{is_too_long}

-- a partition with its compiled program
abbrev pub built_item : Partition → Program → Item
built_item row p = record { partition = row; section = section_of p }

-- each partition with its program, in order
abbrev pub built_items : List Partition → List Program → List Item
built_items [] programs = []
built_items (row ∷ rows) [] = []
built_items (row ∷ rows) (p ∷ ps) = built_item row p ∷ built_items rows ps

abbrev pub built_image : Table → List Program → Image
built_image t programs = record { schedule = t.schedule; fault = t.fault; version = Third t.costs; items = built_items t.partitions programs; channels = t.channels }

-- A program of at most 65,536 instructions, which are read again from their bytes, and of words of 64
-- bits.
pub record IsCoded (p : Program) : Type 0 where
  pub size : size_of p ≤ MOST_INSTRUCTIONS
  pub code : map reading (section_of p).code ≡ map Some (code_of p)
  pub words : All (FitsSigned w64) p.initial

abbrev pub AreCoded : List Program → Type 0
AreCoded [] = Unit {0}
AreCoded (p ∷ ps) = IsCoded p × AreCoded ps

-- once the programs are compiled, their image is lawful
abbrev pub BecomesLawful : Table → List Program → Type 0
BecomesLawful t programs = AreCoded programs → IsLawful (built_image t programs)

-- A program that fits, with its code.
pub record IsCompiled (p : Program) : Type 0 where
  pub fits : Fits p
  pub coded : IsCoded p

abbrev pub AreCompiled : List Program → Type 0
AreCompiled [] = Unit {0}
AreCompiled (p ∷ ps) = IsCompiled p × AreCompiled ps

-- The bytes spell the image of a table whose sources are accepted and compiled, none of them too long.
pub record IsBuiltFrom (t : Table) (sources : List (List ℕ)) (bytes : List ℕ) : Type 0 where
  pub programs : List Program
  pub accepted : AreAccepted t.partitions sources programs
  pub short : list_any is_too_long programs ≡ false
  pub coded : AreCoded programs
  pub spelled : bytes ≡ spelling (built_image t programs)
