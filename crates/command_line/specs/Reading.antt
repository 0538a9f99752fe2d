-- The steps of reading and building what the words name.
use Rattle.std.specs.Prelude.{◌≡◌, ℕ, Bool, List, [], ◌∷◌, map, Option, string_bytes}
use Rattle.module.specs.Refusals.{IsRefusal}
use Rattle.module.specs.Costs.{IsCostRefusal}
use Rattle.streams.specs.Beginnings.{HoldsFrom}
use Rattle.streams.specs.Contents.{Contents, Holds}
use Rattle.command_line.specs.Done.{IsLongTable}
use Rattle.command_line.specs.Refusals.{IsFirstUnread}
use Rattle.command_line.specs.declared.refusal.Refusal.{Refusal}
use Rattle.command_line.specs.declared.refusal.Refusal.TheVariants.{Build, File, LongTable, Memory}
use Rattle.std.specs.Global.{Vec}

-- the bytes of each
abbrev pub texts_of : List (Vec ℕ) → List (List ℕ)
texts_of sources = map (λ v. v.items) sources

-- there is a file of this name
abbrev pub IsHeld : Option Contents → List ℕ → Type 0
IsHeld files name = (text : List ℕ) × Holds files name text

-- the file of this name is not read
abbrev pub IsUnread : List ℕ → Refusal → Type 0
IsUnread name (File shown reason) = string_bytes shown ≡ name
IsUnread name Memory = Unit {0}
IsUnread name _ = ⊥

-- the file of this name is not read, or is longer than a table that is read
abbrev pub IsNoTable : Option Contents → List ℕ → Refusal → Type 0
IsNoTable files name (File shown reason) = string_bytes shown ≡ name
IsNoTable files name (LongTable shown) = (string_bytes shown ≡ name) × IsLongTable files name
IsNoTable files name Memory = Unit {0}
IsNoTable files name _ = ⊥

-- one of the files of these names is not read
abbrev pub IsUnreadAmong : Option Contents → List (List ℕ) → Refusal → Type 0
IsUnreadAmong files names (File shown reason) = IsFirstUnread files names (string_bytes shown)
IsUnreadAmong files names Memory = Unit {0}
IsUnreadAmong files names _ = ⊥

-- the texts are refused
abbrev pub IsRefusedText : List ℕ → List (List ℕ) → Refusal → Type 0
IsRefusedText table sources (Build fault) = IsRefusal table sources fault
IsRefusedText table sources Memory = Unit {0}
IsRefusedText table sources _ = ⊥

-- no costs are found of the texts
abbrev pub IsUncostedText : List ℕ → List (List ℕ) → Refusal → Type 0
IsUncostedText table sources (Build fault) = IsCostRefusal table sources fault
IsUncostedText table sources Memory = Unit {0}
IsUncostedText table sources _ = ⊥

-- each file with its text or a beginning of it that suffices, in order
abbrev pub HoldAllFrom : (List ℕ → Bool) → Option Contents → List (List ℕ) → List (List ℕ) → Type 0
HoldAllFrom suffices files [] [] = Unit {0}
HoldAllFrom suffices files (name ∷ names) (text ∷ texts) = HoldsFrom suffices files name text × HoldAllFrom suffices files names texts
HoldAllFrom suffices files _ _ = ⊥
