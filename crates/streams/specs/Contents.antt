-- The bytes that files hold by name, if they are known.
use Rattle.std.specs.Prelude.{◌≡◌, ◌≢◌, ℕ, List, [], ◌∷◌, Option, Some, None}

-- the bytes of each name, or nothing if there is no such file
abbrev pub Contents : Type 0
Contents = List ℕ → Option (List ℕ)

abbrev pub Holds : Option Contents → List ℕ → List ℕ → Type 0
Holds None name bytes = Unit {0}
Holds (Some files) name bytes = files name ≡ Some bytes

-- each name with its text, in order
abbrev pub HoldAll : Option Contents → List (List ℕ) → List (List ℕ) → Type 0
HoldAll files [] [] = Unit {0}
HoldAll files (name ∷ names) (text ∷ texts) = Holds files name text × HoldAll files names texts
HoldAll files _ _ = ⊥

-- every file except that of this name is unchanged
abbrev pub Spares : List ℕ → Option Contents → Option Contents → Type 0
Spares name None new = Unit {0}
Spares name (Some old) None = ⊥
Spares name (Some old) (Some new) = (other : List ℕ) → other ≢ name → new other ≡ old other

-- a reader has the bytes of this name
abbrev pub Opens : Option Contents → List ℕ → Option (List ℕ) → Type 0
Opens None name left = Unit {0}
Opens (Some files) name None = ⊥
Opens (Some files) name (Some bytes) = files name ≡ Some bytes
