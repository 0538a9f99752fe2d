-- The words that ask for the pages that a program writes about its own words.
use Rattle.std.specs.Prelude.{◌&&◌, ℕ, List, [], ◌∷◌, Option, Some, None, codes, if◌then◌else◌}
use Rattle.std.specs.Str.{bytes_eq}
use Rattle.command_words.specs.declared.page.Page.{Page}
use Rattle.command_words.specs.declared.page.Page.TheVariants.{Manual, Bash}

abbrev pub manual_of : List ℕ → List ℕ → Option Page
manual_of help page = if bytes_eq help (codes "help") && bytes_eq page (codes "--man") then Some Manual else None

abbrev pub completion_of : List ℕ → List ℕ → List ℕ → Option Page
completion_of help page shell =
    if bytes_eq help (codes "help") && (bytes_eq page (codes "--completion") && bytes_eq shell (codes "bash")) then Some Bash else None

-- the page that the words ask for, the program's name first
abbrev pub page_of : List (List ℕ) → Option Page
page_of (program ∷ help ∷ page ∷ []) = manual_of help page
page_of (program ∷ help ∷ page ∷ shell ∷ []) = completion_of help page shell
page_of words = None
