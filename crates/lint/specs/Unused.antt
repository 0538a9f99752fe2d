-- Variables, procedures and parameters that no statement names.
use Rattle.std.specs.Prelude.{ℕ, Bool, List, [], ◌∷◌, ◌++◌, Option, Some, None, flat_map}
use Rattle.std.specs.List.{list_any}
use Rattle.std.specs.Str.{bytes_eq}
use Rattle.pal_meaning.specs.Syntax as written
use Rattle.lint.specs.Lives.{found}
use Rattle.lint.specs.Mentions.{all_mentions, mentions_of, names_in}
use Rattle.lint.specs.Views.{Found, unless}
use Rattle.lint.specs.declared.finding.FindingKind.{FindingKind}
use Rattle.lint.specs.declared.finding.FindingKind.TheVariants as finding

-- the names in the statements of a body, and of all bodies
abbrev pub names_of : written.Body → List (List ℕ)
names_of b = names_in (mentions_of b)

abbrev pub all_names : written.Program → List (List ℕ)
all_names p = names_in (all_mentions p)

abbrev pub is_used : List (List ℕ) → List ℕ → Bool
is_used names name = list_any (λ other. bytes_eq other name) names

abbrev pub unused : List (List ℕ) → FindingKind → List ℕ → List Found
unused names kind name = unless (is_used names name) (found kind name)

-- a variable, an array or a procedure that no statement of the source names
abbrev pub unused_declaration : List (List ℕ) → written.Kind → List ℕ → List Found
unused_declaration names (written.Variable value) name = unused names finding.UnusedVariable name
unused_declaration names (written.Array size values) name = unused names finding.UnusedVariable name
unused_declaration names (written.Procedure parameters body) name = unused names finding.UnusedProcedure name
unused_declaration names _ name = []

abbrev pub unused_declarations : List (List ℕ) → List written.Declaration → List Found
unused_declarations names ds = flat_map (λ d. unused_declaration names d.kind d.name) ds

-- the parameters and the locals that no statement of their body names
abbrev pub unused_in_body : List (List ℕ) → written.Body → List Found
unused_in_body parameters b =
    flat_map (unused (names_of b) finding.UnusedParameter) parameters ++ flat_map (unused (names_of b) finding.UnusedVariable) b.locals

abbrev pub unused_in_handler : Option written.StackBody → List Found
unused_in_handler None = []
unused_in_handler (Some b) = unused_in_body [] b.body

abbrev pub unused_in_processes : List written.Process → List Found
unused_in_processes processes = flat_map (λ p. unused_in_body [] p.body) processes

abbrev pub unused_in_kind : written.Kind → List Found
unused_in_kind (written.Procedure parameters body) = unused_in_body parameters body
unused_in_kind _ = []

abbrev pub unused_in_procedures : List written.Declaration → List Found
unused_in_procedures ds = flat_map (λ d. unused_in_kind d.kind) ds

abbrev pub unused_names : written.Program → List Found
unused_names p =
    unused_declarations (all_names p) p.declarations
    ++ unused_in_body [] p.init.body
    ++ unused_in_handler p.handler
    ++ unused_in_processes p.processes
    ++ unused_in_procedures p.declarations
