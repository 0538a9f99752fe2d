-- One more name that is noted.
use Rattle.std.proofs.Common.{◌≡◌, List, [], ◌∷◌, ◌++◌, map}
use Rattle.std.specs.Prelude.{string_bytes}
use Rattle.std.specs.declared.alloc.Global.{Global}
use Rattle.std.specs.declared.string.String.{String}
use Rattle.std.proofs.lemmas.List.{map-append}

pub noted_last : (names : List (String Global)) (name : String Global) → map (λ n. string_bytes n) (names ++ name ∷ []) ≡ map (λ n. string_bytes n) names ++ string_bytes name ∷ []
noted_last names name = map-append (λ n. string_bytes n) names (name ∷ [])
