-- A source that is too long is no text of one.
use Rattle.std.proofs.Common.{◌≡◌, ℕ, true, List, ◌++◌, length, arith, length-append}
use Rattle.std.proofs.lemmas.Bool.{ltb-true}
use Rattle.apex_types.specs.declared.limits.TheConstants.{MOST_SOURCE_BYTES}
use Rattle.pal_meaning.specs.Grammar.{IsText}
use Rattle.text_beginnings.specs.Settled.{settles_source}

pub no_source : (text rest : List ℕ) → settles_source text ≡ true → IsText (text ++ rest) → ⊥
no_source text rest s is = omega (arith, length-append text rest, is.1, ltb-true MOST_SOURCE_BYTES (length text) s)
