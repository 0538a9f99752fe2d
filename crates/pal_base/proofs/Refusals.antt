-- A refusal of the words, and what it says of the text.
use Rattle.std.proofs.Common.{Some, Result, Ok, Err, ◌≡◌, ℕ, List, sym, subst}
use Rattle.pal_meaning.specs.Beginning.{IsWhole}
use Rattle.pal_meaning.specs.Grammar.{IsWritten}
use Rattle.pal_meaning.specs.Syntax as tree
use Rattle.pal_laws.proofs.Places.{refused_words_leave}
use Rattle.pal_laws.proofs.Shaped.{program_is_written}
use Rattle.pal_meaning.specs.Grammar as grammar
use Rattle.pal_laws.specs.GrammarReading.{program_at}
use Rattle.pal_meaning.specs.Grammar.{IsText}
use Rattle.pal_base.specs.Answers.{IsRefused}
use Rattle.pal_base.specs.Seen.{Refuses, Gives, refusal_of}
use Rattle.pal_base.specs.Leaving.{IsMisfit}
use Rattle.pal_base.specs.declared.source.Misfit.{Misfit}
use Rattle.pal_base.specs.declared.fault.Refusal.{Refusal}
use Rattle.pal_base.specs.declared.source.ReadError.{ReadError}
use Rattle.pal_base.specs.declared.source.ReadError.TheVariants.{Memory, Refused}

-- words that are refused are no program's
not_written : (ws : List grammar.Word) (left : ℕ) (program : tree.Program) → program_at ws ≡ Err left → IsWritten ws program → ⊥
not_written ws left program refused written = (refused_words_leave ws left refused).1.0 (program, written)

refused_so : (error : ReadError) (text : List ℕ) (ws : List grammar.Word) → IsText text → ws ≡ grammar.words_of text → Refuses error (program_at ws) → IsRefused (refusal_of error) text
refused_so Memory text ws is_text words given = is_text
refused_so (Refused misfit) text ws is_text words given =
    (is_text, λ program h. not_written ws misfit.left program given (subst (λ (vs : List grammar.Word). IsWritten vs program) (sym words) h.1))

pub refused_words : (error : ReadError) (refusal : Refusal) (text : List ℕ) (ws : List grammar.Word) → refusal ≡ refusal_of error → IsText text → ws ≡ grammar.words_of text → Refuses error (program_at ws) → IsRefused refusal text
refused_words error refusal text ws is is_text words given = subst (λ r. IsRefused r text) (sym is) (refused_so error text ws is_text words given)

-- words that are read as a program are written so
pub written_so : (text : List ℕ) (ws : List grammar.Word) (program : tree.Program) → ws ≡ grammar.words_of text → program_at ws ≡ Ok program → IsWritten (grammar.words_of text) program
written_so text ws program words read = subst (λ (vs : List grammar.Word). IsWritten vs program) words (program_is_written ws program read)

-- whether words are a program's, by what the reader found
pub whole_so : {X : Type 0} (view : X → tree.Program) (answer : Result X ReadError) (x : X) (ws : List grammar.Word) → answer ≡ Ok x → Gives view answer (program_at ws) → IsWhole ws
whole_so {X} view answer x ws is given = (view x, program_is_written ws (view x) (subst (λ (a : Result X ReadError). Gives view a (program_at ws)) is given))

pub misfit_so : {X : Type 0} (view : X → tree.Program) (answer : Result X ReadError) (misfit : Misfit) (ws : List grammar.Word) → answer ≡ Err (Refused misfit) → Gives view answer (program_at ws) → IsMisfit ws (Some misfit)
misfit_so {X} view answer misfit ws is given = refused_words_leave ws misfit.left (subst (λ (a : Result X ReadError). Gives view a (program_at ws)) is given)
