-- The pieces of the line of a finding.
use Rattle.std.specs.Prelude.{ℕ, List}
use Rattle.lint.specs.Sentences.{place_text}
use Rattle.lint.specs.declared.writing.Piece.{Piece}
use Rattle.lint.specs.declared.writing.Piece.TheVariants as piece

-- the text of a piece
abbrev pub piece_text : Piece → List ℕ
piece_text (piece.Words words) = words.now
piece_text (piece.Name name) = name.now
piece_text (piece.Place line) = place_text line
