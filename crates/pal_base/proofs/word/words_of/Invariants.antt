use Rattle.std.proofs.Common.{◌≡◌, ◌++◌, length, map}
use Rattle.pal_meaning.specs.Grammar.{words_of, words_from}
use Rattle.pal_base.specs.View.{texts}
use Rattle.pal_base.specs.WordView.{token_of}
use Rattle.pal_base.proofs.Lined.{AreCounted}
use Rattle.pal_base.proofs.Names.{AreKnown}
use Rattle.pal_base.proofs.word.words_of.Given as goal

abbrev pub invariant-loop-rest : goal.invariant-loop-rest
invariant-loop-rest l =
    (words_of l.fn.text ≡ map (token_of (texts l.names.keys)) l.tokens.items ++ words_from l.rest)
    × AreKnown (texts l.names.keys) l.tokens.items
    × AreCounted l.fn.text l.tokens.items l.rest l.line

abbrev pub decreases-loop-rest : goal.decreases-loop-rest
decreases-loop-rest l = length l.rest
