use Rattle.std.proofs.Common.{drop, flat_map}
use Rattle.lint.specs.Pieces.{piece_text}
use Rattle.lint.proofs.UnderWay.{IsUnderWay}
use Rattle.lint.proofs.writing.write_pieces.Given as goal

abbrev pub invariant-loop-piece : goal.invariant-loop-piece
invariant-loop-piece g l =
    IsUnderWay (flat_map piece_text l.pieces) (flat_map piece_text (drop l.piece-index l.pieces)) (g.S.Sink.taken l.initial.sink) (g.S.Sink.taken l.sink) (g.S.Sink.failures l.initial.sink) (g.S.Sink.failures l.sink)
