use Rattle.std.proofs.Common.{◌+◌, drop, flat_map, ap}
use Rattle.std.proofs.lemmas.List.{drop_more}
use Rattle.lint.specs.Pieces.{piece_text}
use Rattle.lint.proofs.UnderWay.{cut_off, goes_on}
use Rattle.lint.proofs.writing.write_pieces.Goals as goal

pub returns-in_err-write_piece : goal.returns-in_err-write_piece
returns-in_err-write_piece g c =
    let text_of = flat_map piece_text in
    let pieces = c.args.pieces.now in
    let i = c.loop-piece.piece-index in
    cut_off (text_of pieces) (text_of (drop i pieces)) _ (text_of (drop (i + 1) pieces)) _ _ _ _ _ _ c.from_residual.result (ap text_of (drop_more pieces i _ c.loop-piece-test.true)) c.loop-piece.invariant c.in_err-write_piece.ensures c.from_residual.ensures.0

pub loop-piece-preserved : goal.loop-piece-preserved
loop-piece-preserved g c =
    let text_of = flat_map piece_text in
    let pieces = c.args.pieces.now in
    let i = c.loop-piece.piece-index in
    goes_on (text_of pieces) (text_of (drop i pieces)) _ (text_of (drop (i + 1) pieces)) _ _ _ _ _ _ (ap text_of (drop_more pieces i _ c.loop-piece-test.true)) c.loop-piece.invariant c.in_ok-write_piece.ensures
