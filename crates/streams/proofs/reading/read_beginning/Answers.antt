use Rattle.std.proofs.Common.{rules, ◌≡◌, ◌<◌, length, true, ap, sym, ◌∙◌}
use Rattle.streams.proofs.Beginnings.{all_read, enough_read, piece_read}
use Rattle.streams.proofs.reading.read_beginning.Goals as goal

pub returns-then-count-eq0 : goal.returns-then-count-eq0
returns-then-count-eq0 g c =
    let left = g.R.Read.remaining in
    let read = piece_read (left c.args.reader.now) (left c.loop.reader) (left c.read_piece.new.reader) c.loop.bytes.items c.read_piece.new.bytes.items c.loop.invariant.0 c.in_ok-count.ensures.read in
    let room : 0 < length c.as_mut_slice.result.now = search rules in
    all_read (g.T.Reading.suffices c.args.reading.now) (left c.args.reader.now) (left c.read_piece.new.reader) c.read_piece.new.bytes.items read (c.in_ok-count.ensures.end (search rules) room)

pub returns-then-is_enough : goal.returns-then-is_enough
returns-then-is_enough g c =
    let left = g.R.Read.remaining in
    let suffices = g.T.Reading.suffices c.args.reading.now in
    let read = piece_read (left c.args.reader.now) (left c.loop.reader) (left c.read_piece.new.reader) c.loop.bytes.items c.read_piece.new.bytes.items c.loop.invariant.0 c.in_ok-count.ensures.read in
    let enough : suffices c.read_piece.new.bytes.items ≡ true = ap suffices (sym c.as_slice.ensures.value) ∙ search rules in
    enough_read suffices (left c.args.reader.now) (left c.read_piece.new.reader) c.read_piece.new.bytes.items read enough
