use Rattle.image.proofs.Pieces.{item_goes_on}
use Rattle.image.proofs.writing.rows.put_rows.Goals as goal

pub loop-row-preserved : goal.loop-row-preserved
loop-row-preserved g c =
    item_goes_on g.T.Spelled.spelled c.args.rows.now c.loop-row.row-index c.row-item.result c.loop-row.out.items c.write.new.out.items _ c.loop-row-test.true c.row-item.is c.in_ok-write.ensures
    c.loop-row.invariant
