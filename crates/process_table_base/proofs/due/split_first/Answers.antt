use Rattle.std.proofs.Common.{◌<◌, arith}
use Rattle.std.proofs.lemmas.Bool.Decides.{nat_tests}
use Rattle.process_table_base.proofs.FirstOf.{first_of}
use Rattle.process_table_base.proofs.due.split_first.Goals as goal

pub returns : goal.returns
returns c =
    let some : 0 < c.args.mask = grind (arith, nat_tests, c.if-mask-eq0.false) in
    first_of c.args.mask some c.ranges.mask.fits
