use Rattle.std.proofs.Common.{◌≡◌, refl, length, slice_get, Some, rules}
use Rattle.std.proofs.lemmas.Option.{slice_get_read}
use Rattle.apex_types.specs.Runners.{place_of}
use Rattle.process_table_base.proofs.Timed.{has_ticks}
use Rattle.process_table_base.proofs.records.put_at.Goals as goal

pub renew-requires-clause-known : goal.renew-requires-clause-known
renew-requires-clause-known c =
    let rows = c.args.rows.now.items in
    let old = c.in-Some.place.now in
    let there : slice_get rows c.place.result ≡ Some old = slice_get_read rows (length rows) c.place.result old refl (search rules) c.in-Some.ensures.value in
    has_ticks rows c.args.runner old _ (rw c.place.ensures at there) c.requires.timed

pub returns-in-Some-clause-timed : goal.returns-in-Some-clause-timed
returns-in-Some-clause-timed c =
    let rows = c.args.rows.now.items in
    let old = c.in-Some.place.now in
    let there : slice_get rows c.place.result ≡ Some old = slice_get_read rows (length rows) c.place.result old refl (search rules) c.in-Some.ensures.value in
    let is : slice_get rows (place_of c.args.runner) ≡ Some old = rw c.place.ensures at there in
    rw c.place.ensures (c.renew.ensures rows is c.requires.timed)
