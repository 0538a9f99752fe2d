use Rattle.std.proofs.Common.{◌≡◌, length, refl, rules, slice_get, Some}
use Rattle.std.proofs.lemmas.Option.{slice_get_past, slice_get_read}
use Rattle.trace_windows.proofs.Adding.{none_is_more, set_is_more}
use Rattle.trace_windows.proofs.counted.Counted.add_at.Goals as goal

pub returns-in-Some : goal.returns-in-Some
returns-in-Some c =
    let rows = c.args.self.now.rows.items in
    let row = c.in-Some.row.now in
    let there : slice_get rows c.args.place ≡ Some row = slice_get_read rows (length rows) c.args.place row refl (search rules) c.in-Some.ensures.value in
    rw c.add.ensures (set_is_more rows c.args.place row c.args.ticks there)

pub returns-in_default : goal.returns-in_default
returns-in_default c = none_is_more c.args.self.now.rows.items c.args.place c.args.ticks (slice_get_past c.args.self.now.rows.items c.args.place (search rules))
