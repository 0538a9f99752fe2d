use Rattle.std.proofs.Common.{◌≡◌, ◌∙◌, of_z, rules, sym, to_z, w64}
use Rattle.window_table.specs.Views.{partition_text}
use Rattle.window_table.proofs.Casts.{duration_fits, period_fits}
use Rattle.window_table.proofs.limits.partition_row.Goals as goal

pub overflow_cast-result : goal.overflow_cast-result
overflow_cast-result c =
    let p = c.args.partition.now in
    let frame : to_z w64 (of_z w64 c.args.frame) ≡ c.args.frame = search rules in
    let period : to_z w64 (of_z w64 p.period) ≡ p.period = search rules in
    rw period (period_fits c.args.frame (partition_text p) c.requires (rw frame at (sym c.exceeds_times.ensures ∙ c.if-exceeds_times.false)))

pub overflow_cast-result-2 : goal.overflow_cast-result-2
overflow_cast-result-2 c =
    let p = c.args.partition.now in
    let frame : to_z w64 (of_z w64 c.args.frame) ≡ c.args.frame = search rules in
    let duration : to_z w64 (of_z w64 p.duration) ≡ p.duration = search rules in
    rw duration (duration_fits c.args.frame (partition_text p) c.requires (rw frame at (sym c.exceeds_times.ensures ∙ c.if-exceeds_times.false)))
