use mir.Syntax.{w128}
use Rattle.std.proofs.Common.{rules, ◌≡◌, ◌∙◌, map, of_z, refl, to_z, w64}
use Rattle.table_findings.specs.Schedule.{overlaps_from, placed, window_end}
use Rattle.table_findings.specs.Views.{findings_of}
use Rattle.window_table.specs.Views.{window_text}
use Rattle.table_findings.proofs.Turns.{state_goes_on}
use Rattle.table_findings.proofs.schedule.overlaps_from.Goals as goal

pub loop-index-preserved : goal.loop-index-preserved
loop-index-preserved c =
    let frame = to_z w64 (of_z w64 c.args.frame) in
    let end : to_z w128 (of_z w128 c.window_end-before.result) ≡ c.window_end-before.result = search rules in
    state_goes_on (λ i before ws. overlaps_from frame before i (map window_text ws)) (λ i before w. placed frame before i (window_text w)) (λ w. window_end (window_text w)) c.args.windows.now c.loop-index.index _ _ _
    (findings_of c.loop-index.found.items) (findings_of c.placed.new.found.items) _ (λ w ws. refl) c.loop-index-test.true (end ∙ c.window_end-before.ensures) c.in_ok-placed.ensures c.loop-index.invariant
