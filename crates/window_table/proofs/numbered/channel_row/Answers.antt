use Rattle.std.proofs.Common.{refl, map, sym, ap, ◌∙◌, Option, is_none, unwrap_or}
use Rattle.std.specs.List.{list_any}
use Rattle.apex_types.specs.declared.row.ChannelEnd.{ChannelEnd}
use Rattle.apex_types.specs.declared.row.ChannelEnd.TheVariants as ends
use Rattle.module_meaning.specs.TableRules.{end_of}
use Rattle.window_table.specs.Views.{partition_text}
use Rattle.window_table.proofs.Rows.{none_behind, none_here, is_there, one_more, pushed_row}
use Rattle.window_table.proofs.Rules.{or_first}
use Rattle.window_table.proofs.numbered.channel_row.Goals as goal

pub loop-text-preserved : goal.loop-text-preserved
loop-text-preserved c =
    let ps = map partition_text c.args.partitions.rows.now in
    record {
      known = none_behind (λ d. is_none (end_of ps d.now)) (λ ds. list_any (λ d. is_none (end_of ps d)) (map (λ d. d.now) ds)) c.as_slice-text-items.result.now c.loop-text.text-index
          (λ x ys. refl) c.loop-text-test.true c.loop-text.invariant.known;
      built = one_more (λ d. unwrap_or (end_of ps d.now) ends.Device) (λ ds. map (λ d. unwrap_or (end_of ps d) ends.Device) (map (λ d. d.now) ds)) c.as_slice-text-items.result.now
          c.loop-text.text-index _ c.loop-text.destinations.items _ _ (λ x ys. refl) c.loop-text-test.true
          (pushed_row c.push.result _ c.loop-text.destinations.items _ _ c.if-is_err.ensures.value c.push.ensures.items
          (ap (λ (o : Option ChannelEnd). unwrap_or o ends.Device) (sym c.channel_end-in-loop-text.ensures ∙ c.in_ok-end.ensures.ok_part)))
          c.loop-text.invariant.built;
    }

pub returns-in_err-source : goal.returns-in_err-source
returns-in_err-source c = absurd (is_there _ _ c.channel_end.ensures c.in_err-source.ensures.ok_part (or_first _ _ c.requires.known))

pub returns-in_err-end : goal.returns-in_err-end
returns-in_err-end c =
    let ps = map partition_text c.args.partitions.rows.now in
    absurd (is_there _ _ c.channel_end-in-loop-text.ensures c.in_err-end.ensures.ok_part
    (none_here (λ d. is_none (end_of ps d.now)) (λ ds. list_any (λ d. is_none (end_of ps d)) (map (λ d. d.now) ds)) c.as_slice-text-items.result.now c.loop-text.text-index _
    (λ x ys. refl) c.loop-text-test.true c.loop-text.invariant.known))
