use Rattle.std.proofs.Common.{◌≡◌, ◌∙◌, ◌++◌, Bool, true, false, List, map, flat_map, ap, refl, sym}
use Rattle.std.specs.List.{list_any}
use Rattle.std.specs.Prelude.{◌||◌}
use Rattle.apex_types.specs.declared.row.ChannelEnd.{ChannelEnd}
use Rattle.module_meaning.specs.Table.{ends_of, has_twice, is_same_port, is_wrong}
use Rattle.window_table.specs.Views.{channel_view}
use Rattle.window_table.specs.declared.table.ChannelRow.{ChannelRow}
use Rattle.window_table.proofs.Rows.{all_built, any_so_far, so_far_is_all, some_more_item}
use Rattle.window_table.proofs.channels.has_wrong_ends.Goals.{then-is_any_wrong, else-is_any_wrong, then-is_wrong, else-is_wrong}
use Rattle.window_table.proofs.channels.has_wrong_ends.Goals as goal

appended : (new old lent ends all : List ChannelEnd) → new ≡ old ++ lent → lent ≡ ends → ends ≡ all → new ≡ old ++ all
appended new old lent ends all more is are = more ∙ ap (λ (es : List ChannelEnd). old ++ es) (is ∙ are)

pub loop-channel-preserved : goal.loop-channel-preserved
loop-channel-preserved g c =
    let l = c.loop-channel in
    let channels = c.args.channels.now in
    let channel = c.channel-item.result in
    let ps = map g.P.HasRow.row_of c.args.partitions.now in
    let wrong = λ (found : Bool) (h : is_wrong ps (channel_view channel) ≡ found) (k : c.if-is_wrong.is_any_wrong ≡ (found || l.is_any_wrong)).
    any_so_far (λ (row : ChannelRow). is_wrong ps (channel_view row)) (λ (rows : List ChannelRow). list_any (is_wrong ps) (map channel_view rows)) channels l.channel-index channel l.is_any_wrong _ found _ (λ _ _. refl)
    c.loop-channel-test.true c.channel-item.is h k l.invariant.wrong in
    record {
      wrong = elim c.if-is_wrong.branch [
        | then-is_wrong w ↦ wrong true (sym c.is_wrong.ensures ∙ w.if-is_wrong.true) w.is_any_wrong-is
        | else-is_wrong w ↦ wrong false (sym c.is_wrong.ensures ∙ w.if-is_wrong.false) w.is_any_wrong-is
      ];
      gathered = some_more_item (λ (row : ChannelRow). ends_of (channel_view row)) (λ (rows : List ChannelRow). flat_map ends_of (map channel_view rows)) channels l.channel-index channel l.all.items _ _ (λ _ _. refl)
          c.loop-channel-test.true c.channel-item.is
          (appended _ l.all.items c.as_slice-in-loop-channel.result.now c.in_ok-ends.ends.items _ c.in_ok-extend_from_slice.ensures.items c.as_slice-in-loop-channel.ensures.value c.in_ok-ends.ensures)
          l.invariant.gathered;
    }

known_before : (result twice wrong : Bool) → result ≡ true → wrong ≡ true → result ≡ (twice || wrong)
known_before result true wrong is found = is
known_before result false wrong is found = is ∙ sym found

known_now : (result twice wrong : Bool) → result ≡ twice → wrong ≡ false → result ≡ (twice || wrong)
known_now result true wrong is none = is
known_now result false wrong is none = is ∙ sym none

pub returns : goal.returns
returns g c =
    let l = c.loop-channel in
    let channels = c.args.channels.now in
    let ps = map g.P.HasRow.row_of c.args.partitions.now in
    let all : List ChannelEnd = flat_map ends_of (map channel_view channels) in
    let wrong : list_any (is_wrong ps) (map channel_view channels) ≡ l.is_any_wrong =
    so_far_is_all (λ (rows : List ChannelRow). list_any (is_wrong ps) (map channel_view rows)) channels l.channel-index l.is_any_wrong _ refl c.loop-channel-test.false l.invariant.wrong in
    let gathered : all ≡ l.all.items = all_built (λ (rows : List ChannelRow). flat_map ends_of (map channel_view rows)) channels l.channel-index l.all.items _ refl c.loop-channel-test.false l.invariant.gathered in
    elim c.if-is_any_wrong.branch [
      | then-is_any_wrong w ↦ known_before c.if-is_any_wrong.result (has_twice is_same_port all) _ (w.result-is ∙ w.if-is_any_wrong.true) (wrong ∙ w.if-is_any_wrong.true)
      | else-is_any_wrong w ↦
          known_now c.if-is_any_wrong.result (has_twice is_same_port all) _
          (w.result-is ∙ w.has_same_port.ensures ∙ ap (has_twice is_same_port) (w.as_slice-else-is_any_wrong.ensures.value ∙ sym gathered)) (wrong ∙ w.if-is_any_wrong.false)
    ]
