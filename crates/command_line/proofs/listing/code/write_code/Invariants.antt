use Rattle.std.proofs.Common.{drop, flat_map, map}
use Rattle.image.specs.Items.{item_of}
use Rattle.image.specs.Views.{image_of}
use Rattle.command_line.specs.Code.{code_text, partition_text}
use Rattle.command_line.proofs.UnderWay.{IsUnderWay}
use Rattle.command_line.proofs.listing.code.write_code.Given as goal

abbrev pub invariant-loop-item : goal.invariant-loop-item
invariant-loop-item g l =
    IsUnderWay (code_text (image_of l.image)) (flat_map partition_text (map item_of (drop l.item-index l.item-items))) (g.S.Sink.taken l.initial.sink) (g.S.Sink.taken l.sink) (g.S.Sink.failures l.initial.sink) (g.S.Sink.failures l.sink)
