use Rattle.lone_partition.proofs.Prelude.{◌≡◌, List, Option, ℕ, ap, ◌∙◌, channels_of, ways_from}
use Rattle.kernel_meaning.specs.Windows.{Schedule, schedule_of_partition}
use Rattle.window_table.specs.Schedules.{schedule_of}
use Rattle.lone_partition.proofs.surroundings.Surroundings.load.Goals as goal

pub returns : goal.returns
returns c =
    let image = c.args.image.now in
    let own : schedule_of c.in_ok-of_partition.field-0 ≡ schedule_of_partition c.args.number.0 (schedule_of image.schedule) = c.in_ok-of_partition.ensures in
    let ways : c.in_ok-ways_out.field-0.items ≡ ways_from (channels_of image.channels.items) c.args.number 1 c.args.ports.now = c.in_ok-ways_out.ensures ∙ ap (λ rows. ways_from (channels_of rows) c.args.number 1 c.args.ports.now) c.as_slice.ensures.value in
    ap (λ (s : Schedule). record { schedule = s; fault = image.fault; ways_out = c.in_ok-ways_out.field-0.items }) own
    ∙ ap (λ (w : List (Option (List ℕ))). record { schedule = schedule_of_partition c.args.number.0 (schedule_of image.schedule); fault = image.fault; ways_out = w }) ways
