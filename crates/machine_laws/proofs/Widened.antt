-- What is within the limits of a version is within those of the third. So an image may be upgraded.
use Rattle.std.proofs.Common.{◌≡◌, ℕ, ◌≤◌, List, [], ◌∷◌, ◌++◌, length, arith}
use Rattle.apex_types.specs.declared.version.Limits.{Limits}
use Rattle.apex_types.specs.declared.row.BlackboardRow.{BlackboardRow}
use Rattle.apex_types.specs.declared.row.BufferRow.{BufferRow}
use Rattle.apex_types.specs.declared.row.PortRow.{PortRow}
use Rattle.apex_types.specs.Versions.{limits_of, third_limits}
use Rattle.machine_meaning.specs.Image.{Bodies, Image, Item, Objects, upgraded}
use Rattle.machine_meaning.specs.ImageLimits.{IsFrom, EachBeside, IsBuffer, IsBlackboard, AreObjects, AreBodies, IsSection, IsPort, IsPartition, IsItem, IsWithinLimits, IsLawful}
use Rattle.machine_meaning.specs.Section.{Section}
use Rattle.module_meaning.specs.Table.{Partition}
use Rattle.machine_laws.proofs.VersionLimits.{AreNarrow, limits_narrow}

each_widened : {A : Type 0} (P Q : List A → A → Type 0) → ((before : List A) (x : A) → P before x → Q before x) → (before xs : List A) → EachBeside P before xs → EachBeside Q before xs
each_widened P Q one before [] all = tt
each_widened P Q one before (x ∷ xs) all = (one before x all.0, each_widened P Q one (before ++ x ∷ []) xs all.1)

module _ (limits : Limits) (narrow : AreNarrow limits) where
  words_widened : (n : ℕ) → IsFrom 1 limits.words n → IsFrom 1 third_limits.words n
  words_widened n h = record { least = h.least; most = omega (arith, h.most, narrow.words) }

  buffer_widened : (before : List BufferRow) (row : BufferRow) → IsBuffer limits row → IsBuffer third_limits row
  buffer_widened before row h = record { words = words_widened row.words h.words; depth = h.depth }

  blackboard_widened : (before : List BlackboardRow) (row : BlackboardRow) → IsBlackboard limits row → IsBlackboard third_limits row
  blackboard_widened before row h = record { words = words_widened row.words h.words }

  objects_widened : (o : Objects) → AreObjects limits o → AreObjects third_limits o
  objects_widened o h = record {
    words = h.words;
    initial = h.initial;
    semaphore_count = h.semaphore_count;
    semaphores = h.semaphores;
    events = h.events;
    buffer_count = h.buffer_count;
    buffers = each_widened (λ _. IsBuffer limits) (λ _. IsBuffer third_limits) buffer_widened [] o.buffers h.buffers;
    blackboard_count = h.blackboard_count;
    blackboards = each_widened (λ _. IsBlackboard limits) (λ _. IsBlackboard third_limits) blackboard_widened [] o.blackboards h.blackboards;
  }

  bodies_widened : (unit : ℕ) (b : Bodies) → AreBodies limits unit b → AreBodies third_limits unit b
  bodies_widened unit b h = record {
    routine_count = h.routine_count;
    routines = h.routines;
    process_count = record { least = h.process_count.least; most = omega (arith, h.process_count.most, narrow.processes) };
    processes = h.processes;
    init = h.init;
    handler = h.handler;
  }

  section_widened : (unit : ℕ) (s : Section) → IsSection limits unit s → IsSection third_limits unit s
  section_widened unit s h = record { objects = objects_widened _ h.objects; bodies = bodies_widened unit _ h.bodies; code = h.code }

  port_widened : (before : List PortRow) (row : PortRow) → IsPort limits before row → IsPort third_limits before row
  port_widened before row h = record { name = h.name; fresh = h.fresh; kind = h.kind; words = words_widened row.words h.words }

  partition_widened : (frame : ℕ) (before : List Item) (row : Partition) → IsPartition limits frame before row → IsPartition third_limits frame before row
  partition_widened frame before row h = record {
    name = h.name;
    fresh = h.fresh;
    period = h.period;
    duration = h.duration;
    port_count = h.port_count;
    ports = each_widened (IsPort limits) (IsPort third_limits) port_widened [] row.ports h.ports;
  }

  item_widened : (frame : ℕ) (before : List Item) (it : Item) → IsItem limits frame before it → IsItem third_limits frame before it
  item_widened frame before it h = record { partition = partition_widened frame before it.partition h.partition; section = section_widened it.partition.period it.section h.section }

-- the items of an image, within the limits of the third version
pub items_widened : (image : Image) → IsWithinLimits image → EachBeside (IsItem third_limits image.schedule.frame) [] image.items
items_widened image h = each_widened (IsItem (limits_of image.version) image.schedule.frame) (IsItem third_limits image.schedule.frame) (item_widened (limits_of image.version) (limits_narrow image.version) image.schedule.frame) [] image.items h.items

pub count_widened : (image : Image) → IsWithinLimits image → IsFrom 1 third_limits.partitions (length image.items)
count_widened image h = record { least = h.item_count.least; most = omega (arith, h.item_count.most, (limits_narrow image.version).partitions) }

pub upgraded_lawful : (image : Image) → IsLawful image → IsLawful (upgraded image)
upgraded_lawful image h = record {
  limits = record {
    frame = h.limits.frame;
    item_count = count_widened image h.limits;
    items = items_widened image h.limits;
    window_count = h.limits.window_count;
    windows = h.limits.windows;
    channel_count = h.limits.channel_count;
    channels = h.limits.channels;
  };
  rules = h.rules;
}
