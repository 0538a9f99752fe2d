-- The partitions of a lawful image fit the processor, and are idle with nothing to do.
use Rattle.lone_partition.proofs.Prelude.{◌≡◌, ℕ, zero, suc, ◌+◌, ◌<◌, ◌≤◌, List, [], ◌∷◌, ◌++◌, length, get_or, Option, Some, None, refl, sym, ap, subst, ◌∙◌, arith, none-some, same_Some, slice_get-get_or, Costs, PortRow, Item, Fixed, Kernel, Member, MachineControl, machine_member, image_of, PartitionItem, item_of, items_of, idle_kernel}
use Rattle.std.proofs.Common.{map, replicate}
use Rattle.std.specs.Prelude.{ℤ}
use Rattle.std.specs.Option.{option_map}
use Rattle.std.proofs.lemmas.List.{length-map}
use Rattle.apex_types.specs.Versions.{third_limits}
use Rattle.apex_types.specs.declared.limits.TheConstants.{MOST_PARTITIONS, MOST_PORTS, MOST_TICKS}
use Rattle.apex_types.specs.declared.row.PortKind.{PortKind}
use Rattle.apex_types.specs.declared.row.PortKind.TheVariants as kinds
use Rattle.apex_types.specs.declared.row.ProcessRow.{ProcessRow}
use Rattle.apex_types.specs.declared.row.RoutineRow.{RoutineRow}
use Rattle.apex_types.specs.declared.row.Section.{Section}
use Rattle.engine_meaning.specs.Engine.{Engine}
use Rattle.kernel_meaning.specs.Objects.{refresh_of}
use Rattle.machine_meaning.specs.ImageLimits.{IsPortKind, IsPort, IsPartition, EachBeside, IsRoutine, IsDuration, IsProcess, IsSection, IsItem}
use Rattle.kernel_meaning.specs.Times.{ticks}
use Rattle.machine_meaning.specs.MachineMeaning.{machine_row, section_engine}
use Rattle.kernel_meaning.specs.Fresh.{init_row, handler_row, no_control_for}
use Rattle.image.specs.declared.value.Image.{Image}
use Rattle.image.specs.Items.{partition_of, section_of}
use Rattle.ports.specs.Bounds as ports
use Rattle.partition.specs.Fresh.{AreWithinLimits}
use Rattle.partition_base.specs.Sections.{IsFittingSection, engine_of_section}
use Rattle.processor.specs.Fitting.{IsFittingRoutine, AreFitting}
use Rattle.process_table_base.specs.Bounds.{IsAtMost, IsShort, AreShort}
use Rattle.lone_partition.specs.Loading.{IsFittingItem, AreFittingItems}
use Rattle.machine_laws.proofs.Widened.{items_widened, count_widened}

routines_fit : (before rows : List RoutineRow) → EachBeside (λ _. IsRoutine) before rows → AreFitting rows
routines_fit before [] h place row e = absurd (none-some row e)
routines_fit before (r ∷ rows) h zero row e = subst IsFittingRoutine (same_Some r row e) (record { parameters = h.0.slots.least; frame = h.0.frame.least; limit = h.0.frame.most })
routines_fit before (r ∷ rows) h (suc place) row e = routines_fit (before ++ r ∷ []) rows h.1 place row e

section_fits : (unit : ℕ) (s : Section) → IsSection third_limits unit (section_of s) → IsFittingSection s
section_fits unit s h = record { code = h.code.count.most; routines = routines_fit [] s.routines.items h.bodies.routines }

at_most : (d : Option ℕ) → IsDuration d → IsAtMost MOST_TICKS (option_map ticks d)
at_most None h = tt
at_most (Some n) h = h.most

short : (row : ProcessRow) → IsDuration row.period → IsDuration row.capacity → IsShort row
short row p c = record { released = omega arith; every = at_most row.period p; within = at_most row.capacity c; until = tt; delayed = tt }

all_short : (unit : ℕ) (before rows : List ProcessRow) → EachBeside (IsProcess unit) before rows → AreShort rows
all_short unit before [] h = tt
all_short unit before (r ∷ rows) h = (short r h.0.period h.0.capacity, all_short unit (before ++ r ∷ []) rows h.1)

short_port : (row : PortRow) (kind : PortKind) → IsPortKind kind → refresh_of kind ≤ MOST_TICKS
short_port row (kinds.Sampling refresh) h = h.most
short_port row (kinds.Queuing depth discipline) h = omega arith

short_ports : (before rows : List PortRow) → EachBeside (IsPort third_limits) before rows → ports.AreShort rows
short_ports before [] h place row e = absurd (none-some row e)
short_ports before (r ∷ rows) h zero row e = subst (λ (p : PortRow). refresh_of p.kind ≤ MOST_TICKS) (same_Some r row e) (short_port r r.kind h.0.kind)
short_ports before (r ∷ rows) h (suc place) row e = short_ports (before ++ r ∷ []) rows h.1 place row e

rows_fit : (frame : ℕ) (before : List Item) (i : PartitionItem) → IsPartition third_limits frame before (partition_of i.row) → IsSection third_limits i.row.period (section_of i.section) → AreWithinLimits i.row.ports.items i.section
rows_fit frame before i r h = record {
  processes = h.bodies.process_count.most;
  times = all_short i.row.period [] i.section.processes.items h.bodies.processes;
  semaphores = h.objects.semaphore_count.most;
  events = h.objects.events.most;
  buffers = h.objects.buffer_count.most;
  blackboards = h.objects.blackboard_count.most;
  port_count = r.port_count.most;
  refresh = short_ports [] i.row.ports.items r.ports;
}

item_fits : (frame : ℕ) (before : List Item) (i : PartitionItem) → IsPartition third_limits frame before (partition_of i.row) → IsSection third_limits i.row.period (section_of i.section) → IsFittingItem i
item_fits frame before i r h = record {
  section = section_fits i.row.period i.section h;
  rows = rows_fit frame before i r h;
}

items_fit : (frame : ℕ) (before : List Item) (items : List PartitionItem) → EachBeside (IsItem third_limits frame) before (items_of items) → AreFittingItems items
items_fit frame before [] h place item e = absurd (none-some item e)
items_fit frame before (i ∷ items) h zero item e = subst IsFittingItem (same_Some i item e) (item_fits frame before i h.0.partition h.0.section)
items_fit frame before (i ∷ items) h (suc place) item e = items_fit frame (before ++ item_of i ∷ []) items h.1 place item e

pub items_of_image_fit : (image : Image) → AreFittingItems image.partitions.items
items_of_image_fit image = items_fit image.schedule.frame [] image.partitions.items (items_widened (image_of image) image.lawful.limits)

pub items_of_image_few : (image : Image) → length image.partitions.items ≤ MOST_PARTITIONS
items_of_image_few image = let same = length-map image.partitions.items item_of in let most = (count_widened (image_of image) image.lawful.limits).most in omega arith

-- the item at a place
pub item_fits_here : (image : Image) (place : ℕ) (item : PartitionItem) → place < length image.partitions.items → item ≡ get_or image.partitions.items place item → IsFittingItem item
item_fits_here image place item within is = items_of_image_fit image place item (slice_get-get_or image.partitions.items place item within ∙ ap Some (sym is))

pub few_ports_here : (image : Image) (place : ℕ) (item : PartitionItem) → place < length image.partitions.items → item ≡ get_or image.partitions.items place item → length item.row.ports.items ≤ MOST_PORTS
few_ports_here image place item within is = (item_fits_here image place item within is).rows.port_count

pub ruleset fitting_items = (items_of_image_fit, items_of_image_few, item_fits_here, few_ports_here)

idle_processes : (rows : List ProcessRow) → replicate (length rows) None ≡ map (no_control_for {C = MachineControl}) (map machine_row rows)
idle_processes [] = refl
idle_processes (row ∷ rows) = ap (λ l. None ∷ l) (idle_processes rows)

-- neither INIT nor the handler nor a process has anything left to do
all_idle : (rows : List ProcessRow) → replicate (2 + length rows) None ≡ map (no_control_for {C = MachineControl}) (init_row ∷ handler_row ∷ map machine_row rows)
all_idle rows =
    let count : 2 + length rows ≡ suc (suc (length rows)) = omega arith in
    ap (λ n. replicate n None) count ∙ ap (λ l. None ∷ None ∷ l) (idle_processes rows)

abbrev member : Engine MachineControl → Kernel → List (Option MachineControl) → List ℤ → List ℤ → Member MachineControl
member engine k controls words initial = record { engine = engine; world = record { kernel = k; controls = controls; words = words; initial = initial } }

pub loaded_member : (k : Costs) (fixed : Fixed) (ports : List PortRow) (s : Section) (engine : Engine MachineControl) (kernel : Kernel) (controls : List (Option MachineControl)) (words initial : List ℤ)
    → engine ≡ engine_of_section k s → kernel ≡ idle_kernel fixed ports s → controls ≡ replicate (2 + length s.processes.items) None → words ≡ initial → initial ≡ s.initial.items
    → member engine kernel controls words initial ≡ machine_member k fixed ports (section_of s)
loaded_member k fixed ports s engine kernel controls words initial e f g h i =
    let its = s.initial.items in
    ap (λ e. member e kernel controls words initial) e
    ∙ ap (λ x. member (section_engine k (section_of s)) x controls words initial) f
    ∙ ap (λ c. member (section_engine k (section_of s)) (idle_kernel fixed ports s) c words initial) (g ∙ all_idle s.processes.items)
    ∙ ap (λ w. member (section_engine k (section_of s)) (idle_kernel fixed ports s) (map no_control_for (idle_kernel fixed ports s).processes.rows) w initial) (h ∙ i)
    ∙ ap (λ i. member (section_engine k (section_of s)) (idle_kernel fixed ports s) (map no_control_for (idle_kernel fixed ports s).processes.rows) its i) i
