-- The values of the code as contracts see them: those of the definitions, apart from their place in
-- memory.
use Rattle.std.specs.Prelude.{◌≡◌, ℕ, Result, Ok, Err, IfSome}
use Rattle.image.specs.declared.value.Image as code_image
use Rattle.image.specs.declared.reading.image.Fields as code_fields
use Rattle.image.specs.declared.reading.objects.Objects as code_objects
use Rattle.image.specs.declared.reading.bodies.Bodies as code_bodies
use Rattle.image.specs.declared.fault.ImageFault.{ImageFault}
use Rattle.image.specs.declared.fault.ImageFault.TheVariants as fault
use Rattle.machine_meaning.specs.Image.{Image, Objects, Bodies}
use Rattle.image.specs.Items.{items_of, channels_of, image_from}
use Rattle.machine_meaning.specs.ImageReading.{Fault}
use Rattle.image.specs.Named.{named}

abbrev pub number_of : ImageFault → ℕ
number_of fault.Truncated = 1
number_of fault.Foreign = 2
number_of fault.Limit = 3
number_of fault.Order = 4
number_of fault.Trailing = 5
number_of fault.Memory = 6

-- what a function returns, seen by a view, is the result of reading, unless memory ran out
abbrev pub Gives : {X Y : Type 0} → (X → Y) → Result X ImageFault → Result Y Fault → Type 0
Gives view (Ok x) read = read ≡ Ok (view x)
Gives view (Err e) read = IfSome (named e) (λ f. read ≡ Err f)

abbrev pub objects_of : code_objects.Objects → Objects
objects_of o = record { initial = o.initial.items; semaphores = o.semaphores.items; events = o.events; buffers = o.buffers.items; blackboards = o.blackboards.items }

abbrev pub bodies_of : code_bodies.Bodies → Bodies
bodies_of b = record { routines = b.routines.items; processes = b.processes.items; init = b.init; handler = b.handler }

-- all fields of an image
abbrev pub fields_of : code_fields.Fields → Image
fields_of f = record { schedule = record { frame = f.frame; windows = f.windows.items }; fault = f.fault; version = f.version; items = items_of f.partitions.items; channels = channels_of f.channels.items }

abbrev pub image_of : code_image.Image → Image
image_of image = image_from image.schedule image.fault image.version image.partitions.items image.channels.items
