-- That an image is lawful is one fact: it has at most one proof, so that a struct can carry it.
use Rattle.std.specs.Prelude.{ℕ, List, [], ◌∷◌, ◌++◌, Option, Some, None}
use Rattle.std.specs.Coded.{×_prop, Unit-prop}
use Rattle.std.proofs.Props.{props}
use Rattle.apex_types.specs.declared.version.Limits.{Limits}
use Rattle.apex_types.specs.declared.row.BodyRow.{BodyRow}
use Rattle.apex_types.specs.declared.row.ProcessRow.{ProcessRow}
use Rattle.apex_types.specs.declared.row.PortRow.{PortRow}
use Rattle.apex_types.specs.declared.row.PortKind.{PortKind}
use Rattle.apex_types.specs.declared.row.PortKind.TheVariants.{Sampling, Queuing}
use Rattle.apex_types.specs.declared.row.WindowRow.{WindowRow}
use Rattle.apex_types.specs.declared.row.ChannelEnd.{ChannelEnd}
use Rattle.apex_types.specs.declared.row.ChannelEnd.TheVariants.{Device, Port}
use Rattle.machine_meaning.specs.Section.{Section}
use Rattle.module_meaning.specs.Table.{Partition, Channel}
use Rattle.machine_meaning.specs.Image.{Item, Image}
use Rattle.machine_meaning.specs.Image.{Objects, Bodies}
use Rattle.machine_meaning.specs.ImageLimits.{IsFrom, EachBeside, AreObjects, IsBody, IsDuration, IsProcess, IsHandler, AreBodies, IsCode, IsSection, IsPortKind, IsPort, IsPartition, IsItem, IsWindow, IsEnd, IsChannel, IsWithinLimits, IsLawful}

from_prop : (low high n : ℕ) → IsProp (IsFrom low high n)
from_prop low high n = hlevel props

each_prop : {A : Type 0} (P : List A → A → Type 0) → ((before : List A) (x : A) → IsProp (P before x)) → (before xs : List A) → IsProp (EachBeside P before xs)
each_prop P one before [] = Unit-prop
each_prop P one before (x ∷ xs) = ×_prop (one before x) (each_prop P one (before ++ x ∷ []) xs)

duration_prop : (o : Option ℕ) → IsProp (IsDuration o)
duration_prop None = Unit-prop
duration_prop (Some n) = from_prop 1 _ n

objects_prop : (limits : Limits) (o : Objects) → IsProp (AreObjects limits o)
objects_prop limits o = hlevel (props, each_prop)

body_prop : (row : BodyRow) → IsProp (IsBody row)
body_prop row = hlevel props

handler_prop : (o : Option BodyRow) → IsProp (IsHandler o)
handler_prop None = Unit-prop
handler_prop (Some row) = body_prop row

process_prop : (unit : ℕ) (before : List ProcessRow) (row : ProcessRow) → IsProp (IsProcess unit before row)
process_prop unit before row = hlevel (props, duration_prop, body_prop)

bodies_prop : (limits : Limits) (unit : ℕ) (b : Bodies) → IsProp (AreBodies limits unit b)
bodies_prop limits unit b = hlevel (props, each_prop, process_prop, body_prop, handler_prop)

code_prop : (b : Bodies) (code : List (List ℕ)) → IsProp (IsCode b code)
code_prop b code = hlevel (props, each_prop)

section_prop : (limits : Limits) (unit : ℕ) (s : Section) → IsProp (IsSection limits unit s)
section_prop limits unit s = hlevel (objects_prop, bodies_prop, code_prop)

kind_prop : (k : PortKind) → IsProp (IsPortKind k)
kind_prop (Sampling refresh) = from_prop 0 _ refresh
kind_prop (Queuing depth order) = from_prop 1 _ depth

port_prop : (limits : Limits) (before : List PortRow) (row : PortRow) → IsProp (IsPort limits before row)
port_prop limits before row = hlevel (props, kind_prop)

partition_prop : (limits : Limits) (frame : ℕ) (before : List Item) (row : Partition) → IsProp (IsPartition limits frame before row)
partition_prop limits frame before row = hlevel (props, each_prop, port_prop)

item_prop : (limits : Limits) (frame : ℕ) (before : List Item) (it : Item) → IsProp (IsItem limits frame before it)
item_prop limits frame before it = hlevel (partition_prop, section_prop)

window_prop : (before : List WindowRow) (row : WindowRow) → IsProp (IsWindow before row)
window_prop before row = hlevel props

end_prop : (e : ChannelEnd) → IsProp (IsEnd e)
end_prop Device = Unit-prop
end_prop (Port p q) = hlevel props

channel_prop : (before : List Channel) (row : Channel) → IsProp (IsChannel before row)
channel_prop before row = hlevel (props, each_prop, end_prop)

limits_prop : (image : Image) → IsProp (IsWithinLimits image)
limits_prop image = hlevel (props, each_prop, item_prop, window_prop, channel_prop)

pub lawful_prop : (image : Image) → IsProp (IsLawful image)
lawful_prop image = hlevel (props, limits_prop)
