-- A partition that is loaded alone is the lone partition of its slice.
use Rattle.lone_partition.proofs.Prelude.{◌≡◌, ℕ, suc, List, Option, Some, sym, ap, ◌∙◌, option_map, slice_get, Item, at_number, Fixed, MachineControl, Member, machine_member, machine_module, item_of, items_of, PartitionItem, Surroundings, surroundings_of}
use Rattle.std.proofs.lemmas.Option.{slice_get-map}
use Rattle.apex_types.specs.Versions.{costs_of}
use Rattle.machine_meaning.specs.Image.{Image}
use Rattle.module_meaning.specs.Table.{fixed_of}
use Rattle.isolation.specs.Slices.{machine_alone, slice, slice_of}

-- the item at a place is that of the next number
pub item_here : (items : List PartitionItem) (place number : ℕ) (item : PartitionItem) → number ≡ suc place → slice_get items place ≡ Some item → at_number (items_of items) number ≡ Some (item_of item)
item_here items place number item e here =
    ap (λ (n : ℕ). at_number (items_of items) n) e
    ∙ slice_get-map item_of items place
    ∙ ap (λ (o : Option PartitionItem). option_map item_of o) here

-- surroundings and a member of an item make the lone partition of its slice
pub alone_is : (image : Image) (number : ℕ) (item : Item) (s : Surroundings) (x : Member MachineControl) (fixed : Fixed) → at_number image.items number ≡ Some item
    → s ≡ surroundings_of (machine_module image).plan number item.partition.ports → x ≡ machine_member (costs_of image.version) fixed item.partition.ports item.section → fixed ≡ fixed_of s.schedule number item.partition
    → Some (record { around = s; member = x }) ≡ option_map machine_alone (slice image number)
alone_is image number item s x fixed there around member kept =
    ap (λ (y : Member MachineControl). Some (record { around = s; member = y })) (member ∙ ap (λ (f : Fixed). machine_member (costs_of image.version) f item.partition.ports item.section) kept)
    ∙ ap (λ (t : Surroundings). Some (record { around = t; member = machine_member (costs_of image.version) (fixed_of t.schedule number item.partition) item.partition.ports item.section })) around
    ∙ ap (λ (o : Option Item). option_map machine_alone (option_map (slice_of image number) o)) (sym there)
