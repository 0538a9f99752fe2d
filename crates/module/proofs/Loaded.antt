-- The partitions of an image that are loaded one after the other.
use Rattle.module.proofs.Prelude.{◌≡◌, ℕ, ◌+◌, List, ◌∷◌, ◌++◌, ◌∙◌, append_assoc, Costs, Item, Member, Schedule, MachineControl, machine_member, machine_members, fixed_of}
use Rattle.std.proofs.Common.{[]}

-- one more partition is loaded, the first of the rest
pub one_more_loaded : (costs : Costs) (schedule : Schedule) (number : ℕ) (before next whole : List (Member MachineControl)) (m : Member MachineControl) (i : Item) (rest : List Item)
    → next ≡ before ++ m ∷ [] → m ≡ machine_member costs (fixed_of schedule number i.partition) i.partition.ports i.section
    → before ++ machine_members costs schedule number (i ∷ rest) ≡ whole → next ++ machine_members costs schedule (number + 1) rest ≡ whole
one_more_loaded costs schedule number before next whole m i rest pushed same so_far =
    rw (pushed, same) (append_assoc before (machine_member costs (fixed_of schedule number i.partition) i.partition.ports i.section ∷ []) (machine_members costs schedule (number + 1) rest) ∙ so_far)
