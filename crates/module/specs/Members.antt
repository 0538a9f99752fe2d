-- The partitions of a running module with their memory as the definitions see them, over any
-- executor.
use Rattle.std.specs.Prelude.{◌≡◌, ℕ, List, [], ◌∷◌, map}
use Rattle.kernel_meaning.specs.Partition.{Member}
use Rattle.partition.specs.Members.{member_of}
use Rattle.partition.specs.declared.partition.Partition.{Partition}
use Rattle.partition_base.specs.declared.executor.Executor.{Ghosts}

-- each partition with its part of the memory
abbrev pub members_of : {E X : Type 0} → (g : Ghosts E X) → List (Partition E X) → List X → List (Member g.Control)
members_of g [] memory = []
members_of g (p ∷ ps) [] = []
members_of g (p ∷ ps) (part ∷ memory) = member_of g p part ∷ members_of g ps memory

-- the number of words in each part of the memory that a partition's executor works on
abbrev pub layout_in : {E X : Type 0} → (g : Ghosts E X) → Partition E X → List ℕ
layout_in g p = g.layout p.executor

-- as many parts as partitions, each with the layout of its partition's executor
abbrev pub AreFitting : {E X : Type 0} → (g : Ghosts E X) → List (Partition E X) → List X → Type 0
AreFitting g ps memory = map g.laid memory ≡ map (layout_in g) ps
