-- The memory of one partition: its data, and the stacks of its runners.
use Rattle.std.specs.Prelude.{ℕ, ℤ, pos, Bool, true, false, List, [], Option, Result, Ok, Err, length, map, get_or, nat_lt, replicate, slice_get, slice_set}
use Rattle.apex_types.specs.declared.codes.ErrorKind.{ErrorKind}
use Rattle.apex_types.specs.declared.codes.ErrorKind.TheVariants.{MemoryViolation}
use Rattle.regions.specs.declared.region.Region.{Region}
use Rattle.regions.specs.declared.region.Region.TheVariants.{Code, Data, Stack}
use Rattle.regions.specs.declared.plan.MemoryPlan.{MemoryPlan}

-- The data, the own stack of the current runner, all stacks with an empty list in place of the own
-- one, and the place of the own one among them.
pub record Space : Type 0 where
  pub words : List ℤ
  pub stack : List ℤ
  pub rest : List (List ℤ)
  pub own : ℕ

-- data and stacks, one of which is the own one
abbrev pub seen : List ℤ → List (List ℤ) → ℕ → Space
seen words stacks own = record { words = words; stack = get_or stacks own []; rest = slice_set stacks own []; own = own }

-- all stacks, in their order
abbrev pub stacks_of : Space → List (List ℤ)
stacks_of s = slice_set s.rest s.own s.stack

-- other data and another own stack; the other stacks stay
abbrev pub put : Space → List ℤ → List ℤ → Space
put s stack words = record { words = words; stack = stack; rest = s.rest; own = s.own }

-- the words of a region that can be read and written; the code has none
abbrev pub words_in : Region → Space → List ℤ
words_in Code s = []
words_in Data s = s.words
words_in Stack s = s.stack

-- the word at an offset of a region, if the region has that offset
abbrev pub loaded : Region → ℕ → Space → Option ℤ
loaded region offset s = slice_get (words_in region s) offset

-- whether an offset is one of a region
abbrev pub is_within : Region → ℕ → Space → Bool
is_within region offset s = nat_lt offset (length (words_in region s))

-- A word of a region changed. If the region has no such offset, nothing changes.
abbrev pub stored : Region → ℕ → ℤ → Space → Space
stored Code offset word s = s
stored Data offset word s = put s s.stack (slice_set s.words offset word)
stored Stack offset word s = put s (slice_set s.stack offset word) s.words

-- the result of a store: nothing, or a memory violation
abbrev pub allowed : Bool → Result (Unit {0}) ErrorKind
allowed true = Ok tt
allowed false = Err MemoryViolation

-- `n` zeros
abbrev pub zeros : ℕ → List ℤ
zeros n = replicate n (pos 0)

-- The memory that a plan asks for: the initial data, and stacks of zeros. The first stack is the
-- own one.
abbrev pub planned : MemoryPlan → Space
planned p = seen p.initial.items (map zeros p.stacks.items) 0
