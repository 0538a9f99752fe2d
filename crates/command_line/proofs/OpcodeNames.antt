-- The names of opcodes are short.
use Rattle.std.proofs.Common.{◌≡◌, ℕ, zero, suc, ◌-◌, ◌≤◌, List, [], ◌∷◌, length, Option, Some, None, Bool, true, false, subst, rules, arith}
use Rattle.std.specs.Prelude.{if◌then◌else◌, nat_eq, slice_get}
use Rattle.std.proofs.lemmas.Option.{none-some, same_Some}
use Rattle.machine_meaning.specs.Instructions.{instruction_names, name_of_opcode}

-- each has at most four letters
abbrev AreShort : List (List ℕ) → Type 0
AreShort [] = Unit {0}
AreShort (name ∷ names) = (length name ≤ 4) × AreShort names

one_is_short : (names : List (List ℕ)) (place : ℕ) (name : List ℕ) → AreShort names → slice_get names place ≡ Some name → length name ≤ 4
one_is_short [] place name h got = absurd (none-some name got)
one_is_short (first ∷ names) zero name h got = subst (λ (x : List ℕ). length x ≤ 4) (same_Some first name got) h.0
one_is_short (first ∷ names) (suc place) name h got = one_is_short names place name h.1 got

all_short : AreShort instruction_names
all_short = search (rules, arith)

found : (b : Bool) (answer : Option (List ℕ)) (name : List ℕ) → (if b then None else answer) ≡ Some name → answer ≡ Some name
found true answer name got = absurd (none-some name got)
found false answer name got = got

pub name_is_short : (op : ℕ) (name : List ℕ) → name_of_opcode op ≡ Some name → length name ≤ 4
name_is_short op name got = one_is_short instruction_names (op - 1) name all_short (found (nat_eq op 0) (slice_get instruction_names (op - 1)) name got)
