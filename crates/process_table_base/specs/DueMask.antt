-- A set of processes as bits: bit 0 is that of process 0.
use Rattle.std.specs.Prelude.{◌≡◌, ◌<◌, ℕ, Option, Some, None}
use Rattle.std.specs.Int.{bit_at}
use Rattle.apex_types.specs.declared.identity.ProcessIndex.{ProcessIndex}

-- p is the first of the set, and the others are the rest.
pub record IsFirstOf (mask p rest : ℕ) : Type 0 where
  pub set : bit_at mask p ≡ 1
  pub lower : (q : ℕ) → q < p → bit_at mask q ≡ 0
  pub gone : bit_at rest p ≡ 0
  pub others : (q : ℕ) → (q ≡ p → ⊥) → bit_at rest q ≡ bit_at mask q
  pub fewer : rest < mask

-- the first of a set and the rest; None if it is empty
abbrev pub IsSplit : ℕ → Option (ProcessIndex × ℕ) → Type 0
IsSplit mask None = mask ≡ 0
IsSplit mask (Some f) = IsFirstOf mask f.0.0 f.1
