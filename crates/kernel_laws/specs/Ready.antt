-- A list of ready processes has each process at most once.
use Rattle.std.specs.Prelude.{ℕ, ◌+◌, ◌<◌, ◌≤◌, List, [], ◌∷◌, if◌then◌else◌}
use Rattle.apex_types.specs.declared.process.Entry.{Entry}
use Rattle.kernel_meaning.specs.Processes.{is_entry_of}

abbrev pub times_listed : ℕ → List Entry → ℕ
times_listed p [] = 0
times_listed p (e ∷ es) = (if is_entry_of p e then 1 else 0) + times_listed p es

abbrev pub AreBelow : ℕ → List Entry → Type 0
AreBelow n [] = Unit {0}
AreBelow n (e ∷ es) = (e.process.0 < n) × AreBelow n es

-- each process is below n and listed at most once
pub record IsListed (n : ℕ) (es : List Entry) : Type 0 where
  pub below : AreBelow n es
  pub once : (p : ℕ) → times_listed p es ≤ 1
