-- The due list: each process with its due tick, the earliest first.
use Rattle.std.specs.Prelude.{ℕ, ◌==◌, ◌+◌, ◌<◌, ◌≤◌, Bool, not, nat_lt, List, [], ◌∷◌, if◌then◌else◌, filter}
use Rattle.apex_types.specs.declared.identity.ProcessIndex.{ProcessIndex}
use Rattle.apex_types.specs.declared.identity.Ticks.{Ticks}
use Rattle.links.specs.declared.dues.DueEntry.{DueEntry}

abbrev pub due_at : ProcessIndex → Ticks → DueEntry
due_at p tick = record { process = p; tick = tick }

abbrev pub is_due_of : ℕ → DueEntry → Bool
is_due_of p e = p == e.process.0

-- all but the entry of p
abbrev pub without : ℕ → List DueEntry → List DueEntry
without p dues = filter (λ e. not (is_due_of p e)) dues

-- inserted after all entries whose tick is not later
abbrev pub behind_earlier : DueEntry → List DueEntry → List DueEntry
behind_earlier e [] = e ∷ []
behind_earlier e (x ∷ xs) = if nat_lt e.tick.0 x.tick.0 then e ∷ x ∷ xs else x ∷ behind_earlier e xs

-- ---- what always holds

-- no entry is due before `tick`
abbrev pub AreFrom : ℕ → List DueEntry → Type 0
AreFrom tick [] = Unit {0}
AreFrom tick (e ∷ es) = (tick ≤ e.tick.0) × AreFrom tick es

-- each tick is at most the next one
abbrev pub AreInOrder : List DueEntry → Type 0
AreInOrder [] = Unit {0}
AreInOrder (e ∷ es) = AreFrom e.tick.0 es × AreInOrder es

abbrev pub times_due : ℕ → List DueEntry → ℕ
times_due p [] = 0
times_due p (e ∷ es) = (if is_due_of p e then 1 else 0) + times_due p es

abbrev pub AreDueBelow : ℕ → List DueEntry → Type 0
AreDueBelow n [] = Unit {0}
AreDueBelow n (e ∷ es) = (e.process.0 < n) × AreDueBelow n es
