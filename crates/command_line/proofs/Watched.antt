-- What a watcher of a command is told.
use Rattle.std.proofs.Common.{◌≡◌, ◌≤◌, ◌-◌, ◌^◌, inl, inr, ℕ, refl, sym, subst, arith, min}
use Rattle.module.specs.Watched.{IsFollowed, Told}
use Rattle.command_line.specs.Orders.{Order, First, Check, Build, Run, Replay, Inputs, ShowState, ShowNames, Cost, Dis, Upgrade, Load, Lint, Dashed}
use Rattle.command_line.specs.StopSteps.{IsReported}
use Rattle.command_line.specs.Watched.{IsWatched}
use Rattle.command_line.proofs.Ran.{few_same}

pub not_watched : (order : Order) (told : Told) → IsWatched order told told
not_watched First told = refl
not_watched (Check table sources) told = refl
not_watched (Build table image sources) told = refl
not_watched (Run image devices ticks until) told = inl refl
not_watched (Replay image partition inputs ticks) told = refl
not_watched (Inputs image partition devices ticks) told = inl refl
not_watched (ShowState image devices tick every wanted) told = refl
not_watched (ShowNames table sources devices tick wanted) told = refl
not_watched (Cost table sources) told = refl
not_watched (Dis image) told = refl
not_watched (Upgrade old new) told = refl
not_watched (Load form table sources) told = refl
not_watched (Lint table sources) told = refl
not_watched Dashed told = refl

-- nothing is reported
pub not_reported : (told made n : ℕ) (heard : Told) → IsReported told made n told heard heard
not_reported told made n heard = inl (refl, refl)

-- the number in a word is the word's value, if the run was begun
pub followed_by : {before after : Told} (n v : ℕ) → n ≡ min v (2 ^ 64 - 1) → IsFollowed n n before after → IsFollowed v v before after
followed_by n v is (inl same) = inl same
followed_by {before = before} {after = after} n v is (inr h) = subst (λ k. IsFollowed k k before after) (few_same n v is h.0) (inr h)

-- it was asked for reports before
pub watched_since : {before : Told} (order : Order) (begun after : Told) → begun ≡ before → IsWatched order begun after → IsWatched order before after
watched_since order begun after same h = subst (λ t. IsWatched order t after) same h
