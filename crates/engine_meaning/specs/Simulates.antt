-- When no difference between two engines shows outside.
use Rattle.std.specs.Prelude.{◌≡◌, ℤ, List}
use Rattle.apex_types.specs.declared.identity.Runner.{Runner}
use Rattle.engine_meaning.specs.Engine.{Engine, Ticked}

-- Two ticks with no difference seen from outside: related controls, the same data, the same
-- request.
pub record SameTick {C D : Type 0} (R : C → D → Type 0) (a : Ticked C) (b : Ticked D) : Type 0 where
  pub control : R a.control b.control
  pub words : a.words ≡ b.words
  pub asks : a.asks ≡ b.asks

-- Two engines whose controls stay related: at the start of each body, by each tick over the same
-- data, and by each reply.
pub record Simulates {C D : Type 0} (R : C → D → Type 0) (c : Engine C) (d : Engine D) : Type 0 where
  pub start : (p : Runner) → R (c.start p) (d.start p)
  pub tick : (x : C) (y : D) (words : List ℤ) → R x y → SameTick R (c.tick x words) (d.tick y words)
  pub reply : (x : C) (y : D) (answer : List ℤ) → R x y → R (c.reply x answer) (d.reply y answer)
