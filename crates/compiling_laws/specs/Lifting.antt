-- When two worlds, and two modules, on different engines cannot be distinguished.
use Rattle.std.specs.Prelude.{◌≡◌, List, [], ◌∷◌, Option, Some, None}
use Rattle.engine_meaning.specs.Simulates.{Simulates}
use Rattle.kernel_meaning.specs.Partition.{World, Moved, Member}
use Rattle.module_meaning.specs.Module.{Stepped, Course}

abbrev pub SameControl : {C D : Type 0} → (C → D → Type 0) → Option C → Option D → Type 0
SameControl R None None = Unit {0}
SameControl R None (Some y) = ⊥
SameControl R (Some x) None = ⊥
SameControl R (Some x) (Some y) = R x y

-- the same processes have something left to do, and their controls are related
abbrev pub SameControls : {C D : Type 0} → (C → D → Type 0) → List (Option C) → List (Option D) → Type 0
SameControls R [] [] = Unit {0}
SameControls R [] (y ∷ ys) = ⊥
SameControls R (x ∷ xs) [] = ⊥
SameControls R (x ∷ xs) (y ∷ ys) = SameControl R x y × SameControls R xs ys

-- the same kernel state and data, and related controls
pub record SameWorld {C D : Type 0} (R : C → D → Type 0) (v : World C) (w : World D) : Type 0 where
  pub kernel : v.kernel ≡ w.kernel
  pub controls : SameControls R v.controls w.controls
  pub words : v.words ≡ w.words
  pub initial : v.initial ≡ w.initial

pub record SameMoved {C D : Type 0} (R : C → D → Type 0) (m : Moved C) (n : Moved D) : Type 0 where
  pub world : SameWorld R m.world n.world
  pub lines : m.lines ≡ n.lines

pub record SameMember {C D : Type 0} (R : C → D → Type 0) (x : Member C) (y : Member D) : Type 0 where
  pub engine : Simulates R x.engine y.engine
  pub world : SameWorld R x.world y.world

-- each member with its counterpart, by its own relation
abbrev pub SameMembers : {I C D : Type 0} → (I → C → D → Type 0) → List I → List (Member C) → List (Member D) → Type 0
SameMembers R [] [] [] = Unit {0}
SameMembers R (i ∷ is) (x ∷ xs) (y ∷ ys) = SameMember (R i) x y × SameMembers R is xs ys
SameMembers R _ _ _ = ⊥

pub record SameStepped {I C D : Type 0} (R : I → C → D → Type 0) (is : List I) (a : Stepped (List (Member C))) (b : Stepped (List (Member D))) : Type 0 where
  pub state : SameMembers R is a.state b.state
  pub lines : a.lines ≡ b.lines

pub record SameCourse {I C D : Type 0} (R : I → C → D → Type 0) (is : List I) (c : Course (List (Member C))) (d : Course (List (Member D))) : Type 0 where
  pub at : c.at ≡ d.at
  pub state : SameMembers R is c.state d.state
  pub lines : c.lines ≡ d.lines
