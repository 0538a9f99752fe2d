-- What the arguments of a call mean.
use Rattle.std.specs.Prelude.{ℕ, Bool, true, false, ◌==◌, ◌&&◌, List, [], ◌∷◌, Option, Some, None, if◌then◌else◌}
use Rattle.std.specs.List.{list_any}
use Rattle.std.specs.Str.{bytes_eq}
use Rattle.apex_types.specs.declared.denotation.ObjectKind.{ObjectKind}
use Rattle.pal_meaning.specs.WellFormed.{is_same_kind}
use Rattle.lint.specs.Mentions.{Mention, Thing, Object, Failure, Write}
use Rattle.lint.specs.Plain.{Plain, Literal, Word}

-- ---- what a variable stands for

-- Nothing writes a variable; each write gives it the number of the same thing; or neither.
pub data Standing : Type 0 where
  Never : Standing
  Always : Thing → Standing
  Varies : Standing

abbrev pub is_same_thing : Thing → Thing → Bool
is_same_thing (Object kind name) (Object other text) = is_same_kind kind other && bytes_eq name text
is_same_thing Failure Failure = true
is_same_thing _ _ = false

-- after one more write
abbrev pub with_write : Standing → Option Thing → Standing
with_write Never (Some thing) = Always thing
with_write (Always thing) (Some other) = if is_same_thing thing other then Always thing else Varies
with_write _ _ = Varies

abbrev pub with_mention : Standing → List ℕ → Mention → Standing
with_mention so_far name (Write variable thing) = if bytes_eq variable name then with_write so_far thing else so_far
with_mention so_far name _ = so_far

abbrev pub standing_after : Standing → List ℕ → List Mention → Standing
standing_after so_far name [] = so_far
standing_after so_far name (m ∷ ms) = standing_after (with_mention so_far name m) name ms

-- The names of a body's parameters and locals, what its statements do, and what those of the whole program do.
pub record Scope : Type 0 where
  pub parameters : List (List ℕ)
  pub locals : List (List ℕ)
  pub own : List Mention
  pub program : List Mention

-- what a variable of this name stands for in the body: a local by the writes in the body, any other by all writes; a parameter varies
abbrev pub standing : Scope → List ℕ → Standing
standing s name = if list_any (λ other. bytes_eq other name) s.parameters then Varies else standing_after Never name (if list_any (λ other. bytes_eq other name) s.locals then s.own else s.program)

-- ---- what an argument means

-- an object, a port or a process, and the variable that got its number
pub record Created : Type 0 where
  pub kind : ObjectKind
  pub object : List ℕ
  pub variable : List ℕ

-- What an argument means where a number is asked for: the number as it is written; an object, a port or a process by its name; the
-- process that has failed; a variable that nothing writes; or it cannot be seen.
pub data Id : Type 0 where
  Numbered : ℕ → Id
  Named : ObjectKind → List ℕ → Id
  Failed : Id
  Unset : Id
  Unseen : Id

abbrev pub id_of_thing : Thing → Id
id_of_thing (Object kind name) = Named kind name
id_of_thing Failure = Failed

-- what was created last, if this variable got its number
abbrev pub last_created : Option Created → List ℕ → Id
last_created None name = Unseen
last_created (Some c) name = if bytes_eq c.variable name then Named c.kind c.object else Unseen

abbrev pub id_of_variable : Standing → Option Created → List ℕ → Id
id_of_variable Never created name = Unset
id_of_variable (Always thing) created name = id_of_thing thing
id_of_variable Varies created name = last_created created name

abbrev pub id_of : Scope → Option Created → Option Plain → Id
id_of s created (Some (Literal (Some n))) = Numbered n
id_of s created (Some (Word name)) = id_of_variable (standing s name) created name
id_of s created _ = Unseen

-- it may mean the object of this kind, number and name
abbrev pub may_be : ObjectKind → ℕ → List ℕ → Id → Bool
may_be kind number name (Numbered n) = n == number
may_be kind number name (Named other object) = is_same_kind other kind && bytes_eq object name
may_be kind number name Unseen = true
may_be kind number name _ = false

-- it means this object, as far as it can be seen
abbrev pub means : ObjectKind → ℕ → List ℕ → Id → Bool
means kind number name Unseen = false
means kind number name id = may_be kind number name id

-- it may mean this number
abbrev pub may_be_number : ℕ → Id → Bool
may_be_number number (Numbered n) = n == number
may_be_number number _ = true

abbrev pub is_unset : Id → Bool
is_unset Unset = true
is_unset _ = false
