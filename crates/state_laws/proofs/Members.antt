-- The lines of a partition among those of the others, and each move of it.
use Rattle.std.proofs.Common.{◌≡◌, ◌≢◌, ◌⊎◌, inl, inr, ℕ, Bool, true, false, List, [], ◌∷◌, ◌++◌, cond, map, nat_eq, Option, Some, None, refl, sym, ap, ◌∙◌, subst}
use Rattle.std.specs.Prelude.{if◌then◌else◌, option_map, slice_get, slice_set}
use Rattle.std.proofs.lemmas.Bool.{eqb-true, eqb-false, false≢true}
use Rattle.std.proofs.lemmas.Option.{none-some, same_Some}
use Rattle.apex_types.specs.declared.codes.Discipline.{Discipline}
use Rattle.apex_types.specs.declared.codes.ModuleAction.TheVariants as reaction
use Rattle.apex_types.specs.declared.codes.ProcessState.TheVariants.{Ready}
use Rattle.apex_types.specs.declared.codes.Response.TheVariants as response
use Rattle.apex_types.specs.declared.codes.StartCondition.{StartCondition}
use Rattle.apex_types.specs.declared.codes.StartCondition.TheVariants as condition
use Rattle.apex_types.specs.declared.event.Event.{Event}
use Rattle.apex_types.specs.declared.event.EventKind.{EventKind}
use Rattle.apex_types.specs.declared.event.EventKind.TheVariants as event
use Rattle.apex_types.specs.declared.event.Subject.TheVariants.{Init}
use Rattle.apex_types.specs.declared.identity.ListKey.{ListKey}
use Rattle.engine_meaning.specs.Digits.{same}
use Rattle.isolation.proofs.Kept.{move_keeps}
use Rattle.isolation.proofs.Prelude.{slice_get-map}
use Rattle.isolation.proofs.Seen.{AreOf}
use Rattle.isolation.proofs.Steps.{IsApart, name_of, map_set_same}
use Rattle.isolation.specs.Brought.{is_named, is_of, part}
use Rattle.kernel_laws.specs.History.{Move, makes}
use Rattle.kernel_laws.specs.Numbers.{Numbers}
use Rattle.kernel_laws.specs.OrderLaw.{IsOrdered}
use Rattle.kernel_laws.specs.RunLaw.{numbers_by}
use Rattle.kernel_laws.proofs.Places.{get_set_same, get_set_other}
use Rattle.kernel_laws.proofs.Through.{move_goes, ordered_by}
use Rattle.kernel_laws.proofs.WaitSteps.{Hold}
use Rattle.kernel_laws.proofs.WaitTick.{makes_hold}
use Rattle.kernel_meaning.specs.Kernel.{Fixed}
use Rattle.kernel_meaning.specs.Partition.{Member, with_world}
use Rattle.module_meaning.specs.Module.{steps_member}
use Rattle.state_laws.specs.Told.{Told, says, said_by, with_line, told_from}
use Rattle.state_laws.proofs.Agreement.{KernelAgrees, reads_all}
use Rattle.state_laws.proofs.Starting.{AllSaid, IsSaid, said_next}
use Rattle.state_laws.proofs.Subjects.{same_name, name_itself}

-- ---- lines by their partition

pub told_both : (name : List ℕ) (t : Told) (a b : List Event) → told_from name t (a ++ b) ≡ told_from name (told_from name t a) b
told_both name t [] b = refl
told_both name t (l ∷ a) b = told_both name (with_line name t l) a b

-- all these lines are of the partition with a name
abbrev pub AllOf : List ℕ → List Event → Type 0
AllOf name [] = Unit {0}
AllOf name (l ∷ ls) = (l.partition ≡ Some name) × AllOf name ls

named_so : (name : List ℕ) (o : Option (List ℕ)) → is_named name o ≡ true → o ≡ Some name
named_so name None e = absurd (false≢true e)
named_so name (Some other) e = ap Some (sym (same_name name other e))

all_part : (name : List ℕ) (ls : List Event) → AllOf name (part name ls)
all_part name [] = tt
all_part name (l ∷ ls) = by_test (is_of name l) refl (all_part name ls)
  where
    by_test : (b : Bool) → is_of name l ≡ b → AllOf name (part name ls) → AllOf name (cond b (l ∷ part name ls) (part name ls))
    by_test true e rest = (named_so name l.partition e, rest)
    by_test false e rest = rest

pub all_of : (name : List ℕ) (ls : List Event) → AreOf name ls → AllOf name ls
all_of name ls h = subst (AllOf name) h.seen (all_part name ls)

-- its own lines are read
pub told_own : (name : List ℕ) (t : Told) (ls : List Event) → AllOf name ls → told_from name t ls ≡ reads_all t ls
told_own name t [] h = refl
told_own name t (l ∷ ls) h =
    let is : with_line name t l ≡ says l.tick.0 t l.kind =
    ap (λ (o : Option (List ℕ)). said_by name t o l.tick.0 l.kind) h.0 ∙ ap (λ (b : Bool). if b then says l.tick.0 t l.kind else t) (name_itself name) in
    ap (λ (u : Told). told_from name u ls) is ∙ told_own name (says l.tick.0 t l.kind) ls h.1

-- those of another are not
pub told_other : (name other : List ℕ) → same name other ≡ false → (t : Told) (ls : List Event) → AllOf other ls → told_from name t ls ≡ t
told_other name other n t [] h = refl
told_other name other n t (l ∷ ls) h =
    let is : with_line name t l ≡ t = ap (λ (o : Option (List ℕ)). said_by name t o l.tick.0 l.kind) h.0 ∙ ap (λ (b : Bool). if b then says l.tick.0 t l.kind else t) n in
    ap (λ (u : Told). told_from name u ls) is ∙ told_other name other n t ls h.1

-- ---- the line before a start

-- a line of the module gives the condition of all next starts, if it resets the module
abbrev pub said_module : EventKind → Option StartCondition
said_module (event.Error e who (response.Module reaction.Reset)) = Some condition.HmModuleRestart
said_module _ = None

-- the start of another partition leaves it as it is
abbrev pub still_said : Option StartCondition → EventKind → Option StartCondition
still_said last (event.Mode m) = last
still_said last (event.State Init Ready) = last
still_said _ _ = None

-- the condition of a start of the partition in the next line, if the lines give it
abbrev pub last_by : List ℕ → Option StartCondition → Option (List ℕ) → EventKind → Option StartCondition
last_by name last None kind = said_module kind
last_by name last (Some other) kind = if same name other then said_next kind else still_said last kind

abbrev pub IsSaidIf : Bool → Option StartCondition → Told → EventKind → Type 0
IsSaidIf true last t kind = IsSaid last t kind
IsSaidIf false last t kind = Unit {0}

abbrev pub IsSaidBy : List ℕ → Option StartCondition → Told → Option (List ℕ) → EventKind → Type 0
IsSaidBy name last t None kind = Unit {0}
IsSaidBy name last t (Some other) kind = IsSaidIf (same name other) last t kind

abbrev pub AreSaidBy : List ℕ → Option StartCondition → Told → List Event → Type 0
AreSaidBy name last t [] = Unit {0}
AreSaidBy name last t (l ∷ ls) = IsSaidBy name last t l.partition l.kind × AreSaidBy name (last_by name last l.partition l.kind) (with_line name t l) ls

abbrev pub last_by_all : List ℕ → Option StartCondition → List Event → Option StartCondition
last_by_all name last [] = last
last_by_all name last (l ∷ ls) = last_by_all name (last_by name last l.partition l.kind) ls

pub said_by_both : (name : List ℕ) (last : Option StartCondition) (t : Told) (a b : List Event) → AreSaidBy name last t a → AreSaidBy name (last_by_all name last a) (told_from name t a) b → AreSaidBy name last t (a ++ b)
said_by_both name last t [] b h k = k
said_by_both name last t (l ∷ a) b h k = (h.0, said_by_both name (last_by name last l.partition l.kind) (with_line name t l) a b h.1 k)

pub said_own : (name : List ℕ) (last : Option StartCondition) (t : Told) (ls : List Event) → AllOf name ls → AllSaid last t ls → AreSaidBy name last t ls
said_own name last t [] h k = tt
said_own name last t (l ∷ ls) h k =
    subst (λ (o : Option (List ℕ)). IsSaidBy name last t o l.kind × AreSaidBy name (last_by name last o l.kind) (said_by name t o l.tick.0 l.kind) ls) (sym h.0)
    (subst (λ (b : Bool). IsSaidIf b last t l.kind × AreSaidBy name (if b then said_next l.kind else still_said last l.kind) (if b then says l.tick.0 t l.kind else t) ls) (sym (name_itself name))
    (k.0, said_own name (said_next l.kind) (says l.tick.0 t l.kind) ls h.1 k.1))

pub said_other : (name other : List ℕ) → same name other ≡ false → (last : Option StartCondition) (t : Told) (ls : List Event) → AllOf other ls → AreSaidBy name last t ls
said_other name other n last t [] h = tt
said_other name other n last t (l ∷ ls) h =
    subst (λ (o : Option (List ℕ)). IsSaidBy name last t o l.kind × AreSaidBy name (last_by name last o l.kind) (said_by name t o l.tick.0 l.kind) ls) (sym h.0)
    (subst (λ (b : Bool). IsSaidIf b last t l.kind × AreSaidBy name (if b then said_next l.kind else still_said last l.kind) (if b then says l.tick.0 t l.kind else t) ls) (sym n)
    (tt, said_other name other n (still_said last l.kind) t ls h.1))

-- ---- the moves of a partition

module _ {C : Type 0} where
  pub all_own : (move : Move) (x : Member C) → AllOf (name_of x) (makes move x).lines
  all_own move x = let k = move_keeps move x in all_of (name_of x) (makes move x).lines k.own

module _ {C : Type 0} (d : ListKey → Discipline) (called : List (List ℕ)) where
  -- its lists are in order, who waits does so by its record, and what is told agrees
  pub record IsWell (t : Told) (x : Member C) : Type 0 where
    pub numbers : Numbers
    pub ordered : IsOrdered d called numbers x.world.kernel
    pub holds : Hold ⊥ x.world.kernel.processes
    pub agrees : KernelAgrees t x.world.kernel

  pub well_after : (t u : Told) (move : Move) (x : Member C) → IsWell t x → KernelAgrees u (makes move x).world.kernel → IsWell u (with_world x (makes move x).world)
  well_after t u move x h agrees =
      let g = move_goes d called h.numbers move x h.ordered in
      let k = makes_hold d called h.numbers move x h.ordered (record { holds = h.holds; objects = λ few. absurd few; ports = λ few. absurd few }) in
      record { numbers = numbers_by g.0 move x h.numbers; ordered = ordered_by d called h.numbers g.0 move x g.1; holds = k.holds; agrees = agrees }

  module _ (name : List ℕ) (place : ℕ) (names : List (List ℕ)) (apart : IsApart name place names) where
    -- the partition at the place is well, and all have their names
    pub record Stands (t : Told) (ms : List (Member C)) : Type 0 where
      pub own : (x : Member C) → slice_get ms place ≡ Some x → IsWell t x
      pub named : map name_of ms ≡ names

    -- the lines of a step are of the partition itself, with what its move tells, or tell nothing of it
    abbrev pub IsOwn : Told → Move → List (Member C) → ℕ → Told → Type 0
    IsOwn t move ms q u = (q ≡ place) × ((x : Member C) × ((slice_get ms place ≡ Some x) × (u ≡ reads_all t (makes move x).lines)))

    -- a move of the partition: with its lines what is told agrees, and each start has the condition that the line before gives
    pub record TellsMove (t : Told) (move : Move) (x : Member C) : Type 0 where
      pub agrees : KernelAgrees (reads_all t (makes move x).lines) (makes move x).world.kernel
      pub said : (last : Option StartCondition) → AllSaid last t (makes move x).lines

    pub record StepsTo (t : Told) (move : Move) (ms : List (Member C)) (q : ℕ) (o : Option (Member C)) : Type 0 where
      pub stands : Stands (told_from name t (steps_member (makes move) ms q o).lines) (steps_member (makes move) ms q o).state
      pub lines : (told_from name t (steps_member (makes move) ms q o).lines ≡ t) ⊎ IsOwn t move ms q (told_from name t (steps_member (makes move) ms q o).lines)
      pub read : (x : Member C) → q ≡ place → slice_get ms place ≡ Some x → told_from name t (steps_member (makes move) ms q o).lines ≡ reads_all t (makes move x).lines
      pub said : (last : Option StartCondition) → AreSaidBy name last t (steps_member (makes move) ms q o).lines

    pub steps_to : (t : Told) (move : Move) (ms : List (Member C)) (q : ℕ) (o : Option (Member C)) → slice_get ms q ≡ o → Stands t ms
        → ((x : Member C) → q ≡ place → slice_get ms place ≡ Some x → IsWell t x → TellsMove t move x) → StepsTo t move ms q o
    steps_to t move ms q None e h tells = record { stands = h; lines = inl refl; read = λ x is here. absurd (none-some x (sym e ∙ subst (λ (i : ℕ). slice_get ms i ≡ Some x) (sym is) here)); said = λ last. tt }
    steps_to t move ms q (Some x) e h tells = by_test (nat_eq q place) refl
      where
        y : Member C
        y = with_world x (makes move x).world

        lines : List Event
        lines = (makes move x).lines

        named : map name_of (slice_set ms q y) ≡ names
        named = let k = move_keeps move x in map_set_same name_of ms q x y e (ap (λ (f : Fixed). f.name) k.fixed) ∙ h.named

        at_q : slice_get names q ≡ Some (name_of x)
        at_q = subst (λ (ns : List (List ℕ)). slice_get ns q ≡ Some (name_of x)) h.named (slice_get-map name_of ms q ∙ ap (option_map name_of) e)

        by_test : (b : Bool) → nat_eq q place ≡ b → StepsTo t move ms q (Some x)
        by_test true b =
            let is : q ≡ place = eqb-true q place b in
            let here : slice_get ms place ≡ Some x = subst (λ (i : ℕ). slice_get ms i ≡ Some x) is e in
            let well = h.own x here in
            let told = tells x is here well in
            let own_name : name_of x ≡ name = same_Some (name_of x) name (sym (subst (λ (i : ℕ). slice_get names i ≡ Some (name_of x)) is at_q) ∙ apart.here) in
            let read : told_from name t lines ≡ reads_all t lines = told_own name t lines (subst (λ (n : List ℕ). AllOf n lines) own_name (all_own move x)) in
            let there : slice_get (slice_set ms q y) place ≡ Some y = subst (λ (i : ℕ). slice_get (slice_set ms q y) i ≡ Some y) is (get_set_same ms q x y e) in
            let after = well_after t (told_from name t lines) move x well (subst (λ (u : Told). KernelAgrees u (makes move x).world.kernel) (sym read) told.agrees) in
            record {
              stands = record { own = λ z f. subst (IsWell (told_from name t lines)) (same_Some y z (sym there ∙ f)) after; named = named };
              lines = inr (is, (x, (here, read)));
              read = λ z at f. read ∙ ap (λ (w : Member C). reads_all t (makes move w).lines) (same_Some x z (sym here ∙ f));
              said = λ last. said_own name last t lines (subst (λ (n : List ℕ). AllOf n lines) own_name (all_own move x)) (told.said last);
            }
        by_test false b =
            let not : q ≢ place = eqb-false q place b in
            let read : told_from name t lines ≡ t = told_other name (name_of x) (apart.others q (name_of x) not at_q) t lines (all_own move x) in
            record {
              stands = record { own = λ z f. subst (λ (u : Told). IsWell u z) (sym read) (h.own z (sym (get_set_other ms q place y not) ∙ f)); named = named };
              lines = inl read;
              read = λ z at f. absurd (not at);
              said = λ last. said_other name (name_of x) (apart.others q (name_of x) not at_q) last t lines (all_own move x);
            }
