-- No line of a run says something of one partition, if none of its own moves does.
use Rattle.std.proofs.Common.{◌≡◌, ◌≢◌, ℕ, zero, suc, ◌+◌, Bool, true, false, cond, List, [], ◌∷◌, ◌++◌, map, nat_eq, Option, Some, None, refl, sym, ap, ◌∙◌, subst}
use Rattle.std.specs.Prelude.{slice_get, slice_set, option_map}
use Rattle.std.proofs.lemmas.Bool.{eqb-true, eqb-false, false≢true}
use Rattle.std.proofs.lemmas.Option.{none-some, same_Some}
use Rattle.apex_types.specs.declared.codes.Discipline.{Discipline}
use Rattle.apex_types.specs.declared.device.DeviceLine.{DeviceLine}
use Rattle.apex_types.specs.declared.event.Event.{Event}
use Rattle.apex_types.specs.declared.identity.ListKey.{ListKey}
use Rattle.isolation.proofs.Prelude.{part, slice_get-map}
use Rattle.isolation.proofs.Kept.{move_keeps}
use Rattle.isolation.proofs.Seen.{same_itself}
use Rattle.isolation.proofs.SourceLaw.{source_record, members_at, all_apart}
use Rattle.isolation.proofs.Steps.{IsApart, name_of, map_set_same}
use Rattle.isolation.specs.Brought.{is_named, is_of}
use Rattle.kernel_laws.specs.History.{Move, makes, Happening, Moves, Tells, happens, all_happen}
use Rattle.kernel_laws.specs.Numbers.{Numbers, first_numbers}
use Rattle.kernel_laws.specs.OrderLaw.{IsOrdered}
use Rattle.kernel_laws.specs.RunLaw.{AreOrdered, GoThrough}
use Rattle.kernel_laws.proofs.Fresh.{source_ordered}
use Rattle.kernel_laws.proofs.Law.{run_goes}
use Rattle.kernel_laws.proofs.Places.{get_set_same, get_set_other}
use Rattle.kernel_meaning.specs.Kernel.{Fixed}
use Rattle.kernel_meaning.specs.Partition.{Member, with_world}
use Rattle.module_meaning.specs.Accepted.{IsJudged}
use Rattle.module_meaning.specs.Module.{Stepped, steps_member}
use Rattle.module_meaning.specs.SourceMeaning.{source_members, source_module, source_trace}
use Rattle.module_meaning.specs.Table.{Partition, Table, at_number}
use Rattle.pal_meaning.specs.Program.{Program}
use Rattle.pal_meaning.specs.SourceControl.{SourceControl}
use Rattle.lint_laws.specs.Lines.{NoLine}

pub no_line_both : (Says : Event → Type 0) (a b : List Event) → NoLine Says a → NoLine Says b → NoLine Says (a ++ b)
no_line_both Says [] b h k = k
no_line_both Says (x ∷ a) b h k = (h.0, no_line_both Says a b h.1 k)

-- What lines may say of the partition with a name, and what holds of this partition throughout a run: by it no line of a move says so.
pub record IsUnsaid (name : List ℕ) (Says : Event → Type 0) (Holds : Member SourceControl → Type 0) : Type 0 where
  pub own : (l : Event) → Says l → l.partition ≡ Some name
  pub moves : (d : ListKey → Discipline) (called : List (List ℕ)) (n : Numbers) (move : Move) (x : Member SourceControl) → IsOrdered d called n x.world.kernel → Holds x
      → Holds (with_world x (makes move x).world) × NoLine Says (makes move x).lines

module _ (name : List ℕ) (Says : Event → Type 0) (Holds : Member SourceControl → Type 0) (unsaid : IsUnsaid name Says Holds) where
  -- lines of others
  others_say : (lines : List Event) → part name lines ≡ [] → NoLine Says lines
  others_say [] h = tt
  others_say (l ∷ ls) h = by_test (is_of name l) refl h (others_say ls)
    where
      by_test : (b : Bool) → is_of name l ≡ b → cond b (l ∷ part name ls) (part name ls) ≡ [] → (part name ls ≡ [] → NoLine Says ls) → NoLine Says (l ∷ ls)
      by_test true e k rest = absurd (cc)
      by_test false e k rest = ((λ says. false≢true (sym e ∙ ap (is_named name) (unsaid.own l says) ∙ same_itself name)), rest k)

  module _ (place : ℕ) (names : List (List ℕ)) (apart : IsApart name place names) (d : ℕ → ListKey → Discipline) (called : ℕ → List (List ℕ)) where
    -- it holds of the partition at the place, and all have their names
    pub record Stands (ms : List (Member SourceControl)) : Type 0 where
      own : (x : Member SourceControl) → slice_get ms place ≡ Some x → Holds x
      named : map name_of ms ≡ names

    abbrev Goes : Stepped (List (Member SourceControl)) → Type 0
    Goes a = Stands a.state × NoLine Says a.lines

    step_goes : (numbers : ℕ → Numbers) (move : Move) (ms : List (Member SourceControl)) (q : ℕ) (o : Option (Member SourceControl)) → slice_get ms q ≡ o → AreOrdered d called numbers ms → Stands ms
        → Goes (steps_member (makes move) ms q o)
    step_goes numbers move ms q None e ordered h = (h, tt)
    step_goes numbers move ms q (Some x) e ordered h = by_test (nat_eq q place) refl
      where
        y : Member SourceControl
        y = with_world x (makes move x).world

        named : map name_of (slice_set ms q y) ≡ names
        named = let k = move_keeps move x in map_set_same name_of ms q x y e (ap (λ (f : Fixed). f.name) k.fixed) ∙ h.named

        by_test : (b : Bool) → nat_eq q place ≡ b → Goes (steps_member (makes move) ms q (Some x))
        by_test true t =
            let is : q ≡ place = eqb-true q place t in
            let m = unsaid.moves (d (suc q)) (called (suc q)) (numbers (suc q)) move x (ordered (suc q) x e) (h.own x (subst (λ (i : ℕ). slice_get ms i ≡ Some x) is e)) in
            let there : slice_get (slice_set ms q y) place ≡ Some y = subst (λ (i : ℕ). slice_get (slice_set ms q y) i ≡ Some y) is (get_set_same ms q x y e) in
            (record { own = λ z f. subst Holds (same_Some y z (sym there ∙ f)) m.0; named = named }, m.1)
        by_test false t =
            let not : q ≢ place = eqb-false q place t in
            let k = move_keeps move x in
            let at_q : slice_get names q ≡ Some (name_of x) = subst (λ (ns : List (List ℕ)). slice_get ns q ≡ Some (name_of x)) h.named (slice_get-map name_of ms q ∙ ap (option_map name_of) e) in (
              record { own = λ z f. h.own z (sym (get_set_other ms q place y not) ∙ f); named = named },
              others_say (makes move x).lines (k.own.unseen name (apart.others q (name_of x) not at_q)),
            )

    run_says : (hs : List Happening) (numbers : ℕ → Numbers) (ms : List (Member SourceControl)) → GoThrough d called hs numbers ms → Stands ms → NoLine Says (all_happen hs ms).lines
    run_says [] numbers ms g h = tt
    run_says (Tells at action ∷ hs) numbers ms g h = ((λ says. absurd (none-some name (unsaid.own _ says))), run_says hs numbers ms g h)
    run_says (Moves zero move ∷ hs) numbers ms g h = run_says hs _ ms g.1.1.1 h
    run_says (Moves (suc q) move ∷ hs) numbers ms g h =
        let k = step_goes numbers move ms q (slice_get ms q) refl g.0 h in
        no_line_both Says (happens (Moves (suc q) move) ms).lines _ k.1 (run_says hs _ _ g.1.1.1 k.0)

-- No line of a run says so, if it holds at first.
pub no_line_in_run : (Says : Event → Type 0) (Holds : Member SourceControl → Type 0) (t : Table) (programs : List Program) (devices : List DeviceLine) (n place : ℕ) (row : Partition) (program : Program) → IsJudged t
    → at_number t.partitions (suc place) ≡ Some row → at_number programs (suc place) ≡ Some program → IsUnsaid row.name Says Holds → Holds (source_record t.costs t.schedule (1 + place) row program)
    → NoLine Says (source_trace t programs devices n)
no_line_in_run Says Holds t programs devices n place row program judged e f unsaid first =
    let members = source_members t.costs t.schedule 1 t.partitions programs in
    let x = source_record t.costs t.schedule (1 + place) row program in
    let own : slice_get members place ≡ Some x = members_at t.costs t.schedule 1 t.partitions programs place row program e f in
    let here : slice_get (map name_of members) place ≡ Some row.name = slice_get-map name_of members place ∙ ap (option_map name_of) own in
    let apart = all_apart judged.0 t programs judged.1 place row.name here in
    let run = run_goes (source_module t programs) devices n (source_ordered t programs) in
    subst (NoLine Says) (sym run.lines)
    (run_says row.name Says Holds unsaid place (map name_of members) apart _ _ run.history (λ q. first_numbers) members run.order
    (record { own = λ z g. subst Holds (same_Some x z (sym own ∙ g)) first; named = refl }))
