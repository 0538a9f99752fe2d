-- Isolation, for the sources of every accepted table. The consequences of a table's rules are taken
-- from the image of the same table with empty sections.
use Rattle.isolation.proofs.Prelude.{◌≡◌, ℕ, zero, suc, ◌+◌, List, ◌∷◌, map, Some, None, Ok, sym, ◌∙◌, arith, false, ◌==◌, replicate, slice_get, option_map, slice_get-map, third_limits, Costs, DeviceLine, WindowRow, same, Item, Image, Partition, at_number, IsLawful, Member, has_wrong_ends, has_unknown_port, fixed_of, Schedule, schedule_of_partition, part}
use Rattle.std.proofs.Common.{[], refl, ap, subst}
use Rattle.std.specs.List.{All}
use Rattle.toml.specs.Data.{Members}
use Rattle.module_meaning.specs.DeviceText.{verdict as device_verdict}
use Rattle.module_meaning.specs.Table.{Table}
use Rattle.machine_meaning.specs.Section.{Section}
use Rattle.machine_meaning.specs.ImageLimits.{IsSection}
use Rattle.pal_meaning.specs.Program.{Program}
use Rattle.pal_meaning.specs.SourceControl.{SourceControl}
use Rattle.module_meaning.specs.TableRules.{verdict}
use Rattle.module_meaning.specs.SourceMeaning.{source_member, source_members, source_module, source_trace}
use Rattle.machine_laws.proofs.AcceptedImage.{accepted_image}
use Rattle.machine_laws.proofs.AcceptedTable.{image_of}
use Rattle.machine_laws.proofs.Releases.{accepted_owner, accepted_end}
use Rattle.isolation.specs.SourceSlices.{source_slice, source_slice_trace, source_inputs}
use Rattle.isolation.proofs.Isolated.{isolated}
use Rattle.isolation.proofs.Law.{filter_twice}
use Rattle.isolation.proofs.OfImage.{name_in, image_apart, image_ends}
use Rattle.isolation.proofs.Steps.{IsApart, name_of, same_some}
use Rattle.isolation.proofs.TakenLines.{accepted_from}
use Rattle.isolation.proofs.Ways.{isolates}

-- ---- the image of a table with empty sections
abbrev nothing_in : Section
nothing_in = record { initial = []; semaphores = []; events = 0; buffers = []; blackboards = []; routines = []; processes = []; init = record { stack = 16; entry = 0; slots = 0; frame = 2 }; handler = None; code = replicate 16 0 ∷ [] }

is_section : (unit : ℕ) → IsSection third_limits unit nothing_in
is_section unit = record {
  objects = record {
    words = record { least = omega arith; most = omega arith };
    initial = tt;
    semaphore_count = record { least = omega arith; most = omega arith };
    semaphores = tt;
    events = record { least = omega arith; most = omega arith };
    buffer_count = record { least = omega arith; most = omega arith };
    buffers = tt;
    blackboard_count = record { least = omega arith; most = omega arith };
    blackboards = tt;
  };
  bodies = record {
    routine_count = record { least = omega arith; most = omega arith };
    routines = tt;
    process_count = record { least = omega arith; most = omega arith };
    processes = tt;
    init = record {
      stack = record { least = omega arith; most = omega arith };
      entry = omega arith;
      slots = record { least = omega arith; most = omega arith };
      frame = record { least = omega arith; most = omega arith };
    };
    handler = tt;
  };
  code = record {
    count = record { least = omega arith; most = omega arith };
    entries = refl;
    instructions = (refl, tt);
  };
}

abbrev bare : Partition → Item
bare row = record { partition = row; section = nothing_in }

abbrev row_in : Item → Partition
row_in i = i.partition

bare_rows : (ps : List Partition) → map row_in (map bare ps) ≡ ps
bare_rows [] = refl
bare_rows (p ∷ ps) = ap (λ (qs : List Partition). p ∷ qs) (bare_rows ps)

bare_sections : (ps : List Partition) → All (λ (it : Item). IsSection third_limits it.partition.period it.section) (map bare ps)
bare_sections [] k d h = absurd (omega (arith, h))
bare_sections (p ∷ ps) zero d h = is_section p.period
bare_sections (p ∷ ps) (suc k) d h = bare_sections ps k d (omega (arith, h))

abbrev bare_image : Table → Image
bare_image t = image_of t (map bare t.partitions)

-- ---- its members
abbrev pub source_record : Costs → Schedule → ℕ → Partition → Program → Member SourceControl
source_record k s n row program = source_member k (fixed_of s n row) row.ports program

pub members_at : (c : Costs) (s : Schedule) (n : ℕ) (ps : List Partition) (sources : List Program) (place : ℕ) (row : Partition) (program : Program) → slice_get ps place ≡ Some row → slice_get sources place ≡ Some program
    → slice_get (source_members c s n ps sources) place ≡ Some (source_record c s (n + place) row program)
members_at c s n [] sources place row program e f = absurd (cc)
members_at c s n (p ∷ ps) [] place row program e f = absurd (cc)
members_at c s n (p ∷ ps) (q ∷ qs) zero row program e f =
    ap (λ (r : Partition). Some (source_record c s n r q)) (same_some p row e) ∙ ap (λ (r : Program). Some (source_record c s n row r)) (same_some q program f) ∙ ap (λ (m : ℕ). Some (source_record c s m row program)) (plain n)
  where
    plain : (n : ℕ) → n ≡ n + 0
    plain n = omega arith
members_at c s n (p ∷ ps) (q ∷ qs) (suc place) row program e f = members_at c s (n + 1) ps qs place row program e f ∙ ap (λ (m : ℕ). Some (source_record c s m row program)) (turned n place)
  where
    turned : (n k : ℕ) → n + 1 + k ≡ n + suc k
    turned n k = omega arith

-- a member has the name of its row
named_at : (c : Costs) (s : Schedule) (n : ℕ) (ps : List Partition) (sources : List Program) (q : ℕ) (name : List ℕ) → slice_get (map name_of (source_members c s n ps sources)) q ≡ Some name
    → (row : Partition) × (slice_get ps q ≡ Some row) × (row.name ≡ name)
named_at c s n [] sources q name e = absurd (cc)
named_at c s n (p ∷ ps) [] q name e = absurd (cc)
named_at c s n (p ∷ ps) (x ∷ xs) zero name e = (p, refl, same_some p.name name e)
named_at c s n (p ∷ ps) (x ∷ xs) (suc q) name e = named_at c s (n + 1) ps xs q name e

same_record : (c : Costs) (s : Schedule) (p : ℕ) (row : Partition) (program : Program) → source_record c s p row program ≡ source_record c (schedule_of_partition p s) p row program
same_record c s p row program = ap (λ (ws : List WindowRow). source_member c (record { name = row.name; number = p; period = row.period; duration = row.duration; schedule = record { frame = s.frame; windows = ws }; health = row.health }) row.ports program) (sym (filter_twice (λ w. w.partition.0 == p) s.windows))

module _ (ms : Members) (t : Table) (sources : List Program) (accepted : verdict ms ≡ Ok t) where
  lawful : IsLawful (bare_image t)
  lawful = accepted_image ms t (map bare t.partitions) accepted (bare_rows t.partitions) (bare_sections t.partitions)

  abbrev pub names : List (List ℕ)
  names = map name_of (source_members t.costs t.schedule 1 t.partitions sources)

  bare_at : (q : ℕ) (row : Partition) → slice_get t.partitions q ≡ Some row → slice_get (map bare t.partitions) q ≡ Some (bare row)
  bare_at q row e = slice_get-map bare t.partitions q ∙ ap (option_map bare) e

  bare_name : (q : ℕ) (row : Partition) → slice_get t.partitions q ≡ Some row → slice_get (map name_in (map bare t.partitions)) q ≡ Some row.name
  bare_name q row e = slice_get-map name_in (map bare t.partitions) q ∙ ap (option_map name_in) (bare_at q row e)

  pub all_apart : (place : ℕ) (name : List ℕ) → slice_get names place ≡ Some name → IsApart name place names
  all_apart place name e =
      let r = named_at t.costs t.schedule 1 t.partitions sources place name e in
      let apart = image_apart (bare_image t) lawful place (bare r.0) (bare_at place r.0 r.1) in
      record {
        here = e;
        others = λ q other n f.
            let o = named_at t.costs t.schedule 1 t.partitions sources q other f in
            subst (λ (a : List ℕ). same a other ≡ false) r.2 (subst (λ (b : List ℕ). same r.0.name b ≡ false) o.2 (apart.others q o.0.name n (bare_name q o.0 o.1)));
      }

  -- A partition's part of the source meaning is the trace that it has on its own, from its row and program and its inputs.
  pub source_isolation : (text : List ℕ) (lines : List DeviceLine) (p : ℕ) (row : Partition) (program : Program) (n : ℕ)
      → device_verdict t.partitions t.channels text ≡ Ok lines → at_number t.partitions p ≡ Some row → at_number sources p ≡ Some program
      → part row.name (source_trace t sources lines n) ≡ source_slice_trace (source_slice t sources p row program) (source_inputs t sources p lines n) n
  source_isolation text lines zero row program n taken e f = absurd (cc)
  source_isolation text lines (suc place) row program n taken e f =
      let members = source_members t.costs t.schedule 1 t.partitions sources in
      let own : slice_get members place ≡ Some (source_record t.costs (schedule_of_partition (suc place) t.schedule) (suc place) row program) =
      members_at t.costs t.schedule 1 t.partitions sources place row program e f ∙ ap (λ (m : ℕ). Some (source_record t.costs t.schedule m row program)) (first place) ∙ ap (λ (x : Member SourceControl). Some x) (same_record t.costs t.schedule (suc place) row program) in
      let here : slice_get names place ≡ Some row.name = slice_get-map name_of members place ∙ ap (option_map name_of) own in
      let right = image_ends (bare_image t) lawful in
      let plain = isolates t.partitions t.schedule t.channels t.fault (λ at. accepted_owner ms t at accepted) (λ at. accepted_end ms t at accepted)
      (subst (λ (ps : List Partition). has_unknown_port ps t.channels ≡ false) (bare_rows t.partitions) right.0)
      (subst (λ (ps : List Partition). has_wrong_ends ps t.channels ≡ false) (bare_rows t.partitions) right.1) (suc place) row e in
      isolated {C = SourceControl} row.name place names (all_apart place row.name here) all_apart (source_module t sources).plan row.ports plain lines (accepted_from t.partitions t.channels text lines taken)
      members (record_at place) (record { own = own; named = refl }) n
    where
      first : (p : ℕ) → 1 + p ≡ suc p
      first p = omega arith

      record_at : ℕ → Member SourceControl
      record_at place = source_record t.costs (schedule_of_partition (suc place) t.schedule) (suc place) row program
