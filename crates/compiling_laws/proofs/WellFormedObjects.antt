-- The data and the objects of an accepted program are within the limits of an image.
use Rattle.compiling_laws.proofs.Prelude.{◌≡◌, ℕ, suc, ◌+◌, ◌-◌, ◌≤◌, ◌^◌, pos, Bool, true, false, cond, List, ◌∷◌, ◌++◌, length, map, replicate, Option, Some, None, refl, sym, ap, subst, length-append, nat_le, filter_map, unwrap_or, FitsSigned, w64, list_all, cons_option, AllByRecursion, All, and_parts, leb-true, cond-true, cond_both, le-leb, length-map, length-replicate, third_limits, MOST_PROCEDURES, is_name, PortRow, section_of, Counts, no_counts, counted, after, Entry, within, procedure_of, resolve, is_between, keeps_kind, keeps_declaration, keeps_counts, each_beside}
use Rattle.std.proofs.Common.{zero, negsuc, [], arith}
use Rattle.std.specs.Prelude.{flat_map, ◌-ℤ◌}
use Rattle.std.proofs.lemmas.Int.{ints}
use Rattle.std.proofs.lemmas.Option.{cond_some}
use Rattle.apex_types.specs.declared.limits.TheConstants.{MOST_DATA_WORDS, MOST_DEPTH, MOST_OBJECTS, MOST_PORTS, MOST_SEMAPHORE_VALUE, MOST_WORDS}
use Rattle.apex_types.specs.declared.row.SemaphoreRow.{SemaphoreRow}
use Rattle.pal_meaning.specs.Syntax as written
use Rattle.machine_meaning.specs.ImageSpelling.{objects_in}
use Rattle.machine_meaning.specs.ImageLimits.{IsFrom, IsSemaphore, IsBuffer, IsBlackboard, AreObjects}
use Rattle.pal_meaning.specs.Resolve.{declared_entries, value_or_zero, signed_word, array_words, words_of, semaphore_of, buffer_of, blackboard_of, counts_of}
use Rattle.pal_meaning.specs.WellFormed.{value_at_most}
use Rattle.compiling_laws.proofs.WellFormedFits.{counts_next, mapped_some, keeps_within}
use Rattle.machine_meaning.proofs.Beside.{each_at}

-- ---- lists

abbrev pub one_or_none : {A : Type 0} → Option A → List A
one_or_none None = []
one_or_none (Some x) = x ∷ []

pub each_append : {A : Type 0} (P : A → Type 0) (xs ys : List A) → AllByRecursion P xs → AllByRecursion P ys → AllByRecursion P (xs ++ ys)
each_append P [] ys a b = b
each_append P (x ∷ xs) ys a b = (a.0, each_append P xs ys a.1 b)

longer_by : {A : Type 0} (o : Option A) (xs : List A) → length (cons_option o xs) ≡ length (one_or_none o) + length xs
longer_by None xs = omega arith
longer_by (Some x) xs = omega arith

-- ---- how many of each kind

-- a count that rises by `more` and stays within its limit
record Step (limit before after more : ℕ) : Type 0 where
  is : after ≡ before + more
  most : before ≤ limit → after ≤ limit

stays : (limit n : ℕ) → Step limit n n 0
stays limit n = record { is = omega arith; most = λ h. h }

pub counted_most : (limit count more n : ℕ) → counted limit count more ≡ Some n → (n ≡ more + count) × (more + count ≤ limit)
counted_most limit count more n h = let c = cond_some (nat_le (more + count) limit) (more + count) n h in (sym c.1, leb-true (more + count) limit c.0)

goes : (limit count more n size : ℕ) → counted limit count more ≡ Some n → size ≡ more → Step limit count n size
goes limit count more n size h same = let c = counted_most limit count more n h in record { is = omega (arith, c.0); most = λ k. omega (arith, c.0, c.1) }

abbrev events_of : written.Kind → ℕ
events_of written.Event = 1
events_of _ = 0

-- the counts after a declaration
record Grows (declared : List Entry) (c n : Counts) (k : written.Kind) : Type 0 where
  words : Step MOST_DATA_WORDS c.words n.words (length (words_of k))
  semaphores : Step MOST_OBJECTS c.semaphores n.semaphores (length (one_or_none (semaphore_of k)))
  events : Step MOST_OBJECTS c.events n.events (events_of k)
  buffers : Step MOST_OBJECTS c.buffers n.buffers (length (one_or_none (buffer_of k)))
  blackboards : Step MOST_OBJECTS c.blackboards n.blackboards (length (one_or_none (blackboard_of k)))
  procedures : Step MOST_PROCEDURES c.procedures n.procedures (length (one_or_none (procedure_of declared k)))

one_word : (value : Option written.Integer) → length (words_of (written.Variable value)) ≡ 1
one_word None = refl
one_word (Some i) = refl

array_length : (size : Option ℕ) (values : List written.Integer) → value_at_most (Some (length values)) size ≡ true → value_or_zero size ≤ MOST_DATA_WORDS → length (array_words (within MOST_DATA_WORDS size) values) ≡ value_or_zero size
array_length None values h small = absurd cc
array_length (Some n) values h small =
    let is : within MOST_DATA_WORDS (Some n) ≡ n = cond-true (nat_le n MOST_DATA_WORDS) n 0 (le-leb n MOST_DATA_WORDS small) in
    let least : length values ≤ n = leb-true (length values) n h in
    let rest = replicate (within MOST_DATA_WORDS (Some n) - length values) (pos 0) in
    let zeros : length rest ≡ within MOST_DATA_WORDS (Some n) - length values = length-replicate (within MOST_DATA_WORDS (Some n) - length values) (pos 0) in
    omega (arith, is, zeros, length-append (map signed_word values) rest, length-map values signed_word)

grows : (declared : List Entry) (c n : Counts) (k : written.Kind) → after c k ≡ Some n → keeps_kind declared k ≡ true → Grows declared c n k
grows declared c n (written.Variable value) h keeps =
    let m = mapped_some _ (counted MOST_DATA_WORDS c.words 1) n h in
    subst (λ (n : Counts). Grows declared c n (written.Variable value)) m.2 (record {
      words = goes MOST_DATA_WORDS c.words 1 m.0 _ m.1 (one_word value);
      semaphores = stays MOST_OBJECTS c.semaphores;
      events = stays MOST_OBJECTS c.events;
      buffers = stays MOST_OBJECTS c.buffers;
      blackboards = stays MOST_OBJECTS c.blackboards;
      procedures = stays MOST_PROCEDURES c.procedures;
    })
grows declared c n (written.Array size values) h keeps =
    let m = mapped_some _ (counted MOST_DATA_WORDS c.words (value_or_zero size)) n h in
    let room : value_or_zero size ≤ MOST_DATA_WORDS = omega (arith, (counted_most MOST_DATA_WORDS c.words (value_or_zero size) m.0 m.1).1) in
    subst (λ (n : Counts). Grows declared c n (written.Array size values)) m.2 (record {
      words = goes MOST_DATA_WORDS c.words (value_or_zero size) m.0 _ m.1 (array_length size values (and_parts (value_at_most (Some (length values)) size) _ keeps).0 room);
      semaphores = stays MOST_OBJECTS c.semaphores;
      events = stays MOST_OBJECTS c.events;
      buffers = stays MOST_OBJECTS c.buffers;
      blackboards = stays MOST_OBJECTS c.blackboards;
      procedures = stays MOST_PROCEDURES c.procedures;
    })
grows declared c n (written.Semaphore first maximum discipline) h keeps =
    let m = mapped_some _ (counted MOST_OBJECTS c.semaphores 1) n h in
    subst (λ (n : Counts). Grows declared c n (written.Semaphore first maximum discipline)) m.2 (record {
      words = stays MOST_DATA_WORDS c.words;
      semaphores = goes MOST_OBJECTS c.semaphores 1 m.0 _ m.1 refl;
      events = stays MOST_OBJECTS c.events;
      buffers = stays MOST_OBJECTS c.buffers;
      blackboards = stays MOST_OBJECTS c.blackboards;
      procedures = stays MOST_PROCEDURES c.procedures;
    })
grows declared c n written.Event h keeps =
    let m = mapped_some _ (counted MOST_OBJECTS c.events 1) n h in
    subst (λ (n : Counts). Grows declared c n written.Event) m.2 (record {
      words = stays MOST_DATA_WORDS c.words;
      semaphores = stays MOST_OBJECTS c.semaphores;
      events = goes MOST_OBJECTS c.events 1 m.0 _ m.1 refl;
      buffers = stays MOST_OBJECTS c.buffers;
      blackboards = stays MOST_OBJECTS c.blackboards;
      procedures = stays MOST_PROCEDURES c.procedures;
    })
grows declared c n (written.Buffer words messages discipline) h keeps =
    let m = mapped_some _ (counted MOST_OBJECTS c.buffers 1) n h in
    subst (λ (n : Counts). Grows declared c n (written.Buffer words messages discipline)) m.2 (record {
      words = stays MOST_DATA_WORDS c.words;
      semaphores = stays MOST_OBJECTS c.semaphores;
      events = stays MOST_OBJECTS c.events;
      buffers = goes MOST_OBJECTS c.buffers 1 m.0 _ m.1 refl;
      blackboards = stays MOST_OBJECTS c.blackboards;
      procedures = stays MOST_PROCEDURES c.procedures;
    })
grows declared c n (written.Blackboard words) h keeps =
    let m = mapped_some _ (counted MOST_OBJECTS c.blackboards 1) n h in
    subst (λ (n : Counts). Grows declared c n (written.Blackboard words)) m.2 (record {
      words = stays MOST_DATA_WORDS c.words;
      semaphores = stays MOST_OBJECTS c.semaphores;
      events = stays MOST_OBJECTS c.events;
      buffers = stays MOST_OBJECTS c.buffers;
      blackboards = goes MOST_OBJECTS c.blackboards 1 m.0 _ m.1 refl;
      procedures = stays MOST_PROCEDURES c.procedures;
    })
grows declared c n written.Port h keeps =
    let m = mapped_some _ (counted MOST_PORTS c.ports 1) n h in
    subst (λ (n : Counts). Grows declared c n written.Port) m.2 (record {
      words = stays MOST_DATA_WORDS c.words;
      semaphores = stays MOST_OBJECTS c.semaphores;
      events = stays MOST_OBJECTS c.events;
      buffers = stays MOST_OBJECTS c.buffers;
      blackboards = stays MOST_OBJECTS c.blackboards;
      procedures = stays MOST_PROCEDURES c.procedures;
    })
grows declared c n (written.Procedure parameters body) h keeps =
    let m = mapped_some _ (counted MOST_PROCEDURES c.procedures 1) n h in
    subst (λ (n : Counts). Grows declared c n (written.Procedure parameters body)) m.2 (record {
      words = stays MOST_DATA_WORDS c.words;
      semaphores = stays MOST_OBJECTS c.semaphores;
      events = stays MOST_OBJECTS c.events;
      buffers = stays MOST_OBJECTS c.buffers;
      blackboards = stays MOST_OBJECTS c.blackboards;
      procedures = goes MOST_PROCEDURES c.procedures 1 m.0 _ m.1 refl;
    })

record AreWithin (c : Counts) : Type 0 where
  words : c.words ≤ MOST_DATA_WORDS
  semaphores : c.semaphores ≤ MOST_OBJECTS
  events : c.events ≤ MOST_OBJECTS
  buffers : c.buffers ≤ MOST_OBJECTS
  blackboards : c.blackboards ≤ MOST_OBJECTS
  procedures : c.procedures ≤ MOST_PROCEDURES

-- the totals of the declarations `ds`, added to the counts `c`, are within their limits
pub record Totals (declared : List Entry) (c : Counts) (ds : List written.Declaration) : Type 0 where
  pub words : c.words + length (flat_map (λ (d : written.Declaration). words_of d.kind) ds) ≤ MOST_DATA_WORDS
  pub semaphores : c.semaphores + length (filter_map (λ (d : written.Declaration). semaphore_of d.kind) ds) ≤ MOST_OBJECTS
  pub events : (counts_of c ds).events ≤ MOST_OBJECTS
  pub buffers : c.buffers + length (filter_map (λ (d : written.Declaration). buffer_of d.kind) ds) ≤ MOST_OBJECTS
  pub blackboards : c.blackboards + length (filter_map (λ (d : written.Declaration). blackboard_of d.kind) ds) ≤ MOST_OBJECTS
  pub procedures : c.procedures + length (filter_map (λ (d : written.Declaration). procedure_of declared d.kind) ds) ≤ MOST_PROCEDURES

totals : (declared : List Entry) (c : Counts) (ds : List written.Declaration) → AreWithin c → keeps_counts c ds ≡ true → list_all (keeps_declaration declared) ds ≡ true → Totals declared c ds
totals declared c [] room counts keeps = record {
  words = omega (arith, room.words);
  semaphores = omega (arith, room.semaphores);
  events = room.events;
  buffers = omega (arith, room.buffers);
  blackboards = omega (arith, room.blackboards);
  procedures = omega (arith, room.procedures);
}
totals declared c (d ∷ ds) room counts keeps =
    let next = counts_next (after c d.kind) ds counts in
    let kept = and_parts (keeps_declaration declared d) (list_all (keeps_declaration declared) ds) keeps in
    let g = grows declared c next.0 d.kind next.1 (and_parts (is_name d.name) (keeps_kind declared d.kind) kept.0).1 in
    let still : AreWithin next.0 = record {
      words = g.words.most room.words;
      semaphores = g.semaphores.most room.semaphores;
      events = g.events.most room.events;
      buffers = g.buffers.most room.buffers;
      blackboards = g.blackboards.most room.blackboards;
      procedures = g.procedures.most room.procedures;
    } in
    let t = totals declared next.0 ds still next.2 kept.1 in
    let is : next.0 ≡ unwrap_or (after c d.kind) c = ap (λ (o : Option Counts). unwrap_or o c) (sym next.1) in
    record {
      words = omega (arith, g.words.is, t.words, length-append (words_of d.kind) (flat_map (λ (e : written.Declaration). words_of e.kind) ds));
      semaphores = omega (arith, g.semaphores.is, t.semaphores, longer_by (semaphore_of d.kind) (filter_map (λ (e : written.Declaration). semaphore_of e.kind) ds));
      events = subst (λ (n : Counts). (counts_of n ds).events ≤ MOST_OBJECTS) is t.events;
      buffers = omega (arith, g.buffers.is, t.buffers, longer_by (buffer_of d.kind) (filter_map (λ (e : written.Declaration). buffer_of e.kind) ds));
      blackboards = omega (arith, g.blackboards.is, t.blackboards, longer_by (blackboard_of d.kind) (filter_map (λ (e : written.Declaration). blackboard_of e.kind) ds));
      procedures = omega (arith, g.procedures.is, t.procedures, longer_by (procedure_of declared d.kind) (filter_map (λ (e : written.Declaration). procedure_of declared e.kind) ds));
    }

pub all_totals : (declared : List Entry) (ds : List written.Declaration) → keeps_counts no_counts ds ≡ true → list_all (keeps_declaration declared) ds ≡ true → Totals declared no_counts ds
all_totals declared ds = totals declared no_counts ds (record { words = omega arith; semaphores = omega arith; events = omega arith; buffers = omega arith; blackboards = omega arith; procedures = omega arith })

-- ---- each object

between_is : (low limit : ℕ) (o : Option ℕ) → is_between low limit o ≡ true → IsFrom low limit (within limit o)
between_is low limit o h = let k = keeps_within low limit o h in record { least = omega (arith, k.4, k.2); most = omega (arith, k.4, k.3) }

-- a first value of at most the maximum
first_most : (first : Option ℕ) (maximum : ℕ) → value_at_most first (Some maximum) ≡ true → maximum ≤ MOST_SEMAPHORE_VALUE → within MOST_SEMAPHORE_VALUE first ≤ maximum
first_most None maximum h small = absurd cc
first_most (Some n) maximum h small =
    let least : n ≤ maximum = leb-true n maximum h in
    let is : within MOST_SEMAPHORE_VALUE (Some n) ≡ n = cond-true (nat_le n MOST_SEMAPHORE_VALUE) n 0 (le-leb n MOST_SEMAPHORE_VALUE (omega arith)) in
    omega (arith, is)

semaphore_is : (first maximum : Option ℕ) (row : SemaphoreRow) → is_between 1 MOST_SEMAPHORE_VALUE maximum ≡ true → value_at_most first maximum ≡ true → row.value ≡ within MOST_SEMAPHORE_VALUE first → row.maximum ≡ within MOST_SEMAPHORE_VALUE maximum → IsSemaphore row
semaphore_is first None row h k v m = absurd cc
semaphore_is first (Some n) row h k v m =
    let w = keeps_within 1 MOST_SEMAPHORE_VALUE (Some n) h in
    let same : n ≡ w.0 = cc in
    let small : n ≤ MOST_SEMAPHORE_VALUE = omega (arith, w.3, same) in
    let is : within MOST_SEMAPHORE_VALUE (Some n) ≡ n = cond-true (nat_le n MOST_SEMAPHORE_VALUE) n 0 (le-leb n MOST_SEMAPHORE_VALUE small) in
    let first_small = first_most first n k small in
    record {
      value = record { least = omega arith; most = omega (arith, v, first_small, small) };
      maximum = record { least = omega (arith, v, m, is, first_small, w.2, same); most = omega (arith, m, is, small) };
    }

-- the objects of a declaration
record ObjectsAre (k : written.Kind) : Type 0 where
  semaphores : AllByRecursion IsSemaphore (one_or_none (semaphore_of k))
  buffers : AllByRecursion (IsBuffer third_limits) (one_or_none (buffer_of k))
  blackboards : AllByRecursion (IsBlackboard third_limits) (one_or_none (blackboard_of k))

objects_are : (declared : List Entry) (k : written.Kind) → keeps_kind declared k ≡ true → ObjectsAre k
objects_are declared (written.Variable value) h = record { semaphores = tt; buffers = tt; blackboards = tt }
objects_are declared (written.Array size values) h = record { semaphores = tt; buffers = tt; blackboards = tt }
objects_are declared (written.Semaphore first maximum discipline) h =
    let parts = and_parts (is_between 1 MOST_SEMAPHORE_VALUE maximum) (value_at_most first maximum) h in
    record { semaphores = (semaphore_is first maximum _ parts.0 parts.1 refl refl, tt); buffers = tt; blackboards = tt }
objects_are declared written.Event h = record { semaphores = tt; buffers = tt; blackboards = tt }
objects_are declared (written.Buffer words messages discipline) h =
    let parts = and_parts (is_between 1 MOST_WORDS words) (is_between 1 MOST_DEPTH messages) h in
    record { semaphores = tt; buffers = (record { words = between_is 1 MOST_WORDS words parts.0; depth = between_is 1 MOST_DEPTH messages parts.1 }, tt); blackboards = tt }
objects_are declared (written.Blackboard words) h = record { semaphores = tt; buffers = tt; blackboards = (record { words = between_is 1 MOST_WORDS words h }, tt) }
objects_are declared written.Port h = record { semaphores = tt; buffers = tt; blackboards = tt }
objects_are declared (written.Procedure parameters body) h = record { semaphores = tt; buffers = tt; blackboards = tt }

pub each_option : {A : Type 0} (P : A → Type 0) (o : Option A) (xs : List A) → AllByRecursion P (one_or_none o) → AllByRecursion P xs → AllByRecursion P (cons_option o xs)
each_option P None xs a b = b
each_option P (Some x) xs a b = (a.0, b)

record AllObjectsAre (ds : List written.Declaration) : Type 0 where
  semaphores : AllByRecursion IsSemaphore (filter_map (λ (d : written.Declaration). semaphore_of d.kind) ds)
  buffers : AllByRecursion (IsBuffer third_limits) (filter_map (λ (d : written.Declaration). buffer_of d.kind) ds)
  blackboards : AllByRecursion (IsBlackboard third_limits) (filter_map (λ (d : written.Declaration). blackboard_of d.kind) ds)

all_objects_are : (declared : List Entry) (ds : List written.Declaration) → list_all (keeps_declaration declared) ds ≡ true → AllObjectsAre ds
all_objects_are declared [] keeps = record { semaphores = tt; buffers = tt; blackboards = tt }
all_objects_are declared (d ∷ ds) keeps =
    let kept = and_parts (keeps_declaration declared d) (list_all (keeps_declaration declared) ds) keeps in
    let one = objects_are declared d.kind (and_parts (is_name d.name) (keeps_kind declared d.kind) kept.0).1 in
    let rest = all_objects_are declared ds kept.1 in
    record {
      semaphores = each_option IsSemaphore (semaphore_of d.kind) _ one.semaphores rest.semaphores;
      buffers = each_option (IsBuffer third_limits) (buffer_of d.kind) _ one.buffers rest.buffers;
      blackboards = each_option (IsBlackboard third_limits) (blackboard_of d.kind) _ one.blackboards rest.blackboards;
    }

-- The objects of a program that keeps its limits. Its data are words.
pub objects_lawful : (ports : List PortRow) (p : written.Program) → keeps_counts no_counts p.declarations ≡ true → list_all (keeps_declaration (declared_entries ports p)) p.declarations ≡ true → All (FitsSigned w64) (resolve ports p).initial
    → AreObjects third_limits (objects_in (section_of (resolve ports p)))
objects_lawful ports p counts keeps words =
    let declared = declared_entries ports p in
    let t = all_totals declared p.declarations counts keeps in
    let o = all_objects_are declared p.declarations keeps in
    record {
      words = record { least = omega arith; most = omega (arith, t.words) };
      initial = each_beside (FitsSigned w64) [] _ (each_at (FitsSigned w64) _ words);
      semaphore_count = record { least = omega arith; most = omega (arith, t.semaphores) };
      semaphores = each_beside IsSemaphore [] _ o.semaphores;
      events = record { least = omega arith; most = t.events };
      buffer_count = record { least = omega arith; most = omega (arith, t.buffers) };
      buffers = each_beside (IsBuffer third_limits) [] _ o.buffers;
      blackboard_count = record { least = omega arith; most = omega (arith, t.blackboards) };
      blackboards = each_beside (IsBlackboard third_limits) [] _ o.blackboards;
    }

-- ---- first values

-- a number as it is read is at most 2^63 - 1
abbrev pub IsMagnitude : Option ℕ → Type 0
IsMagnitude None = Unit {0}
IsMagnitude (Some n) = n ≤ 2 ^ 63 - 1

abbrev pub AreMagnitudes : List written.Integer → Type 0
AreMagnitudes values = AllByRecursion (λ (i : written.Integer). IsMagnitude i.magnitude) values

-- the first values of a declaration
abbrev pub HasWords : written.Kind → Type 0
HasWords (written.Variable None) = Unit {0}
HasWords (written.Variable (Some i)) = IsMagnitude i.magnitude
HasWords (written.Array size values) = AreMagnitudes values
HasWords _ = Unit {0}

-- each first value of a program, as a text gives it
abbrev pub AreWords : written.Program → Type 0
AreWords p = AllByRecursion (λ (d : written.Declaration). HasWords d.kind) p.declarations

below_zero : (n : ℕ) → n ≤ 2 ^ 63 - 1 → FitsSigned w64 (pos 0 -ℤ pos n)
below_zero zero h = record { sfits = omega arith }
below_zero (suc n) h = cond_both (nat_le 1 (suc n)) (negsuc (suc n - 1)) (pos (0 - suc n)) (FitsSigned w64) (λ e. record { sfits = omega arith }) (λ e. record { sfits = omega arith })

word_is : (negative : Bool) (m : Option ℕ) → IsMagnitude m → FitsSigned w64 (cond negative (pos 0 -ℤ pos (value_or_zero m)) (pos (value_or_zero m)))
word_is true None h = record { sfits = omega (arith, ints) }
word_is true (Some n) h = below_zero n h
word_is false None h = record { sfits = omega (arith, ints) }
word_is false (Some n) h = record { sfits = omega (arith, ints) }

words_are : (values : List written.Integer) → AreMagnitudes values → AllByRecursion (FitsSigned w64) (map signed_word values)
words_are [] h = tt
words_are (i ∷ values) h = (word_is i.negative i.magnitude h.0, words_are values h.1)

zeros_are : (n : ℕ) → AllByRecursion (FitsSigned w64) (replicate n (pos 0))
zeros_are zero = tt
zeros_are (suc n) = (word_is false None tt, zeros_are n)

kind_words : (k : written.Kind) → HasWords k → AllByRecursion (FitsSigned w64) (words_of k)
kind_words (written.Variable None) h = (word_is false None tt, tt)
kind_words (written.Variable (Some i)) h = (word_is i.negative i.magnitude h, tt)
kind_words (written.Array size values) h = each_append (FitsSigned w64) (map signed_word values) _ (words_are values h) (zeros_are (within MOST_DATA_WORDS size - length values))
kind_words (written.Semaphore first maximum discipline) h = tt
kind_words written.Event h = tt
kind_words (written.Buffer words messages discipline) h = tt
kind_words (written.Blackboard words) h = tt
kind_words written.Port h = tt
kind_words (written.Procedure parameters body) h = tt
