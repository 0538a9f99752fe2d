-- The part of a module's trace that belongs to a partition is the trace it has on its own, with the
-- inputs that the run brings it.
use Rattle.isolation.proofs.Prelude.{◌≡◌, ◌≢◌, ℕ, zero, suc, ◌+◌, ◌<◌, ◌≤◌, Bool, true, false, List, ◌∷◌, ◌++◌, map, Option, Some, None, sym, ◌∙◌, arith, le_refl, append-nil, if◌then◌else◌, option_map, eq-eqb, ne_eqb, DeviceLine, At, PortRow, Plan, Course, module_tick, first_tick, next_tick, starts, Member, cold_start, Input, InputLine, goes, tick_alone, part, brought_tick, line_in, inputs_from, inputs_of, surroundings_of}
use Rattle.std.proofs.Common.{[], refl, ap, subst}
use Rattle.apex_types.specs.declared.codes.StartCondition.TheVariants as condition
use Rattle.module_meaning.specs.Module.{trace_from, trace}
use Rattle.isolation.specs.Alone.{is_in_tick, inputs_in, alone_from, trace_alone}
use Rattle.isolation.proofs.Lines.{AreFromDevice}
use Rattle.isolation.proofs.Now.{next_in, tick_in}
use Rattle.isolation.proofs.Steps.{IsApart, AreApart, Holds, SamePath, joined, starts_same}
use Rattle.isolation.proofs.Tick.{IsIsolating, tick_same}

-- ---- the lines of the inputs
in_append : (t : ℕ) (ls ks : List InputLine) → inputs_in t (ls ++ ks) ≡ inputs_in t ls ++ inputs_in t ks
in_append t [] ks = refl
in_append t (l ∷ ls) ks = either (is_in_tick t l) (in_append t ls ks)
  where
    either : (b : Bool) → inputs_in t (ls ++ ks) ≡ inputs_in t ls ++ inputs_in t ks
        → (if b then l.input ∷ inputs_in t (ls ++ ks) else inputs_in t (ls ++ ks)) ≡ (if b then l.input ∷ inputs_in t ls else inputs_in t ls) ++ inputs_in t ks
    either true h = ap (λ (is : List Input). l.input ∷ is) h
    either false h = h

in_their_tick : (t : ℕ) (is : List Input) → inputs_in t (map (line_in t) is) ≡ is
in_their_tick t [] = refl
in_their_tick t (i ∷ is) = ap (λ (b : Bool). if b then i ∷ inputs_in t (map (line_in t) is) else inputs_in t (map (line_in t) is)) (eq-eqb t t refl) ∙ ap (λ (js : List Input). i ∷ js) (in_their_tick t is)

in_another : (t u : ℕ) (is : List Input) → u ≢ t → inputs_in t (map (line_in u) is) ≡ []
in_another t u [] n = refl
in_another t u (i ∷ is) n = ap (λ (b : Bool). if b then i ∷ inputs_in t (map (line_in u) is) else inputs_in t (map (line_in u) is)) (ne_eqb u t n) ∙ in_another t u is n

-- no input comes in an earlier tick
none_earlier : {C : Type 0} (plan : Plan) (p : ℕ) (devices : List DeviceLine) (n : ℕ) (o : Option At) (ms : List (Member C)) (t : ℕ)
    → ((a : At) → o ≡ Some a → t < a.now.0) → inputs_in t (inputs_from plan p devices n o ms) ≡ []
none_earlier plan p devices zero o ms t h = refl
none_earlier plan p devices (suc n) None ms t h = refl
none_earlier plan p devices (suc n) (Some at) ms t h =
    let r = module_tick plan at devices ms in
    let now = h at refl in
    in_append t (map (line_in at.now.0) (brought_tick plan p at devices ms)) (inputs_from plan p devices n (option_map next_tick r.at) r.state)
    ∙ ap (λ (is : List Input). is ++ inputs_in t (inputs_from plan p devices n (option_map next_tick r.at) r.state)) (in_another t at.now.0 (brought_tick plan p at devices ms) (differ now))
    ∙ none_earlier plan p devices n (option_map next_tick r.at) r.state t (λ a e. later now a (next_in at.now.0 r.at a (tick_in plan devices at ms) e))
  where
    differ : t < at.now.0 → at.now.0 ≢ t
    differ l e = absurd (omega arith)

    later : t < at.now.0 → (a : At) → a.now.0 ≡ at.now.0 + 1 → t < a.now.0
    later l a e = omega arith

module _ {C : Type 0} (name : List ℕ) (place : ℕ) (names : List (List ℕ)) (apart : IsApart name place names) (all : AreApart names) (plan : Plan) (rows : List PortRow) (plain : IsIsolating plan (suc place) rows) (devices : List DeviceLine) (from : AreFromDevice plan.channels devices) where
  abbrev Is : List (Member C) → Member C → Type 0
  Is ms x = Holds {C = C} name place names apart ms x

  abbrev Goes : Course (List (Member C)) → Course (Member C) → Type 0
  Goes c d = SamePath {C = C} name place names apart c d

  -- the inputs that the run brings from here on are those in these lines
  abbrev AreThose : List InputLine → ℕ → Option At → List (Member C) → Type 0
  AreThose ls n o ms = (a : At) → o ≡ Some a → (t : ℕ) → a.now.0 ≤ t → inputs_in t ls ≡ inputs_in t (inputs_from plan (suc place) devices n o ms)

  here : (ls : List InputLine) (n : ℕ) (at : At) (ms : List (Member C)) → AreThose ls (suc n) (Some at) ms → inputs_in at.now.0 ls ≡ brought_tick plan (suc place) at devices ms
  here ls n at ms those =
      let r = module_tick plan at devices ms in
      let b = brought_tick plan (suc place) at devices ms in
      those at refl at.now.0 (le_refl at.now.0)
      ∙ in_append at.now.0 (map (line_in at.now.0) b) (inputs_from plan (suc place) devices n (option_map next_tick r.at) r.state)
      ∙ ap (λ (is : List Input). is ++ inputs_in at.now.0 (inputs_from plan (suc place) devices n (option_map next_tick r.at) r.state)) (in_their_tick at.now.0 b)
      ∙ ap (λ (is : List Input). b ++ is) (none_earlier plan (suc place) devices n (option_map next_tick r.at) r.state at.now.0 (λ a e. later a (next_in at.now.0 r.at a (tick_in plan devices at ms) e)))
      ∙ append-nil b
    where
      later : (a : At) → a.now.0 ≡ at.now.0 + 1 → at.now.0 < a.now.0
      later a e = omega arith

  then_those : (ls : List InputLine) (n : ℕ) (at : At) (ms : List (Member C)) → AreThose ls (suc n) (Some at) ms
      → AreThose ls n (option_map next_tick (module_tick plan at devices ms).at) (module_tick plan at devices ms).state
  then_those ls n at ms those a e t l =
      let r = module_tick plan at devices ms in
      let b = brought_tick plan (suc place) at devices ms in
      let now = next_in at.now.0 r.at a (tick_in plan devices at ms) e in
      those at refl t (before now l)
      ∙ in_append t (map (line_in at.now.0) b) (inputs_from plan (suc place) devices n (option_map next_tick r.at) r.state)
      ∙ ap (λ (is : List Input). is ++ inputs_in t (inputs_from plan (suc place) devices n (option_map next_tick r.at) r.state)) (in_another t at.now.0 b (differ now l))
    where
      before : a.now.0 ≡ at.now.0 + 1 → a.now.0 ≤ t → at.now.0 ≤ t
      before e l = omega arith

      differ : a.now.0 ≡ at.now.0 + 1 → a.now.0 ≤ t → at.now.0 ≢ t
      differ e l k = absurd (omega arith)

  from_same : (ls : List InputLine) (n : ℕ) (o : Option At) (ms : List (Member C)) (x : Member C) → Is ms x → AreThose ls n o ms
      → part name (trace_from plan devices n o ms) ≡ alone_from (surroundings_of plan (suc place) rows) ls n o x
  from_same ls zero o ms x h those = refl
  from_same ls (suc n) None ms x h those = refl
  from_same ls (suc n) (Some at) ms x h those =
      let s = surroundings_of plan (suc place) rows in
      let r = module_tick plan at devices ms in
      let b = brought_tick plan (suc place) at devices ms in
      let d = tick_alone s at b x in
      let one : Goes r d = tick_same name place names apart all plan rows plain devices from at ms x h in
      subst (λ (is : List Input). part name (r.lines ++ trace_from plan devices n (option_map next_tick r.at) r.state) ≡ (tick_alone s at is x).lines ++ alone_from s ls n (option_map next_tick (tick_alone s at is x).at) (tick_alone s at is x).state)
      (sym (here ls n at ms those))
      (joined name r.lines (trace_from plan devices n (option_map next_tick r.at) r.state) d.lines (alone_from s ls n (option_map next_tick d.at) d.state) one.lines
      (from_same ls n (option_map next_tick r.at) r.state d.state one.state (then_those ls n at ms those)
      ∙ ap (λ (o : Option At). alone_from s ls n (option_map next_tick o) d.state) one.at))

  -- A partition's part of the trace is the trace that the partition has on its own.
  pub isolated : (ms : List (Member C)) (x : Member C) → Is ms x → (n : ℕ)
      → part name (trace (record { plan = plan; members = ms }) devices n) ≡ trace_alone (record { around = surroundings_of plan (suc place) rows; member = x }) (inputs_of (record { plan = plan; members = ms }) (suc place) devices n) n
  isolated ms x h zero = refl
  isolated ms x h (suc n) =
      let s = starts_same name place names apart first_tick condition.NormalStart ms x h in
      let g = goes (cold_start first_tick condition.NormalStart) x in
      let ls = inputs_from plan (suc place) devices (suc n) (Some first_tick) (starts ms).state in
      joined name (starts ms).lines (trace_from plan devices (suc n) (Some first_tick) (starts ms).state) g.lines (alone_from (surroundings_of plan (suc place) rows) ls (suc n) (Some first_tick) g.state) s.lines
      (from_same ls (suc n) (Some first_tick) (starts ms).state g.state s.state (λ a e t l. refl))
