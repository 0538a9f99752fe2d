-- A control asks for some services only with numbers that fit, if the calls in its body and in procedures do.
use Rattle.std.proofs.Common.{◌≡◌, ℕ, zero, suc, ℤ, Bool, true, false, List, [], ◌∷◌, ◌++◌, length, Option, Some, None, refl, sym, subst, arith, inl, inr, ◌⊎◌}
use Rattle.std.specs.Prelude.{◌+◌, if◌then◌else◌, slice_get, take, drop, reverse, nat_eq, nat_lt, nat_le}
use Rattle.std.specs.List.{AllByRecursion}
use Rattle.std.proofs.lemmas.Bool.{eqb-true}
use Rattle.apex_types.specs.ServiceCalls.{call_of, array_of}
use Rattle.apex_types.specs.ServiceShape.{argument_words}
use Rattle.apex_types.specs.declared.codes.ErrorKind.{ErrorKind}
use Rattle.apex_types.specs.declared.codes.ErrorKind.TheVariants as error
use Rattle.apex_types.specs.declared.cost.Costs.{Costs}
use Rattle.apex_types.specs.declared.place.Place.{Place}
use Rattle.apex_types.specs.declared.place.Place.TheVariants.{Data, Slot}
use Rattle.apex_types.specs.declared.service.Call.{Call}
use Rattle.apex_types.specs.declared.service.Service.{Service}
use Rattle.engine_meaning.specs.Engine.{Engine, Ticked, Asks, Nothing, Calls, Faults, Ends}
use Rattle.engine_meaning.specs.Operators.{apply_binary, apply_unary, is_zero, element_at, has_array_within}
use Rattle.pal_meaning.specs.Program.{Program, Procedure, Body, Expr, Links, Exprs, Stmt, Block, Literal, Read, Element, Unary, Chain, Apply, NoLink, MoreLinks, NoExpr, MoreExprs, Assign, AssignElement, If, IfElse, While, Work, Return, CallService, NoStmt, MoreStmts, frame_of_procedure}
use Rattle.pal_meaning.specs.SourceControl.{Simple, Value, ReadScalar, ReadElement, OperateOne, OperateTwo, Open, WriteScalar, WriteElement, Choose, ChooseElse, Repeat, Leave, GoBack, Spend, ReturnValue, Ask, EndBody, Part, Evaluate, Execute, Do, OpenCall, SourceControl, Front, front, links_then, exprs_then, block_then, targets_then, front_of_expr, front_of_exprs, front_of_stmt, front_of, cost_of_simple, taken, goes_on, stays, value_or, word_at, write_at, writes, writes_slot, opens, gives_back, asks_service, effect, counts, tick_at, tick_awaiting, source_engine, source_reply, source_start}
use Rattle.lint_laws.specs.Numbers.{IsNumber, CallFits, StmtFits, BlockFits}

-- a request that is no call, or an allowed one
abbrev pub AsksAllowed : (Call → Type 0) → Asks → Type 0
AsksAllowed Allowed (Calls c) = Allowed c
AsksAllowed Allowed _ = Unit {0}

-- Some services take a number. A call of one of them is allowed if its number fits, and a call of any other service is allowed.
module _ (wanted : Service → Bool) (Fits : ℤ → Type 0) (Allowed : Call → Type 0) (plain : (s : Service) (words : List ℤ) → wanted s ≡ false → Allowed (call_of s words)) (allowed : (s : Service) (v : ℤ) (below : List ℤ) → wanted s ≡ true → Fits v → Allowed (call_of s (reverse (take (argument_words s) (v ∷ below))))) where
  -- ---- parts

  abbrev SimpleFits : Simple → Type 0
  SimpleFits (Choose block) = BlockFits wanted Fits block
  SimpleFits (ChooseElse block other) = BlockFits wanted Fits block × BlockFits wanted Fits other
  SimpleFits (Repeat test block) = BlockFits wanted Fits block
  SimpleFits (GoBack test block) = BlockFits wanted Fits block
  SimpleFits (Ask service) = wanted service ≡ false
  SimpleFits _ = Unit {0}

  abbrev PartFits : Part → Type 0
  PartFits (Evaluate expr) = Unit {0}
  PartFits (Execute stmt) = StmtFits wanted Fits stmt
  PartFits (Do construct) = SimpleFits construct

  abbrev PartsFit : List Part → Type 0
  PartsFit [] = Unit {0}
  PartsFit (p ∷ ps) = PartFits p × PartsFit ps

  links_fit : (links : Links) (rest : List Part) → PartsFit rest → PartsFit (links_then links rest)
  links_fit NoLink rest h = h
  links_fit (MoreLinks operator operand links) rest h = (tt, (tt, links_fit links rest h))

  exprs_fit : (exprs : Exprs) (rest : List Part) → PartsFit rest → PartsFit (exprs_then exprs rest)
  exprs_fit NoExpr rest h = h
  exprs_fit (MoreExprs expr exprs) rest h = (tt, exprs_fit exprs rest h)

  block_fits : (block : Block) (rest : List Part) → BlockFits wanted Fits block → PartsFit rest → PartsFit (block_then block rest)
  block_fits NoStmt rest b h = h
  block_fits (MoreStmts stmt block) rest b h = (b.0, block_fits block rest b.1 h)

  targets_fit : (places : List Place) (rest : List Part) → PartsFit rest → PartsFit (targets_then places rest)
  targets_fit [] rest h = h
  targets_fit (place ∷ places) rest h = (tt, targets_fit places rest h)

  -- ---- the front construct

  record IsFitting (f : Front) : Type 0 where
    construct : SimpleFits f.construct
    rest : PartsFit f.rest

  -- it makes a fitting number the argument of one of the services
  record IsNext (f : Front) : Type 0 where
    value : ℤ
    asked : Service
    rest : List Part
    is : f ≡ front (Value value) (Do (Ask asked) ∷ rest)
    limited : wanted asked ≡ true
    fits : Fits value
    others : PartsFit rest

  abbrev IsSafe : Front → Type 0
  IsSafe f = IsFitting f ⊎ IsNext f

  mutual
    expr_front : (e : Expr) (rest : List Part) → PartsFit rest → IsFitting (front_of_expr e rest)
    expr_front (Literal value) rest h = record { construct = tt; rest = h }
    expr_front (Read place) rest h = record { construct = tt; rest = h }
    expr_front (Element place size index) rest h = expr_front index (Do (ReadElement place size) ∷ rest) (tt, h)
    expr_front (Unary operator operand) rest h = expr_front operand (Do (OperateOne operator) ∷ rest) (tt, h)
    expr_front (Chain first links) rest h = expr_front first (links_then links rest) (links_fit links rest h)
    expr_front (Apply procedure arguments) rest h = exprs_front arguments (Open procedure) rest tt h

    exprs_front : (es : Exprs) (c : Simple) (rest : List Part) → SimpleFits c → PartsFit rest → IsFitting (front_of_exprs es c rest)
    exprs_front NoExpr c rest k h = record { construct = k; rest = h }
    exprs_front (MoreExprs expr exprs) c rest k h = expr_front expr (exprs_then exprs (Do c ∷ rest)) (exprs_fit exprs (Do c ∷ rest) (k, h))

  number_front : (s : Service) (es : Exprs) (rest : List Part) → wanted s ≡ true → IsNumber Fits es → PartsFit rest → IsSafe (front_of_exprs es (Ask s) rest)
  number_front s (MoreExprs (Literal v) NoExpr) rest e k h = inr (record { value = v; asked = s; rest = rest; is = refl; limited = e; fits = k; others = h })
  number_front s _ rest e k h = absurd k

  ask_front : (s : Service) (es : Exprs) (rest : List Part) → CallFits (wanted s) Fits es → PartsFit rest → IsSafe (front_of_exprs es (Ask s) rest)
  ask_front s es rest k h = by_test (wanted s) refl k
    where
      by_test : (b : Bool) → wanted s ≡ b → CallFits b Fits es → IsSafe (front_of_exprs es (Ask s) rest)
      by_test true e l = number_front s es rest e l h
      by_test false e l = inl (exprs_front es (Ask s) rest e h)

  stmt_front : (s : Stmt) (rest : List Part) → StmtFits wanted Fits s → PartsFit rest → IsSafe (front_of_stmt s rest)
  stmt_front (Assign place value) rest k h = inl (expr_front value (Do (WriteScalar place) ∷ rest) (tt, h))
  stmt_front (AssignElement place size index value) rest k h = inl (expr_front index (Evaluate value ∷ Do (WriteElement place size) ∷ rest) (tt, (tt, h)))
  stmt_front (If test block) rest k h = inl (expr_front test (Do (Choose block) ∷ rest) (k, h))
  stmt_front (IfElse test block other) rest k h = inl (expr_front test (Do (ChooseElse block other) ∷ rest) (k, h))
  stmt_front (While test block) rest k h = inl (expr_front test (Do (Repeat test block) ∷ rest) (k, h))
  stmt_front (Work ticks) rest k h = inl (record { construct = tt; rest = h })
  stmt_front (Return value) rest k h = inl (expr_front value (Do ReturnValue ∷ rest) (tt, h))
  stmt_front (CallService s arguments targets) rest k h = ask_front s arguments (targets_then targets rest) k (targets_fit targets rest h)

  parts_front : (ps : List Part) → PartsFit ps → IsSafe (front_of ps)
  parts_front [] h = inl (record { construct = tt; rest = tt })
  parts_front (Evaluate expr ∷ rest) h = inl (expr_front expr rest h.1)
  parts_front (Execute stmt ∷ rest) h = stmt_front stmt rest h.0 h.1
  parts_front (Do construct ∷ rest) h = inl (record { construct = h.0; rest = h.1 })

  -- ---- controls

  -- one of the services is asked for next, with a fitting number
  record IsAsking (parts : List Part) (values : List ℤ) (awaits : ℕ) : Type 0 where
    asked : Service
    rest : List Part
    value : ℤ
    below : List ℤ
    parts_are : parts ≡ Do (Ask asked) ∷ rest
    values_are : values ≡ value ∷ below
    awaits_none : awaits ≡ 0
    limited : wanted asked ≡ true
    fits : Fits value
    others : PartsFit rest

  abbrev CallersFit : List OpenCall → Type 0
  CallersFit [] = Unit {0}
  CallersFit (c ∷ cs) = PartsFit c.parts × CallersFit cs

  -- a control that asks for these services only with fitting numbers
  pub record AsksOnly (c : SourceControl) : Type 0 where
    parts : PartsFit c.parts ⊎ IsAsking c.parts c.values c.awaits
    callers : CallersFit c.callers

  pub record TicksSafely (t : Ticked SourceControl) : Type 0 where
    pub control : AsksOnly t.control
    pub asks : AsksAllowed Allowed t.asks

  -- an engine by which controls stay so
  pub record IsSafeEngine (e : Engine SourceControl) : Type 0 where
    pub tick : (c : SourceControl) (words : List ℤ) → AsksOnly c → TicksSafely (e.tick c words)
    pub reply : (c : SourceControl) (answer : List ℤ) → AsksOnly c → AsksOnly (e.reply c answer)

  either : (b : Bool) (s t : Ticked SourceControl) → TicksSafely s → TicksSafely t → TicksSafely (if b then s else t)
  either true s t h k = h
  either false s t h k = k

  either_parts : (b : Bool) (ps qs : List Part) → PartsFit ps → PartsFit qs → PartsFit (if b then ps else qs)
  either_parts true ps qs h k = h
  either_parts false ps qs h k = k

  procedure_fits : (ps : List Procedure) (place : ℕ) (p : Procedure) → AllByRecursion (λ q. BlockFits wanted Fits q.block) ps → slice_get ps place ≡ Some p → BlockFits wanted Fits p.block
  procedure_fits [] place p h e = absurd (cc)
  procedure_fits (q ∷ qs) zero p h e = subst (λ (x : Option Procedure). OfSome x) e h.0
    where
      OfSome : Option Procedure → Type 0
      OfSome None = Unit {0}
      OfSome (Some x) = BlockFits wanted Fits x.block
  procedure_fits (q ∷ qs) (suc place) p h e = procedure_fits qs place p h.1 e

  module _ (program : Program) (safe : AllByRecursion (λ p. BlockFits wanted Fits p.block) program.procedures) where
    -- ---- a tick
    module _ (c : SourceControl) (h : AsksOnly c) where
      goes : (rest : List Part) (values words : List ℤ) → PartsFit rest → TicksSafely (goes_on c rest values words)
      goes rest values words k = record { control = record { parts = inl k; callers = h.callers }; asks = tt }

      stay : (words : List ℤ) (asks : Asks) → AsksAllowed Allowed asks → TicksSafely (stays c words asks)
      stay words asks k = record { control = h; asks = k }

      value_goes : (e : ErrorKind) (o : Option ℤ) (rest : List Part) (values words : List ℤ) → PartsFit rest → TicksSafely (value_or e o c rest values words)
      value_goes e None rest values words k = stay words (Faults e) tt
      value_goes e (Some v) rest values words k = goes rest (v ∷ values) words k

      writes_go : (o : Option (List ℤ)) (rest : List Part) (values words : List ℤ) → PartsFit rest → TicksSafely (writes o c rest values words)
      writes_go None rest values words k = stay words (Faults error.MemoryViolation) tt
      writes_go (Some new) rest values words k = goes rest values new k

      slot_goes : (o : Option (List ℤ)) (rest : List Part) (values words : List ℤ) → PartsFit rest → TicksSafely (writes_slot o c rest values words)
      slot_goes None rest values words k = stay words (Faults error.MemoryViolation) tt
      slot_goes (Some new) rest values words k = record { control = record { parts = inl k; callers = h.callers }; asks = tt }

      opens_go : (o : Option Procedure) (rest : List Part) (values words : List ℤ) → ((p : Procedure) → o ≡ Some p → BlockFits wanted Fits p.block) → PartsFit rest → TicksSafely (opens o c rest values words)
      opens_go None rest values words is k = stay words (Faults error.IllegalRequest) tt
      opens_go (Some p) rest values words is k =
          either (nat_le (taken (record { parts = rest; values = drop p.parameters values; slots = c.slots } ∷ c.callers) + frame_of_procedure p) c.stack) _ _
          (record { control = record { parts = inl (block_fits p.block _ (is p refl) (tt, (tt, tt))); callers = (k, h.callers) }; asks = tt })
          (stay words (Faults error.StackOverflow) tt)

      gives_go : (callers : List OpenCall) (v : ℤ) (words : List ℤ) → CallersFit callers → TicksSafely (gives_back callers v c words)
      gives_go [] v words k = stay words (Faults error.MemoryViolation) tt
      gives_go (d ∷ ds) v words k = record { control = record { parts = inl k.0; callers = k.1 }; asks = tt }

      asks_go : (s : Service) (d : Call) (rest : List Part) (values words : List ℤ) → Allowed d → PartsFit rest → TicksSafely (asks_service s d c rest values words)
      asks_go s d rest values words is k = either (has_array_within (length words) (array_of d)) _ _ (record { control = record { parts = inl k; callers = h.callers }; asks = is }) (stay words (Faults error.MemoryViolation) tt)

      effect_goes : (s : Simple) (rest : List Part) (values words : List ℤ) → SimpleFits s → PartsFit rest → TicksSafely (effect program s rest c values words)
      effect_goes (Value v) rest values words is k = goes rest (v ∷ values) words k
      effect_goes (ReadScalar (Data x)) rest values words is k = value_goes error.MemoryViolation (slice_get words x) rest values words k
      effect_goes (ReadScalar (Slot x)) rest values words is k = value_goes error.MemoryViolation (slice_get c.slots x) rest values words k
      effect_goes (ReadElement place size) rest (i ∷ values) words is k = value_goes error.MemoryViolation (word_at words (element_at words place size i)) rest values words k
      effect_goes (OperateOne operator) rest (a ∷ values) words is k = value_goes error.NumericError (apply_unary operator a) rest values words k
      effect_goes (OperateTwo operator) rest (b ∷ a ∷ values) words is k = value_goes error.NumericError (apply_binary operator a b) rest values words k
      effect_goes (Open procedure) rest values words is k = opens_go (slice_get program.procedures procedure) rest values words (λ p e. procedure_fits program.procedures procedure p safe e) k
      effect_goes (WriteScalar (Data x)) rest (v ∷ values) words is k = writes_go (write_at words (Some x) v) rest values words k
      effect_goes (WriteScalar (Slot x)) rest (v ∷ values) words is k = slot_goes (write_at c.slots (Some x) v) rest values words k
      effect_goes (WriteElement place size) rest (v ∷ i ∷ values) words is k = writes_go (write_at words (element_at words place size i) v) rest values words k
      effect_goes (Choose block) rest (v ∷ values) words is k = goes _ values words (either_parts (is_zero v) _ _ k (block_fits block rest is k))
      effect_goes (ChooseElse block other) rest (v ∷ values) words is k = goes _ values words (either_parts (is_zero v) _ _ (block_fits other rest is.1 k) (block_fits block (Do Leave ∷ rest) is.0 (tt, k)))
      effect_goes (Repeat test block) rest (v ∷ values) words is k = goes _ values words (either_parts (is_zero v) _ _ k (block_fits block (Do (GoBack test block) ∷ rest) is (is, k)))
      effect_goes Leave rest values words is k = goes rest values words k
      effect_goes (GoBack test block) rest values words is k = goes (Execute (While test block) ∷ rest) values words (is, k)
      effect_goes (Spend ticks) rest values words is k = goes rest values words k
      effect_goes ReturnValue rest (v ∷ values) words is k = gives_go c.callers v words h.callers
      effect_goes (Ask s) rest values words is k = asks_go s (call_of s (reverse (take (argument_words s) values))) rest (drop (argument_words s) values) words (plain s _ is) k
      effect_goes EndBody rest values words is k = stay words Ends tt
      effect_goes _ rest values words is k = stay words (Faults error.IllegalRequest) tt

      counted : (words : List ℤ) → TicksSafely (counts c words)
      counted words = record { control = record { parts = h.parts; callers = h.callers }; asks = tt }

      fitting_ticks : (costs : Costs) (f : Front) (words : List ℤ) → IsFitting f → TicksSafely (tick_at costs program f c words)
      fitting_ticks costs f words is = either (nat_lt (c.spent + 1) (cost_of_simple costs f.construct)) _ _ (counted words) (effect_goes f.construct f.rest c.values words is.construct is.rest)

      number_ticks : (costs : Costs) (f : Front) (words : List ℤ) → IsNext f → TicksSafely (tick_at costs program f c words)
      number_ticks costs f words is =
          subst (λ (g : Front). TicksSafely (tick_at costs program g c words)) (sym is.is)
          (either (nat_lt (c.spent + 1) (cost_of_simple costs (Value is.value))) _ _ (counted words)
          (record { control = record { parts = inr (record { asked = is.asked; rest = is.rest; value = is.value; below = c.values; parts_are = refl; values_are = refl; awaits_none = refl; limited = is.limited; fits = is.fits; others = is.others }); callers = h.callers }; asks = tt }))

      asking_ticks : (costs : Costs) (words : List ℤ) → IsAsking c.parts c.values c.awaits → TicksSafely (tick_at costs program (front_of c.parts) c words)
      asking_ticks costs words is =
          subst (λ (ps : List Part). TicksSafely (tick_at costs program (front_of ps) c words)) (sym is.parts_are)
          (either (nat_lt (c.spent + 1) (cost_of_simple costs (Ask is.asked))) _ _ (counted words)
          (subst (λ (vs : List ℤ). TicksSafely (effect program (Ask is.asked) is.rest c vs words)) (sym is.values_are)
          (asks_go is.asked _ is.rest _ words (allowed is.asked is.value is.below is.limited is.fits) is.others)))

      ticks_by : (costs : Costs) (words : List ℤ) (awaits : ℕ) → TicksSafely (tick_awaiting costs program awaits c words)
      ticks_by costs words zero = by_parts h.parts
        where
          by_front : IsSafe (front_of c.parts) → TicksSafely (tick_at costs program (front_of c.parts) c words)
          by_front (inl is) = fitting_ticks costs (front_of c.parts) words is
          by_front (inr is) = number_ticks costs (front_of c.parts) words is

          by_parts : PartsFit c.parts ⊎ IsAsking c.parts c.values c.awaits → TicksSafely (tick_at costs program (front_of c.parts) c words)
          by_parts (inl k) = by_front (parts_front c.parts k)
          by_parts (inr k) = asking_ticks costs words k
      ticks_by costs words (suc n) = stay words Nothing tt

    -- ---- a reply

    replies : (c : SourceControl) (answer : List ℤ) → AsksOnly c → AsksOnly (source_reply c answer)
    replies c answer h = by_test answer (nat_eq (length answer) c.awaits) refl
      where
        with_answer : List ℤ → SourceControl
        with_answer ws = record { parts = c.parts; values = ws ++ c.values; slots = c.slots; callers = c.callers; spent = c.spent; awaits = 0; stack = c.stack }

        parts_after : (ws : List ℤ) → length ws ≡ c.awaits → PartsFit c.parts ⊎ IsAsking c.parts c.values c.awaits → PartsFit c.parts ⊎ IsAsking c.parts (ws ++ c.values) 0
        parts_after ws e (inl k) = inl k
        parts_after [] e (inr k) = inr (record { asked = k.asked; rest = k.rest; value = k.value; below = k.below; parts_are = k.parts_are; values_are = k.values_are; awaits_none = refl; limited = k.limited; fits = k.fits; others = k.others })
        parts_after (w ∷ ws) e (inr k) = absurd (omega (arith, e, k.awaits_none))

        by_test : (ws : List ℤ) (b : Bool) → nat_eq (length ws) c.awaits ≡ b → AsksOnly (if b then with_answer ws else c)
        by_test ws true e = record { parts = parts_after ws (eqb-true (length ws) c.awaits e) h.parts; callers = h.callers }
        by_test ws false e = h

    pub engine_is_safe : (costs : Costs) → IsSafeEngine (source_engine costs program)
    engine_is_safe costs = record {
      tick = λ c words h. ticks_by c h costs words c.awaits;
      reply = λ c answer h. replies c answer h;
    }

    pub starts_safely : (b : Body) → BlockFits wanted Fits b.block → AsksOnly (source_start b)
    starts_safely b k = record { parts = inl (block_fits b.block _ k (tt, tt)); callers = tt }
