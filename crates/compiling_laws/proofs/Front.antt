-- If the code does the parts that are left, it also does them after the front construct is
-- unfolded.
use Rattle.compiling_laws.proofs.Prelude.{◌≡◌, ℕ, ◌+◌, ◌-◌, ◌≤◌, ◌<◌, List, ◌∷◌, ◌++◌, length, map, Option, Some, None, refl, subst, length-append, option_map, slice_get, Place, Procedure, Expr, Links, Exprs, Stmt, Block, Literal, Read, Element, Unary, Chain, Apply, NoLink, MoreLinks, NoExpr, MoreExprs, Assign, AssignElement, If, IfElse, While, Work, Return, CallService, NoStmt, MoreStmts, number_of, argument_words, answer_words, size_of_expr, size_of_links, size_of_exprs, size_of_stmt, size_of_block, operands_of_expr, operands_of_links, operands_of_exprs, operands_of_stmt, operands_of_block, count_of, FitsLinks, FitsExprs, ArePlacesWithin, store, expr_code, links_code, exprs_code, stmt_code, block_code, Part, Evaluate, Execute, Do, Simple, ReadElement, OperateOne, Open, WriteScalar, WriteElement, Choose, ChooseElse, Repeat, ReturnValue, Ask, Front, links_then, exprs_then, block_then, targets_then, front_of_expr, front_of_exprs, front_of_stmt, front_of, Code, HasAt, Limits, Goes}
use Rattle.std.proofs.Common.{[], arith}
use Rattle.apex_types.specs.declared.instruction.Instr.TheVariants as instr
use Rattle.compiling_laws.specs.Related.{ExprAt, StmtAt, BlockAt}
use Rattle.compiling_laws.proofs.Sizes.{expr_size, exprs_size, stmt_size, block_size}
use Rattle.compiling_laws.proofs.Placed.{has_front, has_back}

-- the procedure that is called, from how many parameters it has
procedure_with : (o : Option Procedure) (n : ℕ) → option_map (λ (p : Procedure). p.parameters) o ≡ Some n → (p : Procedure) × (o ≡ Some p) × (p.parameters ≡ n)
procedure_with None n h = absurd cc
procedure_with (Some p) n h = (p, refl, cc)

abbrev pub unfolded : Front → List Part
unfolded f = Do f.construct ∷ f.rest

module _ (code : Code) (ps : List Procedure) (k : Limits) where
  pub moved : (r : List Part) (p q n m : ℕ) → p ≡ q → n ≡ m → Goes code ps k p n r → Goes code ps k q m r
  moved r p q n m e f g = subst (λ y. Goes code ps k q y r) f (subst (λ x. Goes code ps k x n r) e g)

  links_goes : (ls : Links) (r : List Part) (pc n : ℕ) → HasAt code pc (links_code ls) → FitsLinks ps k.slots ls → n + operands_of_links ls ≤ k.room → Goes code ps k (pc + size_of_links ls) (n + 1) r → Goes code ps k pc (n + 1) (links_then ls r)
  links_goes NoLink r pc n has fits room g = let p : pc + 0 ≡ pc = omega arith in moved r (pc + 0) pc (n + 1) (n + 1) p refl g
  links_goes (MoreLinks operator e ls) r pc n has fits room g =
      let back = has_back code pc (size_of_expr e) (expr_code e) (instr.Binary operator ∷ links_code ls) (expr_size e) has in
      let room_e : n + 1 + operands_of_expr e ≤ k.room = omega arith in
      let room_ls : n + operands_of_links ls ≤ k.room = omega arith in
      let two : 2 ≤ n + 1 + 1 = omega arith in
      let at : pc + size_of_links (MoreLinks operator e ls) ≡ pc + size_of_expr e + 1 + size_of_links ls = omega arith in
      let less : n + 1 ≡ n + 1 + 1 - 1 = omega arith in
      let later = links_goes ls r (pc + size_of_expr e + 1) n back.1 fits.1 room_ls (moved r _ _ _ _ at refl g) in
      (record { has = has_front code pc (expr_code e) (instr.Binary operator ∷ links_code ls) has; fits = fits.0; room = room_e }, (back.0, two, moved (links_then ls r) (pc + size_of_expr e + 1) (pc + size_of_expr e + 1) _ _ refl less later))

  exprs_goes : (es : Exprs) (r : List Part) (pc n : ℕ) → HasAt code pc (exprs_code es) → FitsExprs ps k.slots es → n + operands_of_exprs es ≤ k.room → Goes code ps k (pc + size_of_exprs es) (n + count_of es) r → Goes code ps k pc n (exprs_then es r)
  exprs_goes NoExpr r pc n has fits room g =
      let p : pc + 0 ≡ pc = omega arith in
      let q : n + 0 ≡ n = omega arith in
      moved r (pc + 0) pc (n + 0) n p q g
  exprs_goes (MoreExprs e es) r pc n has fits room g =
      let back = has_back code pc (size_of_expr e) (expr_code e) (exprs_code es) (expr_size e) has in
      let room_e : n + operands_of_expr e ≤ k.room = omega arith in
      let room_es : n + 1 + operands_of_exprs es ≤ k.room = omega arith in
      let at : pc + size_of_exprs (MoreExprs e es) ≡ pc + size_of_expr e + size_of_exprs es = omega arith in
      let more : n + (count_of es + 1) ≡ n + 1 + count_of es = omega arith in
      (record { has = has_front code pc (expr_code e) (exprs_code es) has; fits = fits.0; room = room_e }, exprs_goes es r (pc + size_of_expr e) (n + 1) back fits.1 room_es (moved r _ _ _ _ at more g))

  targets_goes : (ts : List Place) (r : List Part) (pc n : ℕ) → HasAt code pc (map store ts) → ArePlacesWithin k.slots ts → Goes code ps k (pc + length ts) n r → Goes code ps k pc (n + length ts) (targets_then ts r)
  targets_goes [] r pc n has fits g =
      let p : pc + 0 ≡ pc = omega arith in
      let q : n ≡ n + 0 = omega arith in
      moved r (pc + 0) pc n (n + 0) p q g
  targets_goes (t ∷ ts) r pc n has fits g =
      let one : 1 ≤ n + length (t ∷ ts) = omega arith in
      let at : pc + length (t ∷ ts) ≡ pc + 1 + length ts = omega arith in
      let less : n + length ts ≡ n + length (t ∷ ts) - 1 = omega arith in
      (has.0, fits.0, one, moved (targets_then ts r) (pc + 1) (pc + 1) _ _ refl less (targets_goes ts r (pc + 1) n has.1 fits.1 (moved r _ _ n n at refl g)))

  pub block_goes : (b : Block) (r : List Part) (pc n : ℕ) → BlockAt code ps k pc n b → Goes code ps k (pc + size_of_block b) n r → Goes code ps k pc n (block_then b r)
  block_goes NoStmt r pc n b g = let p : pc + 0 ≡ pc = omega arith in moved r (pc + 0) pc n n p refl g
  block_goes (MoreStmts s ss) r pc n b g =
      let later = block_code k.slots (pc + size_of_stmt s) ss in
      let back = has_back code pc (size_of_stmt s) (stmt_code k.slots pc s) later (stmt_size s k.slots pc) b.has in
      let room = b.room in
      let room_s : n + operands_of_stmt s ≤ k.room = omega arith in
      let room_ss : n + operands_of_block ss ≤ k.room = omega arith in
      let at : pc + size_of_block (MoreStmts s ss) ≡ pc + size_of_stmt s + size_of_block ss = omega arith in
      (record { has = has_front code pc (stmt_code k.slots pc s) later b.has; fits = b.fits.0; room = room_s }, block_goes ss r (pc + size_of_stmt s) n (record { has = back; fits = b.fits.1; room = room_ss }) (moved r _ _ n n at refl g))

  mutual
    pub front_expr : (e : Expr) (r : List Part) (pc n : ℕ) → ExprAt code ps k pc n e → Goes code ps k (pc + size_of_expr e) (n + 1) r → Goes code ps k pc n (unfolded (front_of_expr e r))
    front_expr (Literal v) r pc n h g =
        let room = h.room in
        let new : n < k.room = omega arith in
        (h.has.0, new, g)
    front_expr (Read place) r pc n h g =
        let room = h.room in
        let new : n < k.room = omega arith in
        (h.has.0, h.fits, new, g)
    front_expr (Element place size index) r pc n h g =
        let i = instr.LoadElement place size ∷ [] in
        let back = has_back code pc (size_of_expr index) (expr_code index) i (expr_size index) h.has in
        let one : 1 ≤ n + 1 = omega arith in
        let at : pc + size_of_expr (Element place size index) ≡ pc + size_of_expr index + 1 = omega arith in
        front_expr index (Do (ReadElement place size) ∷ r) pc n (record { has = has_front code pc (expr_code index) i h.has; fits = h.fits; room = h.room }) (back.0, one, moved r _ _ (n + 1) (n + 1) at refl g)
    front_expr (Unary operator e) r pc n h g =
        let i = instr.Unary operator ∷ [] in
        let back = has_back code pc (size_of_expr e) (expr_code e) i (expr_size e) h.has in
        let one : 1 ≤ n + 1 = omega arith in
        let at : pc + size_of_expr (Unary operator e) ≡ pc + size_of_expr e + 1 = omega arith in
        front_expr e (Do (OperateOne operator) ∷ r) pc n (record { has = has_front code pc (expr_code e) i h.has; fits = h.fits; room = h.room }) (back.0, one, moved r _ _ (n + 1) (n + 1) at refl g)
    front_expr (Chain e ls) r pc n h g =
        let back = has_back code pc (size_of_expr e) (expr_code e) (links_code ls) (expr_size e) h.has in
        let room = h.room in
        let room_e : n + operands_of_expr e ≤ k.room = omega arith in
        let room_ls : n + operands_of_links ls ≤ k.room = omega arith in
        let at : pc + size_of_expr (Chain e ls) ≡ pc + size_of_expr e + size_of_links ls = omega arith in
        front_expr e (links_then ls r) pc n (record { has = has_front code pc (expr_code e) (links_code ls) h.has; fits = h.fits.0; room = room_e }) (links_goes ls r (pc + size_of_expr e) n back h.fits.1 room_ls (moved r _ _ (n + 1) (n + 1) at refl g))
    front_expr (Apply f es) r pc n h g =
        let i = instr.Call f ∷ [] in
        let back = has_back code pc (size_of_exprs es) (exprs_code es) i (exprs_size es) h.has in
        let called = procedure_with (slice_get ps f) (count_of es) h.fits.0 in
        let p = called.0 in
        let arity : p.parameters ≡ count_of es = called.2 in
        let room = h.room in
        let room_es : n + operands_of_exprs es ≤ k.room = omega arith in
        let handed : p.parameters ≤ n + count_of es = omega arith in
        let new : n + count_of es - p.parameters < k.room = omega arith in
        let at : pc + size_of_expr (Apply f es) ≡ pc + size_of_exprs es + 1 = omega arith in
        let left : n + 1 ≡ n + count_of es - p.parameters + 1 = omega arith in
        front_exprs es (Open f) r pc n (has_front code pc (exprs_code es) i h.has) h.fits.1 room_es (back.0, (p, called.1, handed, new, moved r _ _ _ _ at left g))

    pub front_exprs : (es : Exprs) (c : Simple) (r : List Part) (pc n : ℕ) → HasAt code pc (exprs_code es) → FitsExprs ps k.slots es → n + operands_of_exprs es ≤ k.room → Goes code ps k (pc + size_of_exprs es) (n + count_of es) (Do c ∷ r) → Goes code ps k pc n (unfolded (front_of_exprs es c r))
    front_exprs NoExpr c r pc n has fits room g =
        let p : pc + 0 ≡ pc = omega arith in
        let q : n + 0 ≡ n = omega arith in
        moved (Do c ∷ r) (pc + 0) pc (n + 0) n p q g
    front_exprs (MoreExprs e es) c r pc n has fits room g =
        let back = has_back code pc (size_of_expr e) (expr_code e) (exprs_code es) (expr_size e) has in
        let room_e : n + operands_of_expr e ≤ k.room = omega arith in
        let room_es : n + 1 + operands_of_exprs es ≤ k.room = omega arith in
        let at : pc + size_of_exprs (MoreExprs e es) ≡ pc + size_of_expr e + size_of_exprs es = omega arith in
        let more : n + (count_of es + 1) ≡ n + 1 + count_of es = omega arith in
        front_expr e (exprs_then es (Do c ∷ r)) pc n (record { has = has_front code pc (expr_code e) (exprs_code es) has; fits = fits.0; room = room_e }) (exprs_goes es (Do c ∷ r) (pc + size_of_expr e) (n + 1) back fits.1 room_es (moved (Do c ∷ r) _ _ _ _ at more g))

  pub front_stmt : (s : Stmt) (r : List Part) (pc n : ℕ) → StmtAt code ps k pc n s → Goes code ps k (pc + size_of_stmt s) n r → Goes code ps k pc n (unfolded (front_of_stmt s r))
  front_stmt (Assign place e) r pc n h g =
      let i = store place ∷ [] in
      let back = has_back code pc (size_of_expr e) (expr_code e) i (expr_size e) h.has in
      let one : 1 ≤ n + 1 = omega arith in
      let at : pc + size_of_stmt (Assign place e) ≡ pc + size_of_expr e + 1 = omega arith in
      let less : n ≡ n + 1 - 1 = omega arith in
      front_expr e (Do (WriteScalar place) ∷ r) pc n (record { has = has_front code pc (expr_code e) i h.has; fits = h.fits.1; room = h.room }) (back.0, h.fits.0, one, moved r _ _ _ _ at less g)
  front_stmt (AssignElement place size index e) r pc n h g =
      let i = instr.StoreElement place size ∷ [] in
      let both : length (expr_code index ++ expr_code e) ≡ size_of_expr index + size_of_expr e = omega (arith, length-append (expr_code index) (expr_code e), expr_size index, expr_size e) in
      let back = has_back code pc (size_of_expr index + size_of_expr e) (expr_code index ++ expr_code e) i both h.has in
      let there = has_front code pc (expr_code index ++ expr_code e) i h.has in
      let room = h.room in
      let room_index : n + operands_of_expr index ≤ k.room = omega arith in
      let room_e : n + 1 + operands_of_expr e ≤ k.room = omega arith in
      let two : 2 ≤ n + 1 + 1 = omega arith in
      let at : pc + size_of_stmt (AssignElement place size index e) ≡ pc + size_of_expr index + size_of_expr e + 1 = omega arith in
      let less : n ≡ n + 1 + 1 - 2 = omega arith in
      let here : pc + (size_of_expr index + size_of_expr e) ≡ pc + size_of_expr index + size_of_expr e = omega arith in
      let value : ExprAt code ps k (pc + size_of_expr index) (n + 1) e = record { has = has_back code pc (size_of_expr index) (expr_code index) (expr_code e) (expr_size index) there; fits = h.fits.1; room = room_e } in
      front_expr index (Evaluate e ∷ Do (WriteElement place size) ∷ r) pc n (record { has = has_front code pc (expr_code index) (expr_code e) there; fits = h.fits.0; room = room_index }) (value, ((subst (λ p. HasAt code p i) here back).0, two, moved r _ _ _ _ at less g))
  front_stmt (If test block) r pc n h g =
      let inside = pc + size_of_expr test + 1 in
      let later = block_code k.slots inside block in
      let i = instr.JumpIfZero (inside + size_of_block block) in
      let back = has_back code pc (size_of_expr test) (expr_code test) (i ∷ later) (expr_size test) h.has in
      let room = h.room in
      let room_test : n + operands_of_expr test ≤ k.room = omega arith in
      let room_block : n + 1 - 1 + operands_of_block block ≤ k.room = omega arith in
      let one : 1 ≤ n + 1 = omega arith in
      let at : pc + size_of_stmt (If test block) ≡ inside + size_of_block block = omega arith in
      let less : n ≡ n + 1 - 1 = omega arith in
      front_expr test (Do (Choose block) ∷ r) pc n (record { has = has_front code pc (expr_code test) (i ∷ later) h.has; fits = h.fits.0; room = room_test }) (back.0, one, record { has = back.1; fits = h.fits.1; room = room_block }, moved r _ _ _ _ at less g)
  front_stmt (IfElse test block other) r pc n h g =
      let inside = pc + size_of_expr test + 1 in
      let behind = inside + size_of_block block + 1 in
      let after = behind + size_of_block other in
      let first = block_code k.slots inside block in
      let second = block_code k.slots behind other in
      let i = instr.JumpIfZero behind in
      let j = instr.Jump after in
      let both : length (expr_code test ++ i ∷ first) ≡ size_of_expr test + 1 + size_of_block block = omega (arith, length-append (expr_code test) (i ∷ first), expr_size test, block_size block k.slots inside) in
      let there = has_front code pc (expr_code test ++ i ∷ first) (j ∷ second) h.has in
      let back = has_back code pc (size_of_expr test) (expr_code test) (i ∷ first) (expr_size test) there in
      let here : pc + (size_of_expr test + 1 + size_of_block block) ≡ inside + size_of_block block = omega arith in
      let last = subst (λ p. HasAt code p (j ∷ second)) here (has_back code pc (size_of_expr test + 1 + size_of_block block) (expr_code test ++ i ∷ first) (j ∷ second) both h.has) in
      let room = h.room in
      let room_test : n + operands_of_expr test ≤ k.room = omega arith in
      let room_block : n + 1 - 1 + operands_of_block block ≤ k.room = omega arith in
      let room_other : n + 1 - 1 + operands_of_block other ≤ k.room = omega arith in
      let one : 1 ≤ n + 1 = omega arith in
      let at : pc + size_of_stmt (IfElse test block other) ≡ after = omega arith in
      let less : n ≡ n + 1 - 1 = omega arith in
      front_expr test (Do (ChooseElse block other) ∷ r) pc n (record { has = has_front code pc (expr_code test) (i ∷ first) there; fits = h.fits.0; room = room_test }) (back.0, one, record { has = back.1; fits = h.fits.1; room = room_block }, last.0, record { has = last.1; fits = h.fits.2; room = room_other }, moved r _ _ _ _ at less g)
  front_stmt (While test block) r pc n h g =
      let inside = pc + size_of_expr test + 1 in
      let last = inside + size_of_block block in
      let first = block_code k.slots inside block in
      let i = instr.JumpIfZero (last + 1) in
      let j = instr.Jump pc in
      let both : length (expr_code test ++ i ∷ first) ≡ size_of_expr test + 1 + size_of_block block = omega (arith, length-append (expr_code test) (i ∷ first), expr_size test, block_size block k.slots inside) in
      let there = has_front code pc (expr_code test ++ i ∷ first) (j ∷ []) h.has in
      let back = has_back code pc (size_of_expr test) (expr_code test) (i ∷ first) (expr_size test) there in
      let here : pc + (size_of_expr test + 1 + size_of_block block) ≡ last = omega arith in
      let jump = subst (λ p. HasAt code p (j ∷ [])) here (has_back code pc (size_of_expr test + 1 + size_of_block block) (expr_code test ++ i ∷ first) (j ∷ []) both h.has) in
      let room = h.room in
      let room_test : n + operands_of_expr test ≤ k.room = omega arith in
      let room_block : n + 1 - 1 + operands_of_block block ≤ k.room = omega arith in
      let room_again : n + 1 - 1 + operands_of_stmt (While test block) ≤ k.room = omega arith in
      let one : 1 ≤ n + 1 = omega arith in
      let at : pc + size_of_stmt (While test block) ≡ last + 1 = omega arith in
      let less : n ≡ n + 1 - 1 = omega arith in
      let again : StmtAt code ps k pc (n + 1 - 1) (While test block) = record { has = h.has; fits = h.fits; room = room_again } in
      front_expr test (Do (Repeat test block) ∷ r) pc n (record { has = has_front code pc (expr_code test) (i ∷ first) there; fits = h.fits.0; room = room_test }) (back.0, one, record { has = back.1; fits = h.fits.1; room = room_block }, (pc, jump.0, again, at), moved r _ _ _ _ at less g)
  front_stmt (Work ticks) r pc n h g = (h.has.0, h.fits, g)
  front_stmt (Return e) r pc n h g =
      let i = instr.Return k.slots ∷ [] in
      let back = has_back code pc (size_of_expr e) (expr_code e) i (expr_size e) h.has in
      let one : 1 ≤ n + 1 = omega arith in
      front_expr e (Do ReturnValue ∷ r) pc n (record { has = has_front code pc (expr_code e) i h.has; fits = h.fits.1; room = h.room }) (back.0, one, h.fits.0)
  front_stmt (CallService service es ts) r pc n h g =
      let i = instr.Service (number_of service) ∷ map store ts in
      let back = has_back code pc (size_of_exprs es) (exprs_code es) i (exprs_size es) h.has in
      let arity : count_of es ≡ argument_words service = h.fits.1 in
      let answer : length ts ≡ answer_words service = h.fits.2 in
      let room = h.room in
      let room_es : n + operands_of_exprs es ≤ k.room = omega arith in
      let handed : argument_words service ≤ n + count_of es = omega arith in
      let room_answer : n + count_of es - argument_words service + answer_words service ≤ k.room = omega arith in
      let at : pc + size_of_stmt (CallService service es ts) ≡ pc + size_of_exprs es + 1 + length ts = omega arith in
      let left : n + length ts ≡ n + count_of es - argument_words service + answer_words service = omega arith in
      let here = pc + size_of_exprs es + 1 in
      front_exprs es (Ask service) (targets_then ts r) pc n (has_front code pc (exprs_code es) i h.has) h.fits.0 room_es (back.0, handed, room_answer, moved (targets_then ts r) here here _ _ refl left (targets_goes ts r here n back.1 h.fits.3 (moved r _ _ n n at refl g)))

  pub front_goes : (r : List Part) (pc n : ℕ) → Goes code ps k pc n r → Goes code ps k pc n (unfolded (front_of r))
  front_goes [] pc n g = absurd g
  front_goes (Evaluate e ∷ r) pc n g = front_expr e r pc n g.0 g.1
  front_goes (Execute s ∷ r) pc n g = front_stmt s r pc n g.0 g.1
  front_goes (Do c ∷ r) pc n g = g
