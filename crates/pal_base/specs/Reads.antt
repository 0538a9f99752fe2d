-- The readings of those functions of the code that are cut in another way than the definitions.
use Rattle.std.specs.Prelude.{ℕ, ◌-◌, ◌==◌, if◌then◌else◌, List, ◌∷◌, length, Ok, Err, codes}
use Rattle.pal_meaning.specs.Grammar.{Word}
use Rattle.pal_laws.specs.GrammarReading.{Answer, Reading, no_level, repeat, each, until, either, expect, integer_at, expr_at, exprs_of, name_at, service_at, targets_at, assignment_at, work_at, return_at, branch_with, while_with, block_read, ◌>>=◌}
use Rattle.pal_meaning.specs.Syntax as tree
use Rattle.apex_types.specs.declared.service.Service.{Service}

-- one thing as often as this mark comes before it
abbrev pub listed : {X : Type 0} → List ℕ → Reading X → Reading (List X)
listed mark read ws = repeat (λ ws. each (expect mark ws) read) ws

-- one thing after another up to this mark
abbrev pub up_to : {X : Type 0} → List ℕ → Reading X → Reading (List X)
up_to mark read ws = repeat (λ ws. until (expect mark ws) (read ws)) ws

-- `x`, followed by what is read after it
abbrev pub and_more : {X : Type 0} → X → Answer (List X × List Word) → Answer (List X × List Word)
and_more x read = read >>= λ xs. Ok (x ∷ xs.0, xs.1)

unfoldable pub integers_read : Reading (List tree.Integer)
integers_read ws = integer_at ws >>= λ first. and_more first.0 (up_to (codes ";") integer_at first.1) >>= λ all.
    expect (codes ";") all.1 >>= λ rest. Ok (all.0, rest)

-- arguments after an open parenthesis, where `k` levels may still be opened
unfoldable pub arguments_within : ℕ → Reading tree.Exprs
arguments_within k ws = either (expect (codes ")") ws)
    (λ rest. Ok (tree.NoExpr, rest))
    (expr_at k ws >>= λ first. and_more first.0 (listed (codes ",") (expr_at k) first.1) >>= λ all.
    expect (codes ")") all.1 >>= λ rest. Ok (exprs_of all.0, rest))

unfoldable pub arguments_read : ℕ → Reading tree.Exprs
arguments_read k ws = if k == 0 then no_level ws else arguments_within (k - 1) ws

-- a request of a service, and a statement, where `k` levels may still be opened
unfoldable pub service_call_read : ℕ → Service → Reading tree.Stmt
service_call_read k service ws = if k == 0 then no_level ws else (expect (codes "(") ws >>= λ rest. arguments_read k rest >>= λ es. targets_at es.1 >>= λ xs.
    expect (codes ";") xs.1 >>= λ rest. Ok (tree.CallService service es.0 xs.0, rest))

unfoldable pub stmt_read : ℕ → Reading tree.Stmt
stmt_read k ws = either (name_at ws) (λ x. assignment_at k x.0 x.1)
    (either (service_at ws) (λ s. service_call_read k s.0 s.1)
    (either (expect (codes "work") ws) work_at
    (either (expect (codes "return") ws) (return_at k)
    (if k == 0 then Err (length ws) else (either (expect (codes "if") ws) (branch_with (block_read k) k)
    (expect (codes "while") ws >>= while_with (block_read k) k))))))
