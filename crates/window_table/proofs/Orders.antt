-- Comparisons of integers as tests.
use Rattle.std.proofs.Common.{◌≡◌, ℤ, true, false, int_lt, ◌≤ℤ◌, ◌<ℤ◌, rules, tests}

pub lt_true : (a b : ℤ) → a <ℤ b → int_lt a b ≡ true
lt_true a b h = search (rules, tests)

pub ge_false : (a b : ℤ) → b ≤ℤ a → int_lt a b ≡ false
ge_false a b h = search (rules, tests)
