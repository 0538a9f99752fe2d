-- One turn of the search for a period that offers too little.
use Rattle.std.proofs.Common.{◌≡◌, ℕ, suc, ◌+◌, ◌-◌, ◌<◌, ◌≤◌, List, Some, arith, refl}
use Rattle.std.specs.Prelude.{nat_abs}
use Rattle.std.proofs.lemmas.Bool.{lt-ltb, le-ltb}
use Rattle.module_meaning.specs.TableRules.{PartitionText, WindowText}
use Rattle.table_findings.specs.Durations.{first_short, offered}

pub one_left : (a b : ℕ) → b < a → a - b ≡ suc (a - (b + 1))
one_left a b h = omega (arith, h)

pub stops : (n low : ℕ) (p : PartitionText) (ws : List WindowText) (given wanted : ℕ) → given ≡ offered p.name low (low + nat_abs p.period) ws → wanted ≡ nat_abs p.duration → given < wanted
    → Some (low, given) ≡ first_short (suc n) low p ws
stops n low p ws given wanted is want less = rw (← is, ← want, lt-ltb given wanted less) refl

pub goes_on : (n low : ℕ) (p : PartitionText) (ws : List WindowText) (given wanted period : ℕ) → given ≡ offered p.name low (low + nat_abs p.period) ws → wanted ≡ nat_abs p.duration → wanted ≤ given → period ≡ nat_abs p.period
    → first_short n (low + period) p ws ≡ first_short (suc n) low p ws
goes_on n low p ws given wanted period is want enough length = rw (length, ← is, ← want, le-ltb given wanted enough) refl
