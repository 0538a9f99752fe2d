-- The command that was found in the words.
use Rattle.std.proofs.Common.{◌≡◌, ℕ, List, Option, None, Some, sym, ap, refl, ◌∙◌}
use Rattle.std.specs.Prelude.{option_map, true, Box}
use Rattle.std.specs.Box.{box_value}
use Rattle.std.proofs.lemmas.Option.{same_Some}
use Rattle.clap.specs.Matches.{subcommand_name_of}
use Rattle.clap.specs.Simple.{is_simple, subcommand_rows, subcommand_rows_of}
use Rattle.clap.specs.Walk.{Row}
use Rattle.clap.specs.declared.parser.matches.ArgMatches.{ArgMatches}
use Rattle.clap.specs.declared.parser.matches.ArgMatches.TheViews.{out-ArgMatches, out-SubCommand}
use Rattle.clap.specs.declared.parser.matches.SubCommand.{SubCommand}
use Rattle.command_line.specs.Orders.{First, order_named, order_by_name}
use Rattle.command_line.specs.Words.{mb_app}

pub mb_is_simple : is_simple mb_app ≡ true
mb_is_simple = refl

-- a name and rows
abbrev pub entry : List ℕ → List Row → Option (List ℕ × List Row)
entry name rows = Some (name, rows)

-- what was entered has this name and these rows
both_are : (name : List ℕ) (rows : List Row) (entered : Option (List ℕ × List Row)) → Some name ≡ option_map (λ p. p.0) entered → Some rows ≡ option_map (λ p. p.1) entered → entered ≡ entry name rows
both_are name rows None e f = absurd cc
both_are name rows (Some q) e f = same q.0 q.1 (sym (same_Some name q.0 e)) (sym (same_Some rows q.1 f))
  where
    same : (n : List ℕ) (rs : List Row) → n ≡ name → rs ≡ rows → entry n rs ≡ entry name rows
    same n rs e f = cc

-- the name of what was entered is the first of its pair
names : {Z : Type 0} (entered : Option (Box SubCommand Z)) → option_map (λ p. p.0) (subcommand_rows entered) ≡ option_map (λ b. (out-SubCommand (box_value b)).name.now) entered
names None = refl
names (Some b) = refl

pub one_entered : (m : ArgMatches) (name : List ℕ) (rows : List Row) → Some name ≡ subcommand_name_of m → Some rows ≡ option_map (λ p. p.1) (subcommand_rows_of m) → order_by_name (subcommand_rows_of m) ≡ order_named name rows
one_entered m name rows named found =
    ap order_by_name (both_are name rows (subcommand_rows_of m) (named ∙ sym (names (out-ArgMatches m).subcommand)) found)

pub none_entered : (m : ArgMatches) → None ≡ subcommand_name_of m → order_by_name (subcommand_rows_of m) ≡ First
none_entered m named = go (out-ArgMatches m).subcommand named
  where
    go : {Z : Type 0} (entered : Option (Box SubCommand Z)) → None ≡ option_map (λ b. (out-SubCommand (box_value b)).name.now) entered → order_by_name (subcommand_rows entered) ≡ First
    go None e = refl
    go (Some b) e = absurd cc
