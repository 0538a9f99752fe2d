use Rattle.std.proofs.Common.{◌≡◌, ℕ, suc, ◌<◌, ◌≤◌, [], length}
use denote.Text.{Utf8}
use denote.Shadow.{shadow}
use Rattle.toml.specs.Parse.{skip_bom}
use Rattle.finding_lines.specs.Entries.{lines}
use Rattle.finding_lines.specs.Views.{owned_path}
use Rattle.finding_lines.proofs.walk.entries.Given as goal

abbrev pub invariant-lines : goal.invariant-lines
invariant-lines l =
    shadow (Utf8 l.rest) × (length l.rest ≤ length l.fn.text)
    × (m : ℕ) × (length l.rest < m)
    × (lines (suc (length l.fn.text)) ([], []) (skip_bom l.fn.text) ≡ lines m (owned_path l.section.items, l.found) l.rest)

abbrev pub decreases-lines : goal.decreases-lines
decreases-lines l = length l.rest
