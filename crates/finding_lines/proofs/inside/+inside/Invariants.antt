use Rattle.std.proofs.Common.{◌≡◌, ℕ, ◌+◌, ◌*◌, ◌<◌, ◌≤◌, length}
use denote.Text.{Utf8}
use denote.Shadow.{shadow}
use Rattle.finding_lines.specs.Entries.{elements, inside, members}
use Rattle.finding_lines.specs.Views.{owned_path}
use Rattle.finding_lines.proofs.inside.+inside.Given as goal

abbrev pub decreases-elements : goal.decreases-elements
decreases-elements l = 2 * l.depth + 2

abbrev pub decreases-members : goal.decreases-members
decreases-members l = 2 * l.depth + 2

abbrev pub decreases-inside : goal.decreases-inside
decreases-inside l = 2 * l.depth + 1

abbrev pub invariant-elements-items : goal.invariant-elements-items
invariant-elements-items l =
    shadow (Utf8 l.rest) × (length l.rest ≤ length l.fn.text)
    × ((n : ℕ) → length l.fn.text < n → (m : ℕ) × (length l.rest < m)
    × (elements (inside l.fn.depth) n (owned_path l.fn.path) 0 l.fn.found l.fn.text ≡ elements (inside l.fn.depth) m (owned_path l.fn.path) l.index l.found l.rest))

abbrev pub decreases-elements-items : goal.decreases-elements-items
decreases-elements-items l = length l.rest

abbrev pub invariant-members-items : goal.invariant-members-items
invariant-members-items l =
    shadow (Utf8 l.rest) × (length l.rest ≤ length l.fn.text)
    × ((n : ℕ) → length l.fn.text < n → (m : ℕ) × (length l.rest < m)
    × (members (inside l.fn.depth) n (owned_path l.fn.path) l.fn.found l.fn.text ≡ members (inside l.fn.depth) m (owned_path l.fn.path) l.found l.rest))

abbrev pub decreases-members-items : goal.decreases-members-items
decreases-members-items l = length l.rest
