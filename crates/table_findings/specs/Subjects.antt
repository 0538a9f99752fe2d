-- What a finding is about, and its key path.
use Rattle.std.specs.Prelude.{ℕ, List, [], ◌∷◌, ◌++◌, codes, Option}
use Rattle.finding_lines.specs.Entries.{Path, element, key}

-- a partition, a port, a window or a channel: its place in its list, counted from 0, and its name, if it has one
pub record Row : Type 0 where
  pub index : ℕ
  pub name : Option (List ℕ)

pub data Subject : Type 0 where
  Module : Subject
  Costs : Subject
  Partition : Row → Subject
  Health : Row → Subject
  Port : (port partition : Row) → Subject
  Window : Row → Subject
  Channel : Row → Subject
  Destination : ℕ → Row → Subject

-- the steps to an element of the list at a key
abbrev pub row_path : List ℕ → ℕ → Path
row_path list index = key list ∷ element index ∷ []

abbrev pub subject_path : Subject → Path
subject_path Module = []
subject_path Costs = key (codes "cost") ∷ []
subject_path (Partition row) = row_path (codes "partition") row.index
subject_path (Health row) = row_path (codes "partition") row.index ++ key (codes "hm") ∷ []
subject_path (Port port partition) = row_path (codes "partition") partition.index ++ row_path (codes "port") port.index
subject_path (Window row) = row_path (codes "window") row.index
subject_path (Channel row) = row_path (codes "channel") row.index
subject_path (Destination index row) = row_path (codes "channel") row.index ++ row_path (codes "destinations") index
