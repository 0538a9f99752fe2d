use Rattle.std.proofs.Common.{◌≡◌, List, ℕ, ◌++◌, map, drop}
use Rattle.streams.specs.Reads.{Reads}
use Rattle.text_beginnings.specs.Settled.{settles_source}
use Rattle.command_line.specs.Done.{AreRead}
use Rattle.command_line.specs.Refusals.{IsFirstUnread}
use Rattle.command_line.specs.Reading.{HoldAllFrom, texts_of}
use Rattle.command_line.proofs.reading.read_sources.Given as goal

abbrev pub invariant-loop-name : goal.invariant-loop-name
invariant-loop-name g l = record {
  held : (more : List (List ℕ)) → HoldAllFrom settles_source (g.F.Files.contents l.initial.files) (map (λ s. s.now) (drop l.name-index l.names)) more
      → HoldAllFrom settles_source (g.F.Files.contents l.initial.files) (map (λ s. s.now) l.names) (texts_of l.texts.items ++ more);
  unread : (name : List ℕ) → IsFirstUnread (g.F.Files.contents l.initial.files) (map (λ s. s.now) (drop l.name-index l.names)) name
      → IsFirstUnread (g.F.Files.contents l.initial.files) (map (λ s. s.now) l.names) name;
  read : (new : Reads) → AreRead (map (λ s. s.now) (drop l.name-index l.names)) (g.F.Files.reads l.files) new → AreRead (map (λ s. s.now) l.names) (g.F.Files.reads l.initial.files) new;
  unchanged : g.F.Files.contents l.files ≡ g.F.Files.contents l.initial.files;
  noted : g.F.Files.failed l.files ≡ g.F.Files.failed l.initial.files;
}
