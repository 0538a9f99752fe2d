use Rattle.std.proofs.Common.{◌≡◌, drop, map, string_bytes}
use Rattle.std.specs.List.{list_any}
use Rattle.std.specs.Str.{bytes_eq}
use Rattle.streams.proofs.read_names.ReadNames.has.Given as goal

abbrev pub invariant-loop-known : goal.invariant-loop-known
invariant-loop-known l =
    list_any (bytes_eq l.name) (map (λ name. string_bytes name) l.self.names.items)
    ≡ list_any (bytes_eq l.name) (map (λ name. string_bytes name) (drop l.known-index l.self.names.items))
