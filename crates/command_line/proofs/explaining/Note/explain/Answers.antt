use Rattle.std.proofs.Common.{map, string_bytes}
use Rattle.command_line.proofs.Noted.{note_of}
use Rattle.command_line.proofs.explaining.Note.explain.Goals as goal

pub returns-in-Some : goal.returns-in-Some
returns-in-Some c =
    rw (c.in-Wanted.is)
    (note_of c.args.names.table.now c.args.table.now (map (λ s. s.now) c.args.names.sources.now) (map (λ s. s.now) c.args.sources.now) c.args.fault.now c.in-Wanted.style (string_bytes c.in-Some.text) c.noted_as.result
    c.noted_as.ensures c.in-Some.ensures)
