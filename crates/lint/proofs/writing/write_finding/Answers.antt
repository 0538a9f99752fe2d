use Rattle.std.proofs.Common.{List, ℕ, ◌∷◌, [], codes, subst}
use Rattle.lint.specs.Listed.{IsListed}
use Rattle.lint.specs.Sentences.{place_text, opening, advice}
use Rattle.lint.proofs.Pieces.{eight}
use Rattle.lint.proofs.writing.write_finding.Goals as goal

pub returns : goal.returns
returns g c =
    let f = c.args.finding.now in
    let same = eight c.args.partition.now (place_text f.line) (codes ": ") (opening f.kind) f.subject.now (codes "; ") (advice f.kind) (10 ∷ []) c.opening.result.now c.advice.result.now c.opening.ensures c.advice.ensures in
    subst (λ (text : List ℕ). IsListed text (g.S.Sink.taken c.args.sink.now) (g.S.Sink.taken c.write_pieces.new.sink) (g.S.Sink.failures c.args.sink.now) (g.S.Sink.failures c.write_pieces.new.sink) c.write_pieces.result) same c.write_pieces.ensures
