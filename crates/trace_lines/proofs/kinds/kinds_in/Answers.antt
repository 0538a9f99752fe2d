use Rattle.std.proofs.Common.{rules, ◌≡◌, ◌∙◌, Some, ap, sym, option_copied}
use Rattle.text_lines.specs.Pieces.{pieces_of}
use Rattle.trace_lines.specs.KindSets.{with_words}
use Rattle.trace_lines.proofs.Named.{one_word, unknown_word}
use Rattle.trace_lines.proofs.kinds.kinds_in.Goals as goal

pub loop-rest-preserved : goal.loop-rest-preserved
loop-rest-preserved c =
    c.loop-rest.invariant
    ∙ one_word (option_copied c.loop-rest.rest) c.in-Some.text.now c.split_at.result.0.now (option_copied c.split_at.result.1) c.loop-rest.kinds (Some c.in_ok-kind.kind)
    (ap option_copied c.in-Some.is) c.split_at.ensures.front c.split_at.ensures.behind (search rules)
    ∙ ap (λ k. with_words (pieces_of 44 (option_copied c.split_at.result.1)) (Some k)) (sym c.with-kinds.ensures)
