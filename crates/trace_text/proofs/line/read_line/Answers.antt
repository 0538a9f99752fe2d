use Rattle.std.proofs.Common.{◌≡◌, ◌<◌, length, option_copied, arith, rules, sym, ap, ◌∙◌}
use Rattle.text_lines.specs.Pieces.{pieces_of}
use Rattle.trace_text.proofs.Lines.{no_feed_alone, nothing_behind, read_alone, written_alone}
use Rattle.trace_text.proofs.Spells.{same_some}
use Rattle.trace_text.proofs.line.read_line.Goals as goal

pub returns-in_default-clause-read_back : goal.returns-in_default-clause-read_back
returns-in_default-clause-read_back c = λ e can is.
    absurd (no_feed_alone c.args.line.now e can is (c.split_at.ensures.behind ∙ ap (λ o. pieces_of 10 (option_copied o)) c.in_default.is))

pub returns-then-not-is_empty-clause-read_back : goal.returns-then-not-is_empty-clause-read_back
returns-then-not-is_empty-clause-read_back c = λ e can is.
    let some : 0 < length c.in-Some.rest.now = search rules in
    let none = nothing_behind c.args.line.now c.in-Some.rest.now e can is (c.split_at.ensures.behind ∙ ap (λ o. pieces_of 10 (option_copied o)) c.in-Some.is) in
    absurd (omega (arith, some, ap length none))

pub returns-in-Some-event_of-clause-written : goal.returns-in-Some-event_of-clause-written
returns-in-Some-event_of-clause-written c =
    let none : length c.in-Some.rest.now ≡ 0 = search rules in
    written_alone c.args.line.now c.split_at.result.0.now c.in-Some.rest.now c.in-Some-event_of.event c.split_at.ensures.front
    (c.split_at.ensures.behind ∙ ap (λ o. pieces_of 10 (option_copied o)) c.in-Some.is) none (sym c.in-Some-event_of.ensures)

pub returns-in-Some-event_of-clause-read_back : goal.returns-in-Some-event_of-clause-read_back
returns-in-Some-event_of-clause-read_back c = λ e can is.
    let same : c.in-Some-event_of.event ≡ e = same_some c.in-Some-event_of.event e (c.in-Some-event_of.ensures ∙ read_alone c.args.line.now c.split_at.result.0.now e can is c.split_at.ensures.front) in
    cc

pub returns-in-None-clause-read_back : goal.returns-in-None-clause-read_back
returns-in-None-clause-read_back c = λ e can is.
    let clash = c.in-None.ensures ∙ read_alone c.args.line.now c.split_at.result.0.now e can is c.split_at.ensures.front in cc
