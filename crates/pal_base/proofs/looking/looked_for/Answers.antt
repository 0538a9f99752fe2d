use Rattle.std.proofs.Common.{arith}
use Rattle.pal_base.specs.View.{texts}
use Rattle.pal_base.specs.WordView.{token_of}
use Rattle.pal_base.proofs.Leaving.{looked_so}
use Rattle.pal_base.proofs.looking.looked_for.Goals as goal

pub returns : goal.returns
returns c =
    let names = texts c.in-Ok.words.names.keys in
    looked_so c.args.text.now (token_of names) c.in-Ok.words.tokens.items c.as_slice.result.now c.as_slice-2.result.now c.split_at.result.0.now c.split_at.result.1.now c.saturating_sub-count.result c.in-Ok.words.last_line
    c.in_ok-misfit.field-0 c.in-Some.misfit c.in_ok-looked_for.field-0
    c.in-Ok.ensures.words c.as_slice.ensures.value c.in-Some.is c.in_ok-misfit.ensures c.as_slice-2.ensures.value (omega (arith, c.len.ensures, c.saturating_sub-count.ensures)) c.split_at.ensures.front c.split_at.ensures.back
    c.in_ok-looked_for.ensures.place c.in_ok-looked_for.ensures.line c.in-Ok.ensures.lines
