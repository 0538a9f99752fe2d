use Rattle.std.proofs.Common.{◌≡◌, ◌++◌, codes, sym}
use Rattle.std.specs.Fmt.{decimal}
use Rattle.lint.specs.Sentences.{place_text}
use Rattle.lint.proofs.Pieces.{place_is}
use Rattle.lint.proofs.UnderWay.{cut_off, goes_on, last_listed, starts}
use Rattle.lint.proofs.writing.write_place.Goals as goal

pub returns-in_err-write_text : goal.returns-in_err-write_text
returns-in_err-write_text g c =
    let text = place_text c.args.line in
    let split : text ≡ codes " line " ++ decimal c.args.line = place_is c.args.line c.if-line-eq0.false in
    cut_off text text (codes " line ") (decimal c.args.line) _ _ _ _ _ _ c.from_residual.result split (starts text _ _) c.in_err-write_text.ensures c.from_residual.ensures.0

pub returns : goal.returns
returns g c =
    let text = place_text c.args.line in
    let split : text ≡ codes " line " ++ decimal c.args.line = place_is c.args.line c.if-line-eq0.false in
    let way = goes_on text text (codes " line ") (decimal c.args.line) _ _ _ _ _ _ split (starts text _ _) c.in_ok-write_text.ensures in
    last_listed text (decimal c.args.line) c.format.result.now _ _ _ _ _ _ c.write_text-3.result (sym c.format.ensures.text) way c.write_text-3.ensures
