use Rattle.std.proofs.Common.{rules, ◌≡◌, string_bytes, subst}
use Rattle.streams.specs.Contents.{Opens}
use Rattle.view_command.specs.Faults.{IsUnopened}
use Rattle.view_command.specs.Lines.{called}
use Rattle.view_command.specs.Orders.{number_of}
use Rattle.view_command.proofs.Dumped.{cut_or}
use Rattle.view_command.proofs.Tables.{traced_in, unopened_or, unread_or}
use Rattle.view_command.proofs.dumping.dump.Goals as goal

pub returns-in_err-found-clause-refused : goal.returns-in_err-found-clause-refused
returns-in_err-found-clause-refused g c =
    let texts = g.F.Sources.texts c.args.sources.now in
    let left = g.F.Reader.Read.remaining c.in_ok-text.text.reader in
    let opens : Opens texts (string_bytes c.args.request.now.trace) left =
    subst (λ n. Opens texts n left) c.as_str-trace.ensures.value (subst (λ t. Opens t c.as_str-trace.result.now left) c.table_asked.ensures.kept c.in_ok-text.ensures.opened) in
    unread_or _ texts (number_of c.args.request.now.ran) (string_bytes c.args.request.now.trace) (string_bytes c.in_ok-text.text.name) left _ _ c.in_err-found.field-0.0 c.from_residual-in_err-found.result
    opens (subst (λ n. string_bytes c.in_ok-text.text.name ≡ called n) c.as_str-trace.ensures.value c.in_ok-text.ensures.called) (search rules) c.in_err-found.ensures.refused c.from_residual-in_err-found.ensures

pub returns-in_err-text-clause-refused : goal.returns-in_err-text-clause-refused
returns-in_err-text-clause-refused g c =
    let unopened = g.F.Sources.unopened in
    let mid = unopened c.table_asked.new.sources in
    let r = c.in_err-text.field-0.0 in
    unopened_or _ _ (number_of c.args.request.now.ran) (string_bytes c.args.request.now.trace) _ _ mid r c.from_residual-in_err-text.result
    (search rules) (search rules) (subst (λ n. IsUnopened n mid (unopened c.open_text.new.sources) r) c.as_str-trace.ensures.value c.in_err-text.ensures.refused) c.from_residual-in_err-text.ensures

pub returns-clause-trace : goal.returns-clause-trace
returns-clause-trace g c =
    let texts = g.F.Sources.texts c.args.sources.now in
    let left = g.F.Reader.Read.remaining c.in_ok-text.text.reader in
    let opens : Opens texts (string_bytes c.args.request.now.trace) left =
    subst (λ n. Opens texts n left) c.as_str-trace.ensures.value (subst (λ t. Opens t c.as_str-trace.result.now left) c.table_asked.ensures.kept c.in_ok-text.ensures.opened) in
    traced_in texts (number_of c.args.request.now.ran) (string_bytes c.args.request.now.trace) left opens c.in_ok-found.ensures.trace

pub returns-in_err-read_again-clause-refused : goal.returns-in_err-read_again-clause-refused
returns-in_err-read_again-clause-refused g c =
    let texts = g.F.Sources.texts c.args.sources.now in
    let left = g.F.Reader.Read.remaining c.in_ok-text.text.reader in
    let opens : Opens texts (string_bytes c.args.request.now.trace) left =
    subst (λ n. Opens texts n left) c.as_str-trace.ensures.value (subst (λ t. Opens t c.as_str-trace.result.now left) c.table_asked.ensures.kept c.in_ok-text.ensures.opened) in
    cut_or _ texts (number_of c.args.request.now.ran) (string_bytes c.args.request.now.trace) _ _ _ c.in_err-read_again.field-0.0 c.from_residual-in_err-read_again.result
    (search rules) (traced_in texts (number_of c.args.request.now.ran) (string_bytes c.args.request.now.trace) left opens c.in_ok-found.ensures.trace) c.in_err-read_again.ensures.cut c.from_residual-in_err-read_again.ensures
