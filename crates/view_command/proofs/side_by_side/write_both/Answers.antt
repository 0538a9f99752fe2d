use Rattle.std.proofs.Common.{rules, ◌≡◌, refl, subst, string_bytes}
use Rattle.streams.specs.Contents.{Opens}
use Rattle.view_command.specs.Faults.{IsUnopened}
use Rattle.view_command.specs.Lines.{called}
use Rattle.view_command.specs.Orders.{number_of}
use Rattle.view_command.proofs.Compared.{unread_of_both}
use Rattle.view_command.proofs.Tables.{second_unopened, traced_in, unopened_or, unwritten_or}
use Rattle.view_command.proofs.side_by_side.write_both.Goals as goal

pub returns-in_err-one-clause-refused : goal.returns-in_err-one-clause-refused
returns-in_err-one-clause-refused g c =
    let unopened = g.F.Sources.unopened in
    let r = c.in_err-one.field-0.0 in
    unopened_or _ _ (number_of c.args.both.now.showing.ran) (string_bytes c.args.both.now.showing.trace) _ _ (unopened c.args.sources.now) r c.from_residual.result
    refl refl (subst (λ n. IsUnopened n (unopened c.args.sources.now) (unopened c.open_text.new.sources) r) c.as_str-first.ensures.value c.in_err-one.ensures.refused) c.from_residual.ensures

pub returns-in_err-other-clause-refused : goal.returns-in_err-other-clause-refused
returns-in_err-other-clause-refused g c =
    let unopened = g.F.Sources.unopened in
    let mid = unopened c.open_text.new.sources in
    let r = c.in_err-other.field-0.0 in
    second_unopened _ _ (number_of c.args.both.now.showing.ran) (string_bytes c.args.both.now.other) _ _ mid r c.from_residual-in_err-other.result
    refl c.in_ok-one.ensures.noted (subst (λ n. IsUnopened n mid (unopened c.open_text-2.new.sources) r) c.as_str-second.ensures.value c.in_err-other.ensures.refused) c.from_residual-in_err-other.ensures

pub returns-in_err-text-clause-refused : goal.returns-in_err-text-clause-refused
returns-in_err-text-clause-refused g c =
    let texts = g.F.Sources.texts c.args.sources.now in
    let remaining = g.F.Reader.Read.remaining in
    let name = string_bytes c.args.both.now.showing.trace in
    let second = string_bytes c.args.both.now.other in
    let one : Opens texts name (remaining c.in_ok-one.one.reader) = subst (λ n. Opens texts n (remaining c.in_ok-one.one.reader)) c.as_str-first.ensures.value c.in_ok-one.ensures.opened in
    let two : Opens texts second (remaining c.in_ok-other.other.reader) =
    subst (λ n. Opens texts n (remaining c.in_ok-other.other.reader)) c.as_str-second.ensures.value (subst (λ t. Opens t c.as_str-second.result.now (remaining c.in_ok-other.other.reader)) c.in_ok-one.ensures.kept c.in_ok-other.ensures.opened) in
    unread_of_both texts (number_of c.args.both.now.showing.ran) name second (string_bytes c.in_ok-one.one.name) (string_bytes c.in_ok-other.other.name)
    (remaining c.in_ok-one.one.reader) (remaining c.in_ok-other.other.reader) _ _ c.in_err-text.field-0.0 c.from_residual-in_err-text.result
    one two (subst (λ n. string_bytes c.in_ok-one.one.name ≡ called n) c.as_str-first.ensures.value c.in_ok-one.ensures.called)
    (subst (λ n. string_bytes c.in_ok-other.other.name ≡ called n) c.as_str-second.ensures.value c.in_ok-other.ensures.called) (search rules) c.in_err-text.ensures.refused c.from_residual-in_err-text.ensures

pub returns-clause-trace : goal.returns-clause-trace
returns-clause-trace g c =
    let texts = g.F.Sources.texts c.args.sources.now in
    let left = g.F.Reader.Read.remaining c.in_ok-one.one.reader in
    let one : Opens texts (string_bytes c.args.both.now.showing.trace) left = subst (λ n. Opens texts n left) c.as_str-first.ensures.value c.in_ok-one.ensures.opened in
    traced_in texts (number_of c.args.both.now.showing.ran) (string_bytes c.args.both.now.showing.trace) left one c.in_ok-text.ensures.trace

pub returns-clause-other : goal.returns-clause-other
returns-clause-other g c =
    let texts = g.F.Sources.texts c.args.sources.now in
    let left = g.F.Reader.Read.remaining c.in_ok-other.other.reader in
    let two : Opens texts (string_bytes c.args.both.now.other) left =
    subst (λ n. Opens texts n left) c.as_str-second.ensures.value (subst (λ t. Opens t c.as_str-second.result.now left) c.in_ok-one.ensures.kept c.in_ok-other.ensures.opened) in
    traced_in texts (number_of c.args.both.now.showing.ran) (string_bytes c.args.both.now.other) left two c.in_ok-text.ensures.other

pub returns-in_err-write_bytes-clause-refused : goal.returns-in_err-write_bytes-clause-refused
returns-in_err-write_bytes-clause-refused g c =
    let texts = g.F.Sources.texts c.args.sources.now in
    let left = g.F.Reader.Read.remaining c.in_ok-one.one.reader in
    let one : Opens texts (string_bytes c.args.both.now.showing.trace) left = subst (λ n. Opens texts n left) c.as_str-first.ensures.value c.in_ok-one.ensures.opened in
    unwritten_or _ texts (number_of c.args.both.now.showing.ran) (string_bytes c.args.both.now.showing.trace) _ _ c.from_residual-in_err-write_bytes.result (search rules) (search rules)
    (traced_in texts (number_of c.args.both.now.showing.ran) (string_bytes c.args.both.now.showing.trace) left one c.in_ok-text.ensures.trace) c.from_residual-in_err-write_bytes.ensures
