use Rattle.std.proofs.Common.{rules, ◌≡◌, None, refl, sym, subst, string_bytes}
use Rattle.streams.specs.Contents.{Opens}
use Rattle.view_command.specs.Compared.{AreToldBy, asked}
use Rattle.view_command.specs.Faults.{IsUnopened}
use Rattle.view_command.specs.Lines.{called}
use Rattle.view_command.proofs.Tables.{second_unopened, unopened_or, unwritten_or}
use Rattle.view_command.proofs.Compared.{told_in, told_none, told_some, trace_in, unread_of_both}
use Rattle.view_command.proofs.comparing.compare.Goals.{then-is_empty, else-is_empty}
use Rattle.view_command.proofs.comparing.compare.Goals as goal

pub returns-in_err-one-clause-refused : goal.returns-in_err-one-clause-refused
returns-in_err-one-clause-refused g c =
    let unopened = g.F.Sources.unopened in
    let r = c.in_err-one.field-0.0 in
    unopened_or _ _ None (string_bytes c.args.pair.now.first) _ _ (unopened c.args.sources.now) r c.from_residual.result
    refl refl (subst (λ n. IsUnopened n (unopened c.args.sources.now) (unopened c.open_text.new.sources) r) c.as_str-first.ensures.value c.in_err-one.ensures.refused) c.from_residual.ensures

pub returns-in_err-other-clause-refused : goal.returns-in_err-other-clause-refused
returns-in_err-other-clause-refused g c =
    let unopened = g.F.Sources.unopened in
    let mid = unopened c.open_text.new.sources in
    let r = c.in_err-other.field-0.0 in
    second_unopened _ _ None (string_bytes c.args.pair.now.second) _ _ mid r c.from_residual-in_err-other.result
    refl c.in_ok-one.ensures.noted (subst (λ n. IsUnopened n mid (unopened c.open_text-2.new.sources) r) c.as_str-second.ensures.value c.in_err-other.ensures.refused) c.from_residual-in_err-other.ensures

pub returns-in_err-read_both-clause-refused : goal.returns-in_err-read_both-clause-refused
returns-in_err-read_both-clause-refused g c =
    let texts = g.F.Sources.texts c.args.sources.now in
    let remaining = g.F.Reader.Read.remaining in
    let one : Opens texts (string_bytes c.args.pair.now.first) (remaining c.in_ok-one.one.reader) = subst (λ n. Opens texts n (remaining c.in_ok-one.one.reader)) c.as_str-first.ensures.value c.in_ok-one.ensures.opened in
    let two : Opens texts (string_bytes c.args.pair.now.second) (remaining c.in_ok-other.other.reader) =
    subst (λ n. Opens texts n (remaining c.in_ok-other.other.reader)) c.as_str-second.ensures.value (subst (λ t. Opens t c.as_str-second.result.now (remaining c.in_ok-other.other.reader)) c.in_ok-one.ensures.kept c.in_ok-other.ensures.opened) in
    unread_of_both texts None (string_bytes c.args.pair.now.first) (string_bytes c.args.pair.now.second) (string_bytes c.in_ok-one.one.name) (string_bytes c.in_ok-other.other.name)
    (remaining c.in_ok-one.one.reader) (remaining c.in_ok-other.other.reader) _ _ c.in_err-read_both.field-0.0 c.from_residual-in_err-read_both.result
    one two (subst (λ n. string_bytes c.in_ok-one.one.name ≡ called n) c.as_str-first.ensures.value c.in_ok-one.ensures.called)
    (subst (λ n. string_bytes c.in_ok-other.other.name ≡ called n) c.as_str-second.ensures.value c.in_ok-other.ensures.called) (search rules) c.in_err-read_both.ensures.refused c.from_residual-in_err-read_both.ensures

pub returns-clause-told : goal.returns-clause-told
returns-clause-told g c =
    let texts = g.F.Sources.texts c.args.sources.now in
    let remaining = g.F.Reader.Read.remaining in
    let p = c.args.pair.now.partition in
    let one : Opens texts (string_bytes c.args.pair.now.first) (remaining c.in_ok-one.one.reader) = subst (λ n. Opens texts n (remaining c.in_ok-one.one.reader)) c.as_str-first.ensures.value c.in_ok-one.ensures.opened in
    let two : Opens texts (string_bytes c.args.pair.now.second) (remaining c.in_ok-other.other.reader) =
    subst (λ n. Opens texts n (remaining c.in_ok-other.other.reader)) c.as_str-second.ensures.value (subst (λ t. Opens t c.as_str-second.result.now (remaining c.in_ok-other.other.reader)) c.in_ok-one.ensures.kept c.in_ok-other.ensures.opened) in
    let compared = c.in_ok-read_both.ensures.compared c.new-comparison.ensures in
    let found = c.in_ok-differences.differences.items in
    let are = c.in_ok-differences.ensures compared.tick (asked p compared.first) (asked p compared.second) compared.are_read in
    let told : AreToldBy c.if-is_empty.result p compared.first compared.second = elim c.if-is_empty.branch [
      | then-is_empty w ↦ subst (λ o. AreToldBy o p compared.first compared.second) (sym w.result-is) (told_none found p compared.first compared.second are (search rules))
      | else-is_empty w ↦ subst (λ o. AreToldBy o p compared.first compared.second) (sym w.result-is) (told_some found p compared.first compared.second are (λ h. search (rules, h)))
    ] in
    told_in texts (string_bytes c.args.pair.now.first) (string_bytes c.args.pair.now.second) (remaining c.in_ok-one.one.reader) (remaining c.in_ok-other.other.reader) p c.if-is_empty.result compared.first compared.second one two compared.first_text compared.second_text told

pub returns-clause-second : goal.returns-clause-second
returns-clause-second g c =
    let texts = g.F.Sources.texts c.args.sources.now in
    let remaining = g.F.Reader.Read.remaining in
    let two : Opens texts (string_bytes c.args.pair.now.second) (remaining c.in_ok-other.other.reader) =
    subst (λ n. Opens texts n (remaining c.in_ok-other.other.reader)) c.as_str-second.ensures.value (subst (λ t. Opens t c.as_str-second.result.now (remaining c.in_ok-other.other.reader)) c.in_ok-one.ensures.kept c.in_ok-other.ensures.opened) in
    let compared = c.in_ok-read_both.ensures.compared c.new-comparison.ensures in
    trace_in texts (string_bytes c.args.pair.now.second) (remaining c.in_ok-other.other.reader) compared.second two compared.second_text

pub returns-clause-first : goal.returns-clause-first
returns-clause-first g c =
    let texts = g.F.Sources.texts c.args.sources.now in
    let remaining = g.F.Reader.Read.remaining in
    let one : Opens texts (string_bytes c.args.pair.now.first) (remaining c.in_ok-one.one.reader) = subst (λ n. Opens texts n (remaining c.in_ok-one.one.reader)) c.as_str-first.ensures.value c.in_ok-one.ensures.opened in
    let compared = c.in_ok-read_both.ensures.compared c.new-comparison.ensures in
    trace_in texts (string_bytes c.args.pair.now.first) (remaining c.in_ok-one.one.reader) compared.first one compared.first_text

pub returns-in_err-write_bytes-clause-refused : goal.returns-in_err-write_bytes-clause-refused
returns-in_err-write_bytes-clause-refused g c =
    let texts = g.F.Sources.texts c.args.sources.now in
    let remaining = g.F.Reader.Read.remaining in
    let one : Opens texts (string_bytes c.args.pair.now.first) (remaining c.in_ok-one.one.reader) = subst (λ n. Opens texts n (remaining c.in_ok-one.one.reader)) c.as_str-first.ensures.value c.in_ok-one.ensures.opened in
    let compared = c.in_ok-read_both.ensures.compared c.new-comparison.ensures in
    let trace = trace_in texts (string_bytes c.args.pair.now.first) (remaining c.in_ok-one.one.reader) compared.first one compared.first_text in
    unwritten_or _ texts None (string_bytes c.args.pair.now.first) _ _ c.from_residual-in_err-write_bytes.result (search rules) (search rules) trace c.from_residual-in_err-write_bytes.ensures
