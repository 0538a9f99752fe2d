use Rattle.std.proofs.Common.{◌≡◌, map, subst, string_bytes}
use Rattle.clap.specs.Simple.{subcommand_of}
use Rattle.view_command.specs.Orders.{IsRequest}
use Rattle.view_command.specs.Words.{view_app}
use Rattle.view_command.proofs.Asked.{both_read, dump_read, pair_read, view_read}
use Rattle.view_command.proofs.perform.Goals as goal

pub returns-in_ok-show-in-Show-clause-traces : goal.returns-in_ok-show-in-Show-clause-traces
returns-in_ok-show-in-Show-clause-traces g c =
    let entered = subcommand_of view_app (map g.S.AsStr.text c.args.words.now) in
    let asked = subst (IsRequest entered) c.in-Show.is c.in_ok-view.ensures.request in
    let done = c.in_ok-show-in-Show.ensures in
    view_read (g.F.Sources.texts c.args.sources.now) entered c.in-Show.showing asked.0 asked.1 done.trace done.table done.states

pub returns-in_ok-dump-in-Dump-clause-traces : goal.returns-in_ok-dump-in-Dump-clause-traces
returns-in_ok-dump-in-Dump-clause-traces g c =
    let entered = subcommand_of view_app (map g.S.AsStr.text c.args.words.now) in
    let asked = subst (IsRequest entered) c.in-Dump.is c.in_ok-view.ensures.request in
    let done = c.in_ok-dump-in-Dump.ensures in
    dump_read (g.F.Sources.texts c.args.sources.now) entered c.in-Dump.showing asked done.trace done.table

pub returns-in_ok-compare_asked-in-Compare-clause-traces : goal.returns-in_ok-compare_asked-in-Compare-clause-traces
returns-in_ok-compare_asked-in-Compare-clause-traces g c =
    let entered = subcommand_of view_app (map g.S.AsStr.text c.args.words.now) in
    let asked = subst (IsRequest entered) c.in-Compare.is c.in_ok-view.ensures.request in
    let done = c.in_ok-compare_asked-in-Compare.ensures in
    pair_read (g.F.Sources.texts c.args.sources.now) entered c.in-Compare.pair asked done.first done.second done.table

pub returns-in_ok-show_both-in-Summaries-clause-traces : goal.returns-in_ok-show_both-in-Summaries-clause-traces
returns-in_ok-show_both-in-Summaries-clause-traces g c =
    let entered = subcommand_of view_app (map g.S.AsStr.text c.args.words.now) in
    let asked = subst (IsRequest entered) c.in-Summaries.is c.in_ok-view.ensures.request in
    let done = c.in_ok-show_both-in-Summaries.ensures in
    both_read (g.F.Sources.texts c.args.sources.now) entered c.in-Summaries.both.showing (string_bytes c.in-Summaries.both.other) asked done.trace done.other done.table
