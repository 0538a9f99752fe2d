use Rattle.module_base.proofs.Prelude.{rules, partition_of, AreWritable, input_text, replay_text}
use Rattle.std.proofs.Common.{subst, sym}
use Rattle.apex_types.specs.Line.{TakesBeginning}
use Rattle.apex_types.proofs.Writing.{under_way_more, under_way_fails, err_at}
use Rattle.module_base.proofs.writing.write_inputs.Goals as goal

pub loop-line-preserved : goal.loop-line-preserved
loop-line-preserved g c =
    let row = partition_of c.args.row.now in
    let split = c.in-Some.ensures.cases.0 in
    let left = rw split at c.loop-line.invariant.under_way in
    record {
      under_way = under_way_more _ _ _ _ (input_text row c.in-Some.line.now) (replay_text row c.in-Some.others.now) left c.in_ok-write_line.ensures.ok;
      quiet = search rules;
      words = λ rest. c.loop-line.invariant.words (subst AreWritable (sym split) (c.in_ok-write_line.ensures.words, rest));
    }

pub returns-in_err-write_line-clause-beginning : goal.returns-in_err-write_line-clause-beginning
returns-in_err-write_line-clause-beginning g c =
    let row = partition_of c.args.row.now in
    let split = c.in-Some.ensures.cases.0 in
    let left = rw split at c.loop-line.invariant.under_way in
    let out : TakesBeginning (g.S.Sink.taken c.args.sink.now) (g.S.Sink.taken c.write_line.new.sink) (replay_text row c.args.lines.now) = under_way_fails _ _ _ _ (input_text row c.in-Some.line.now) (replay_text row c.in-Some.others.now) left c.in_err-write_line.ensures.beginning in
    err_at c.from_residual.result out
