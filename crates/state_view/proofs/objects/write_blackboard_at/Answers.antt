-- a blackboard has its number and its list by its place
use Rattle.std.proofs.Common.{◌≡◌, ◌++◌, subst}
use Rattle.std.specs.Prelude.{OnOk}
use Rattle.apex_types.specs.declared.identity.ListKey.{ListKey}
use Rattle.apex_types.specs.declared.identity.ListKey.TheVariants as key
use Rattle.state_rows.specs.Fields.{field_of}
use Rattle.state_rows.specs.Rows.{Field, rows_in}
use Rattle.state_rows.specs.States.{blackboard_parts}
use Rattle.state_view.proofs.objects.write_blackboard_at.Goals as goal

pub returns : goal.returns
returns c =
    let is_written : Field → ListKey → Type 0 = λ object list. OnOk c.write_blackboard.result (c.write_blackboard.new.text.items ≡ c.args.text.now.items ++ rows_in c.args.of.now.form (blackboard_parts c.args.of.now.name c.args.processes.now object list c.args.blackboard.now)) in
    subst (λ (object : Field). is_written object (key.Blackboard c.args.place)) c.number-object.ensures
    (subst (λ (list : ListKey). is_written (field_of c.number-object.result) list) c.blackboard_list-list.ensures c.write_blackboard.ensures)
