-- what one waits for that was started
use Rattle.std.proofs.Common.{◌≡◌, ◌++◌, [], ◌∷◌, subst, sym}
use Rattle.std.specs.Prelude.{OnOk, codes}
use Rattle.apex_types.specs.declared.process.Wait.{Wait}
use Rattle.state_rows.specs.Rows.{Field, rows_in}
use Rattle.state_rows.specs.States.{wait_rows, waits_row}
use Rattle.state_view.proofs.waits.write_wait.Goals as goal

pub returns-in-NormalStart : goal.returns-in-NormalStart
returns-in-NormalStart c =
    let form = c.args.of.now.form in
    let name = c.args.of.now.name in
    let has_delay : Field → Type 0 = λ f. OnOk c.write_waits.result (c.write_waits.new.text.items ≡ c.args.text.now.items ++ rows_in form (waits_row name c.args.row.now (codes "NORMAL_START") (f ∷ []))) in
    let is_written : Wait → Type 0 = λ w. OnOk c.write_waits.result (c.write_waits.new.text.items ≡ c.args.text.now.items ++ rows_in form (wait_rows name c.args.row.now c.args.message.now w)) in
    subst is_written (sym c.in-NormalStart.is) (subst has_delay c.number.ensures c.write_waits.ensures)

pub returns-in-FirstRelease : goal.returns-in-FirstRelease
returns-in-FirstRelease c =
    let is_written : Wait → Type 0 = λ w. OnOk c.write_waits-in-FirstRelease.result (c.write_waits-in-FirstRelease.new.text.items ≡ c.args.text.now.items ++ rows_in c.args.of.now.form (wait_rows c.args.of.now.name c.args.row.now c.args.message.now w)) in
    subst is_written (sym c.in-FirstRelease.is) c.write_waits-in-FirstRelease.ensures
