use Rattle.std.proofs.Common.{List, subst}
use Rattle.pal_base.specs.declared.checked.Checked.{Checked}
use Rattle.window_table.specs.Views.{table_of}
use Rattle.command_line.specs.Loaded.{shown_of}
use Rattle.command_line.specs.Loading.{IsShownOf}
use Rattle.command_line.proofs.loading.load_of_text.Goals as goal

pub returns-in_ok-load_of_accepted-in-Ok-clause-loaded : goal.returns-in_ok-load_of_accepted-in-Ok-clause-loaded
returns-in_ok-load_of_accepted-in-Ok-clause-loaded c =
    let t = table_of c.in-Ok.accepted in
    let shown = shown_of c.in_ok-load_of_accepted-in-Ok.field-0 in
    record {
      rows = t;
      accepted = c.in-Ok.ensures.table;
      loaded = subst (λ (given : List Checked). IsShownOf t given shown) c.new.ensures.items c.in_ok-load_of_accepted-in-Ok.ensures;
    }
