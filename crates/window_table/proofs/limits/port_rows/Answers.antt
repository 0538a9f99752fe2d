use Rattle.std.proofs.Common.{rules, ◌≡◌, true, refl, map}
use Rattle.std.specs.List.{list_any}
use Rattle.module_meaning.specs.TableRules.{exceeds_port, port_row}
use Rattle.window_table.specs.Views.{port_text}
use Rattle.window_table.proofs.Rows.{any_here, still_any, one_more, pushed_row, unless_false, unless_same, unless_true}
use Rattle.window_table.proofs.limits.port_rows.Goals as goal

pub loop-port-preserved : goal.loop-port-preserved
loop-port-preserved c = record {
  within = still_any (λ p. exceeds_port (port_text p)) (λ ps. list_any exceeds_port (map port_text ps)) c.args.ports.now c.loop-port.port-index _ _ (λ x ys. refl) c.loop-port-test.true
      (unless_false _ _ _ _ c.port_row.ensures c.in_ok-row.ensures.ok_part) c.loop-port.invariant.within;
  built = one_more (λ p. port_row (port_text p)) (λ ps. map port_row (map port_text ps)) c.args.ports.now c.loop-port.port-index _ c.loop-port.rows.items _ _ (λ x ys. refl) c.loop-port-test.true
      (pushed_row c.push.result _ c.loop-port.rows.items _ _ c.if-is_err.ensures.value c.push.ensures.items (unless_same _ _ _ _ c.port_row.ensures c.in_ok-row.ensures.ok_part))
      c.loop-port.invariant.built;
}

pub returns-in_err-row : goal.returns-in_err-row
returns-in_err-row c =
    let outside : list_any exceeds_port (map port_text c.args.ports.now) ≡ true =
    any_here (λ p. exceeds_port (port_text p)) (λ ps. list_any exceeds_port (map port_text ps)) c.args.ports.now c.loop-port.port-index _ _ (λ x ys. refl) c.loop-port-test.true
    (unless_true _ _ _ c.port_row.ensures c.in_err-row.ensures.ok_part) c.loop-port.invariant.within in
    search rules
