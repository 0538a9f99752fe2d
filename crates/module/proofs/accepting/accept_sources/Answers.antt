use Rattle.module.proofs.Prelude.{rules, ◌≡◌, ◌∷◌, ◌+◌, ◌++◌, List, length, map, drop, get_or, Some, sym, ap, ◌∙◌, slice_get, length-map, drop_more, slice_get-map, slice_get-get_or, partition_of, PartitionRow, AreSources, Checked}
use Rattle.std.proofs.Common.{[], subst}
use Rattle.std.specs.Option.{option_map}
use Rattle.module.proofs.Built.{one_longer}
use Rattle.module.proofs.Refused.{passed_on, drop_next, next_accepted, next_refused, here_refused, all_accepted}
use Rattle.module.proofs.accepting.accept_sources.Goals as goal

pub loop-row-init : goal.loop-row-init
loop-row-init c =
    record {
      place = ap length c.in_ok-accepted.ensures.items;
      accepted = λ more h. subst (λ (given : List Checked). AreSources (map partition_of c.args.rows.now) (map (λ s. s.now) c.args.sources.now) (given ++ more)) (sym c.in_ok-accepted.ensures.items) h;
      refused = λ name r h. h;
    }

pub returns-in_err-accept-clause-refused : goal.returns-in_err-accept-clause-refused
returns-in_err-accept-clause-refused c =
    let i = c.loop-row.row-index in
    let rows_are : drop i c.args.rows.now ≡ c.row-item.result ∷ drop (i + 1) c.args.rows.now =
    drop_more c.args.rows.now i c.row-item.result c.loop-row-test.true ∙ ap (λ (x : PartitionRow). x ∷ drop (i + 1) c.args.rows.now) (sym c.row-item.is) in
    let at : c.len.result ≡ i = search rules in
    let source = (get_or c.args.sources.now c.len.result (record { ref_ptr = (0, 0); now = [] })).now in
    let source_got : slice_get (map (λ s. s.now) c.args.sources.now) i ≡ Some source =
    ap (slice_get (map (λ s. s.now) c.args.sources.now)) (sym at) ∙ slice_get-map _ c.args.sources.now c.len.result ∙ ap (option_map (λ s. s.now)) (slice_get-get_or c.args.sources.now c.len.result _ (search rules)) in
    passed_on _ _ c.in_err-accept.field-0.0 c.from_residual-in_err-accept.result c.from_residual-in_err-accept.ensures
    (here_refused c.args.rows.now (map (λ s. s.now) c.args.sources.now) i c.row-item.result source rows_are (drop_next (map (λ s. s.now) c.args.sources.now) i source source_got) c.loop-row.invariant.refused) c.in_err-accept.ensures.refused

pub loop-row-preserved : goal.loop-row-preserved
loop-row-preserved c =
    let i = c.loop-row.row-index in
    let rows_are : drop i c.args.rows.now ≡ c.row-item.result ∷ drop (i + 1) c.args.rows.now =
    drop_more c.args.rows.now i c.row-item.result c.loop-row-test.true ∙ ap (λ (x : PartitionRow). x ∷ drop (i + 1) c.args.rows.now) (sym c.row-item.is) in
    let pushed : c.push.new.self.items ≡ c.loop-row.accepted.items ++ c.in_ok-accept.field-0 ∷ [] = search rules in
    let at : c.len.result ≡ i = search rules in
    let source = (get_or c.args.sources.now c.len.result (record { ref_ptr = (0, 0); now = [] })).now in
    let source_got : slice_get (map (λ s. s.now) c.args.sources.now) i ≡ Some source =
    ap (slice_get (map (λ s. s.now) c.args.sources.now)) (sym at) ∙ slice_get-map _ c.args.sources.now c.len.result ∙ ap (option_map (λ s. s.now)) (slice_get-get_or c.args.sources.now c.len.result _ (search rules)) in
    record {
      place = ap length pushed ∙ sym (one_longer c.loop-row.accepted.items c.in_ok-accept.field-0 i (sym c.loop-row.invariant.place));
      accepted = next_accepted c.args.rows.now (map (λ s. s.now) c.args.sources.now) i c.loop-row.accepted.items c.push.new.self.items c.row-item.result source c.in_ok-accept.field-0 rows_are (drop_next (map (λ s. s.now) c.args.sources.now) i source source_got) pushed c.in_ok-accept.ensures.accepted c.loop-row.invariant.accepted;
      refused = next_refused c.args.rows.now (map (λ s. s.now) c.args.sources.now) i c.row-item.result source c.in_ok-accept.field-0 rows_are (drop_next (map (λ s. s.now) c.args.sources.now) i source source_got) c.in_ok-accept.ensures.accepted c.loop-row.invariant.refused;
    }

pub returns-clause-accepted : goal.returns-clause-accepted
returns-clause-accepted c =
    let at : c.loop-row.row-index ≡ length c.args.rows.now = search rules in
    all_accepted c.args.rows.now (map (λ s. s.now) c.args.sources.now) c.loop-row.row-index c.loop-row.accepted.items at (length-map c.args.sources.now (λ s. s.now) ∙ c.requires) c.loop-row.invariant.accepted
