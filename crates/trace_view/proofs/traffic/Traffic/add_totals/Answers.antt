use Rattle.std.proofs.Common.{◌≡◌, ◌+◌, ℕ, List, [], ◌∷◌, Bool, Vec, Global, drop, refl, ap, sym, ◌∙◌, append-nil}
use Rattle.std.specs.Prelude.{if◌then◌else◌}
use Rattle.engine_meaning.specs.Digits.{same}
use Rattle.trace_view.specs.Traffic.{total_of, totals_at}
use Rattle.trace_view.specs.declared.report.RouteTotal.{RouteTotal}
use Rattle.trace_view.proofs.Steps.{added, all_added}
use Rattle.trace_view.proofs.traffic.Traffic.add_totals.Goals.{then-eq+in_ok-push, else-eq}
use Rattle.trace_view.proofs.traffic.Traffic.add_totals.Goals as goal

pub loop-passage-preserved : goal.loop-passage-preserved
loop-passage-preserved c =
    let partition = c.args.partition.now in
    let passages = c.args.self.now.passages.items in
    let one = c.passage-item.result in
    let old = c.loop-passage.totals.items in
    let rest = totals_at partition in
    let behind = totals_at partition (drop (c.loop-passage.passage-index + 1) passages) in
    let test : same one.partition partition.name ≡ c.eq.result =
    ap (λ (text : List ℕ). same text partition.name) (sym c.as_bytes.ensures.text) ∙ ap (λ (text : List ℕ). same c.as_bytes.result.now text)
    (sym c.as_bytes-in-loop-passage.ensures.text) ∙ sym c.eq.ensures in
    elim c.if-eq.branch [
      | then-eq+in_ok-push w ↦
          added rest rest (total_of partition one ∷ []) passages c.deref-passage-items.result.now c.loop-passage.passage-index one old c.if-eq.totals.items _
          c.deref-passage-items.ensures.value
          c.loop-passage-test.true c.passage-item.is (ap (λ (b : Bool). if b then total_of partition one ∷ behind else behind) (test ∙ w.if-eq.true))
          (ap (λ (v : Vec RouteTotal Global). v.items) w.totals-is ∙ w.in_ok-push.ensures.items) c.loop-passage.invariant
      | else-eq w ↦
          added rest rest [] passages c.deref-passage-items.result.now c.loop-passage.passage-index one old c.if-eq.totals.items _ c.deref-passage-items.ensures.value
          c.loop-passage-test.true c.passage-item.is (ap (λ (b : Bool). if b then total_of partition one ∷ behind else behind) (test ∙ w.if-eq.false))
          (ap (λ (v : Vec RouteTotal Global). v.items) w.totals-is ∙ sym (append-nil old)) c.loop-passage.invariant
    ]

pub returns : goal.returns
returns c =
    all_added (totals_at c.args.partition.now) c.args.self.now.passages.items c.deref-passage-items.result.now c.loop-passage.passage-index c.loop-passage.totals.items _ refl
    c.deref-passage-items.ensures.value c.loop-passage-test.false c.loop-passage.invariant
