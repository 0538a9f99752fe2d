-- A document that a rule refuses has a place where it breaks this rule.
use Rattle.finding_laws.proofs.Prelude.{◌≡◌, ◌<◌, ◌≤◌, ℕ, suc, ℤ, ◌+◌, ◌||◌, Bool, ◌∷◌, Option, Some, ◌∙◌, inr, codes, pos, subst, Result, Ok, Err, none-some, same_Some, if◌then◌else◌, is_none, Members, members_are_sorted, has_odd_period, has_short_period, lacks_release, ◌>>=◌, TableText, array_at, cost_keys, exceeds_limits, has_unknown_action, integer_at, is_cost_key, is_table_key, optional_array_at, optional_costs, optional_table_at, text_at, AreFew}
use Rattle.std.proofs.Common.{arith, zero, true, false, List, [], None, length, refl, sym, ap, ◌⊎◌, inl, ◌≢◌}
use Rattle.module_meaning.specs.Table.{Table, has_wrong_ends}
use Rattle.module_meaning.specs.TableRules.{Refusal, channel_of, costs_of, has_only, has_same_names, has_unknown_name, integers_at, judge_table, judge_text, numbered, overlaps, partition_of, table_text_of, tables_of, verdict, window_of}
use Rattle.module_meaning.specs.TableRules as rule
use Rattle.window_table.specs.Refusals.{IsOf}
use Rattle.window_table.specs.declared.fault.TableFault.{TableFault}
use Rattle.window_table.specs.declared.fault.TableFault.TheVariants as fault
use Rattle.finding_laws.specs.Any.{has_any}
use Rattle.finding_laws.proofs.Durations.{short_periods_any}
use Rattle.finding_laws.proofs.Ends.{ends_any}
use Rattle.finding_laws.proofs.Found.{limits_any, odd_periods_any, or_first, or_second, overlaps_any}
use Rattle.finding_laws.proofs.Health.{actions_found, actions_read}
use Rattle.finding_laws.proofs.Names.{names_any, partitions_differ}
use Rattle.finding_laws.proofs.Releases.{missing_releases_any}
use Rattle.finding_laws.proofs.Shape.{shape_any}
use Rattle.finding_laws.proofs.Sorted.{by_test, then_some}
use Rattle.table_findings.specs.Refused.{findings, findings_in, findings_with}

-- ---- costs

integers_long : (ks : List (List ℕ)) (ms : Members) (zs : List ℤ) → integers_at ks ms ≡ Some zs → length zs ≡ length ks
unfolding integers_at
integers_long [] ms zs is = ap length (sym (same_Some [] zs is))
integers_long (k ∷ ks) ms zs is =
    let z = then_some (integer_at k ms) (λ z. integers_at ks ms >>= λ ys. Some (z ∷ ys)) zs is in
    let ys = then_some (integers_at ks ms) (λ ys. Some (z.0 ∷ ys)) zs z.2 in
    ap length (sym (same_Some (z.0 ∷ ys.0) zs ys.2)) ∙ ap suc (integers_long ks ms ys.0 ys.1)

costs_few : (o : Option (Option Members)) (c : Option (List ℤ)) → (o >>= optional_costs) ≡ Some c → AreFew c
unfolding costs_of
costs_few None c is = absurd (none-some c is)
costs_few (Some None) c is = subst AreFew (same_Some None c is) tt
costs_few (Some (Some inner)) c is =
    let costs = then_some (costs_of inner) (λ numbers. Some (Some numbers)) c is in
    let numbers = then_some (integers_at cost_keys inner) (λ numbers. if has_only is_cost_key inner then Some numbers else None) costs.0 costs.1 in
    by_test (has_only is_cost_key inner) (Some numbers.0) None costs.0 numbers.2
    (λ here. subst AreFew (same_Some (Some costs.0) c costs.2) (let long = ap length (sym (same_Some numbers.0 costs.0 here)) ∙ integers_long cost_keys inner numbers.0 numbers.1 in omega (arith, long)))
    (λ other. absurd (none-some costs.0 other))

few : (ms : Members) (t : TableText) → table_text_of ms ≡ Some t → AreFew t.costs
unfolding table_text_of
few ms t read =
    let found = actions_read (integer_at (codes "frame") ms) (text_at (codes "fault") ms) (optional_table_at (codes "cost") ms >>= optional_costs) (array_at (codes "partition") ms >>= tables_of partition_of)
    (array_at (codes "window") ms >>= tables_of window_of) (optional_array_at (codes "channel") ms >>= tables_of channel_of) (has_only is_table_key ms) t read in
    costs_few (optional_table_at (codes "cost") ms) t.costs found.4

-- ---- the first rule that is broken

code : Refusal → ℕ
code rule.Shape = 2
code rule.Limit = 3
code rule.Name = 4
code rule.Overlap = 5
code rule.Period = 6
code rule.Duration = 7
code rule.Release = 8
code rule.Ends = 9
code rule.Health = 10

outcome : Result Table Refusal → ℕ
outcome (Ok t) = 0
outcome (Err r) = code r

-- the number of the first rule that is broken, of which the first has number k
first_broken : ℕ → List Bool → ℕ
first_broken k [] = 0
first_broken k (b ∷ bs) = if b then k else first_broken (k + 1) bs

-- the rule at a place is broken, and none before it
abbrev IsFirst : ℕ → List Bool → Type 0
IsFirst n [] = ⊥
IsFirst zero (b ∷ bs) = b ≡ true
IsFirst (suc n) (b ∷ bs) = (b ≡ false) × IsFirst n bs

not_before : (k : ℕ) (bs : List Bool) → (first_broken k bs ≡ 0) ⊎ (k ≤ first_broken k bs)
unfolding first_broken
not_before k [] = inl refl
not_before k (true ∷ bs) = inr (omega arith)
not_before k (false ∷ bs) = elim (not_before (k + 1) bs) [ inl none ↦ inl none | inr later ↦ inr (omega (arith, later)) ]

is_first : (n k : ℕ) (bs : List Bool) → 0 < k → first_broken k bs ≡ k + n → IsFirst n bs
unfolding first_broken
is_first zero k [] there is = absurd (omega (arith, is, there))
is_first (suc n) k [] there is = absurd (omega (arith, is, there))
is_first zero k (true ∷ bs) there is = refl
is_first zero k (false ∷ bs) there is = elim (not_before (k + 1) bs) [ inl none ↦ absurd (omega (arith, is, there, none)) | inr later ↦ absurd (omega (arith, is, later)) ]
is_first (suc n) k (true ∷ bs) there is = absurd (omega (arith, is))
is_first (suc n) k (false ∷ bs) there is = (refl, is_first n (k + 1) bs (omega arith) (omega (arith, is)))

broken : TableText → List Bool
broken t =
    exceeds_limits t ∷ (has_same_names t || has_unknown_name t) ∷ overlaps t ∷ has_odd_period (numbered t).schedule.frame (numbered t).partitions ∷ has_short_period (numbered t).schedule (numbered t).partitions
    ∷ lacks_release (numbered t).schedule.windows (numbered t).partitions ∷ has_wrong_ends (numbered t).partitions (numbered t).channels ∷ has_unknown_action t ∷ []

either_way : (b : Bool) (x y : Result Table Refusal) (k n : ℕ) → outcome x ≡ k → outcome y ≡ n → outcome (if b then x else y) ≡ (if b then k else n)
either_way true x y k n one other = one
either_way false x y k n one other = other

judged : (t : TableText) → outcome (judge_text t) ≡ first_broken 3 (broken t)
unfolding judge_text judge_table first_broken broken outcome code
judged t =
    either_way _ _ _ 3 _ refl (either_way _ _ _ 4 _ refl (either_way _ _ _ 5 _ refl (either_way _ _ _ 6 _ refl (either_way _ _ _ 7 _ refl (either_way _ _ _ 8 _ refl (either_way _ _ _ 9 _ refl (either_way _ _ _ 10 _ refl refl)))))))

-- the table of a document that is refused by a rule after that of shapes
refused_by : (n : ℕ) (ms : Members) → outcome (verdict ms) ≡ 3 + n → (t : TableText) × (table_text_of ms ≡ Some t) × IsFirst n (broken t)
unfolding verdict outcome code
refused_by n ms is = by_text (table_text_of ms) refl is
  where
    by_text : (o : Option TableText) → table_text_of ms ≡ o → outcome (elim o [ None ↦ Err rule.Shape | Some text ↦ judge_text text ]) ≡ 3 + n → (t : TableText) × (table_text_of ms ≡ Some t) × IsFirst n (broken t)
    by_text None e h = absurd (omega (arith, h))
    by_text (Some t) e h = (t, e, is_first n 3 (broken t) (omega arith) (sym (judged t) ∙ h))

refused_shape : (ms : Members) → outcome (verdict ms) ≡ 2 → is_none (table_text_of ms) ≡ true
unfolding verdict outcome code
refused_shape ms is = by_text (table_text_of ms) is
  where
    by_text : (o : Option TableText) → outcome (elim o [ None ↦ Err rule.Shape | Some text ↦ judge_text text ]) ≡ 2 → is_none o ≡ true
    by_text None h = refl
    by_text (Some t) h = let first = sym (judged t) ∙ h in elim (not_before 3 (broken t)) [ inl none ↦ absurd (omega (arith, first, none)) | inr later ↦ absurd (omega (arith, first, later)) ]

in_text : (f : TableFault) (ms : Members) (t : TableText) → table_text_of ms ≡ Some t → has_any (findings_with f ms) ≡ has_any (findings_in f t)
in_text f ms t is = rw (findings_with, is) refl

pub refusal_found : (ms : Members) → members_are_sorted ms ≡ true → (f : TableFault) → IsOf f (verdict ms) → f ≢ fault.Memory → has_any (findings f ms) ≡ true
unfolding broken numbered outcome code
refusal_found ms sorted fault.Memory is said = absurd (said refl)
refusal_found ms sorted fault.Document is said = absurd is
refusal_found ms sorted fault.Shape is said = sym (shape_any ms sorted) ∙ refused_shape ms (ap outcome is)
refusal_found ms sorted fault.Limit is said =
    let r = refused_by 0 ms (ap outcome is) in
    in_text fault.Limit ms r.0 r.1 ∙ sym (limits_any r.0 (few ms r.0 r.1)) ∙ r.2
refusal_found ms sorted fault.Name is said =
    let r = refused_by 1 ms (ap outcome is) in
    in_text fault.Name ms r.0 r.1 ∙ sym (names_any r.0) ∙ r.2.1
refusal_found ms sorted fault.Overlap is said =
    let r = refused_by 2 ms (ap outcome is) in
    in_text fault.Overlap ms r.0 r.1 ∙ sym (overlaps_any r.0.frame (pos 0) 0 r.0.windows) ∙ r.2.1.1
refusal_found ms sorted fault.Period is said =
    let r = refused_by 3 ms (ap outcome is) in
    in_text fault.Period ms r.0 r.1 ∙ sym (odd_periods_any r.0 r.2.0) ∙ r.2.1.1.1
refusal_found ms sorted fault.Duration is said =
    let r = refused_by 4 ms (ap outcome is) in
    in_text fault.Duration ms r.0 r.1 ∙ sym (short_periods_any r.0 r.2.0 (partitions_differ r.0 (or_first (has_same_names r.0) (has_unknown_name r.0) r.2.1.0))) ∙ r.2.1.1.1.1
refusal_found ms sorted fault.Release is said =
    let r = refused_by 5 ms (ap outcome is) in
    in_text fault.Release ms r.0 r.1 ∙ sym (missing_releases_any r.0 (partitions_differ r.0 (or_first (has_same_names r.0) (has_unknown_name r.0) r.2.1.0))) ∙ r.2.1.1.1.1.1
refusal_found ms sorted fault.Ends is said =
    let r = refused_by 6 ms (ap outcome is) in
    in_text fault.Ends ms r.0 r.1 ∙ sym (ends_any r.0 r.2.0 (or_second (has_same_names r.0) (has_unknown_name r.0) r.2.1.0)) ∙ r.2.1.1.1.1.1.1
refusal_found ms sorted fault.Health is said =
    let r = refused_by 7 ms (ap outcome is) in
    sym (actions_found ms r.0 sorted r.1) ∙ r.2.1.1.1.1.1.1.1
