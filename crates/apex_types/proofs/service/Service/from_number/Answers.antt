use Rattle.std.proofs.Common.{◌≡◌, ◌<◌, ◌≤◌, ◌-◌, ◌⊎◌, inl, inr, subst, sym, arith, Option}
use Rattle.std.specs.Prelude.{length, slice_get, IsNone}
use Rattle.apex_types.specs.ServiceShape.{services}
use Rattle.apex_types.specs.declared.service.Service.{Service}
use Rattle.apex_types.proofs.Numbers.{past_when_none, none_when_past}
use Rattle.apex_types.proofs.service.Service.from_number.Goals as goal

pub returns-clause-none : goal.returns-clause-none
returns-clause-none c =
    let i = c.args.number - 1 in
    let there : c.service_at.result ≡ slice_get services i = c.service_at.ensures in
    let positive : 0 < c.args.number = omega (arith, c.if-number-eq0.false) in (
      (λ (h : IsNone c.service_at.result). let past : length services ≤ i = past_when_none i (subst (λ (o : Option Service). IsNone o) there h) in inr (omega arith)),
      (λ (h : (c.args.number ≡ 0) ⊎ (length services < c.args.number)). let past : length services ≤ i = elim h [ inl e ↦ omega arith | inr e ↦ omega arith ] in subst (λ (o : Option Service). IsNone o) (sym there) (none_when_past i past)),
    )
