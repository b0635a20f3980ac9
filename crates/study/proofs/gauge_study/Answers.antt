-- The study asks two-way's own checks first and balance next, before it lends the scratch on; the analysis then cannot be refused, since it asks the same checks.
use Rattle.std.proofs.Common.{arith}
use Rattle.study.proofs.Ways.{not_passed, checked, design, counts_length, some, not_balanced, few_meters, few_benches, answered}
use Rattle.study.proofs.gauge_study.Goals as goal

pub returns-in-Err : goal.returns-in-Err
returns-in-Err c = not_passed _ _ _ c.args.scratch.now c.check_two_way_data.ensures _ c.in-Err.is c.refused.ensures

pub overflow_mul-k : goal.overflow_mul-k
overflow_mul-k c = omega (arith, (design _ _ _ _ _ (checked _ _ _ c.args.scratch.now c.check_two_way_data.ensures c.in-Ok.is)).few)

pub shared_ref_as_front-balance_refusal : goal.shared_ref_as_front-balance_refusal
shared_ref_as_front-balance_refusal c = (design _ _ _ _ _ (checked _ _ _ c.args.scratch.now c.check_two_way_data.ensures c.in-Ok.is)).few

pub balance_refusal-requires : goal.balance_refusal-requires
balance_refusal-requires c =
    let k = checked _ _ _ c.args.scratch.now c.check_two_way_data.ensures c.in-Ok.is in
    omega (arith, counts_length _ _ _ _ _ k, some _ _ _ _ _ k)

pub returns-in-Err-balance_refusal : goal.returns-in-Err-balance_refusal
returns-in-Err-balance_refusal c =
    let k = checked _ _ _ c.args.scratch.now c.check_two_way_data.ensures c.in-Ok.is in
    not_balanced _ _ _ _ _ k _ c.balance_refusal.ensures c.in-Err-balance_refusal.is c.refused-in-Err-balance_refusal.ensures

pub components-requires : goal.components-requires
components-requires c =
    let k = checked _ _ _ c.args.scratch.now c.check_two_way_data.ensures c.in-Ok.is in
    (few_meters _ _ _ _ _ k _ _ c.two_way_anova-t.ensures, (few_benches _ _ _ _ _ k _ _ c.two_way_anova-t.ensures, (design _ _ _ _ _ k).small 0 (some _ _ _ _ _ k)))

pub returns : goal.returns
returns c =
    let k = checked _ _ _ c.args.scratch.now c.check_two_way_data.ensures c.in-Ok.is in
    answered _ _ _ _ _ k _ _ c.two_way_anova-t.ensures _ c.balance_refusal.ensures c.in_default.is c.components.ensures
