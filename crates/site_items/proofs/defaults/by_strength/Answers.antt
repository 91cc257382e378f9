use Rattle.std.proofs.Common.{◌∙◌, ap, rules, map, arith, Bor}
use Rattle.std.specs.Ordering.{nat_cmp}
use Rattle.std.proofs.lemmas.Cmp.{nat_cmp_total}
use Rattle.site_base.specs.StableSort.{stable_sort}
use Rattle.site_base.proofs.SortLaws.{seen_sorted, sorted_by}
use Rattle.site_config.specs.declared.scope.Scope.{Scope}
use Rattle.site_items.specs.Defaults.{is_weaker, strength}
use Rattle.site_items.proofs.Taking.{one_taken, all_taken}
use Rattle.site_items.proofs.defaults.by_strength.Goals as goal

pub loop-scope-preserved : goal.loop-scope-preserved
loop-scope-preserved c =
    one_taken (λ (s : Bor Scope). s.now) c.args.scopes.now c.loop-scope.ordered.items c.push.new.self.items c.loop-scope.scope-index _ c.in_ok-push.ensures.items (search rules) c.scope-item.is c.loop-scope.invariant

pub returns : goal.returns
returns c =
    let xs = c.loop-scope.ordered.items in let sort = c.in_ok-sort_by.ensures in
    ap (map (λ s. s.now)) (sorted_by nat_cmp nat_cmp_total (λ (s : Bor Scope). strength s.now) xs _ sort.sorted sort.stable (λ a r q k. search rules))
    ∙ seen_sorted (λ (s : Bor Scope). s.now) is_weaker xs
    ∙ ap (stable_sort is_weaker) (all_taken (λ (s : Bor Scope). s.now) c.args.scopes.now xs c.loop-scope.scope-index (search (rules, arith)) c.loop-scope.invariant)
