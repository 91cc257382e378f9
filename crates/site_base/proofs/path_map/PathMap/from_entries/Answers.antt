use Rattle.std.proofs.Common.{sym, subst, rules}
use Rattle.std.specs.Ordering.{is_lt}
use Rattle.std.specs.Cmp.Lexicographic.{nat_list_cmp_total}
use Rattle.std.proofs.lemmas.List.Sorted.{ranks_by, answers_always}
use Rattle.site_base.specs.Places.{path_cmp, PathsRise}
use Rattle.site_base.proofs.Sorting.{map_moved, differ_sorted, differ_moved, rises_from_sorted}
use Rattle.site_base.proofs.path_map.PathMap.from_entries.Goals as goal

pub returns-then-rises : goal.returns-then-rises
returns-then-rises g c =
    let rises : PathsRise c.sort_unstable_by.new.self.items = subst (λ es. PathsRise es) c.deref.ensures.value (c.rises.ensures.0 c.if-rises.true) in
    (differ_sorted c.args.entries.items _ c.sort_unstable_by.ensures.permutation rises, map_moved c.args.entries.items _ c.sort_unstable_by.ensures.permutation rises)

pub returns-else-rises : goal.returns-else-rises
returns-else-rises g c = λ differ.
    let sorted = c.sort_unstable_by.ensures.sorted (λ x y. is_lt (path_cmp x.0 y.0)) (ranks_by nat_list_cmp_total (λ e. e.0)) (answers_always _ _ _ (λ a r q k. search rules)) in
    let rises : PathsRise c.sort_unstable_by.new.self.items = rises_from_sorted _ sorted (differ_moved c.args.entries.items _ c.sort_unstable_by.ensures.permutation differ) in
    let told = c.rises.ensures.1 (subst (λ es. PathsRise es) (sym c.deref.ensures.value) rises) in
    cc (told, c.if-rises.false)
