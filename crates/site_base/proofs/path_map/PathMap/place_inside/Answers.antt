use Rattle.std.proofs.Common.{rules, ◌++◌, ◌∷◌, [], sym, ◌∙◌, ap, subst}
use Rattle.std.specs.Ordering.{is_gt}
use Rattle.std.proofs.lemmas.List.Sorted.{IsPartitionPoint-from_clause}
use Rattle.site_base.specs.Places.{path_cmp, PathsRise, count_below}
use Rattle.site_base.proofs.Entries.{partitioned, counted}
use Rattle.site_base.proofs.path_map.PathMap.place_inside.Goals as goal

pub returns-clause-is : goal.returns-clause-is
returns-clause-is g c =
    let m = c.args.self.now in
    let k = c.args.folder.now ++ 47 ∷ [] in
    let same = c.deref.ensures.value in
    let parted = partitioned k c.deref.result.now (subst PathsRise (sym same) m.rises) in
    counted k _ _ c.partition_point.ensures.bound
    (IsPartitionPoint-from_clause (λ e. is_gt (path_cmp k e.0)) _ _ c.partition_point.ensures.partitioned parted (λ a r q h. search rules))
    ∙ ap (count_below k) same
