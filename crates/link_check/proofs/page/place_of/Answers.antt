use Rattle.std.proofs.Common.{rules}
use Rattle.std.specs.Ordering.{is_gt}
use Rattle.std.proofs.lemmas.List.Sorted.{IsPartitionPoint-from_clause}
use Rattle.site_base.specs.Places.{path_cmp}
use Rattle.site_base.proofs.Entries.{partitioned, counted}
use Rattle.link_check.proofs.page.place_of.Goals as goal

pub returns-clause-is : goal.returns-clause-is
returns-clause-is c =
    let es = c.args.pages.now in
    let k = c.args.path.now in
    counted k es _ c.partition_point.ensures.bound
    (IsPartitionPoint-from_clause (λ e. is_gt (path_cmp k e.0)) _ _ c.partition_point.ensures.partitioned (partitioned k es c.requires) (λ a r q h. search rules))
