use Rattle.std.proofs.Common.{nat_le, rules}
use Rattle.std.proofs.lemmas.List.Sorted.{IsPartitionPoint-from_clause}
use Rattle.cm_inlines.proofs.PlaceLaws.{cut_at, is_cut}
use Rattle.cm_inlines.proofs.reading.first_behind.Goals as goal

pub returns-clause-value : goal.returns-clause-value
returns-clause-value c = λ before behind split low high.
    cut_at c.args.places.now before behind c.args.place split low high c.partition_point.result c.partition_point.ensures.bound
    (IsPartitionPoint-from_clause (λ p. nat_le p c.args.place) _ _ c.partition_point.ensures.partitioned (is_cut c.args.places.now before behind c.args.place split low high) (λ a r q h. search rules))
