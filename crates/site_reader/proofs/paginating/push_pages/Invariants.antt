use Rattle.std.proofs.Common.{◌≡◌, ◌+◌, ◌-◌}
use Rattle.site_reader.specs.Paginating.{with_pages}
use Rattle.site_reader.proofs.paginating.push_pages.Given as goal

abbrev pub invariant-loop-number : goal.invariant-loop-number
invariant-loop-number l =
    with_pages l.paging (l.paging.total_pages - l.number) (l.number + 1) l.rest l.items.items ≡ with_pages l.paging (l.paging.total_pages - 1) 2 l.posts l.initial.items.items
