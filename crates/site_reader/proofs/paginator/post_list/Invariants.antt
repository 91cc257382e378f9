use Rattle.std.proofs.Common.{◌≡◌, drop}
use Rattle.site_base.specs.Plain.{onto}
use Rattle.site_reader.specs.Paginating.{names}
use Rattle.site_reader.proofs.paginator.post_list.Given as goal

abbrev pub invariant-loop-name : goal.invariant-loop-name
invariant-loop-name l = onto l.list (names (drop l.name-index l.posts)) ≡ names l.posts
