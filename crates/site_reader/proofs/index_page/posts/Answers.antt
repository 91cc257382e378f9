use Rattle.std.proofs.Common.{ap, arith, length}
use Rattle.std.proofs.lemmas.List.{length-reverse}
use Rattle.site_reader.proofs.PageLaws.{listed_few}
use Rattle.site_reader.proofs.index_page.posts.Goals as goal

pub returns-clause-few : goal.returns-clause-few
returns-clause-few c =
    omega (arith, ap length c.reverse.ensures.items, length-reverse c.in_ok-names.names.items, ap length c.in_ok-names.ensures, listed_few c.args.items.now)
