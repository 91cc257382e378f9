use Rattle.std.proofs.Common.{arith, sym}
use Rattle.std.proofs.lemmas.List.{drop_all, take_all}
use Rattle.site_reader.proofs.paginating.cut.Goals as goal

pub returns-else-per_page-posts-clause-own : goal.returns-else-per_page-posts-clause-own
returns-else-per_page-posts-clause-own c = sym (take_all c.args.per_page c.args.posts.now (omega (arith, c.if-per_page-posts.false)))

pub returns-else-per_page-posts-clause-rest : goal.returns-else-per_page-posts-clause-rest
returns-else-per_page-posts-clause-rest c = sym (drop_all c.args.per_page c.args.posts.now (omega (arith, c.if-per_page-posts.false)))
