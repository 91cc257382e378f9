use Rattle.std.proofs.Common.{arith, ◌≡◌, ◌∙◌, ap, IfOk, ℕ, List}
use Rattle.std.proofs.lemmas.Grind.{common_steps}
use Rattle.feed_pages.specs.Located.{located}
use Rattle.feed_pages.specs.Sitemap.{sitemap}
use Rattle.feed_pages.proofs.SitemapLaws.{for_made, sitemap_located}
use Rattle.feed_pages.proofs.sitemap.sitemap_body.Goals as goal

pub returns-clause-lists : goal.returns-clause-lists
returns-clause-lists c =
    let is : IfOk c.from_string.result (λ body. body ≡ sitemap c.args.base.now c.args.pages.now) = grind (arith, common_steps) in
    for_made c.from_string.result (λ body e. ap (λ (t : List ℕ). located t) e ∙ sitemap_located c.args.base.now c.args.pages.now) is
