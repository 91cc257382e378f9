use Rattle.std.proofs.Common.{◌≡◌}
use Rattle.site_generator.specs.Generator.{made_site, title_of}
use Rattle.site_generator.proofs.site.make_site.Given as goal

abbrev pub invariant-loop-post : goal.invariant-loop-post
invariant-loop-post l = (l.held ≡ made_site l.fn.number l.post) × (l.title ≡ title_of l.fn.number l.post)
