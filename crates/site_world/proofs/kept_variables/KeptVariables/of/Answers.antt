use Rattle.std.proofs.Common.{ap, refl, ◌∙◌}
use Rattle.std.proofs.lemmas.Result.{IfOk-weaker}
use Rattle.site_world.specs.Shelves.{shelved}
use Rattle.site_world.specs.declared.shelf.Shelf.{Shelf}
use Rattle.site_world.proofs.kept_variables.KeptVariables.of.Goals as goal

-- what is kept has the basis of this site, so it is this site's
pub returns-then-is_of : goal.returns-then-is_of
returns-then-is_of c =
    IfOk-weaker c.share.result _ _ (λ made same x. ap (λ (s : Shelf). shelved s x) same ∙ c.in-Some.last.shown c.args.site.now (c.if-is_of.ensures.0 refl) c.requires x) c.share.ensures

-- what is new was made for it
pub returns : goal.returns
returns c = λ x.
    ap (λ (s : Shelf). shelved s x) c.in_ok-variables.ensures ∙ c.in_ok-made.made.shown c.args.site.now c.in_ok-made.ensures c.requires x
