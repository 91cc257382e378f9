use Rattle.std.proofs.Common.{ap, ◌∙◌}
use Rattle.site_base.specs.Plain.{get}
use Rattle.site_variables.proofs.RestingLaws.{rests_on}
use Rattle.site_world.proofs.kept_variables.Based.of.Goals as goal

-- they are those of each site with the basis
pub invariant_of-result : goal.invariant_of-result
invariant_of-result c = record {
  shown = λ site on set x.
      c.in_ok-variables.ensures x ∙ ap (get x) (rests_on c.in_ok-basis.basis c.args.site.now site c.in_ok-basis.ensures on c.requires set);
}
