use Rattle.std.proofs.lemmas.Bool.Decides.{same_from_decides}
use Rattle.std.proofs.lemmas.Str.Pattern.{contains_text}
use Rattle.liquid_tags.specs.Conditions.{stands_in}
use Rattle.liquid_tags.proofs.ConditionLaws.{stands-Decides}
use Rattle.liquid_tags.proofs.conditions.stands_in.Goals as goal

pub returns : goal.returns
returns c =
    let part = c.args.part.now in let text = c.args.text.now in
    same_from_decides c.contains.result (stands_in part text) (contains_text c.contains.result part text c.contains.ensures.cases) (stands-Decides part text)
