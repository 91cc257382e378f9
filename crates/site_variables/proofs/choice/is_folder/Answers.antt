use Rattle.std.specs.Prelude.{codes}
use Rattle.std.proofs.lemmas.Str.Pattern.{ends_text}
use Rattle.site_variables.proofs.choice.is_folder.Goals as goal

pub returns : goal.returns
returns c = ends_text c.ends_with.result (codes "/") c.args.url.now c.ends_with.ensures.cases
