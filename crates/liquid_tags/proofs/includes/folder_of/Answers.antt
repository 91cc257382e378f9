use Rattle.std.proofs.Common.{◌∙◌, Some, None, arith}
use Rattle.std.proofs.lemmas.Str.Pattern.{rfind_char}
use Rattle.liquid_tags.proofs.FolderLaws.{folder_some, folder_none}
use Rattle.liquid_tags.proofs.includes.folder_of.Goals as goal

pub returns-in-Some : goal.returns-in-Some
returns-in-Some c = c.range_inclusive.ensures.value ∙ folder_some c.args.path.now c.in-Some.slash (rfind_char 47 c.args.path.now (Some c.in-Some.slash) c.in-Some.ensures.cases (omega arith))

pub returns-in-None : goal.returns-in-None
returns-in-None c = folder_none c.args.path.now (rfind_char 47 c.args.path.now None c.in-None.ensures.cases (omega arith))
