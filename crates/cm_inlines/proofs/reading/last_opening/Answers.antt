use Rattle.std.proofs.Common.{sym, ◌∙◌}
use Rattle.cm_inlines.proofs.ListLaws.{last_is_found, last_is_none}
use Rattle.cm_inlines.proofs.reading.last_opening.Goals as goal

pub returns-in-Some : goal.returns-in-Some
returns-in-Some c = c.found_at.ensures ∙ sym (last_is_found c.args.nodes.now c.args.brackets.now c.in-Some.place.now c.requires c.in-Some.ensures.value)

pub returns-in-None : goal.returns-in-None
returns-in-None c = sym (last_is_none c.args.nodes.now c.args.brackets.now c.requires c.in-None.ensures.value)
