use Rattle.cm_inlines.proofs.ListLaws.{unlinked_lists}
use Rattle.cm_inlines.proofs.reading.close_at.Goals as goal

pub returns-in_ok-leave_bracket-in-None-clause-listed : goal.returns-in_ok-leave_bracket-in-None-clause-listed
returns-in_ok-leave_bracket-in-None-clause-listed c = unlinked_lists c.args.found c.args.delimiters.now c.args.nodes.now.items c.leave_bracket.new.nodes.items c.requires c.in_ok-leave_bracket-in-None.ensures
