use Rattle.site_script.proofs.Forms.{no_space_put, put_at_last_space}
use Rattle.site_script.proofs.head.read_put.Goals as goal

pub returns-in-Some : goal.returns-in-Some
returns-in-Some c = put_at_last_space c.args.rest.now c.in-Some.path.now c.in-Some.count.now c.read_put_of.result c.in-Some.ensures.cases c.read_put_of.ensures

pub returns-in-None : goal.returns-in-None
returns-in-None c = no_space_put c.args.rest.now c.in-None.ensures.cases
