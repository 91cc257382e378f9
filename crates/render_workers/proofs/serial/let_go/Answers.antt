use Rattle.render_workers.proofs.serial.let_go.Goals as goal

pub returns : goal.returns
returns g c = c.pool.follows.holds-at-none
