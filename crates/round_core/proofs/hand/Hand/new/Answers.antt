use Rattle.std.proofs.Common.{◌≡◌, ◌∙◌, ap, replicate, length, None, Option, arith}
use Rattle.read_record.specs.Entries.{Kept}
use Rattle.round_core.proofs.hand.Hand.new.Goals as goal

pub returns : goal.returns
returns g c =
    let all : c.loop.counter ≡ length (g.W.World.names c.args.world.now) = omega (arith, c.items-items.ensures) in
    c.loop.invariant ∙ ap (λ n. replicate {A = Option Kept} n None) all
