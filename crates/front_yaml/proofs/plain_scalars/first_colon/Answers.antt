use Rattle.std.proofs.Common.{◌&&◌, get_or, false, ap, sym, ◌∙◌, arith}
use Rattle.std.specs.Prelude.{◌==◌}
use Rattle.front_yaml.specs.PlainScalars.{separates}
use Rattle.front_yaml.proofs.Added.{colon_step}
use Rattle.front_yaml.proofs.plain_scalars.first_colon.Goals as goal

pub loop-n-preserved : goal.loop-n-preserved
loop-n-preserved c =
    let n = c.loop-n.n in
    let text = c.args.text.now in
    let e = ap (λ t. (get_or text n 0 == 58) && separates false t) (sym c.tail.ensures) ∙ sym c.ends_key.ensures ∙ c.if-ends_key.false in
    record { within = omega arith; told = sym (colon_step text n c.loop-n-test.true e) ∙ c.loop-n.invariant.told }
