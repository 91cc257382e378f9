use Rattle.std.proofs.Common.{arith, ◌≡◌, ◌-◌, ◌<◌, slice_index, subst, sym}
use Rattle.std.specs.List.{prefix_len}
use Rattle.site_text.specs.Bytes.{is_name_byte}
use Rattle.liquid_expr.proofs.TokenLaws.{last_ascii, name_ascii}
use Rattle.liquid_expr.proofs.token.name_len.Goals as goal

pub returns-clause-ascii : goal.returns-clause-ascii
returns-clause-ascii c some =
    let bytes = c.args.bytes.now in
    let e : c.class_run.result ≡ prefix_len is_name_byte bytes = c.class_run.ensures.counted in
    subst (λ k. slice_index bytes (k - 1) < 128) (sym e) (last_ascii is_name_byte name_ascii bytes (omega (arith, e, some)))
