use Rattle.std.proofs.Common.{◌≡◌, length, arith, sym, ◌∙◌}
use Rattle.std.proofs.lemmas.Slice.Eq.{bytes_eq-Decides}
use Rattle.site_world.proofs.TextCodes.{makes, has_head, has_text}
use Rattle.site_world.proofs.text_code.is_text_code.Goals as goal

pub returns-then-eq : goal.returns-then-eq
returns-then-eq c =
    let cut = c.split_at.ensures.by_index.0 in
    let same = (bytes_eq-Decides c.split_at.result.1.now c.args.text.now).0 (sym c.eq.ensures ∙ c.if-eq.true) in (
      λ h. makes c.args.code.now c.split_at.result.0.now c.split_at.result.1.now c.args.text.now cut same (c.is_head.ensures.0 h),
      λ e. c.is_head.ensures.1 (has_head c.args.code.now c.split_at.result.0.now c.split_at.result.1.now c.args.text.now cut same e),
    )

pub returns-else-eq : goal.returns-else-eq
returns-else-eq c =
    let cut = c.split_at.ensures.by_index.0 in
    let long : length c.split_at.result.1.now ≡ length c.args.text.now = omega (arith, c.split_at.ensures.back_len) in (
      λ h. absurd (cc),
      λ e. c.eq.ensures ∙ (bytes_eq-Decides c.split_at.result.1.now c.args.text.now).1 (has_text c.args.code.now c.split_at.result.0.now c.split_at.result.1.now c.args.text.now cut long e),
    )
