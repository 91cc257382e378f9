use Rattle.std.proofs.Common.{List, ℕ, ◌∙◌, ap, length}
use Rattle.std.specs.Option.{option_copied}
use Rattle.site_base.specs.Code.{past}
use Rattle.site_base.specs.Decimal.{decimal}
use Rattle.site_base.proofs.PastLaws.{past_parts}
use Rattle.site_base.proofs.value.matching.past_text.Goals as goal

pub returns : goal.returns
returns c =
    let text = c.args.text.now in let bytes = option_copied c.args.bytes in
    c.past_bytes.ensures
    ∙ ap (λ (t : List ℕ). past t (option_copied c.past_head.result)) c.as_bytes.ensures.value
    ∙ ap (past text) c.past_head.ensures
    ∙ past_parts 115 (decimal (length text)) text bytes
