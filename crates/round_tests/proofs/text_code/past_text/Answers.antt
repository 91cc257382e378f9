use Rattle.std.proofs.Common.{List, ℕ, ◌∙◌, [], ◌∷◌, ap, length, Option, Some}
use Rattle.std.specs.Option.{option_copied}
use Rattle.site_base.specs.Code.{past}
use Rattle.site_base.specs.Decimal.{decimal}
use Rattle.site_base.proofs.PastLaws.{past_past, past_parts}
use Rattle.round_tests.proofs.text_code.past_text.Goals as goal

pub returns : goal.returns
returns c =
    let text = c.args.text.now in let bytes : Option (List ℕ) = Some c.args.bytes.now in let digits = decimal (length text) in
    let number = c.past_number-length.ensures ∙ ap (λ n. past (decimal n) (option_copied c.past_byte.result)) c.len.ensures ∙ ap (past digits) c.past_byte.ensures ∙ past_past (115 ∷ []) digits bytes in
    c.past_bytes.ensures ∙ ap (λ (t : List ℕ). past t (option_copied c.past_byte-2.result)) c.as_bytes.ensures
    ∙ ap (past text) (c.past_byte-2.ensures ∙ ap (past (58 ∷ [])) number ∙ past_past (115 ∷ digits) (58 ∷ []) bytes) ∙ past_parts 115 digits text bytes
