use Rattle.std.proofs.Common.{List, ℕ, ◌+◌, ◌/◌, ◌%◌, ◌∙◌, [], ◌∷◌, ap, sym}
use Rattle.std.specs.Option.{option_copied}
use Rattle.site_base.specs.Code.{past}
use Rattle.site_base.specs.Decimal.{decimal}
use Rattle.site_base.proofs.DecimalLaws.{decimal_large}
use Rattle.site_base.proofs.PastLaws.{past_past}
use Rattle.round_tests.proofs.text_code.+past_number.Goals as goal

pub returns : goal.returns
returns t c =
    let n = c.args.number in let last = (48 + n % 10) ∷ [] in let bytes = option_copied c.args.bytes in
    c.past_byte-2.ensures ∙ ap (past last) c.past_number.ensures ∙ past_past (decimal (n / 10)) last bytes ∙ ap (λ (ds : List ℕ). past ds bytes) (sym (decimal_large n c.if-number-lt10.false))
