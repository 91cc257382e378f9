use Rattle.std.proofs.Common.{◌≡◌, ℕ, List, ◌/◌, ◌<◌, ◌≤◌, ◌∙◌, ◌++◌, [], ◌∷◌, ap, arith}
use Rattle.std.specs.String.{string_bytes}
use Rattle.site_base.specs.Decimal.{decimal}
use Rattle.site_base.proofs.DecimalLaws.{decimal_ends}
use Rattle.site_base.proofs.value.writing.+push_decimal.Goals as goal
use Rattle.site_base.proofs.value.writing.+push_decimal.Goals.{then-number-ge10+in_ok-push_decimal, else-number-ge10}

pub returns : goal.returns
returns t c =
    let old = string_bytes c.args.out.now in
    let others = string_bytes c.if-number-ge10.out in
    let ascii : c.from.result < 128 = omega (arith, c.from.ensures) in
    let large : 10 ≤ c.args.number → others ≡ old ++ decimal (c.args.number / 10) =
    λ le. elim c.if-number-ge10.branch [ then-number-ge10+in_ok-push_decimal w ↦ ap string_bytes w.out-is ∙ w.in_ok-push_decimal.ensures | else-number-ge10 w ↦ absurd (omega arith) ] in
    let small : c.args.number < 10 → others ≡ old =
    λ lt. elim c.if-number-ge10.branch [ then-number-ge10+in_ok-push_decimal w ↦ absurd (omega arith) | else-number-ge10 w ↦ ap string_bytes w.out-is ] in
    c.in_ok-push.ensures.bytes
    ∙ ap (λ (ds : List ℕ). others ++ ds) (c.in_ok-push.ensures.ascii ascii ∙ ap (λ (d : ℕ). d ∷ []) c.from.ensures)
    ∙ decimal_ends old others c.args.number large small
