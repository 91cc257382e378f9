use Rattle.std.proofs.Common.{ap, sym, subst, arith, ◌∙◌, ◌+◌, ◌++◌, length, take}
use Rattle.std.specs.Str.{IsUtf8}
use Rattle.std.proofs.lemmas.Grind.{merely}
use Rattle.std.proofs.lemmas.List.{length-take-le}
use Rattle.std.proofs.lemmas.Slice.{take-put_mid}
use Rattle.std.proofs.lemmas.Str.{IsUtf8-append, IsUtf8-had}
use Rattle.site_base.proofs.text.Letters.joined_inside.Goals as goal

pub invariant_of-result : goal.invariant_of-result
invariant_of-result c =
    let len = c.self.inside.len in
    let bytes = c.self.inside.bytes in
    let same = c.copy_from_slice.ensures.after ∙ c.as_bytes.ensures.value in
    let whole = take-put_mid len _ bytes c.copy_from_slice.new.self _ (ap (λ t. len + length t) (sym same)) (omega (arith, c.self.invariant.0)) ∙ ap (λ t. take len bytes ++ t) same in (
      omega (arith, c.requires, ap length c.self.view_is, length-take-le len bytes (omega (arith, c.self.invariant.0))),
      merely (subst IsUtf8 (sym whole) (IsUtf8-append _ _ (IsUtf8-had _ c.self.invariant.1) c.utf8.text)),
    )
