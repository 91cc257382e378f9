use Rattle.std.proofs.Common.{◌≡◌, subst, true, false, refl, List, ℕ, Ok, ◌∙◌, ap, sym}
use Rattle.std.specs.Result.{MatchResult}
use Rattle.std.specs.Str.{is_utf8}
use Rattle.std.proofs.lemmas.Str.{is_utf8-from_IsUtf8}
use Rattle.site_items.specs.Matter.{text_matter}
use Rattle.site_items.specs.Outcomes.{IsFault}
use Rattle.site_items.proofs.Utf8Tests.{not_utf8}
use Rattle.site_items.proofs.matter.read_matter.Goals as goal

pub returns-in-Ok : goal.returns-in-Ok
returns-in-Ok g c =
    let same = c.in-Ok.ensures.cases.0 ∙ c.as_slice.ensures ∙ c.bytes.ensures in
    let fits : is_utf8 c.args.content.now ≡ true = ap is_utf8 (sym (c.as_slice.ensures ∙ c.bytes.ensures)) ∙ is_utf8-from_IsUtf8 c.as_slice.result.now c.in-Ok.ensures.cases.1 in
    let made : List ℕ → Type 0 = λ s. let found = text_matter s in MatchResult c.text_matter.result (λ made. found ≡ Ok made) (IsFault found) in
    rw fits (subst made same c.text_matter.ensures)

pub returns-in-Err : goal.returns-in-Err
returns-in-Err g c =
    let other : is_utf8 c.args.content.now ≡ false = ap is_utf8 (sym (c.as_slice.ensures ∙ c.bytes.ensures)) ∙ not_utf8 c.as_slice.result.now c.in-Err.ensures.cases.0 in
    rw (other, c.utf8_fault.ensures) refl
