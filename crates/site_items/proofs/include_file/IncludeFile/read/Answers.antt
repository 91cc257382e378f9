use Rattle.std.proofs.Common.{◌≡◌, ◌∙◌, true, false, refl, ap, sym}
use Rattle.std.specs.Str.{is_utf8}
use Rattle.std.proofs.lemmas.Str.{is_utf8-from_IsUtf8}
use Rattle.site_items.proofs.Utf8Tests.{not_utf8}
use Rattle.site_items.proofs.include_file.IncludeFile.read.Goals as goal

pub returns-in_ok-end_of-in-Ok : goal.returns-in_ok-end_of-in-Ok
returns-in_ok-end_of-in-Ok c =
    let fits : is_utf8 c.args.bytes.now ≡ true = ap is_utf8 (sym c.as_slice.ensures) ∙ is_utf8-from_IsUtf8 c.as_slice.result.now c.in-Ok.ensures.cases.1 in
    let name = c.in_ok-copy-in-Ok.ensures ∙ c.behind.ensures in
    let text = c.in_ok-end_of-in-Ok.ensures ∙ c.in-Ok.ensures.cases.0 ∙ c.as_slice.ensures in
    rw (fits, name, text) refl

pub returns-in-Err : goal.returns-in-Err
returns-in-Err c =
    let other : is_utf8 c.args.bytes.now ≡ false = ap is_utf8 (sym c.as_slice.ensures) ∙ not_utf8 c.as_slice.result.now c.in-Err.ensures.cases.0 in
    rw (other, c.utf8_fault.ensures) refl
