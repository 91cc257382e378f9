use Rattle.std.proofs.Common.{◌≡◌, List, ℕ, Ok, true, false, ◌∙◌, ap, sym, subst}
use Rattle.std.specs.Str.{IsUtf8, is_utf8}
use Rattle.std.proofs.lemmas.Str.{IsUtf8-string_bytes, is_utf8-from_IsUtf8}
use Rattle.site_base.specs.Plain.{text}
use Rattle.text_filters.proofs.UrlLaws.{not_utf8}
use Rattle.text_filters.proofs.url_texts.as_text.Goals as goal

pub returns-in-Ok : goal.returns-in-Ok
returns-in-Ok c =
    let same = ap (λ v. v.items) c.in-Ok.ensures.ok in
    let test : is_utf8 c.args.bytes.items ≡ true = is_utf8-from_IsUtf8 _ (subst IsUtf8 same (IsUtf8-string_bytes c.in-Ok.made)) in
    rw test (ap (λ (t : List ℕ). Ok (text t)) (sym same ∙ sym c.in_ok-from_string-in-Ok.ensures))

pub returns : goal.returns
returns c =
    let test : is_utf8 c.args.bytes.items ≡ false = not_utf8 _ (λ u. let wrong = c.in-Err.ensures.succeeds u in absurd cc) in
    rw test
