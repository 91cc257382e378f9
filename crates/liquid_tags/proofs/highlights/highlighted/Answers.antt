use Rattle.std.proofs.Common.{◌≡◌, ◌∙◌, ◌++◌, ap, map, codes, string_bytes}
use Rattle.std.proofs.lemmas.Result.{IfOk-weaker}
use Rattle.std.specs.Char.{to_ascii_lowercase}
use Rattle.text_filters.specs.Changes.{changed}
use Rattle.text_filters.specs.declared.changes.TextChange.TheVariants.{Escape}
use Rattle.liquid_tags.specs.Highlights.{class_byte, without_line_ends}
use Rattle.liquid_tags.proofs.HighlightLaws.{pieced}
use Rattle.liquid_tags.proofs.highlights.highlighted.Goals as goal

pub returns : goal.returns
returns c =
    let name = map to_ascii_lowercase c.args.language.now in
    let lower : string_bytes c.in_ok-name.name ≡ name = c.in_ok-name.ensures.ok in
    let escaped = changed Escape (without_line_ends c.args.code.now) in
    let all = pieced _ _ _ _ _ _ _ _ (codes "<figure class=\"highlight\"><pre><code class=\"language-") (map class_byte name) (codes "\" data-lang=\"") name (codes "\">") escaped (codes "</code></pre></figure>")
    c.new-text.ensures.bytes
    c.in_ok-push_str.ensures.bytes
    (c.in_ok-push_class.ensures ∙ ap (λ n. string_bytes c.push_str.new.self ++ map class_byte n) (c.as_str.ensures.value ∙ lower))
    c.in_ok-push_str-2.ensures.bytes
    (c.in_ok-push_str-3.ensures.bytes ∙ ap (λ n. string_bytes c.push_str-2.new.self ++ n) (c.as_str-2.ensures.value ∙ lower))
    c.in_ok-push_str-4.ensures.bytes
    (c.in_ok-push_str-5.ensures.bytes ∙ ap (λ t. string_bytes c.push_str-4.new.self ++ t) (c.as_str-3.ensures ∙ c.in_ok-code.ensures ∙ ap (changed Escape) c.without_line_ends.ensures))
    c.in_ok-push_str-6.ensures.bytes in
    IfOk-weaker c.from_string.result _ _ (λ t e. e ∙ all) c.from_string.ensures
