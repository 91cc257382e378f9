use Rattle.std.proofs.Common.{◌∙◌, ap, ◌++◌, ℕ, string_bytes, encode_utf8}
use Rattle.std.proofs.lemmas.Str.{IsUtf8-past_char}
use Rattle.liquid_tags.proofs.HighlightLaws.{class_more, class_end}
use Rattle.liquid_tags.proofs.highlights.push_class.Goals as goal

pub loop-character-preserved : goal.loop-character-preserved
loop-character-preserved c =
    let held = c.loop-character.invariant in
    let parts = c.in-Some.ensures.steps.0 in
    record {
      readable = IsUtf8-past_char _ _ c.in-Some.character held.readable parts;
      so_far = class_more _ _ _ _ _ c.in-Some.character (c.in_ok-push.ensures.bytes ∙ ap (λ (d : ℕ). string_bytes c.loop-character.text ++ encode_utf8 d) c.in_class.ensures) parts held.so_far;
    }

pub returns : goal.returns
returns c = class_end _ _ _ c.in-None.ensures.steps.0.0 c.loop-character.invariant.so_far
