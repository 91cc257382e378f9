-- Whether the bytes of a file are a text.
use Rattle.std.proofs.Common.{◌≡◌, ℕ, Bool, true, false, cond, List, Some, refl, sym, ap, ◌∙◌}
use Rattle.std.specs.Str.{IsUtf8, is_utf8}
use Rattle.std.proofs.lemmas.Str.{IsUtf8-from_is_utf8, is_utf8-from_IsUtf8}
use Rattle.site_base.specs.Plain.{nil, text}
use Rattle.site_world.specs.Sights.{file_text}

not_utf8 : (s : List ℕ) → (IsUtf8 s → ⊥) → is_utf8 s ≡ false
not_utf8 s none = at (is_utf8 s) (IsUtf8-from_is_utf8 s)
  where
    at : (b : Bool) → (b ≡ true → IsUtf8 s) → b ≡ false
    at true holds = absurd (none (holds refl))
    at false holds = refl

pub file_of_words : (bytes slice words : List ℕ) → slice ≡ bytes → words ≡ slice → IsUtf8 slice → text words ≡ file_text (Some bytes)
file_of_words bytes slice words same read utf8 =
    ap text (read ∙ same) ∙ sym (ap (λ b. cond b (text bytes) nil) (ap is_utf8 (sym same) ∙ is_utf8-from_IsUtf8 slice utf8))

pub file_of_none : (bytes slice : List ℕ) → slice ≡ bytes → (IsUtf8 slice → ⊥) → nil ≡ file_text (Some bytes)
file_of_none bytes slice same none = sym (ap (λ b. cond b (text bytes) nil) (ap is_utf8 (sym same) ∙ not_utf8 slice none))
