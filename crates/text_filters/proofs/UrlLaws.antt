-- A text in the form of a URL, read byte by byte.
use Rattle.std.proofs.Common.{◌≡◌, ℕ, List, [], ◌∷◌, ◌++◌, refl, ap, sym, append_assoc, Bool, true, false, Some, None}
use Rattle.std.specs.Prelude.{Option}
use Rattle.std.specs.Option.{option_map}
use Rattle.std.specs.Str.{IsUtf8, is_utf8}
use Rattle.std.proofs.lemmas.Str.{IsUtf8-from_is_utf8}
use Rattle.text_filters.specs.UrlTexts.{with_byte}

-- what was read, with what is left
abbrev pub behind : List ℕ → Option (List ℕ) → Option (List ℕ)
behind made t = option_map (λ s. made ++ s) t

pub behind_more : (made : List ℕ) (c : ℕ) (t : Option (List ℕ)) → behind (made ++ c ∷ []) t ≡ behind made (with_byte (Some c) t)
behind_more made c None = refl
behind_more made c (Some s) = ap Some (append_assoc made (c ∷ []) s)

pub behind_nothing : (t : Option (List ℕ)) → behind [] t ≡ t
behind_nothing None = refl
behind_nothing (Some s) = refl

pub behind_none : (made : List ℕ) (t whole : Option (List ℕ)) → behind made t ≡ whole → t ≡ None → whole ≡ None
behind_none made None whole e h = sym e
behind_none made (Some s) whole e h = absurd cc

pub not_utf8 : (t : List ℕ) → (IsUtf8 t → ⊥) → is_utf8 t ≡ false
not_utf8 t none = go (is_utf8 t) refl
  where
    go : (b : Bool) → is_utf8 t ≡ b → b ≡ false
    go true e = absurd (none (IsUtf8-from_is_utf8 t e))
    go false e = refl
