-- Slugs: the words of a text, joined by `-`, as the filter `slugify` of Jekyll 4's manual, "Liquid Filters".
use Rattle.std.specs.Prelude.{ℕ, Bool, true, false, not, List, [], ◌∷◌, ◌++◌, flat_map, encode_utf8}
use Rattle.std.specs.List.{slice_split}
use Rattle.std.specs.Char.{to_ascii_lowercase}
use Rattle.std.specs.Str.{chars}
use Rattle.ucd_category.specs.GeneralCategory.{general_category}
use Rattle.ucd_category.specs.declared.GeneralCategory.{GeneralCategory}
use Rattle.ucd_category.specs.declared.GeneralCategory.TheVariants.{UppercaseLetter, LowercaseLetter, TitlecaseLetter, ModifierLetter, OtherLetter, NonspacingMark, SpacingMark, EnclosingMark, DecimalNumber}

-- letters, marks and decimal digits
abbrev pub is_word_category : GeneralCategory → Bool
is_word_category UppercaseLetter = true
is_word_category LowercaseLetter = true
is_word_category TitlecaseLetter = true
is_word_category ModifierLetter = true
is_word_category OtherLetter = true
is_word_category NonspacingMark = true
is_word_category SpacingMark = true
is_word_category EnclosingMark = true
is_word_category DecimalNumber = true
is_word_category _ = false

abbrev pub is_kept : ℕ → Bool
is_kept c = is_word_category (general_category c)

abbrev pub is_gap : ℕ → Bool
is_gap c = not (is_kept c)

-- those that are not empty
abbrev pub nonempty : List (List ℕ) → List (List ℕ)
nonempty [] = []
nonempty ([] ∷ words) = nonempty words
nonempty ((c ∷ word) ∷ words) = (c ∷ word) ∷ nonempty words

abbrev pub dashed : List (List ℕ) → List ℕ
dashed words = flat_map (λ word. 45 ∷ word) words

-- the words, with `-` between them
abbrev pub hyphenated : List (List ℕ) → List ℕ
hyphenated [] = []
hyphenated (word ∷ words) = word ++ dashed words

-- the characters between the gaps, where each run of gaps is one `-`, and those at the ends are none
abbrev pub slug_chars : List ℕ → List ℕ
slug_chars cs = hyphenated (nonempty (slice_split is_gap cs))

-- characters in ASCII lower case, as bytes
abbrev pub lower_bytes : List ℕ → List ℕ
lower_bytes cs = flat_map (λ c. encode_utf8 (to_ascii_lowercase c)) cs

-- behind a `-` or not
abbrev pub with_dash : Bool → List ℕ → List ℕ
with_dash true cs = 45 ∷ cs
with_dash false cs = cs

abbrev pub slug : List ℕ → List ℕ
slug text = lower_bytes (slug_chars (chars text))
