-- Delimiter runs, and which of them can open and close emphasis: CommonMark 0.31.2, section 6.2.
use Rattle.std.specs.Prelude.{Bool, List, chars, if◌then◌else◌, nat_lt, not, reverse, slice_index_or, suc, take, ℕ, ◌&&◌, ◌==◌, ◌||◌}
use Rattle.ucd_category.specs.GeneralCategory.{general_category, general_category_eq}
use Rattle.ucd_category.specs.GeneralCategoryGroup.{in_group}
use Rattle.ucd_category.specs.declared.GeneralCategory.TheVariants.{SpaceSeparator}
use Rattle.ucd_category.specs.declared.GeneralCategoryGroup.TheVariants.{Punctuation, Symbol}
use Rattle.site_text.specs.Bytes.{between, is_punct, line_feed, space}
use Rattle.site_text.specs.Fronts.{first_byte, run_len}

-- the characters at the end of the bytes before, which lie last first, and at the front of those after; a line end stands for the text's ends
abbrev pub is_lead : ℕ → Bool
is_lead b = not (between 128 191 b)

-- how many bytes the character has that this byte leads
abbrev pub lead_size : ℕ → ℕ
lead_size b = if nat_lt b 128 then 1 else if nat_lt b 224 then 2 else if nat_lt b 240 then 3 else 4

-- the character at the front of a text
abbrev pub char_after : List ℕ → ℕ
char_after t = slice_index_or (chars (take (lead_size (first_byte t)) t)) 0 line_feed

-- the character at the end of a text that lies last byte first
abbrev pub char_before : List ℕ → ℕ
char_before done = slice_index_or (chars (reverse (take (suc (run_len (λ b. not (is_lead b)) done)) done))) 0 line_feed

-- 2.1: Unicode white space and punctuation, which is P or S; the tables need not be read for ASCII
abbrev pub is_unicode_white : ℕ → Bool
is_unicode_white c = ((c == space) || (between 9 10 c || between 12 13 c)) || general_category_eq (general_category c) SpaceSeparator

-- categories P and S
abbrev pub in_category : ℕ → Bool
in_category c = in_group Punctuation (general_category c) || in_group Symbol (general_category c)

-- Unicode punctuation
abbrev pub is_unicode_punct : ℕ → Bool
is_unicode_punct c = if nat_lt c 128 then is_punct c else in_category c

-- what follows a left-flanking run is no white space; and it is no punctuation, or white space or punctuation stands before the run
abbrev pub left_flanking : ℕ → ℕ → Bool
left_flanking before after = not (is_unicode_white after) && (not (is_unicode_punct after) || (is_unicode_white before || is_unicode_punct before))

-- the same with before and after exchanged
abbrev pub right_flanking : ℕ → ℕ → Bool
right_flanking before after = not (is_unicode_white before) && (not (is_unicode_punct before) || (is_unicode_white after || is_unicode_punct after))
