-- The text that `highlight` writes. After Jekyll 4's manual, "Tags Filters", "Code snippet highlighting".
use Rattle.std.specs.Prelude.{ℕ, ◌==◌, ◌||◌, ◌-◌, Bool, List, ◌++◌, length, take, drop, map, codes, if◌then◌else◌}
use Rattle.std.specs.Char.{to_ascii_lowercase}
use Rattle.std.specs.List.{prefix_len, suffix_len}
use Rattle.text_filters.specs.Changes.{changed}
use Rattle.text_filters.specs.declared.changes.TextChange.TheVariants.{Escape}

-- without CR and LF at both ends
abbrev pub is_line_end : ℕ → Bool
is_line_end c = (c == 10) || (c == 13)

abbrev pub without_front : List ℕ → List ℕ
without_front t = drop (prefix_len is_line_end t) t

abbrev pub without_end : List ℕ → List ℕ
without_end t = take (length t - suffix_len is_line_end t) t

abbrev pub without_line_ends : List ℕ → List ℕ
without_line_ends t = without_end (without_front t)

-- `-` for each `+`
abbrev pub class_byte : ℕ → ℕ
class_byte c = if c == 43 then 45 else c

-- the code, with its language in small letters
abbrev pub highlighted : List ℕ → List ℕ → List ℕ
highlighted language code =
    let name = map to_ascii_lowercase language in
    codes "<figure class=\"highlight\"><pre><code class=\"language-" ++ (map class_byte name ++ (codes "\" data-lang=\"" ++ (name ++ (codes "\">"
    ++ (changed Escape (without_line_ends code) ++ codes "</code></pre></figure>")))))
