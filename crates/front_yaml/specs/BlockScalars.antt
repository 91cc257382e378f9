-- Block scalars, literal and folded: YAML 1.2.2, section 8.1.
use Rattle.std.specs.Prelude.{ℕ, suc, ◌==◌, Bool, true, false, ◌&&◌, ◌||◌, not, List, [], ◌∷◌, ◌++◌, drop, nat_lt, if◌then◌else◌, Option, Some, None, Ok, Err}
use Rattle.site_base.specs.declared.faults.YamlKind.TheVariants as kind
use Rattle.front_yaml.specs.declared.block_scalars.Chomp.{Chomp}
use Rattle.front_yaml.specs.declared.block_scalars.Chomp.TheVariants.{Clip, Strip, Keep}
use Rattle.front_yaml.specs.Reading.{Reading}
use Rattle.front_yaml.specs.Bytes.{starts, is_empty, is_white, white_len, repeated}
use Rattle.front_yaml.specs.TextLines.{Line, indent, is_blank}

abbrev pub chomp_of : List ℕ → Chomp
chomp_of s = if starts 45 s then Strip else if starts 43 s then Keep else Clip

-- what may stand after the `|` or `>` and its `-` or `+`
abbrev pub is_bare : List ℕ → Bool
is_bare s = let t = drop (white_len s) s in is_empty t || (nat_lt 0 (white_len s) && starts 35 t)

abbrev pub header_is_bare : List ℕ → Bool
header_is_bare s = is_bare (if starts 45 s || starts 43 s then drop 1 s else s)

abbrev pub block_indent : List Line → ℕ
block_indent [] = 0
block_indent (l ∷ ls) = if is_blank l then block_indent ls else indent l

-- a line that is not blank and is indented less than the first
abbrev pub is_short : ℕ → Line → Bool
is_short m l = not (is_blank l) && nat_lt (indent l) m

abbrev pub short_line : ℕ → List Line → Option ℕ
short_line m [] = None
short_line m (l ∷ ls) = if is_short m l then Some l.number else short_line m ls

abbrev pub starts_white : List ℕ → Bool
starts_white [] = false
starts_white (c ∷ cs) = is_white c

-- what stands between two lines with b blank ones between them, or before the first line; of each, whether it starts with white space
abbrev pub lines_joint : Bool → Option Bool → ℕ → Bool → List ℕ
lines_joint folded None b spaced = repeated b 10
lines_joint folded (Some before) b spaced = if not folded || before || spaced then repeated (suc b) 10 else if b == 0 then 32 ∷ [] else repeated b 10

abbrev pub lines_end : Chomp → Option Bool → ℕ → List ℕ
lines_end Keep None b = repeated b 10
lines_end Keep (Some spaced) b = repeated (suc b) 10
lines_end Clip (Some spaced) b = 10 ∷ []
lines_end c p b = []

-- the text of lines after a line and b blank ones, at indent m
abbrev pub joined_lines : Bool → Chomp → ℕ → Option Bool → ℕ → List Line → List ℕ
joined_lines folded c m p b [] = lines_end c p b
joined_lines folded c m p b (l ∷ ls) =
    elim (is_blank l) [ true ↦ joined_lines folded c m p (suc b) ls | false ↦ lines_joint folded p b (starts_white (drop m l.text)) ++ (drop m l.text ++ joined_lines folded c m (Some (starts_white (drop m l.text))) 0 ls) ]

-- the lines after a header `s` on line n
abbrev pub block_scalar : ℕ → List ℕ → List Line → Reading (List ℕ)
block_scalar n s ls =
    elim (header_is_bare (drop 1 s)) [
      | false ↦ Err (n, kind.Outside)
      | true ↦ elim (short_line (block_indent ls) ls) [ Some k ↦ Err (k, kind.Indent) | None ↦ Ok (joined_lines (starts 62 s) (chomp_of (drop 1 s)) (block_indent ls) None 0 ls) ]
    ]
