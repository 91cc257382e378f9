-- The value of a text: YAML 1.2.2, sections 5.2 and 9.1 for what stands around it.
use Rattle.std.specs.Prelude.{ℕ, ◌==◌, Bool, false, ◌&&◌, ◌||◌, not, List, [], ◌∷◌, drop, if◌then◌else◌, Ok, Err}
use Rattle.site_base.specs.Chains.{◌>>=◌}
use Rattle.site_base.specs.declared.faults.YamlKind.TheVariants as kind
use Rattle.site_base.specs.Plain.{Plain, nil, hash, Pairs, no_pairs}
use Rattle.front_yaml.specs.Reading.{Reading}
use Rattle.front_yaml.specs.Bytes.{starts, is_empty, white_len}
use Rattle.front_yaml.specs.TextLines.{Line, text_lines, span}
use Rattle.front_yaml.specs.Blocks.{block, below}
use Rattle.front_yaml.specs.Front.{mark_len}

-- three times the byte, and white space or nothing after
abbrev pub is_three : ℕ → List ℕ → Bool
is_three b (x ∷ y ∷ z ∷ rest) = (x == b) && (y == b) && (z == b) && (is_empty rest || starts 32 rest || starts 9 rest)
is_three b s = false

abbrev pub is_marker : Line → Bool
is_marker l = is_three 45 l.text || is_three 46 l.text

-- `---` alone
abbrev pub is_start_text : List ℕ → Bool
is_start_text s = is_three 45 s && is_empty (drop (white_len (drop 3 s)) (drop 3 s))

abbrev pub is_start : Line → Bool
is_start l = is_start_text l.text

abbrev pub without_start : List Line → List Line
without_start [] = []
without_start (l ∷ ls) = if is_start l then ls else l ∷ ls

abbrev pub no_marker : List Line → Reading Plain → Reading Plain
no_marker [] r = r
no_marker (l ∷ ls) r = Err (l.number, kind.Outside)

-- the lines of a file, behind a byte-order mark and a first line `---`
abbrev pub file_lines : List ℕ → List Line
file_lines s = without_start (text_lines (drop (mark_len s) s))

abbrev pub goes_on : Line → Bool
goes_on l = not (is_marker l)

-- the value of lines, in which lists and hashes nest at most 64 deep
unfoldable pub lines_value : List Line → Reading Plain
lines_value ls = let part = span goes_on ls in below (block 64) 0 part.0 >>= λ v. no_marker part.1 (Ok v)

-- the value of a text
abbrev pub yaml : List ℕ → Reading Plain
yaml s = lines_value (file_lines s)

-- the pairs of a value that has to be a mapping, or nothing: of front matter, and of the configuration
abbrev pub pairs_of : Plain → Reading Pairs
pairs_of nil = Ok no_pairs
pairs_of (hash ps) = Ok ps
pairs_of v = Err (1, kind.NotMapping)

abbrev pub yaml_pairs : List ℕ → Reading Pairs
yaml_pairs s = yaml s >>= pairs_of
