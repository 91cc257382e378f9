-- What carries nothing between the parts of a value: white space, line ends and comments. YAML 1.2.2, sections 6.6 and 6.7.
use Rattle.std.specs.Prelude.{ℕ, suc, ◌==◌, Bool, true, false, ◌&&◌, ◌||◌, not, List, [], ◌∷◌, take, if◌then◌else◌, Some, None, Ok, Err}
use Rattle.site_base.specs.declared.faults.YamlKind.TheVariants as kind
use Rattle.front_yaml.specs.Reading.{Reading}
use Rattle.front_yaml.specs.Bytes.{is_gap}
use Rattle.front_yaml.specs.Folding.{first_tab}

-- a byte that carries nothing, inside a comment or behind white space (`gap`)
abbrev pub is_idle_byte : (gap comment : Bool) → ℕ → Bool
is_idle_byte gap comment c = comment || is_gap c || gap && (c == 35)

-- a comment goes on behind the byte
abbrev pub in_comment : (comment : Bool) → ℕ → Bool
in_comment comment c = if comment then not (c == 10) else c == 35

abbrev pub gap_len : (gap comment : Bool) → List ℕ → ℕ
gap_len gap comment [] = 0
gap_len gap comment (c ∷ cs) = if is_idle_byte gap comment c then suc (gap_len true (in_comment comment c) cs) else 0

-- how many bytes carry nothing; `gap` where white space stands before
abbrev pub skip : Bool → List ℕ → Reading ℕ
skip gap s = let n = gap_len gap false s in elim (first_tab false (take n s)) [ Some p ↦ Err (p, kind.Tab) | None ↦ Ok n ]
