-- What is wrong with lines by their place: an entry that does not fit its block, and lines that no value takes.
use Rattle.std.specs.Prelude.{ℕ, List, [], ◌∷◌, nat_lt, nat_le, if◌then◌else◌, Option, Some, None}
use Rattle.site_base.specs.declared.faults.YamlKind.{YamlKind}
use Rattle.site_base.specs.declared.faults.YamlKind.TheVariants as kind
use Rattle.site_base.specs.Plain.{Plain}
use Rattle.front_yaml.specs.Reading.{Fault, Reading, unless}
use Rattle.front_yaml.specs.TextLines.{Line, indent, carries, has_tab}

-- an entry in a block of indent n
abbrev pub indent_fault : ℕ → Line → Option Fault
indent_fault n l = if has_tab l then Some (l.number, kind.Tab) else if nat_lt (indent l) n then Some (l.number, kind.Indent) else None

-- a line that carries something, where none may
abbrev pub left_kind : ℕ → Line → YamlKind
left_kind f l = if has_tab l then kind.Tab else if nat_le f (indent l) then kind.Indent else kind.NoKey

-- the first such line
abbrev pub left_fault : ℕ → List Line → Option Fault
left_fault f [] = None
left_fault f (l ∷ ls) = if carries l then Some (l.number, left_kind f l) else left_fault f ls

abbrev pub none_left : ℕ → List Line → Reading Plain → Reading Plain
none_left f ls r = unless (left_fault f ls) r
