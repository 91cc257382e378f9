-- Line ends inside a value: each becomes a space, or the blank lines that follow it. YAML 1.2.2, section 6.5.
use Rattle.std.specs.Prelude.{ℕ, zero, suc, ◌==◌, Bool, true, false, ◌&&◌, ◌||◌, not, List, [], ◌∷◌, ◌++◌, if◌then◌else◌, Option, Some, None, nat_le, encode_utf8}
use Rattle.site_base.specs.declared.faults.YamlKind.{YamlKind}
use Rattle.front_yaml.specs.Reading.{Fault}
use Rattle.front_yaml.specs.Bytes.{later, is_white, repeated}
use Rattle.front_yaml.specs.Escapes.{escape}

-- where a reading of a value is: inside a line, or between two lines with b blank ones so far; `joined` after a `\` at a line's end
pub data Where : Type 0 where
  within : Where
  between : (b : ℕ) → Where
  joined : (b : ℕ) → Where

abbrev pub next_line : Where → Where
next_line within = between 0
next_line (between b) = between (suc b)
next_line (joined b) = joined (suc b)

-- what stands for the line ends
abbrev pub joint : Where → List ℕ
joint within = []
joint (between zero) = 32 ∷ []
joint (between (suc b)) = repeated (suc b) 10
joint (joined b) = repeated b 10

abbrev pub is_between : Where → Bool
is_between within = false
is_between w = true

-- white space alone up to a line end
abbrev pub ends_line : List ℕ → Bool
ends_line [] = false
ends_line (c ∷ cs) = if c == 10 then true else is_white c && ends_line cs

-- the text that stands for a scalar's bytes; where `escapes`, `\` begins an escape, of which `skip` bytes are still to come
abbrev pub folded : (escapes : Bool) → Where → (skip : ℕ) → List ℕ → List ℕ
folded escapes w skip [] = joint w
folded escapes w (suc k) (c ∷ cs) = folded escapes w k cs
folded escapes w zero (c ∷ cs) = elim (c == 10) [
  | true ↦ folded escapes (next_line w) 0 cs
  | false ↦ elim (is_white c && (is_between w || ends_line cs)) [
    | true ↦ folded escapes w 0 cs
    | false ↦ joint w ++ elim (escapes && (c == 92)) [
      | true ↦ elim (escape cs) [ Some e ↦ encode_utf8 e.0 ++ folded escapes within e.1 cs | None ↦ folded escapes (joined 0) 1 cs ]
      | false ↦ c ∷ folded escapes within 0 cs
    ]
  ]
]

abbrev pub fold : List ℕ → List ℕ
fold = folded false within 0

-- the first tab among the leading white space of a line that is not blank; `lead` where only spaces stand since the line's start
abbrev pub first_tab : Bool → List ℕ → Option ℕ
first_tab lead [] = None
first_tab lead (c ∷ cs) = elim (lead && (c == 9) && not (ends_line cs)) [ true ↦ Some 0 | false ↦ later (first_tab ((c == 10) || (lead && (c == 32))) cs) ]

abbrev pub earlier : Option Fault → Option Fault → Option Fault
earlier None g = g
earlier (Some f) None = Some f
earlier (Some f) (Some g) = if nat_le f.0 g.0 then Some f else Some g

abbrev pub as_fault : YamlKind → Option ℕ → Option Fault
as_fault k None = None
as_fault k (Some n) = Some (n, k)
