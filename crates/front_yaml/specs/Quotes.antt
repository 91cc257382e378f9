-- Quoted scalars: YAML 1.2.2, sections 5.7, 7.3.1 and 7.3.2.
use Rattle.std.specs.Prelude.{ℕ, zero, suc, ◌+◌, ◌==◌, Bool, true, false, ◌||◌, List, [], ◌∷◌, take, if◌then◌else◌, Option, Some, None, Ok, Err}
use Rattle.site_base.specs.declared.faults.YamlKind.TheVariants as kind
use Rattle.front_yaml.specs.Reading.{Fault, Reading}
use Rattle.front_yaml.specs.Bytes.{later, starts}
use Rattle.front_yaml.specs.Escapes.{escape}
use Rattle.front_yaml.specs.Folding.{within, folded, fold, first_tab, earlier, as_fault}

abbrev pub is_quote : ℕ → Bool
is_quote c = (c == 39) || (c == 34)

-- how many bytes stand before the closing quote, after `skip` bytes that are passed over
abbrev pub single_len : ℕ → List ℕ → Option ℕ
single_len skip [] = None
single_len (suc k) (c ∷ cs) = later (single_len k cs)
single_len zero (c ∷ cs) = elim (c == 39) [ true ↦ elim (starts 39 cs) [ true ↦ later (single_len 1 cs) | false ↦ Some 0 ] | false ↦ later (single_len 0 cs) ]

abbrev pub double_len : ℕ → List ℕ → Option ℕ
double_len skip [] = None
double_len (suc k) (c ∷ cs) = later (double_len k cs)
double_len zero (c ∷ cs) = elim (c == 34) [ true ↦ Some 0 | false ↦ elim (c == 92) [ true ↦ later (double_len 1 cs) | false ↦ later (double_len 0 cs) ] ]

abbrev pub quote_len : ℕ → List ℕ → Option ℕ
quote_len q s = if q == 39 then single_len 0 s else double_len 0 s

-- ---- single quotes

-- one quote for each two
abbrev pub halved : Bool → List ℕ → List ℕ
halved second [] = []
halved true (c ∷ cs) = halved false cs
halved false (c ∷ cs) = c ∷ halved (c == 39) cs

-- ---- double quotes

-- a `\` stands before an escape or a line end
abbrev pub escape_len : List ℕ → Option ℕ
escape_len s = elim (starts 10 s) [ true ↦ Some 1 | false ↦ elim (escape s) [ None ↦ None | Some e ↦ Some e.1 ] ]

-- the place of the first `\` that begins no escape
abbrev pub bad_escape : ℕ → List ℕ → Option ℕ
bad_escape skip [] = None
bad_escape (suc k) (c ∷ cs) = later (bad_escape k cs)
bad_escape zero (c ∷ cs) = elim (c == 92) [ true ↦ elim (escape_len cs) [ None ↦ Some 0 | Some k ↦ later (bad_escape k cs) ] | false ↦ later (bad_escape 0 cs) ]

-- ---- both

abbrev pub quote_fault : ℕ → List ℕ → Option Fault
quote_fault q s = earlier (as_fault kind.Tab (first_tab false s)) (if q == 39 then None else as_fault kind.Quote (bad_escape 0 s))

abbrev pub quote_text : ℕ → List ℕ → List ℕ
quote_text q s = if q == 39 then fold (halved false s) else folded true within 0 s

abbrev pub quoted_in : ℕ → List ℕ → ℕ → Reading (List ℕ × ℕ)
quoted_in q s n = elim (quote_fault q (take n s)) [ Some f ↦ Err (1 + f.0, f.1) | None ↦ Ok (quote_text q (take n s), n + 2) ]

-- the text of a quoted value, and how many bytes it takes with its quotes
abbrev pub quoted : List ℕ → Reading (List ℕ × ℕ)
quoted [] = Err (0, kind.Quote)
quoted (q ∷ s) = elim (quote_len q s) [ None ↦ Err (0, kind.Quote) | Some n ↦ quoted_in q s n ]
