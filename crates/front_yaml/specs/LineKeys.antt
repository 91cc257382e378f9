-- The key of a line of a mapping, and why a line has none: YAML 1.2.2, section 8.2.2.
use Rattle.std.specs.Prelude.{ℕ, true, false, List, [], ◌∷◌, ◌++◌, take_while, drop, if◌then◌else◌, Some, None, Ok, Err}
use Rattle.site_base.specs.declared.faults.YamlKind.{YamlKind}
use Rattle.site_base.specs.declared.faults.YamlKind.TheVariants as kind
use Rattle.front_yaml.specs.Reading.{Fault, Reading}
use Rattle.front_yaml.specs.TextLines.{Line, stream, inside}
use Rattle.front_yaml.specs.Quotes.{is_quote, quote_len}
use Rattle.front_yaml.specs.PlainScalars.{starts_plain}
use Rattle.front_yaml.specs.Extents.{opens, is_closed}
use Rattle.front_yaml.specs.Keys.{Key, key}
use Rattle.front_yaml.specs.LineRuns.{taken_by}

-- faults of a line are told by its number
abbrev pub on_line : {A : Type 0} → ℕ → Reading A → Reading A
on_line n (Ok x) = Ok x
on_line n (Err f) = Err (n, f.1)

abbrev pub line_key : Line → Reading Key
line_key l = on_line l.number (key (inside l))

abbrev pub no_quoted_key : ℕ → List ℕ → YamlKind
no_quoted_key q all = elim (quote_len q (drop 1 all)) [ None ↦ kind.Quote | Some k ↦ kind.NoKey ]

-- why a text has no key at its front; `all` is the text with the lines that may belong to it
abbrev pub no_key : List ℕ → List ℕ → YamlKind
no_key [] all = kind.NoKey
no_key (c ∷ cs) all =
    elim (is_quote c) [
      | true ↦ no_quoted_key c all
      | false ↦ elim (opens c) [
        | true ↦ elim (is_closed all) [ false ↦ kind.Flow | true ↦ kind.NoKey ]
        | false ↦ if starts_plain false (c ∷ cs) then kind.NoKey else kind.Outside
      ]
    ]

abbrev pub no_key_fault : ℕ → Line → List Line → Fault
no_key_fault f l ls = (l.number, no_key (inside l) (inside l ++ (10 ∷ stream (take_while (taken_by f (inside l)) ls))))
