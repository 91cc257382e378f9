-- Sequences and mappings over lines: YAML 1.2.2, sections 6.1 and 8.2.
use Rattle.std.specs.Prelude.{ℕ, zero, suc, ◌+◌, Bool, true, false, ◌||◌, List, [], ◌∷◌, drop, nat_le, if◌then◌else◌, Some, None, Ok, Err}
use Rattle.site_base.specs.Chains.{◌>>=◌}
use Rattle.site_base.specs.declared.faults.YamlKind.TheVariants as kind
use Rattle.site_base.specs.Plain.{Plain, nil, list, hash, Items, no_items, item, Pairs, no_pairs, pair}
use Rattle.front_yaml.specs.Reading.{Reading, unless}
use Rattle.front_yaml.specs.Bytes.{starts, is_empty, white_len}
use Rattle.front_yaml.specs.TextLines.{Line, indent, inside, has_tab, span, from_place}
use Rattle.front_yaml.specs.Flow.{settled}
use Rattle.front_yaml.specs.Keys.{is_dash, starts_block}
use Rattle.front_yaml.specs.LineRuns.{is_idle, belongs, is_item, is_pair}
use Rattle.front_yaml.specs.LineFaults.{indent_fault, none_left}
use Rattle.front_yaml.specs.LineLeaves.{leaf_lines, scalar_lines}
use Rattle.front_yaml.specs.LineKeys.{line_key, no_key_fault}

-- the value of lines whose first carries something; the lines have indent f
abbrev pub Block : Type 0
Block = ℕ → List Line → Reading Plain

-- the block in the lines after `key:` or `-`, of which the first carries something
abbrev pub below_first : Block → ℕ → Line → List Line → Reading Plain
below_first inner f l ls =
    elim (has_tab l) [
      | true ↦ Err (l.number, kind.Tab)
      | false ↦ elim (nat_le f (indent l)) [
        | true ↦ (let part = span (belongs f) ls in inner f (l ∷ part.0) >>= λ v. none_left f part.1 (Ok v))
        | false ↦ inner (indent l) (l ∷ ls)
      ]
    ]

abbrev pub below_lines : Block → ℕ → List Line → Reading Plain
below_lines inner f [] = Ok nil
below_lines inner f (l ∷ ls) = below_first inner f l ls

abbrev pub below : Block → ℕ → List Line → Reading Plain
below inner f ls = below_lines inner f (span is_idle ls).1

-- the value s at the end of the line l of an entry, with the lines after it
abbrev pub entry_value : ℕ → Block → ℕ → Line → List ℕ → List Line → Reading Plain
entry_value d inner f l s ls =
    elim (is_empty s || starts 35 s) [
      | true ↦ below inner f ls
      | false ↦ elim (starts 124 s || starts 62 s) [ true ↦ scalar_lines f l s ls | false ↦ leaf_lines d f l s ls ]
    ]

pub record Entry : Type 0 where
  pub head : Line
  pub more : List Line

abbrev pub entry : Line → List Line → Entry
entry l ls = record { head = l; more = ls }

-- lines before the first entry, and the entries: each has the lines up to the next
abbrev pub entries : (Line → Bool) → List Line → List Line × List Entry
entries heads [] = ([], [])
entries heads (l ∷ ls) = let s = entries heads ls in if heads l then ([], record { head = l; more = s.0 } ∷ s.1) else (l ∷ s.0, s.1)

-- the entries of lines of which the first is one
abbrev pub all_entries : (Line → Bool) → Line → List Line → List Entry
all_entries heads l ls = let s = entries heads ls in record { head = l; more = s.0 } ∷ s.1

-- no entry stands at an indent below the block's
abbrev pub at_indent : {A : Type 0} → ℕ → Line → Reading A → Reading A
at_indent n l r = unless (indent_fault n l) r

-- an item whose value starts k bytes after the `-`'s column
abbrev pub item_at : ℕ → Block → ℕ → Line → ℕ → List Line → Reading Plain
item_at d inner n l k ls =
    elim (starts_block (drop k (inside l))) [ true ↦ inner (n + 1) (from_place k l ∷ ls) | false ↦ entry_value d inner (n + 1) l (drop k (inside l)) ls ]

abbrev pub item_value : ℕ → Block → ℕ → Entry → Reading Plain
item_value d inner n e =
    elim (is_dash (inside e.head)) [ true ↦ item_at d inner n e.head (1 + white_len (drop 1 (inside e.head))) e.more | false ↦ Err (e.head.number, kind.Outside) ]

abbrev pub sequence : ℕ → Block → ℕ → List Entry → Reading Items
sequence d inner n [] = Ok no_items
sequence d inner n (e ∷ es) = at_indent n e.head (item_value d inner n e) >>= λ v. sequence d inner n es >>= λ vs. Ok (item v vs)

abbrev pub pair_value : ℕ → Block → ℕ → Entry → ℕ → Reading Plain
pair_value d inner n e k = let k' = k + white_len (drop k (inside e.head)) in entry_value d inner (n + 1) e.head (drop k' (inside e.head)) e.more

abbrev pub pair_at : ℕ → Block → ℕ → Entry → Reading (List ℕ × Plain)
pair_at d inner n e =
    line_key e.head >>= λ k. elim k [ None ↦ Err (no_key_fault (n + 1) e.head e.more) | Some x ↦ pair_value d inner n e x.1 >>= λ v. Ok (x.0, v) ]

abbrev pub mapping : ℕ → Block → ℕ → List Entry → Reading Pairs
mapping d inner n [] = Ok no_pairs
mapping d inner n (e ∷ es) = at_indent n e.head (pair_at d inner n e) >>= λ p. mapping d inner n es >>= λ ps. Ok (pair p.0 p.1 ps)

abbrev pub sequence_value : ℕ → Block → ℕ → Line → List Line → Reading Plain
sequence_value d inner n l ls = sequence d inner n (all_entries (is_item n) l ls) >>= λ vs. Ok (list vs)

abbrev pub mapping_pairs : ℕ → Block → ℕ → Line → List Line → Reading Pairs
mapping_pairs d inner n l ls = mapping d inner n (all_entries (is_pair n) l ls) >>= λ ps. Ok (settled no_pairs ps)

abbrev pub mapping_value : ℕ → Block → ℕ → Line → List Line → Reading Plain
mapping_value d inner n l ls = mapping_pairs d inner n l ls >>= λ ps. Ok (hash ps)

abbrev pub entries_of : ℕ → Block → Line → List Line → Reading Plain
entries_of d inner l ls = elim (is_dash (inside l)) [ true ↦ sequence_value d inner (indent l) l ls | false ↦ mapping_value d inner (indent l) l ls ]

-- the value of lines, in which d more lists and hashes may nest
unfoldable pub block : ℕ → Block
block d f [] = Ok nil
block zero f (l ∷ ls) = elim (starts_block (inside l)) [ true ↦ Err (l.number, kind.Depth) | false ↦ leaf_lines zero f l (inside l) ls ]
block (suc d) f (l ∷ ls) = elim (starts_block (inside l)) [ true ↦ entries_of d (block d) l ls | false ↦ leaf_lines (suc d) f l (inside l) ls ]
