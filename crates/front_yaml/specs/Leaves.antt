-- A value that is no block: one scalar, or one flow value, and nothing after it.
use Rattle.std.specs.Prelude.{ℕ, ◌==◌, true, false, List, [], ◌∷◌, take, drop, if◌then◌else◌, Ok, Err}
use Rattle.site_base.specs.Chains.{◌>>=◌}
use Rattle.site_base.specs.declared.faults.YamlKind.{YamlKind}
use Rattle.site_base.specs.declared.faults.YamlKind.TheVariants as kind
use Rattle.site_base.specs.Plain.{Plain, text}
use Rattle.front_yaml.specs.Reading.{Reading, further}
use Rattle.front_yaml.specs.Bytes.{is_empty}
use Rattle.front_yaml.specs.TextLines.{line_ends}
use Rattle.front_yaml.specs.Quotes.{is_quote, quoted}
use Rattle.front_yaml.specs.PlainScalars.{starts_plain, plain}
use Rattle.front_yaml.specs.Gaps.{skip}
use Rattle.front_yaml.specs.Extents.{begins_value}
use Rattle.front_yaml.specs.Flow.{flow}

-- the scalar at the front, its bytes, and what text after it would be
abbrev pub scalar_leaf : List ℕ → Reading (Plain × (ℕ × YamlKind))
scalar_leaf [] = Err (0, kind.Outside)
scalar_leaf (c ∷ cs) =
    elim (is_quote c) [
      | true ↦ quoted (c ∷ cs) >>= λ q. Ok (text q.0, (q.1, kind.Quote))
      | false ↦ elim (starts_plain false (c ∷ cs)) [ true ↦ plain false (c ∷ cs) >>= λ v. Ok (v.0, (v.1, kind.Indent)) | false ↦ Err (0, kind.Outside) ]
    ]

-- the same of a scalar or flow value
abbrev pub leaf_value : ℕ → List ℕ → Reading (Plain × (ℕ × YamlKind))
leaf_value d s = elim (begins_value s) [ true ↦ flow d s >>= λ v. Ok (v.0, (v.1, kind.Flow)) | false ↦ scalar_leaf s ]

-- nothing may follow a value
abbrev pub nothing_after : YamlKind → List ℕ → Reading (Unit {0})
nothing_after k s = skip false s >>= λ n. elim (is_empty (drop n s)) [ true ↦ Ok tt | false ↦ Err (n, if line_ends (take n s) == 0 then k else kind.Indent) ]

abbrev pub leaf : ℕ → List ℕ → Reading Plain
leaf d s = leaf_value d s >>= λ v. further v.1.0 (nothing_after v.1.1 (drop v.1.0 s)) >>= λ _. Ok v.0
