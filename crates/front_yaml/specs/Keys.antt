-- What starts a line of a block: a `-`, or a key. YAML 1.2.2, sections 8.2.1 and 8.2.2.
use Rattle.std.specs.Prelude.{ℕ, ◌+◌, ◌==◌, Bool, true, false, ◌&&◌, ◌||◌, List, [], ◌∷◌, take, drop, Option, Some, None, Ok, Err, codes}
use Rattle.std.specs.Str.{bytes_eq}
use Rattle.site_base.specs.Chains.{◌>>=◌}
use Rattle.site_base.specs.declared.faults.YamlKind.TheVariants as kind
use Rattle.front_yaml.specs.Reading.{Reading}
use Rattle.front_yaml.specs.Bytes.{starts, is_empty, white_len, trim}
use Rattle.front_yaml.specs.Quotes.{is_quote, quote_len, quoted}
use Rattle.front_yaml.specs.PlainScalars.{separates, starts_plain, plain_raw, first_colon}

-- `-` alone, or `- `
abbrev pub is_dash : List ℕ → Bool
is_dash [] = false
is_dash (c ∷ cs) = (c == 45) && (is_empty (drop (white_len cs) cs) || starts 32 cs)

abbrev pub Key : Type 0
Key = Option (List ℕ × ℕ)

abbrev pub colon_at : List ℕ → ℕ → Bool
colon_at s n = starts 58 (drop n s) && separates false (drop (n + 1) s)

abbrev pub quoted_key : List ℕ → ℕ → Reading Key
quoted_key s k =
    let n = k + (2 + white_len (drop (k + 2) s)) in
    elim (colon_at s n) [ true ↦ quoted s >>= λ q. Ok (Some (q.0, n + 1)) | false ↦ Ok None ]

abbrev pub plain_key : List ℕ → ℕ → Reading Key
plain_key s p = let k = trim (take p s) in elim (bytes_eq k (codes "<<")) [ true ↦ Err (0, kind.Outside) | false ↦ Ok (Some (k, p + 1)) ]

-- the key at the front of a line's text, and how many bytes it takes with its `:`
abbrev pub key : List ℕ → Reading Key
key [] = Ok None
key (c ∷ cs) =
    elim (is_quote c) [
      | true ↦ elim (quote_len c cs) [ None ↦ Ok None | Some k ↦ quoted_key (c ∷ cs) k ]
      | false ↦ elim (starts_plain false (c ∷ cs)) [ false ↦ Ok None | true ↦ elim (first_colon (plain_raw false (c ∷ cs))) [ None ↦ Ok None | Some p ↦ plain_key (c ∷ cs) p ] ]
    ]

-- a line in front of which a value starts that is a block of its own
abbrev pub has_key : Reading Key → Bool
has_key (Ok None) = false
has_key r = true

abbrev pub starts_block : List ℕ → Bool
starts_block s = is_dash s || has_key (key s)
