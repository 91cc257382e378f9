-- Flow lists and hashes: YAML 1.2.2, section 7.4.
use Rattle.std.specs.Prelude.{ℕ, zero, suc, ◌+◌, ◌==◌, Bool, true, false, ◌||◌, List, [], ◌∷◌, length, drop, if◌then◌else◌, Ok, Err, codes}
use Rattle.std.specs.Str.{bytes_eq}
use Rattle.site_base.specs.Chains.{◌>>=◌}
use Rattle.site_base.specs.declared.faults.YamlKind.TheVariants as kind
use Rattle.site_base.specs.Plain.{Plain, nil, text, list, hash, Items, no_items, item, onto, Pairs, no_pairs, pair, set}
use Rattle.site_base.specs.Recursion.{down}
use Rattle.front_yaml.specs.declared.flow_parts.Part.{Part}
use Rattle.front_yaml.specs.declared.flow_parts.Part.TheVariants.{Shut, Last, More}
use Rattle.front_yaml.specs.Reading.{Fault, Reading, further}
use Rattle.front_yaml.specs.Bytes.{starts, is_empty}
use Rattle.front_yaml.specs.Folding.{fold}
use Rattle.front_yaml.specs.Quotes.{is_quote, quoted}
use Rattle.front_yaml.specs.PlainScalars.{is_bracket, starts_plain, plain_at, plain}
use Rattle.front_yaml.specs.Gaps.{skip}
use Rattle.front_yaml.specs.Extents.{begins_value, is_closed}

abbrev pub Node : Type 0
Node = List ℕ → Reading (Plain × ℕ)

abbrev pub first_byte : List ℕ → ℕ
first_byte [] = 0
first_byte (c ∷ cs) = c

abbrev pub start_fault : List ℕ → Fault
start_fault s = (0, if is_empty s || is_bracket (first_byte s) || (first_byte s == 58) then kind.Flow else kind.Outside)

-- the scalar at the front
abbrev pub scalar : Node
scalar [] = Err (start_fault [])
scalar (c ∷ cs) =
    elim (is_quote c) [
      | true ↦ quoted (c ∷ cs) >>= λ q. Ok (text q.0, q.1)
      | false ↦ elim (starts_plain true (c ∷ cs)) [ true ↦ plain true (c ∷ cs) | false ↦ Err (start_fault (c ∷ cs)) ]
    ]

-- the list, hash or scalar at the front
abbrev pub node : Node → Node
node collection s = elim (begins_value s) [ true ↦ collection s | false ↦ scalar s ]

-- the separator behind a value, or the closing bracket: whether it closes, and the bytes before it, which carry nothing
abbrev pub separator : ℕ → List ℕ → Reading (Bool × ℕ)
separator close s = skip false s >>= λ n. elim (starts close (drop n s)) [ true ↦ Ok (true, n) | false ↦ elim (starts 44 (drop n s)) [ true ↦ Ok (false, n) | false ↦ Err (n, kind.Flow) ] ]

-- a key with its `:`
abbrev pub key_text : List ℕ → Reading (List ℕ × ℕ)
key_text s = elim (starts 39 s || starts 34 s) [
  | true ↦ quoted s
  | false ↦ elim (starts_plain true s) [
    | true ↦ plain_at true s >>= λ raw. elim (bytes_eq raw (codes "<<")) [ true ↦ Err (0, kind.Outside) | false ↦ Ok (fold raw, length raw) ]
    | false ↦ Err (start_fault s)
  ]
]

abbrev pub key : List ℕ → Reading (List ℕ × ℕ)
key s = key_text s >>= λ k. further k.1 (skip false (drop k.1 s)) >>= λ n. elim (starts 58 (drop (k.1 + n) s)) [ true ↦ Ok (k.0, k.1 + n + 1) | false ↦ Err (k.1 + n, kind.Flow) ]

abbrev pub part_of : {A : Type 0} → A → ℕ → Bool × ℕ → Part A
part_of x n (true, k) = Last x (n + k)
part_of x n (false, k) = More x (n + k)

-- a part whose entries are read by `entry`
abbrev pub part : {A : Type 0} → (close : ℕ) → (entry : List ℕ → Reading (A × ℕ)) → List ℕ → Reading (Part A)
part close entry s = skip true s >>= λ n. elim (starts close (drop n s)) [
  | true ↦ Ok (Shut n)
  | false ↦ further n (entry (drop n s)) >>= λ x. further (n + x.1) (separator close (drop (n + x.1) s)) >>= λ e. Ok (part_of x.0 (n + x.1) e)
]

-- each key once, at its first place, with its last value
abbrev pub settled : Pairs → Pairs → Pairs
settled done no_pairs = done
settled done (pair k v ps) = settled (set k v done) ps

module _ (child : Node) where
  abbrev pub items_after : (ℕ → Reading (Items × ℕ)) → Part Plain → Reading (Items × ℕ)
  items_after next (Shut n) = Ok (no_items, n + 1)
  items_after next (Last v n) = Ok (item v no_items, n + 1)
  items_after next (More v n) = further (n + 1) (next n) >>= λ r. Ok (item v r.0, n + 1 + r.1)

  abbrev pub items_step : (List ℕ → Reading (Items × ℕ)) → List ℕ → Reading (Items × ℕ)
  items_step rest [] = Err (0, kind.Flow)
  items_step rest (c ∷ cs) = part 93 child (c ∷ cs) >>= items_after (λ n. rest (drop n cs))

  -- the items from here to the `]`, and their bytes
  unfoldable pub items : List ℕ → Reading (Items × ℕ)
  items s = down length (Err (0, kind.Flow)) items_step s

  -- the value of a key, which may be nothing
  abbrev pub pair_value : List ℕ → Reading (Plain × ℕ)
  pair_value s = skip true s >>= λ n. elim (starts 44 (drop n s) || starts 125 (drop n s)) [ true ↦ Ok (nil, n) | false ↦ further n (child (drop n s)) >>= λ v. Ok (v.0, n + v.1) ]

  abbrev pub entry : List ℕ → Reading ((List ℕ × Plain) × ℕ)
  entry s = key s >>= λ k. further k.1 (pair_value (drop k.1 s)) >>= λ v. Ok ((k.0, v.0), k.1 + v.1)

  abbrev pub pairs_after : (ℕ → Reading (Pairs × ℕ)) → Part (List ℕ × Plain) → Reading (Pairs × ℕ)
  pairs_after next (Shut n) = Ok (no_pairs, n + 1)
  pairs_after next (Last p n) = Ok (pair p.0 p.1 no_pairs, n + 1)
  pairs_after next (More p n) = further (n + 1) (next n) >>= λ r. Ok (pair p.0 p.1 r.0, n + 1 + r.1)

  abbrev pub pairs_step : (List ℕ → Reading (Pairs × ℕ)) → List ℕ → Reading (Pairs × ℕ)
  pairs_step rest [] = Err (0, kind.Flow)
  pairs_step rest (c ∷ cs) = part 125 entry (c ∷ cs) >>= pairs_after (λ n. rest (drop n cs))

  -- the pairs from here to the `}`, and their bytes
  unfoldable pub pairs : List ℕ → Reading (Pairs × ℕ)
  pairs s = down length (Err (0, kind.Flow)) pairs_step s

  abbrev pub hash_pairs : List ℕ → Reading (Pairs × ℕ)
  hash_pairs s = pairs s >>= λ r. Ok (settled no_pairs r.0, r.1)

  abbrev pub list_value : Node
  list_value s = further 1 (items (drop 1 s)) >>= λ r. Ok (list r.0, r.1 + 1)

  abbrev pub hash_value : Node
  hash_value s = further 1 (hash_pairs (drop 1 s)) >>= λ r. Ok (hash r.0, r.1 + 1)

-- the items that were read in the first n bytes, with those that are read behind them
abbrev pub with_items : ℕ → Items → Reading (Items × ℕ) → Reading (Items × ℕ)
with_items n done r = further n r >>= λ x. Ok (onto done x.0, n + x.1)

-- the same of pairs
abbrev pub with_pairs : ℕ → Pairs → Reading (Pairs × ℕ) → Reading (Pairs × ℕ)
with_pairs n done r = further n r >>= λ x. Ok (settled done x.0, n + x.1)

-- a list or a hash, where at most d may nest
unfoldable pub collection : ℕ → Node
collection zero s = Err (0, kind.Depth)
collection (suc d) s = elim (starts 91 s) [ true ↦ list_value (node (collection d)) s | false ↦ hash_value (node (collection d)) s ]

-- a flow value that has its end
abbrev pub flow : ℕ → Node
flow d s = elim (is_closed s) [ false ↦ Err (0, kind.Flow) | true ↦ collection d s ]
