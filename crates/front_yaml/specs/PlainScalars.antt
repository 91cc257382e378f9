-- Plain scalars: YAML 1.2.2, section 7.3.3. `flow` says that one stands inside brackets.
use Rattle.std.specs.Prelude.{ℕ, suc, ◌==◌, Bool, true, false, ◌&&◌, ◌||◌, not, List, [], ◌∷◌, length, take, if◌then◌else◌, Option, Some, None, Ok, Err, codes}
use Rattle.site_base.specs.Chains.{◌>>=◌}
use Rattle.site_base.specs.declared.faults.YamlKind.TheVariants as kind
use Rattle.site_base.specs.Plain.{Plain}
use Rattle.front_yaml.specs.Reading.{Fault, Reading}
use Rattle.front_yaml.specs.Bytes.{later, is_gap, trim}
use Rattle.front_yaml.specs.Scalars.{resolve}
use Rattle.front_yaml.specs.Folding.{fold, first_tab, earlier, as_fault}

abbrev pub is_one_of : ℕ → List ℕ → Bool
is_one_of c [] = false
is_one_of c (d ∷ ds) = (c == d) || is_one_of c ds

-- `, [ ] { }`
abbrev pub is_bracket : ℕ → Bool
is_bracket c = is_one_of c (codes ",[]{}")

-- a `:` before this separates a key from its value
abbrev pub separates : Bool → List ℕ → Bool
separates flow [] = true
separates flow (c ∷ cs) = (c == 32) || (c == 10) || (flow && is_bracket c)

abbrev pub blank_next : List ℕ → Bool
blank_next [] = true
blank_next (c ∷ cs) = is_gap c

abbrev pub starts_plain : Bool → List ℕ → Bool
starts_plain flow [] = false
starts_plain flow (c ∷ cs) =
    not (is_one_of c (codes "[]{},#&*!|>'\"%@`") || ((c == 45) || (c == 63) || (c == 58)) && blank_next cs || (c == 58) && separates flow cs)

abbrev pub ends_plain : Bool → Bool → ℕ → List ℕ → Bool
ends_plain flow gap c cs = gap && (c == 35) || flow && (is_bracket c || (c == 58) && separates true cs)

-- the bytes before what ends a plain scalar: a comment, and in a flow value a bracket, a comma or the `:` of a key
abbrev pub plain_len : Bool → Bool → List ℕ → ℕ
plain_len flow gap [] = 0
plain_len flow gap (c ∷ cs) =
    if ends_plain flow gap c cs then 0 else suc (plain_len flow (is_gap c) cs)

abbrev pub plain_raw : Bool → List ℕ → List ℕ
plain_raw flow s = trim (take (plain_len flow false s) s)

abbrev pub first_colon : List ℕ → Option ℕ
first_colon [] = None
first_colon (c ∷ cs) = if (c == 58) && separates false cs then Some 0 else later (first_colon cs)

abbrev pub plain_fault : Bool → List ℕ → Option Fault
plain_fault flow raw = earlier (as_fault kind.Tab (first_tab false raw)) (if flow then None else as_fault kind.NoKey (first_colon raw))

-- the raw bytes of a plain scalar
abbrev pub plain_at : Bool → List ℕ → Reading (List ℕ)
plain_at flow s = let raw = plain_raw flow s in elim (plain_fault flow raw) [ Some f ↦ Err f | None ↦ Ok raw ]

abbrev pub plain : Bool → List ℕ → Reading (Plain × ℕ)
plain flow s = plain_at flow s >>= λ raw. resolve (fold raw) >>= λ v. Ok (v, length raw)
