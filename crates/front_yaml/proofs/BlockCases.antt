-- The cases of a block.
use Rattle.std.proofs.Common.{◌≡◌, ℕ, zero, suc, ◌-◌, ◌<◌, Bool, true, false, List, ◌∷◌, ◌≤◌, length, get_or, take, drop, Ok, Err, refl, ap, sym, ◌∙◌, drop_of_length-le, arith}
use Rattle.std.proofs.lemmas.List.{at_drop_more}
use Rattle.std.specs.List.{prefix_len}
use Rattle.site_base.specs.Chains.{◌>>=◌}
use Rattle.site_base.specs.Plain.{Plain}
use Rattle.site_base.specs.declared.faults.YamlKind.TheVariants as kind
use Rattle.front_yaml.specs.Reading.{Reading}
use Rattle.front_yaml.specs.TextLines.{Line, inside, indent}
use Rattle.front_yaml.specs.LineLeaves.{leaf_lines}
use Rattle.front_yaml.specs.Blocks.{block, below, entries_of, sequence_value, mapping_value}
use Rattle.front_yaml.specs.Keys.{starts_block, is_dash}
use Rattle.front_yaml.specs.Yaml.{goes_on, no_marker, lines_value}
use Rattle.front_yaml.specs.Given.{FailsLines}
use Rattle.front_yaml.specs.declared.faults.YamlError.{YamlError}
use Rattle.front_yaml.specs.declared.faults.YamlError.TheVariants as errors

pub block-leaf : (d f : ℕ) (l : Line) (ls : List Line) → starts_block (inside l) ≡ false → block d f (l ∷ ls) ≡ leaf_lines d f l (inside l) ls
unfolding block
block-leaf zero f l ls e = rw (e, block) refl
block-leaf (suc d) f l ls e = rw (e, block) refl

pub block-deep : (d f : ℕ) (l : Line) (ls : List Line) → d ≡ 0 → starts_block (inside l) ≡ true → block d f (l ∷ ls) ≡ Err (l.number, kind.Depth)
unfolding block
block-deep zero f l ls z e = rw (e, block) refl
block-deep (suc d) f l ls z e = absurd (omega arith)

block-entries : (d f : ℕ) (l : Line) (ls : List Line) → starts_block (inside l) ≡ true → block (suc d) f (l ∷ ls) ≡ entries_of d (block d) l ls
unfolding block
block-entries d f l ls e = rw (e, block) refl

dashed : (b : Bool) (x y : Reading Plain) → b ≡ true → elim b as (λ _. Reading Plain) [ true ↦ x | false ↦ y ] ≡ x
dashed true x y e = refl
dashed false x y e = cc

keyed : (b : Bool) (x y : Reading Plain) → b ≡ false → elim b as (λ _. Reading Plain) [ true ↦ x | false ↦ y ] ≡ y
keyed true x y e = cc
keyed false x y e = refl

pub block-sequence : (d f : ℕ) (l : Line) (ls : List Line) → 0 < d → starts_block (inside l) ≡ true → is_dash (inside l) ≡ true → block d f (l ∷ ls) ≡ sequence_value (d - 1) (block (d - 1)) (indent l) l ls
block-sequence zero f l ls lt e h = absurd (omega arith)
block-sequence (suc d) f l ls lt e h =
    let same : d ≡ suc d - 1 = omega arith in
    block-entries d f l ls e ∙ dashed (is_dash (inside l)) _ _ h ∙ ap (λ n. sequence_value n (block n) (indent l) l ls) same

pub block-mapping : (d f : ℕ) (l : Line) (ls : List Line) → 0 < d → starts_block (inside l) ≡ true → is_dash (inside l) ≡ false → block d f (l ∷ ls) ≡ mapping_value (d - 1) (block (d - 1)) (indent l) l ls
block-mapping zero f l ls lt e h = absurd (omega arith)
block-mapping (suc d) f l ls lt e h =
    let same : d ≡ suc d - 1 = omega arith in
    block-entries d f l ls e ∙ keyed (is_dash (inside l)) _ _ h ∙ ap (λ n. mapping_value n (block n) (indent l) l ls) same

pub fails-on : {A B : Type 0} (r : Reading A) (g : A → Reading B) (x : YamlError) (all : Reading B) → all ≡ (r >>= g) → FailsLines x r → FailsLines x all
fails-on r g errors.Memory all e h = tt
fails-on r g (errors.Fault f) all e h = e ∙ ap (λ t. t >>= g) h

-- ---- the lines of a file

abbrev file_value : ℕ → List Line → Reading Plain
file_value n ls = below (block 64) 0 (take n ls) >>= λ v. no_marker (drop n ls) (Ok v)

file-is : (ls : List Line) (n : ℕ) → n ≡ prefix_len goes_on ls → lines_value ls ≡ file_value n ls
unfolding lines_value
file-is ls n e = ap (λ k. file_value k ls) (sym e)

pub value_fails : (ls : List Line) (n : ℕ) (x : YamlError) → n ≡ prefix_len goes_on ls → FailsLines x (below (block 64) 0 (take n ls)) → FailsLines x (lines_value ls)
value_fails ls n x e h = fails-on (below (block 64) 0 (take n ls)) (λ v. no_marker (drop n ls) (Ok v)) x (lines_value ls) (file-is ls n e) h

pub value_whole : (ls : List Line) (n : ℕ) (v : Plain) → n ≡ prefix_len goes_on ls → length ls ≤ n → below (block 64) 0 (take n ls) ≡ Ok v → lines_value ls ≡ Ok v
value_whole ls n v e le h = file-is ls n e ∙ ap (λ r. r >>= λ w. no_marker (drop n ls) (Ok w)) h ∙ ap (λ xs. no_marker xs (Ok v)) (drop_of_length-le ls le)

pub value_cut : (ls : List Line) (n : ℕ) (l : Line) (v : Plain) → n ≡ prefix_len goes_on ls → n < length ls → l ≡ get_or ls n l → below (block 64) 0 (take n ls) ≡ Ok v → lines_value ls ≡ Err (l.number, kind.Outside)
value_cut ls n l v e lt at h =
    file-is ls n e ∙ ap (λ r. r >>= λ w. no_marker (drop n ls) (Ok w)) h ∙ ap (λ xs. no_marker xs (Ok v)) (at_drop_more (λ xs. xs) ls n l lt) ∙ ap (λ m. Err (m.number, kind.Outside)) (sym at)
