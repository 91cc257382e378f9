-- The entries of lines, one after another.
use Rattle.std.proofs.Common.{◌≡◌, ℕ, suc, ◌+◌, Bool, true, false, not, cond, List, [], ◌∷◌, take, drop, Ok, Err, refl, ap, sym, ◌∙◌, arith}
use Rattle.std.specs.List.{position_or_len}
use Rattle.site_base.specs.Chains.{◌>>=◌}
use Rattle.site_base.specs.Plain.{Plain, Items, no_items, item, Pairs, pair}
use Rattle.site_base.specs.Plain.{onto, set}
use Rattle.front_yaml.specs.Reading.{Fault, Reading}
use Rattle.front_yaml.specs.TextLines.{Line}
use Rattle.front_yaml.specs.Blocks.{Entry, entry, entries, all_entries, Block, sequence, at_indent, item_value, mapping, pair_at}
use Rattle.front_yaml.specs.Flow.{settled}
use Rattle.front_yaml.specs.Given.{FailsLines}
use Rattle.front_yaml.specs.declared.faults.YamlError.{YamlError}
use Rattle.front_yaml.specs.declared.faults.YamlError.TheVariants as errors

abbrev pub entries_from : (Line → Bool) → List Line → List Entry
entries_from heads [] = []
entries_from heads (l ∷ ls) = all_entries heads l ls

step : (heads : Line → Bool) (l : Line) (ls : List Line) (b : Bool) → heads l ≡ b
    → entries heads ls ≡ (take (position_or_len heads ls) ls, entries_from heads (drop (position_or_len heads ls) ls))
    → entries heads (l ∷ ls) ≡ (take (cond (not b) (1 + position_or_len heads ls) 0) (l ∷ ls), entries_from heads (drop (cond (not b) (1 + position_or_len heads ls) 0) (l ∷ ls)))
step heads l ls true e h = rw e refl
step heads l ls false e h =
    let n = position_or_len heads ls in
    let one : suc n ≡ 1 + n = omega arith in
    rw (e, h) (ap (λ k. (take k (l ∷ ls), entries_from heads (drop k (l ∷ ls)))) one)

-- the lines before the first entry, and the entries
pub entries-split : (heads : Line → Bool) (ls : List Line) → entries heads ls ≡ (take (position_or_len heads ls) ls, entries_from heads (drop (position_or_len heads ls) ls))
entries-split heads [] = refl
entries-split heads (l ∷ ls) = step heads l ls (heads l) refl (entries-split heads ls)

pub all-split : (heads : Line → Bool) (l : Line) (ls : List Line) → all_entries heads l ls ≡ entry l (take (position_or_len heads ls) ls) ∷ entries_from heads (drop (position_or_len heads ls) ls)
all-split heads l ls = rw (entries-split heads ls) refl

-- ---- sequences

abbrev pub with_items : Items → Reading Items → Reading Items
with_items done (Ok is) = Ok (onto done is)
with_items done (Err f) = Err f

onto-onto : (a : Items) (v : Plain) (b : Items) → onto a (item v b) ≡ onto (onto a (item v no_items)) b
onto-onto no_items v b = refl
onto-onto (item w a) v b = ap (λ is. item w is) (onto-onto a v b)

pub onto-end : (a : Items) → onto a no_items ≡ a
onto-end no_items = refl
onto-end (item w a) = ap (λ is. item w is) (onto-end a)

more : (done : Items) (v : Plain) (r : Reading Items) → with_items done (r >>= λ vs. Ok (item v vs)) ≡ with_items (onto done (item v no_items)) r
more done v (Ok is) = ap (λ x. Ok x) (onto-onto done v is)
more done v (Err f) = refl

module _ (d : ℕ) (inner : Block) (n : ℕ) (heads : Line → Bool) where
  abbrev pub items_from : List Line → Reading Items
  items_from ls = sequence d inner n (entries_from heads ls)

  abbrev pub first_item : Line → List Line → Reading Plain
  first_item l ls = at_indent n l (item_value d inner n (entry l ls))

  split : (l : Line) (ls : List Line) (k : ℕ) → k ≡ position_or_len heads ls
      → sequence d inner n (all_entries heads l ls) ≡ (first_item l (take k ls) >>= λ v. items_from (drop k ls) >>= λ vs. Ok (item v vs))
  split l ls k e =
      ap (λ es. sequence d inner n es) (all-split heads l ls) ∙ ap (λ j. first_item l (take j ls) >>= λ v. items_from (drop j ls) >>= λ vs. Ok (item v vs)) (sym e)

  pub item_more : (l : Line) (ls : List Line) (k : ℕ) (done : Items) (v : Plain) (all : Reading Items) → k ≡ position_or_len heads ls
      → with_items done (sequence d inner n (all_entries heads l ls)) ≡ all → first_item l (take k ls) ≡ Ok v
      → with_items (onto done (item v no_items)) (items_from (drop k ls)) ≡ all
  item_more l ls k done v all e told is =
      sym (more done v (items_from (drop k ls))) ∙ ap (λ r. with_items done (r >>= λ w. items_from (drop k ls) >>= λ vs. Ok (item w vs))) (sym is) ∙ ap (with_items done) (sym (split l ls k e)) ∙ told

  pub item_fails : (l : Line) (ls : List Line) (k : ℕ) (done : Items) (f : Fault) (all : Reading Items) → k ≡ position_or_len heads ls
      → with_items done (sequence d inner n (all_entries heads l ls)) ≡ all → first_item l (take k ls) ≡ Err f → all ≡ Err f
  item_fails l ls k done f all e told is = sym told ∙ ap (with_items done) (split l ls k e) ∙ ap (λ r. with_items done (r >>= λ w. items_from (drop k ls) >>= λ vs. Ok (item w vs))) is

  pub item_fails_by : (l : Line) (ls : List Line) (k : ℕ) (done : Items) (e : YamlError) (all : Reading Items) → k ≡ position_or_len heads ls
      → with_items done (sequence d inner n (all_entries heads l ls)) ≡ all → FailsLines e (first_item l (take k ls)) → FailsLines e all
  item_fails_by l ls k done errors.Memory all e told is = tt
  item_fails_by l ls k done (errors.Fault f) all e told is = item_fails l ls k done _ all e told is

  pub items_end : (ls : List Line) (done : Items) (all : Reading Items) → ls ≡ [] → with_items done (items_from ls) ≡ all → all ≡ Ok done
  items_end ls done all e told = sym told ∙ ap (λ x. with_items done (items_from x)) e ∙ ap (λ x. Ok x) (onto-end done)

-- ---- mappings

abbrev pub with_pairs : Pairs → Reading Pairs → Reading Pairs
with_pairs done r = r >>= λ ps. Ok (settled done ps)

module _ (d : ℕ) (inner : Block) (n : ℕ) (heads : Line → Bool) where
  abbrev pub pairs_from : List Line → Reading Pairs
  pairs_from ls = mapping d inner n (entries_from heads ls)

  abbrev pub first_pair : Line → List Line → Reading (List ℕ × Plain)
  first_pair l ls = at_indent n l (pair_at d inner n (entry l ls))

  pairs_split : (l : Line) (ls : List Line) (k : ℕ) → k ≡ position_or_len heads ls
      → mapping d inner n (all_entries heads l ls) ≡ (first_pair l (take k ls) >>= λ p. pairs_from (drop k ls) >>= λ ps. Ok (pair p.0 p.1 ps))
  pairs_split l ls k e =
      ap (λ es. mapping d inner n es) (all-split heads l ls) ∙ ap (λ j. first_pair l (take j ls) >>= λ p. pairs_from (drop j ls) >>= λ ps. Ok (pair p.0 p.1 ps)) (sym e)

  more_pairs : (done : Pairs) (k : List ℕ) (v : Plain) (r : Reading Pairs) → with_pairs done (r >>= λ ps. Ok (pair k v ps)) ≡ with_pairs (set k v done) r
  more_pairs done k v (Ok ps) = refl
  more_pairs done k v (Err f) = refl

  pub pair_more : (l : Line) (ls : List Line) (k : ℕ) (done : Pairs) (name : List ℕ) (v : Plain) (all : Reading Pairs) → k ≡ position_or_len heads ls
      → with_pairs done (mapping d inner n (all_entries heads l ls)) ≡ all → first_pair l (take k ls) ≡ Ok (name, v)
      → with_pairs (set name v done) (pairs_from (drop k ls)) ≡ all
  pair_more l ls k done name v all e told is =
      sym (more_pairs done name v (pairs_from (drop k ls))) ∙ ap (λ r. with_pairs done (r >>= λ p. pairs_from (drop k ls) >>= λ ps. Ok (pair p.0 p.1 ps))) (sym is) ∙ ap (with_pairs done) (sym (pairs_split l ls k e)) ∙ told

  pub pair_fails : (l : Line) (ls : List Line) (k : ℕ) (done : Pairs) (f : Fault) (all : Reading Pairs) → k ≡ position_or_len heads ls
      → with_pairs done (mapping d inner n (all_entries heads l ls)) ≡ all → first_pair l (take k ls) ≡ Err f → all ≡ Err f
  pair_fails l ls k done f all e told is = sym told ∙ ap (with_pairs done) (pairs_split l ls k e) ∙ ap (λ r. with_pairs done (r >>= λ p. pairs_from (drop k ls) >>= λ ps. Ok (pair p.0 p.1 ps))) is

  pub pair_fails_by : (l : Line) (ls : List Line) (k : ℕ) (done : Pairs) (e : YamlError) (all : Reading Pairs) → k ≡ position_or_len heads ls
      → with_pairs done (mapping d inner n (all_entries heads l ls)) ≡ all → FailsLines e (first_pair l (take k ls)) → FailsLines e all
  pair_fails_by l ls k done errors.Memory all e told is = tt
  pair_fails_by l ls k done (errors.Fault f) all e told is = pair_fails l ls k done _ all e told is

  pub pairs_end : (ls : List Line) (done : Pairs) (all : Reading Pairs) → ls ≡ [] → with_pairs done (pairs_from ls) ≡ all → all ≡ Ok done
  pairs_end ls done all e told = sym told ∙ ap (λ x. with_pairs done (pairs_from x)) e
