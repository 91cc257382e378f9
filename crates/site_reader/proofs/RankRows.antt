-- What sorts documents, case by case.
use Rattle.std.proofs.Common.{◌≡◌, ℕ, true, List, [], ◌∷◌, Less, refl}
use Rattle.std.specs.Prelude.{codes, pos}
use Rattle.site_base.specs.Plain.{bool, int, text, Pairs, no_pairs, pair}
use Rattle.site_config.specs.declared.sorting.Sorting.TheVariants as sorting
use Rattle.site_reader.specs.Ranks.{key_cmp, sort_key}
use Rattle.site_reader.specs.declared.sort_key.SortKey.TheVariants as key

-- a path that is there twice
abbrev listed : List (List ℕ)
listed = codes "b/2.md" ∷ codes "1.md" ∷ codes "b/2.md" ∷ []

first_counts : sort_key (sorting.Listed listed) (codes "b/2.md") no_pairs ≡ key.Place 0
first_counts = refl

not_listed : sort_key (sorting.Listed listed) (codes "2.md") no_pairs ≡ key.Place 3
not_listed = refl

none_listed : sort_key (sorting.Listed []) (codes "1.md") no_pairs ≡ key.Place 0
none_listed = refl

abbrev vars : Pairs
vars = pair (codes "w") (int (pos 9)) (pair (codes "v") (text (codes "10")) (pair (codes "b") (bool true) (pair (codes "next") (int (pos 1)) no_pairs)))

number : sort_key (sorting.By (codes "w")) [] vars ≡ key.Number (pos 9)
number = refl

digits_of_a_text : sort_key (sorting.By (codes "v")) [] vars ≡ key.Text (codes "10")
digits_of_a_text = refl

flag : sort_key (sorting.By (codes "b")) [] vars ≡ key.Last
flag = refl

absent : sort_key (sorting.By (codes "x")) [] vars ≡ key.Last
absent = refl

neighbour : sort_key (sorting.By (codes "next")) [] vars ≡ key.Last
neighbour = refl

numbers_first : key_cmp (key.Number (pos 9)) (key.Text (codes "10")) ≡ Less
numbers_first = refl

texts_by_bytes : key_cmp (key.Text (codes "10")) (key.Text (codes "9")) ≡ Less
texts_by_bytes = refl

others_last : key_cmp (key.Text (codes "z")) key.Last ≡ Less
others_last = refl
