-- Where loops stand: `forloop` and `tablerowloop`. After the reference of Liquid 4 (Shopify), "Tags", "Iteration".
use Rattle.std.specs.Prelude.{ℕ, zero, suc, ◌+◌, ◌-◌, ◌/◌, ◌%◌, ◌==◌, Bool, codes}
use Rattle.site_base.specs.Plain.{Plain, bool, hash, Pairs, no_pairs, pair}
use Rattle.liquid_values.specs.Members.{count_value}

-- where a loop stands: how many elements it has, and how many of them it has passed
abbrev pub counts : ℕ → ℕ → Pairs → Pairs
counts len passed more =
    pair (codes "length") (count_value len) (pair (codes "index") (count_value (passed + 1)) (pair (codes "index0") (count_value passed)
    (pair (codes "rindex") (count_value (len - passed)) (pair (codes "rindex0") (count_value (len - passed - 1))
    (pair (codes "first") (bool (passed == 0)) (pair (codes "last") (bool (passed + 1 == len)) more))))))

-- `forloop`
abbrev pub for_loop : ℕ → ℕ → Plain → Plain
for_loop len passed parent = hash (counts len passed (pair (codes "parentloop") parent no_pairs))

-- the row and the column of the element behind so many, counted from 0
abbrev pub row_of : ℕ → ℕ → ℕ
row_of zero passed = 0
row_of (suc n) passed = passed / suc n

abbrev pub column_of : ℕ → ℕ → ℕ
column_of zero passed = 0
column_of (suc n) passed = passed % suc n

-- the last of its row, or of the list where a row is the whole list
abbrev pub ends_row : ℕ → ℕ → Bool
ends_row columns passed = column_of columns passed + 1 == columns

abbrev pub row_columns : ℕ → ℕ → Pairs
row_columns columns passed =
    pair (codes "row") (count_value (row_of columns passed + 1)) (pair (codes "col") (count_value (column_of columns passed + 1))
    (pair (codes "col0") (count_value (column_of columns passed)) (pair (codes "col_first") (bool (column_of columns passed == 0))
    (pair (codes "col_last") (bool (ends_row columns passed)) no_pairs))))

-- `tablerowloop`
abbrev pub row_loop : ℕ → ℕ → ℕ → Plain
row_loop len columns passed = hash (counts len passed (row_columns columns passed))
