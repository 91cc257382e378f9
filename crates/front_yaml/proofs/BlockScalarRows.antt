-- Worked rows: block scalars.
use Rattle.std.specs.Prelude.{◌≡◌, [], Ok, Err, pos, codes, refl}
use Rattle.std.specs.Char.{encode_utf8}
use Rattle.site_base.specs.declared.faults.YamlKind.TheVariants as kind
use Rattle.site_base.specs.Plain.{int, text, list, hash, no_items, item, no_pairs, pair}
use Rattle.site_base.specs.Lines.{lines}
use Rattle.site_base.specs.Recursion.{down}
use Rattle.front_yaml.specs.Flow.{items, pairs, collection}
use Rattle.front_yaml.specs.Blocks.{block}
use Rattle.front_yaml.specs.Yaml.{lines_value, yaml}

row_1 : yaml (codes "a: |\n  x\n\nb: >-\n  y\n  z\n") ≡ Ok (hash (pair (codes "a") (text (codes "x\n")) (pair (codes "b") (text (codes "y z")) no_pairs)))
unfolding lines lines_value block collection items pairs down encode_utf8
row_1 = refl

row_2 : yaml (codes "a: |\n  x\n y\n") ≡ Err (3, kind.Indent)
unfolding lines lines_value block collection items pairs down encode_utf8
row_2 = refl

row_3 : yaml (codes "a: |\n\n   x\n  y\n") ≡ Err (4, kind.Indent)
unfolding lines lines_value block collection items pairs down encode_utf8
row_3 = refl

row_4 : yaml (codes "a: |+\n  x\n\n\nb: 1\n") ≡ Ok (hash (pair (codes "a") (text (codes "x\n\n\n")) (pair (codes "b") (int (pos 1)) no_pairs)))
unfolding lines lines_value block collection items pairs down encode_utf8
row_4 = refl

row_5 : yaml (codes "a: |-\n  x\n\n") ≡ Ok (hash (pair (codes "a") (text (codes "x")) no_pairs))
unfolding lines lines_value block collection items pairs down encode_utf8
row_5 = refl

row_6 : yaml (codes "a: >\n  a\n  b\n\n  c\n   d\n  e\n\n\n  f\n") ≡ Ok (hash (pair (codes "a") (text (codes "a b\nc\n d\ne\n\nf\n")) no_pairs))
unfolding lines lines_value block collection items pairs down encode_utf8
row_6 = refl

row_7 : yaml (codes "a: >\n\n  a\n") ≡ Ok (hash (pair (codes "a") (text (codes "\na\n")) no_pairs))
unfolding lines lines_value block collection items pairs down encode_utf8
row_7 = refl

row_8 : yaml (codes "a: |\nb: 1\n") ≡ Ok (hash (pair (codes "a") (text ([])) (pair (codes "b") (int (pos 1)) no_pairs)))
unfolding lines lines_value block collection items pairs down encode_utf8
row_8 = refl

row_9 : yaml (codes "a: |+\n\n\nb: 1\n") ≡ Ok (hash (pair (codes "a") (text (codes "\n\n")) (pair (codes "b") (int (pos 1)) no_pairs)))
unfolding lines lines_value block collection items pairs down encode_utf8
row_9 = refl

row_10 : yaml (codes "a: |\n\n\nb: 1\n") ≡ Ok (hash (pair (codes "a") (text ([])) (pair (codes "b") (int (pos 1)) no_pairs)))
unfolding lines lines_value block collection items pairs down encode_utf8
row_10 = refl

row_11 : yaml (codes "a: |x\n") ≡ Err (1, kind.Outside)
unfolding lines lines_value block collection items pairs down encode_utf8
row_11 = refl

row_12 : yaml (codes "a: | # c\n  x\n") ≡ Ok (hash (pair (codes "a") (text (codes "x\n")) no_pairs))
unfolding lines lines_value block collection items pairs down encode_utf8
row_12 = refl

row_13 : yaml (codes "a: |2\n  x\n") ≡ Err (1, kind.Outside)
unfolding lines lines_value block collection items pairs down encode_utf8
row_13 = refl

row_14 : yaml (codes "a: |+ \n x\n") ≡ Ok (hash (pair (codes "a") (text (codes "x\n")) no_pairs))
unfolding lines lines_value block collection items pairs down encode_utf8
row_14 = refl

row_15 : yaml (codes "a: | \n x\n") ≡ Ok (hash (pair (codes "a") (text (codes "x\n")) no_pairs))
unfolding lines lines_value block collection items pairs down encode_utf8
row_15 = refl

row_16 : yaml (codes "a: |-#\n x\n") ≡ Err (1, kind.Outside)
unfolding lines lines_value block collection items pairs down encode_utf8
row_16 = refl

row_17 : yaml (codes "a: |\n  x\n\t\n") ≡ Ok (hash (pair (codes "a") (text (codes "x\n")) no_pairs))
unfolding lines lines_value block collection items pairs down encode_utf8
row_17 = refl

row_18 : yaml (codes "a: |\n\tx\n") ≡ Err (2, kind.Tab)
unfolding lines lines_value block collection items pairs down encode_utf8
row_18 = refl

row_19 : yaml (codes "a: |\n \tx\n") ≡ Ok (hash (pair (codes "a") (text (codes "\tx\n")) no_pairs))
unfolding lines lines_value block collection items pairs down encode_utf8
row_19 = refl

row_20 : yaml (codes "a: >\n\n\n") ≡ Ok (hash (pair (codes "a") (text ([])) no_pairs))
unfolding lines lines_value block collection items pairs down encode_utf8
row_20 = refl

row_21 : yaml (codes "a: >+\n  x\n\n") ≡ Ok (hash (pair (codes "a") (text (codes "x\n\n")) no_pairs))
unfolding lines lines_value block collection items pairs down encode_utf8
row_21 = refl

row_22 : yaml (codes "a: >\n  x\n\n") ≡ Ok (hash (pair (codes "a") (text (codes "x\n")) no_pairs))
unfolding lines lines_value block collection items pairs down encode_utf8
row_22 = refl

row_23 : yaml (codes "a: >\n  x\n   y\n\n   z\n  w\n") ≡ Ok (hash (pair (codes "a") (text (codes "x\n y\n\n z\nw\n")) no_pairs))
unfolding lines lines_value block collection items pairs down encode_utf8
row_23 = refl

row_24 : yaml (codes "a: >\n   x\n\n    \n   y\n") ≡ Ok (hash (pair (codes "a") (text (codes "x\n\ny\n")) no_pairs))
unfolding lines lines_value block collection items pairs down encode_utf8
row_24 = refl

row_25 : yaml (codes "a: |\n  x\n    \n  y\n") ≡ Ok (hash (pair (codes "a") (text (codes "x\n\ny\n")) no_pairs))
unfolding lines lines_value block collection items pairs down encode_utf8
row_25 = refl

row_26 : yaml (codes "a: |\n    \n  x\n") ≡ Ok (hash (pair (codes "a") (text (codes "\nx\n")) no_pairs))
unfolding lines lines_value block collection items pairs down encode_utf8
row_26 = refl

row_27 : yaml (codes "- |\n x\n- b\n") ≡ Ok (list (item (text (codes "x\n")) (item (text (codes "b")) no_items)))
unfolding lines lines_value block collection items pairs down encode_utf8
row_27 = refl

row_28 : yaml (codes "|\n x\n") ≡ Err (1, kind.Outside)
unfolding lines lines_value block collection items pairs down encode_utf8
row_28 = refl

row_29 : yaml (codes "a: |\n  x") ≡ Ok (hash (pair (codes "a") (text (codes "x\n")) no_pairs))
unfolding lines lines_value block collection items pairs down encode_utf8
row_29 = refl

row_30 : yaml (codes "a: >-\n  x\n  y\n\n  z\n") ≡ Ok (hash (pair (codes "a") (text (codes "x y\nz")) no_pairs))
unfolding lines lines_value block collection items pairs down encode_utf8
row_30 = refl
