-- Worked rows: mappings, and plain scalars over lines.
use Rattle.std.specs.Prelude.{◌≡◌, Ok, Err, pos, codes, refl}
use Rattle.std.specs.Char.{encode_utf8}
use Rattle.site_base.specs.declared.faults.YamlKind.TheVariants as kind
use Rattle.site_base.specs.Plain.{nil, int, text, list, hash, no_items, item, no_pairs, pair}
use Rattle.site_base.specs.Lines.{lines}
use Rattle.site_base.specs.Recursion.{down}
use Rattle.front_yaml.specs.Flow.{items, pairs, collection}
use Rattle.front_yaml.specs.Blocks.{block}
use Rattle.front_yaml.specs.Yaml.{lines_value, yaml}

row_1 : yaml (codes "a: 1\n  b: 2\n") ≡ Err (2, kind.NoKey)
unfolding lines lines_value block collection items pairs down encode_utf8
row_1 = refl

row_2 : yaml (codes "a: x\n  y: z\n") ≡ Err (2, kind.NoKey)
unfolding lines lines_value block collection items pairs down encode_utf8
row_2 = refl

row_3 : yaml (codes "a:\n  b: 1\n c: 2\n") ≡ Err (3, kind.Indent)
unfolding lines lines_value block collection items pairs down encode_utf8
row_3 = refl

row_4 : yaml (codes " a: 1\nb: 2\n") ≡ Err (2, kind.Indent)
unfolding lines lines_value block collection items pairs down encode_utf8
row_4 = refl

row_5 : yaml (codes "a: 1\n b\nc: 2\n") ≡ Ok (hash (pair (codes "a") (text (codes "1 b")) (pair (codes "c") (int (pos 2)) no_pairs)))
unfolding lines lines_value block collection items pairs down encode_utf8
row_5 = refl

row_6 : yaml (codes "-\n  a: 1\n") ≡ Ok (list (item (hash (pair (codes "a") (int (pos 1)) no_pairs)) no_items))
unfolding lines lines_value block collection items pairs down encode_utf8
row_6 = refl

row_7 : yaml (codes "a:\n\n\nb: 1\n") ≡ Ok (hash (pair (codes "a") nil (pair (codes "b") (int (pos 1)) no_pairs)))
unfolding lines lines_value block collection items pairs down encode_utf8
row_7 = refl

row_8 : yaml (codes "a: x\n\n  y\n") ≡ Ok (hash (pair (codes "a") (text (codes "x\ny")) no_pairs))
unfolding lines lines_value block collection items pairs down encode_utf8
row_8 = refl

row_9 : yaml (codes "a: x\n\n\n  y\nb: 2\n") ≡ Ok (hash (pair (codes "a") (text (codes "x\n\ny")) (pair (codes "b") (int (pos 2)) no_pairs)))
unfolding lines lines_value block collection items pairs down encode_utf8
row_9 = refl

row_10 : yaml (codes "x\ny\n") ≡ Ok (text (codes "x y"))
unfolding lines lines_value block collection items pairs down encode_utf8
row_10 = refl

row_11 : yaml (codes "x\n  y: 1\n") ≡ Err (2, kind.NoKey)
unfolding lines lines_value block collection items pairs down encode_utf8
row_11 = refl

row_12 : yaml (codes "x\ny: 1\n") ≡ Err (2, kind.NoKey)
unfolding lines lines_value block collection items pairs down encode_utf8
row_12 = refl

row_13 : yaml (codes "a: x # c\n  y\n") ≡ Err (2, kind.Indent)
unfolding lines lines_value block collection items pairs down encode_utf8
row_13 = refl

row_14 : yaml (codes "a: x\n  # c\n  y\n") ≡ Err (3, kind.Indent)
unfolding lines lines_value block collection items pairs down encode_utf8
row_14 = refl

row_15 : yaml (codes "a:\n\tb: 1\n") ≡ Err (2, kind.Tab)
unfolding lines lines_value block collection items pairs down encode_utf8
row_15 = refl

row_16 : yaml (codes "a: 1\n\t\nb: 2\n") ≡ Ok (hash (pair (codes "a") (int (pos 1)) (pair (codes "b") (int (pos 2)) no_pairs)))
unfolding lines lines_value block collection items pairs down encode_utf8
row_16 = refl

row_17 : yaml (codes "a: 1\n\t# c\nb: 2\n") ≡ Err (2, kind.Tab)
unfolding lines lines_value block collection items pairs down encode_utf8
row_17 = refl

row_18 : yaml (codes "a: x\n\ty\n") ≡ Err (2, kind.Tab)
unfolding lines lines_value block collection items pairs down encode_utf8
row_18 = refl

row_19 : yaml (codes "a:\t\n  b\n") ≡ Ok (hash (pair (codes "a") (text (codes "b")) no_pairs))
unfolding lines lines_value block collection items pairs down encode_utf8
row_19 = refl

row_20 : yaml (codes "a: 1\na: 2\n") ≡ Ok (hash (pair (codes "a") (int (pos 2)) no_pairs))
unfolding lines lines_value block collection items pairs down encode_utf8
row_20 = refl

row_21 : yaml (codes "a: b\n\n# x\n\nc: d\n") ≡ Ok (hash (pair (codes "a") (text (codes "b")) (pair (codes "c") (text (codes "d")) no_pairs)))
unfolding lines lines_value block collection items pairs down encode_utf8
row_21 = refl

row_22 : yaml (codes "  # x\na: b\n") ≡ Ok (hash (pair (codes "a") (text (codes "b")) no_pairs))
unfolding lines lines_value block collection items pairs down encode_utf8
row_22 = refl

row_23 : yaml (codes "a: b\n # x\n c\n") ≡ Err (3, kind.Indent)
unfolding lines lines_value block collection items pairs down encode_utf8
row_23 = refl

row_24 : yaml (codes "x: 1\n\n") ≡ Ok (hash (pair (codes "x") (int (pos 1)) no_pairs))
unfolding lines lines_value block collection items pairs down encode_utf8
row_24 = refl

row_25 : yaml (codes "x # c\ny\n") ≡ Err (2, kind.Indent)
unfolding lines lines_value block collection items pairs down encode_utf8
row_25 = refl

row_26 : yaml (codes " x\ny\n") ≡ Ok (text (codes "x y"))
unfolding lines lines_value block collection items pairs down encode_utf8
row_26 = refl

row_27 : yaml (codes "  x\n y\n") ≡ Ok (text (codes "x y"))
unfolding lines lines_value block collection items pairs down encode_utf8
row_27 = refl

row_28 : yaml (codes "a: 1\nb\n") ≡ Err (2, kind.NoKey)
unfolding lines lines_value block collection items pairs down encode_utf8
row_28 = refl

row_29 : yaml (codes "a: 1\n&b: c\n") ≡ Err (2, kind.Outside)
unfolding lines lines_value block collection items pairs down encode_utf8
row_29 = refl

row_30 : yaml (codes "a:\n  x\n  y: z\n") ≡ Err (3, kind.NoKey)
unfolding lines lines_value block collection items pairs down encode_utf8
row_30 = refl

row_31 : yaml (codes "a: b\n\n  c: d\n") ≡ Err (3, kind.NoKey)
unfolding lines lines_value block collection items pairs down encode_utf8
row_31 = refl

row_32 : yaml (codes "# c\n\na: b\n") ≡ Ok (hash (pair (codes "a") (text (codes "b")) no_pairs))
unfolding lines lines_value block collection items pairs down encode_utf8
row_32 = refl
