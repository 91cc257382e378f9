-- Worked rows: sequences.
use Rattle.std.specs.Prelude.{◌≡◌, Ok, Err, pos, codes, refl}
use Rattle.std.specs.Char.{encode_utf8}
use Rattle.site_base.specs.declared.faults.YamlKind.TheVariants as kind
use Rattle.site_base.specs.Plain.{nil, int, text, list, hash, no_items, item, no_pairs, pair}
use Rattle.site_base.specs.Lines.{lines}
use Rattle.site_base.specs.Recursion.{down}
use Rattle.front_yaml.specs.Flow.{items, pairs, collection}
use Rattle.front_yaml.specs.Blocks.{block}
use Rattle.front_yaml.specs.Yaml.{lines_value, yaml}

row_1 : yaml (codes "a: x\n  - b\n") ≡ Ok (hash (pair (codes "a") (text (codes "x - b")) no_pairs))
unfolding lines lines_value block collection items pairs down encode_utf8
row_1 = refl

row_2 : yaml (codes "a: x\n - b\nc: d\n") ≡ Ok (hash (pair (codes "a") (text (codes "x - b")) (pair (codes "c") (text (codes "d")) no_pairs)))
unfolding lines lines_value block collection items pairs down encode_utf8
row_2 = refl

row_3 : yaml (codes "a:\n- b\n- c\nd: e\n") ≡ Ok (hash (pair (codes "a") (list (item (text (codes "b")) (item (text (codes "c")) no_items))) (pair (codes "d") (text (codes "e")) no_pairs)))
unfolding lines lines_value block collection items pairs down encode_utf8
row_3 = refl

row_4 : yaml (codes "- a\n-b\n") ≡ Err (2, kind.Outside)
unfolding lines lines_value block collection items pairs down encode_utf8
row_4 = refl

row_5 : yaml (codes "- a\nb: c\n") ≡ Err (2, kind.Outside)
unfolding lines lines_value block collection items pairs down encode_utf8
row_5 = refl

row_6 : yaml (codes "a: b\n- c\n") ≡ Err (2, kind.NoKey)
unfolding lines lines_value block collection items pairs down encode_utf8
row_6 = refl

row_7 : yaml (codes "a:\n  - b\n  -\n  - c\n") ≡ Ok (hash (pair (codes "a") (list (item (text (codes "b")) (item nil (item (text (codes "c")) no_items)))) no_pairs))
unfolding lines lines_value block collection items pairs down encode_utf8
row_7 = refl

row_8 : yaml (codes "- - a\n  - b\n- c\n") ≡ Ok (list (item (list (item (text (codes "a")) (item (text (codes "b")) no_items))) (item (text (codes "c")) no_items)))
unfolding lines lines_value block collection items pairs down encode_utf8
row_8 = refl

row_9 : yaml (codes "- a: 1\n  b: 2\n- c: 3\n") ≡ Ok (list (item (hash (pair (codes "a") (int (pos 1)) (pair (codes "b") (int (pos 2)) no_pairs))) (item (hash (pair (codes "c") (int (pos 3)) no_pairs)) no_items)))
unfolding lines lines_value block collection items pairs down encode_utf8
row_9 = refl

row_10 : yaml (codes "- \n- b\n") ≡ Ok (list (item nil (item (text (codes "b")) no_items)))
unfolding lines lines_value block collection items pairs down encode_utf8
row_10 = refl

row_11 : yaml (codes "-   a: 1\n    b: 2\n") ≡ Ok (list (item (hash (pair (codes "a") (int (pos 1)) (pair (codes "b") (int (pos 2)) no_pairs))) no_items))
unfolding lines lines_value block collection items pairs down encode_utf8
row_11 = refl

row_12 : yaml (codes "- a: 1\n b: 2\n") ≡ Err (2, kind.Indent)
unfolding lines lines_value block collection items pairs down encode_utf8
row_12 = refl

row_13 : yaml (codes "- - a\n - b\n") ≡ Err (2, kind.Indent)
unfolding lines lines_value block collection items pairs down encode_utf8
row_13 = refl

row_14 : yaml (codes "a:\n- b\n -c\n") ≡ Ok (hash (pair (codes "a") (list (item (text (codes "b -c")) no_items)) no_pairs))
unfolding lines lines_value block collection items pairs down encode_utf8
row_14 = refl

row_15 : yaml (codes "a:\n- b\n - c\n") ≡ Ok (hash (pair (codes "a") (list (item (text (codes "b - c")) no_items)) no_pairs))
unfolding lines lines_value block collection items pairs down encode_utf8
row_15 = refl

row_16 : yaml (codes "a:\n  - b\n - c\n") ≡ Err (3, kind.Indent)
unfolding lines lines_value block collection items pairs down encode_utf8
row_16 = refl

row_17 : yaml (codes "  - a\n- b\n") ≡ Err (2, kind.Indent)
unfolding lines lines_value block collection items pairs down encode_utf8
row_17 = refl

row_18 : yaml (codes "  - a\n - b\n") ≡ Err (2, kind.Indent)
unfolding lines lines_value block collection items pairs down encode_utf8
row_18 = refl

row_19 : yaml (codes "a:\n  b: 1\n- c\n") ≡ Err (3, kind.NoKey)
unfolding lines lines_value block collection items pairs down encode_utf8
row_19 = refl

row_20 : yaml (codes "a:\n- b:\n  - c\n- d\n") ≡ Ok (hash (pair (codes "a") (list (item (hash (pair (codes "b") (list (item (text (codes "c")) no_items)) no_pairs)) (item (text (codes "d")) no_items))) no_pairs))
unfolding lines lines_value block collection items pairs down encode_utf8
row_20 = refl
