-- Worked rows: flow values.
use Rattle.std.specs.Prelude.{◌≡◌, true, Ok, Err, pos, codes, refl}
use Rattle.std.specs.Char.{encode_utf8}
use Rattle.site_base.specs.declared.faults.YamlKind.TheVariants as kind
use Rattle.site_base.specs.Plain.{nil, bool, int, text, list, hash, no_items, item, no_pairs, pair}
use Rattle.site_base.specs.Lines.{lines}
use Rattle.site_base.specs.Recursion.{down}
use Rattle.front_yaml.specs.Flow.{items, pairs, collection}
use Rattle.front_yaml.specs.Blocks.{block}
use Rattle.front_yaml.specs.Yaml.{lines_value, yaml}

row_1 : yaml (codes "a: [1, yes]\n") ≡ Ok (hash (pair (codes "a") (list (item (int (pos 1)) (item (bool true) no_items))) no_pairs))
unfolding lines lines_value block collection items pairs down encode_utf8
row_1 = refl

row_2 : yaml (codes "a: [1,\n 2]\n") ≡ Ok (hash (pair (codes "a") (list (item (int (pos 1)) (item (int (pos 2)) no_items))) no_pairs))
unfolding lines lines_value block collection items pairs down encode_utf8
row_2 = refl

row_3 : yaml (codes "a: [1,\n2]\n") ≡ Err (1, kind.Flow)
unfolding lines lines_value block collection items pairs down encode_utf8
row_3 = refl

row_4 : yaml (codes "a: {b: 1, c}\n") ≡ Err (1, kind.Flow)
unfolding lines lines_value block collection items pairs down encode_utf8
row_4 = refl

row_5 : yaml (codes "a: {b, c: }\n") ≡ Err (1, kind.Flow)
unfolding lines lines_value block collection items pairs down encode_utf8
row_5 = refl

row_6 : yaml (codes "a: [b: c, d]\n") ≡ Err (1, kind.Flow)
unfolding lines lines_value block collection items pairs down encode_utf8
row_6 = refl

row_7 : yaml (codes "a: [[], {}]\n") ≡ Ok (hash (pair (codes "a") (list (item (list no_items) (item (hash no_pairs) no_items))) no_pairs))
unfolding lines lines_value block collection items pairs down encode_utf8
row_7 = refl

row_8 : yaml (codes "a: [,]\n") ≡ Err (1, kind.Flow)
unfolding lines lines_value block collection items pairs down encode_utf8
row_8 = refl

row_9 : yaml (codes "a: [1,,2]\n") ≡ Err (1, kind.Flow)
unfolding lines lines_value block collection items pairs down encode_utf8
row_9 = refl

row_10 : yaml (codes "a: [1 2]\n") ≡ Ok (hash (pair (codes "a") (list (item (text (codes "1 2")) no_items)) no_pairs))
unfolding lines lines_value block collection items pairs down encode_utf8
row_10 = refl

row_11 : yaml (codes "a: [1]x\n") ≡ Err (1, kind.Flow)
unfolding lines lines_value block collection items pairs down encode_utf8
row_11 = refl

row_12 : yaml (codes "a: [1] # c\n") ≡ Ok (hash (pair (codes "a") (list (item (int (pos 1)) no_items)) no_pairs))
unfolding lines lines_value block collection items pairs down encode_utf8
row_12 = refl

row_13 : yaml (codes "a: ]x\n") ≡ Err (1, kind.Outside)
unfolding lines lines_value block collection items pairs down encode_utf8
row_13 = refl

row_14 : yaml (codes "a: }\n") ≡ Err (1, kind.Outside)
unfolding lines lines_value block collection items pairs down encode_utf8
row_14 = refl

row_15 : yaml (codes "a: [~, null, , b]\n") ≡ Err (1, kind.Flow)
unfolding lines lines_value block collection items pairs down encode_utf8
row_15 = refl

row_16 : yaml (codes "a: [a, b,]\n") ≡ Ok (hash (pair (codes "a") (list (item (text (codes "a")) (item (text (codes "b")) no_items))) no_pairs))
unfolding lines lines_value block collection items pairs down encode_utf8
row_16 = refl

row_17 : yaml (codes "a: {a: b,}\n") ≡ Ok (hash (pair (codes "a") (hash (pair (codes "a") (text (codes "b")) no_pairs)) no_pairs))
unfolding lines lines_value block collection items pairs down encode_utf8
row_17 = refl

row_18 : yaml (codes "a: {,}\n") ≡ Err (1, kind.Flow)
unfolding lines lines_value block collection items pairs down encode_utf8
row_18 = refl

row_19 : yaml (codes "a: [a#b, c #d\n, e]\n") ≡ Err (1, kind.Flow)
unfolding lines lines_value block collection items pairs down encode_utf8
row_19 = refl

row_20 : yaml (codes "a: [a\n  b, c]\n") ≡ Ok (hash (pair (codes "a") (list (item (text (codes "a b")) (item (text (codes "c")) no_items))) no_pairs))
unfolding lines lines_value block collection items pairs down encode_utf8
row_20 = refl

row_21 : yaml (codes "a: ['x' 'y']\n") ≡ Err (1, kind.Flow)
unfolding lines lines_value block collection items pairs down encode_utf8
row_21 = refl

row_22 : yaml (codes "a: ['x': y]\n") ≡ Err (1, kind.Flow)
unfolding lines lines_value block collection items pairs down encode_utf8
row_22 = refl

row_23 : yaml (codes "a: {'x':y}\n") ≡ Ok (hash (pair (codes "a") (hash (pair (codes "x") (text (codes "y")) no_pairs)) no_pairs))
unfolding lines lines_value block collection items pairs down encode_utf8
row_23 = refl

row_24 : yaml (codes "a: {x:y}\n") ≡ Err (1, kind.Flow)
unfolding lines lines_value block collection items pairs down encode_utf8
row_24 = refl

row_25 : yaml (codes "a: [x:]\n") ≡ Err (1, kind.Flow)
unfolding lines lines_value block collection items pairs down encode_utf8
row_25 = refl

row_26 : yaml (codes "a: [x: ]\n") ≡ Err (1, kind.Flow)
unfolding lines lines_value block collection items pairs down encode_utf8
row_26 = refl

row_27 : yaml (codes "a: {x:, y: 1}\n") ≡ Ok (hash (pair (codes "a") (hash (pair (codes "x") nil (pair (codes "y") (int (pos 1)) no_pairs))) no_pairs))
unfolding lines lines_value block collection items pairs down encode_utf8
row_27 = refl

row_28 : yaml (codes "a: [a:b]\n") ≡ Ok (hash (pair (codes "a") (list (item (text (codes "a:b")) no_items)) no_pairs))
unfolding lines lines_value block collection items pairs down encode_utf8
row_28 = refl

row_29 : yaml (codes "a: [a: b: c]\n") ≡ Err (1, kind.Flow)
unfolding lines lines_value block collection items pairs down encode_utf8
row_29 = refl

row_30 : yaml (codes "a: [-]\n") ≡ Ok (hash (pair (codes "a") (list (item (text (codes "-")) no_items)) no_pairs))
unfolding lines lines_value block collection items pairs down encode_utf8
row_30 = refl

row_31 : yaml (codes "a: [- b]\n") ≡ Err (1, kind.Outside)
unfolding lines lines_value block collection items pairs down encode_utf8
row_31 = refl

row_32 : yaml (codes "a: [?]\n") ≡ Ok (hash (pair (codes "a") (list (item (text (codes "?")) no_items)) no_pairs))
unfolding lines lines_value block collection items pairs down encode_utf8
row_32 = refl

row_33 : yaml (codes "a: [-, b]\n") ≡ Ok (hash (pair (codes "a") (list (item (text (codes "-")) (item (text (codes "b")) no_items))) no_pairs))
unfolding lines lines_value block collection items pairs down encode_utf8
row_33 = refl

row_34 : yaml (codes "a: [--]\n") ≡ Ok (hash (pair (codes "a") (list (item (text (codes "--")) no_items)) no_pairs))
unfolding lines lines_value block collection items pairs down encode_utf8
row_34 = refl

row_35 : yaml (codes "[a]: b\n") ≡ Err (1, kind.Flow)
unfolding lines lines_value block collection items pairs down encode_utf8
row_35 = refl

row_36 : yaml (codes "{a: b}: c\n") ≡ Err (1, kind.Flow)
unfolding lines lines_value block collection items pairs down encode_utf8
row_36 = refl

row_37 : yaml (codes "a: [1, # c\n 2]\n") ≡ Ok (hash (pair (codes "a") (list (item (int (pos 1)) (item (int (pos 2)) no_items))) no_pairs))
unfolding lines lines_value block collection items pairs down encode_utf8
row_37 = refl

row_38 : yaml (codes "a: [1,\n\t2]\n") ≡ Err (1, kind.Flow)
unfolding lines lines_value block collection items pairs down encode_utf8
row_38 = refl

row_39 : yaml (codes "[a]\nb\n") ≡ Err (2, kind.Indent)
unfolding lines lines_value block collection items pairs down encode_utf8
row_39 = refl

row_40 : yaml (codes "[a\n]\n") ≡ Ok (list (item (text (codes "a")) no_items))
unfolding lines lines_value block collection items pairs down encode_utf8
row_40 = refl

row_41 : yaml (codes "[a\n") ≡ Err (1, kind.Flow)
unfolding lines lines_value block collection items pairs down encode_utf8
row_41 = refl

row_42 : yaml (codes "{a: b\n") ≡ Err (1, kind.Flow)
unfolding lines lines_value block collection items pairs down encode_utf8
row_42 = refl

row_43 : yaml (codes "a: {b: c\nd: e\n") ≡ Err (1, kind.Flow)
unfolding lines lines_value block collection items pairs down encode_utf8
row_43 = refl

row_44 : yaml (codes "a: [b\nc: d]\n") ≡ Err (1, kind.Flow)
unfolding lines lines_value block collection items pairs down encode_utf8
row_44 = refl

row_45 : yaml (codes "a: [1,\n \t2]\n") ≡ Err (2, kind.Tab)
unfolding lines lines_value block collection items pairs down encode_utf8
row_45 = refl

row_46 : yaml (codes "a: [99999999999999999999\n") ≡ Err (1, kind.Flow)
unfolding lines lines_value block collection items pairs down encode_utf8
row_46 = refl

row_47 : yaml (codes "a: [1, 99999999999999999999]\n") ≡ Err (1, kind.Number)
unfolding lines lines_value block collection items pairs down encode_utf8
row_47 = refl

row_48 : yaml (codes "a: [1,\n  99999999999999999999]\n") ≡ Err (2, kind.Number)
unfolding lines lines_value block collection items pairs down encode_utf8
row_48 = refl

row_49 : yaml (codes "a: 1\n[b\n") ≡ Err (2, kind.Flow)
unfolding lines lines_value block collection items pairs down encode_utf8
row_49 = refl

row_50 : yaml (codes "a: [@x]\n") ≡ Err (1, kind.Outside)
unfolding lines lines_value block collection items pairs down encode_utf8
row_50 = refl

row_51 : yaml (codes "a: [a}\n") ≡ Err (1, kind.Flow)
unfolding lines lines_value block collection items pairs down encode_utf8
row_51 = refl

row_52 : yaml (codes "a: [a #b\n c]\n") ≡ Err (2, kind.Flow)
unfolding lines lines_value block collection items pairs down encode_utf8
row_52 = refl

row_53 : yaml (codes "a: \n  [1,\n  2\nb: c\n") ≡ Err (2, kind.Flow)
unfolding lines lines_value block collection items pairs down encode_utf8
row_53 = refl

row_54 : yaml (codes "a: {b: c, <<: d}\n") ≡ Err (1, kind.Outside)
unfolding lines lines_value block collection items pairs down encode_utf8
row_54 = refl

row_55 : yaml (codes "a: [1, [2, {b: [3]}], 'x, y', \"z]\"]\n") ≡ Ok (hash (pair (codes "a") (list (item (int (pos 1)) (item (list (item (int (pos 2)) (item (hash (pair (codes "b") (list (item (int (pos 3)) no_items)) no_pairs)) no_items))) (item (text (codes "x, y")) (item (text (codes "z]")) no_items))))) no_pairs))
unfolding lines lines_value block collection items pairs down encode_utf8
row_55 = refl

row_56 : yaml (codes "a: {b: 1, b: 2, c: 3}\n") ≡ Ok (hash (pair (codes "a") (hash (pair (codes "b") (int (pos 2)) (pair (codes "c") (int (pos 3)) no_pairs))) no_pairs))
unfolding lines lines_value block collection items pairs down encode_utf8
row_56 = refl

row_57 : yaml (codes "a: [it's, 'b]c']\n") ≡ Ok (hash (pair (codes "a") (list (item (text (codes "it's")) (item (text (codes "b]c")) no_items))) no_pairs))
unfolding lines lines_value block collection items pairs down encode_utf8
row_57 = refl

row_58 : yaml (codes "a:\n  - b: 1\n    c:\n      - d\n      - e\n  - f\ng: [h]\n") ≡ Ok (hash (pair (codes "a") (list (item (hash (pair (codes "b") (int (pos 1)) (pair (codes "c") (list (item (text (codes "d")) (item (text (codes "e")) no_items))) no_pairs))) (item (text (codes "f")) no_items))) (pair (codes "g") (list (item (text (codes "h")) no_items)) no_pairs)))
unfolding lines lines_value block collection items pairs down encode_utf8
row_58 = refl

row_59 : yaml (codes "a:\n  [1,\n  # x\n # y\n   2]\n") ≡ Ok (hash (pair (codes "a") (list (item (int (pos 1)) (item (int (pos 2)) no_items))) no_pairs))
unfolding lines lines_value block collection items pairs down encode_utf8
row_59 = refl
