-- Worked rows: values on one line.
use Rattle.std.specs.Prelude.{◌≡◌, true, [], Ok, Err, pos, negsuc, codes, refl}
use Rattle.std.specs.Char.{encode_utf8}
use Rattle.site_base.specs.declared.faults.YamlKind.TheVariants as kind
use Rattle.site_base.specs.Plain.{nil, bool, int, text, list, hash, no_items, item, no_pairs, pair}
use Rattle.site_base.specs.Lines.{lines}
use Rattle.site_base.specs.Recursion.{down}
use Rattle.front_yaml.specs.Flow.{items, pairs, collection}
use Rattle.front_yaml.specs.Blocks.{block}
use Rattle.front_yaml.specs.Yaml.{lines_value, yaml}

row_1 : yaml (codes "a: b # c\n") ≡ Ok (hash (pair (codes "a") (text (codes "b")) no_pairs))
unfolding lines lines_value block collection items pairs down encode_utf8
row_1 = refl

row_2 : yaml (codes "a: b#c\n") ≡ Ok (hash (pair (codes "a") (text (codes "b#c")) no_pairs))
unfolding lines lines_value block collection items pairs down encode_utf8
row_2 = refl

row_3 : yaml (codes "a: b: c\n") ≡ Err (1, kind.NoKey)
unfolding lines lines_value block collection items pairs down encode_utf8
row_3 = refl

row_4 : yaml (codes "a: b:\n") ≡ Err (1, kind.NoKey)
unfolding lines lines_value block collection items pairs down encode_utf8
row_4 = refl

row_5 : yaml (codes "a:b: c\n") ≡ Ok (hash (pair (codes "a:b") (text (codes "c")) no_pairs))
unfolding lines lines_value block collection items pairs down encode_utf8
row_5 = refl

row_6 : yaml (codes "a : b\n") ≡ Ok (hash (pair (codes "a") (text (codes "b")) no_pairs))
unfolding lines lines_value block collection items pairs down encode_utf8
row_6 = refl

row_7 : yaml (codes "? a\n") ≡ Err (1, kind.Outside)
unfolding lines lines_value block collection items pairs down encode_utf8
row_7 = refl

row_8 : yaml (codes "a: ? b\n") ≡ Err (1, kind.Outside)
unfolding lines lines_value block collection items pairs down encode_utf8
row_8 = refl

row_9 : yaml (codes "a: &x b\n") ≡ Err (1, kind.Outside)
unfolding lines lines_value block collection items pairs down encode_utf8
row_9 = refl

row_10 : yaml (codes "a: *x\n") ≡ Err (1, kind.Outside)
unfolding lines lines_value block collection items pairs down encode_utf8
row_10 = refl

row_11 : yaml (codes "a: !x\n") ≡ Err (1, kind.Outside)
unfolding lines lines_value block collection items pairs down encode_utf8
row_11 = refl

row_12 : yaml (codes "a: %x\n") ≡ Err (1, kind.Outside)
unfolding lines lines_value block collection items pairs down encode_utf8
row_12 = refl

row_13 : yaml (codes "a: @x\n") ≡ Err (1, kind.Outside)
unfolding lines lines_value block collection items pairs down encode_utf8
row_13 = refl

row_14 : yaml (codes "a: `x\n") ≡ Err (1, kind.Outside)
unfolding lines lines_value block collection items pairs down encode_utf8
row_14 = refl

row_15 : yaml (codes "%x\n") ≡ Err (1, kind.Outside)
unfolding lines lines_value block collection items pairs down encode_utf8
row_15 = refl

row_16 : yaml (codes "a: <<\n") ≡ Ok (hash (pair (codes "a") (text (codes "<<")) no_pairs))
unfolding lines lines_value block collection items pairs down encode_utf8
row_16 = refl

row_17 : yaml (codes "<<: b\n") ≡ Err (1, kind.Outside)
unfolding lines lines_value block collection items pairs down encode_utf8
row_17 = refl

row_18 : yaml (codes "a: -1\n") ≡ Ok (hash (pair (codes "a") (int (negsuc 0)) no_pairs))
unfolding lines lines_value block collection items pairs down encode_utf8
row_18 = refl

row_19 : yaml (codes "a: +1\n") ≡ Ok (hash (pair (codes "a") (int (pos 1)) no_pairs))
unfolding lines lines_value block collection items pairs down encode_utf8
row_19 = refl

row_20 : yaml (codes "a: - b\n") ≡ Err (1, kind.Outside)
unfolding lines lines_value block collection items pairs down encode_utf8
row_20 = refl

row_21 : yaml (codes "a: -\n") ≡ Err (1, kind.Outside)
unfolding lines lines_value block collection items pairs down encode_utf8
row_21 = refl

row_22 : yaml (codes "a: ?x\n") ≡ Ok (hash (pair (codes "a") (text (codes "?x")) no_pairs))
unfolding lines lines_value block collection items pairs down encode_utf8
row_22 = refl

row_23 : yaml (codes "a: :x\n") ≡ Ok (hash (pair (codes "a") (text (codes ":x")) no_pairs))
unfolding lines lines_value block collection items pairs down encode_utf8
row_23 = refl

row_24 : yaml (codes "a: -x\n") ≡ Ok (hash (pair (codes "a") (text (codes "-x")) no_pairs))
unfolding lines lines_value block collection items pairs down encode_utf8
row_24 = refl

row_25 : yaml (codes "a: --- b\n") ≡ Ok (hash (pair (codes "a") (text (codes "--- b")) no_pairs))
unfolding lines lines_value block collection items pairs down encode_utf8
row_25 = refl

row_26 : yaml (codes "a: ,x\n") ≡ Err (1, kind.Outside)
unfolding lines lines_value block collection items pairs down encode_utf8
row_26 = refl

row_27 : yaml (codes "a: #x\n") ≡ Ok (hash (pair (codes "a") nil no_pairs))
unfolding lines lines_value block collection items pairs down encode_utf8
row_27 = refl

row_28 : yaml (codes "a: ~\n") ≡ Ok (hash (pair (codes "a") nil no_pairs))
unfolding lines lines_value block collection items pairs down encode_utf8
row_28 = refl

row_29 : yaml (codes "~: b\n") ≡ Ok (hash (pair (codes "~") (text (codes "b")) no_pairs))
unfolding lines lines_value block collection items pairs down encode_utf8
row_29 = refl

row_30 : yaml (codes "null: b\n") ≡ Ok (hash (pair (codes "null") (text (codes "b")) no_pairs))
unfolding lines lines_value block collection items pairs down encode_utf8
row_30 = refl

row_31 : yaml (codes ": b\n") ≡ Err (1, kind.Outside)
unfolding lines lines_value block collection items pairs down encode_utf8
row_31 = refl

row_32 : yaml (codes "\ta: 1\n") ≡ Err (1, kind.Tab)
unfolding lines lines_value block collection items pairs down encode_utf8
row_32 = refl

row_33 : yaml (codes "a:\tb\n") ≡ Ok (text (codes "a:\tb"))
unfolding lines lines_value block collection items pairs down encode_utf8
row_33 = refl

row_34 : yaml (codes "-\ta\n") ≡ Err (1, kind.Outside)
unfolding lines lines_value block collection items pairs down encode_utf8
row_34 = refl

row_35 : yaml (codes "a: x\t# c\n") ≡ Ok (hash (pair (codes "a") (text (codes "x")) no_pairs))
unfolding lines lines_value block collection items pairs down encode_utf8
row_35 = refl

row_36 : yaml (codes "a: b \t\n") ≡ Ok (hash (pair (codes "a") (text (codes "b")) no_pairs))
unfolding lines lines_value block collection items pairs down encode_utf8
row_36 = refl

row_37 : yaml (codes "- \ta: b\n") ≡ Ok (list (item (hash (pair (codes "a") (text (codes "b")) no_pairs)) no_items))
unfolding lines lines_value block collection items pairs down encode_utf8
row_37 = refl

row_38 : yaml (codes "- - - a\n") ≡ Ok (list (item (list (item (list (item (text (codes "a")) no_items)) no_items)) no_items))
unfolding lines lines_value block collection items pairs down encode_utf8
row_38 = refl

row_39 : yaml (codes "a b: c\n") ≡ Ok (hash (pair (codes "a b") (text (codes "c")) no_pairs))
unfolding lines lines_value block collection items pairs down encode_utf8
row_39 = refl

row_40 : yaml (codes "a  : c\n") ≡ Ok (hash (pair (codes "a") (text (codes "c")) no_pairs))
unfolding lines lines_value block collection items pairs down encode_utf8
row_40 = refl

row_41 : yaml ([]) ≡ Ok nil
unfolding lines lines_value block collection items pairs down encode_utf8
row_41 = refl

row_42 : yaml (codes "\n") ≡ Ok nil
unfolding lines lines_value block collection items pairs down encode_utf8
row_42 = refl

row_43 : yaml (codes "# c\n") ≡ Ok nil
unfolding lines lines_value block collection items pairs down encode_utf8
row_43 = refl

row_44 : yaml (codes "  - a\n") ≡ Ok (list (item (text (codes "a")) no_items))
unfolding lines lines_value block collection items pairs down encode_utf8
row_44 = refl

row_45 : yaml (codes "99999999999999999999: 1\n") ≡ Ok (hash (pair (codes "99999999999999999999") (int (pos 1)) no_pairs))
unfolding lines lines_value block collection items pairs down encode_utf8
row_45 = refl

row_46 : yaml (codes "a: 1_000\n") ≡ Ok (hash (pair (codes "a") (text (codes "1_000")) no_pairs))
unfolding lines lines_value block collection items pairs down encode_utf8
row_46 = refl

row_47 : yaml (codes "a: 012\n") ≡ Ok (hash (pair (codes "a") (text (codes "012")) no_pairs))
unfolding lines lines_value block collection items pairs down encode_utf8
row_47 = refl

row_48 : yaml (codes "a: -0\n") ≡ Ok (hash (pair (codes "a") (int (pos 0)) no_pairs))
unfolding lines lines_value block collection items pairs down encode_utf8
row_48 = refl

row_49 : yaml (codes "a: +0\n") ≡ Ok (hash (pair (codes "a") (int (pos 0)) no_pairs))
unfolding lines lines_value block collection items pairs down encode_utf8
row_49 = refl

row_50 : yaml (codes "a: 1:30\n") ≡ Ok (hash (pair (codes "a") (text (codes "1:30")) no_pairs))
unfolding lines lines_value block collection items pairs down encode_utf8
row_50 = refl

row_51 : yaml (codes "a: y\n") ≡ Ok (hash (pair (codes "a") (text (codes "y")) no_pairs))
unfolding lines lines_value block collection items pairs down encode_utf8
row_51 = refl

row_52 : yaml (codes "a: Yes\n") ≡ Ok (hash (pair (codes "a") (bool true) no_pairs))
unfolding lines lines_value block collection items pairs down encode_utf8
row_52 = refl

row_53 : yaml (codes "a: yES\n") ≡ Ok (hash (pair (codes "a") (text (codes "yES")) no_pairs))
unfolding lines lines_value block collection items pairs down encode_utf8
row_53 = refl

row_54 : yaml (codes "a: 99999999999999999999\n") ≡ Err (1, kind.Number)
unfolding lines lines_value block collection items pairs down encode_utf8
row_54 = refl

row_55 : yaml (codes "a: 9223372036854775808\n") ≡ Err (1, kind.Number)
unfolding lines lines_value block collection items pairs down encode_utf8
row_55 = refl

row_56 : yaml (codes "- a: b: c\n") ≡ Err (1, kind.NoKey)
unfolding lines lines_value block collection items pairs down encode_utf8
row_56 = refl

row_57 : yaml (codes "a: 1") ≡ Ok (hash (pair (codes "a") (int (pos 1)) no_pairs))
unfolding lines lines_value block collection items pairs down encode_utf8
row_57 = refl

row_58 : yaml (codes "a: -9223372036854775808\n") ≡ Ok (hash (pair (codes "a") (int (negsuc 9223372036854775807)) no_pairs))
unfolding lines lines_value block collection items pairs down encode_utf8
row_58 = refl
