-- Worked rows: quoted scalars.
use Rattle.std.specs.Prelude.{◌≡◌, [], ◌∷◌, Ok, Err, pos, codes, refl}
use Rattle.std.specs.Char.{encode_utf8}
use Rattle.site_base.specs.declared.faults.YamlKind.TheVariants as kind
use Rattle.site_base.specs.Plain.{int, text, hash, no_pairs, pair}
use Rattle.site_base.specs.Lines.{lines}
use Rattle.site_base.specs.Recursion.{down}
use Rattle.front_yaml.specs.Flow.{items, pairs, collection}
use Rattle.front_yaml.specs.Blocks.{block}
use Rattle.front_yaml.specs.Yaml.{lines_value, yaml}

row_1 : yaml (codes "a: 'x\n") ≡ Err (1, kind.Quote)
unfolding lines lines_value block collection items pairs down encode_utf8
row_1 = refl

row_2 : yaml (codes "'a': 1\n") ≡ Ok (hash (pair (codes "a") (int (pos 1)) no_pairs))
unfolding lines lines_value block collection items pairs down encode_utf8
row_2 = refl

row_3 : yaml (codes "a: 'b' c\n") ≡ Err (1, kind.Quote)
unfolding lines lines_value block collection items pairs down encode_utf8
row_3 = refl

row_4 : yaml (codes "a: 'b'  # c\n") ≡ Ok (hash (pair (codes "a") (text (codes "b")) no_pairs))
unfolding lines lines_value block collection items pairs down encode_utf8
row_4 = refl

row_5 : yaml (codes "a: 'b'#c\n") ≡ Err (1, kind.Quote)
unfolding lines lines_value block collection items pairs down encode_utf8
row_5 = refl

row_6 : yaml (codes "a: \"b\n  c\"\n") ≡ Ok (hash (pair (codes "a") (text (codes "b c")) no_pairs))
unfolding lines lines_value block collection items pairs down encode_utf8
row_6 = refl

row_7 : yaml (codes "a: \"b\nc\"\n") ≡ Err (1, kind.Quote)
unfolding lines lines_value block collection items pairs down encode_utf8
row_7 = refl

row_8 : yaml (codes "a: \"\\q\"\n") ≡ Err (1, kind.Quote)
unfolding lines lines_value block collection items pairs down encode_utf8
row_8 = refl

row_9 : yaml (codes "a: \"\\x4\"\n") ≡ Err (1, kind.Quote)
unfolding lines lines_value block collection items pairs down encode_utf8
row_9 = refl

row_10 : yaml (codes "a: \"\\ud800\"\n") ≡ Err (1, kind.Quote)
unfolding lines lines_value block collection items pairs down encode_utf8
row_10 = refl

row_11 : yaml (codes "a: \"a\\\n  b\"\n") ≡ Ok (hash (pair (codes "a") (text (codes "ab")) no_pairs))
unfolding lines lines_value block collection items pairs down encode_utf8
row_11 = refl

row_12 : yaml (codes "a: \"a  \\\n  b\"\n") ≡ Ok (hash (pair (codes "a") (text (codes "a  b")) no_pairs))
unfolding lines lines_value block collection items pairs down encode_utf8
row_12 = refl

row_13 : yaml (codes "a: \"\\x41\\u00e9\\U0001F600\"\n") ≡ Ok (hash (pair (codes "a") (text (65 ∷ 195 ∷ 169 ∷ 240 ∷ 159 ∷ 152 ∷ 128 ∷ [])) no_pairs))
unfolding lines lines_value block collection items pairs down encode_utf8
row_13 = refl

row_14 : yaml (codes "a: \"a \n\n  b\"\n") ≡ Ok (hash (pair (codes "a") (text (codes "a\nb")) no_pairs))
unfolding lines lines_value block collection items pairs down encode_utf8
row_14 = refl

row_15 : yaml (codes "a: 'a\n\n\n  b'\n") ≡ Ok (hash (pair (codes "a") (text (codes "a\n\nb")) no_pairs))
unfolding lines lines_value block collection items pairs down encode_utf8
row_15 = refl

row_16 : yaml (codes "a: ' x\n  '\n") ≡ Ok (hash (pair (codes "a") (text (codes " x ")) no_pairs))
unfolding lines lines_value block collection items pairs down encode_utf8
row_16 = refl

row_17 : yaml (codes "a: 'x\n# y\n  z'\n") ≡ Err (1, kind.Quote)
unfolding lines lines_value block collection items pairs down encode_utf8
row_17 = refl

row_18 : yaml (codes "a: 'x\n\ty'\n") ≡ Err (1, kind.Quote)
unfolding lines lines_value block collection items pairs down encode_utf8
row_18 = refl

row_19 : yaml (codes "'a': 1\na: 2\nb: 3\na: 4\n") ≡ Ok (hash (pair (codes "a") (int (pos 4)) (pair (codes "b") (int (pos 3)) no_pairs)))
unfolding lines lines_value block collection items pairs down encode_utf8
row_19 = refl

row_20 : yaml (codes "\"a\nb\": c\n") ≡ Err (2, kind.Quote)
unfolding lines lines_value block collection items pairs down encode_utf8
row_20 = refl

row_21 : yaml (codes "'a\n b': c\n") ≡ Err (2, kind.Quote)
unfolding lines lines_value block collection items pairs down encode_utf8
row_21 = refl

row_22 : yaml (codes "\"a\" : c\n") ≡ Ok (hash (pair (codes "a") (text (codes "c")) no_pairs))
unfolding lines lines_value block collection items pairs down encode_utf8
row_22 = refl

row_23 : yaml (codes "\"a\":c\n") ≡ Err (1, kind.Quote)
unfolding lines lines_value block collection items pairs down encode_utf8
row_23 = refl

row_24 : yaml (codes "a: \"b\" # c\n  d\n") ≡ Err (2, kind.Indent)
unfolding lines lines_value block collection items pairs down encode_utf8
row_24 = refl

row_25 : yaml (codes "'x'\ny\n") ≡ Err (2, kind.Indent)
unfolding lines lines_value block collection items pairs down encode_utf8
row_25 = refl

row_26 : yaml (codes "'x'\n# c\n") ≡ Ok (text (codes "x"))
unfolding lines lines_value block collection items pairs down encode_utf8
row_26 = refl

row_27 : yaml (codes "a: 'x\n \ty'\n") ≡ Err (2, kind.Tab)
unfolding lines lines_value block collection items pairs down encode_utf8
row_27 = refl

row_28 : yaml (codes "a: 1\n'b\n") ≡ Err (2, kind.Quote)
unfolding lines lines_value block collection items pairs down encode_utf8
row_28 = refl

row_29 : yaml (codes "a: 1\n'b\n c'\n") ≡ Err (2, kind.NoKey)
unfolding lines lines_value block collection items pairs down encode_utf8
row_29 = refl

row_30 : yaml (codes "a: 1\n\"\\q\": c\n") ≡ Err (2, kind.Quote)
unfolding lines lines_value block collection items pairs down encode_utf8
row_30 = refl

row_31 : yaml (codes "a: \"x\n  \\q\"\n") ≡ Err (2, kind.Quote)
unfolding lines lines_value block collection items pairs down encode_utf8
row_31 = refl

row_32 : yaml (codes "a: \"\\q\n") ≡ Err (1, kind.Quote)
unfolding lines lines_value block collection items pairs down encode_utf8
row_32 = refl

row_33 : yaml (codes "a: \"x\n \\q\n \ty\"\n") ≡ Err (2, kind.Quote)
unfolding lines lines_value block collection items pairs down encode_utf8
row_33 = refl

row_34 : yaml (codes "a: \"x\n \ty\n \\q\"\n") ≡ Err (2, kind.Tab)
unfolding lines lines_value block collection items pairs down encode_utf8
row_34 = refl

row_35 : yaml (codes "a: 'x'\n   b: c\n") ≡ Err (2, kind.Indent)
unfolding lines lines_value block collection items pairs down encode_utf8
row_35 = refl
