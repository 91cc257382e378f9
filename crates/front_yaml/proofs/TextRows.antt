-- Worked rows: texts: line ends, a byte-order mark, and the marker lines.
use Rattle.std.specs.Prelude.{◌≡◌, [], ◌∷◌, Ok, Err, pos, codes, refl}
use Rattle.std.specs.Char.{encode_utf8}
use Rattle.site_base.specs.declared.faults.YamlKind.TheVariants as kind
use Rattle.site_base.specs.Plain.{nil, int, hash, no_pairs, pair}
use Rattle.site_base.specs.Lines.{lines}
use Rattle.site_base.specs.Recursion.{down}
use Rattle.front_yaml.specs.Flow.{items, pairs, collection}
use Rattle.front_yaml.specs.Blocks.{block}
use Rattle.front_yaml.specs.Yaml.{lines_value, yaml}

row_1 : yaml (codes "---\na: b\n---\n") ≡ Err (3, kind.Outside)
unfolding lines lines_value block collection items pairs down encode_utf8
row_1 = refl

row_2 : yaml (codes "a: b\n...\n") ≡ Err (2, kind.Outside)
unfolding lines lines_value block collection items pairs down encode_utf8
row_2 = refl

row_3 : yaml (codes "a:\n---\n") ≡ Err (2, kind.Outside)
unfolding lines lines_value block collection items pairs down encode_utf8
row_3 = refl

row_4 : yaml (codes "a: 'x\n---\ny'\n") ≡ Err (1, kind.Quote)
unfolding lines lines_value block collection items pairs down encode_utf8
row_4 = refl

row_5 : yaml (codes "a: 'x\n...\ny'\n") ≡ Err (1, kind.Quote)
unfolding lines lines_value block collection items pairs down encode_utf8
row_5 = refl

row_6 : yaml (codes "---\n") ≡ Ok nil
unfolding lines lines_value block collection items pairs down encode_utf8
row_6 = refl

row_7 : yaml (codes "x\n---\ny\n") ≡ Err (2, kind.Outside)
unfolding lines lines_value block collection items pairs down encode_utf8
row_7 = refl

row_8 : yaml (codes "--- x\n") ≡ Err (1, kind.Outside)
unfolding lines lines_value block collection items pairs down encode_utf8
row_8 = refl

row_9 : yaml (codes "a: |\n  x\n---\n") ≡ Err (3, kind.Outside)
unfolding lines lines_value block collection items pairs down encode_utf8
row_9 = refl

row_10 : yaml (codes "a: 1\r\nb: 2\rc: 3\n") ≡ Ok (hash (pair (codes "a") (int (pos 1)) (pair (codes "b") (int (pos 2)) (pair (codes "c") (int (pos 3)) no_pairs))))
unfolding lines lines_value block collection items pairs down encode_utf8
row_10 = refl

row_11 : yaml (239 ∷ 187 ∷ 191 ∷ 97 ∷ 58 ∷ 32 ∷ 49 ∷ 10 ∷ []) ≡ Ok (hash (pair (codes "a") (int (pos 1)) no_pairs))
unfolding lines lines_value block collection items pairs down encode_utf8
row_11 = refl
