use Rattle.std.proofs.Common.{◌≡◌, ◌↔◌, ◌∙◌, IsTrue, sym, false, not}
use Rattle.std.specs.Str.{bytes_eq}
use Rattle.read_record.specs.Keys.{Parts, parts_of}
use Rattle.read_record.proofs.KeyLaws.{same_parts-lists}
use Rattle.read_record.proofs.key.KeyPartialEq.eq.Goals as goal

pub returns : goal.returns
returns c =
    let a : Parts = parts_of c.args.self.now in
    let b : Parts = parts_of c.args.other.now in
    let path : false ≡ not (bytes_eq a.path b.path) = rw (← c.path.ensures, ← c.path-2.ensures) c.if-ne.ensures in
    let words : false ≡ not (bytes_eq a.words b.words) = rw (← c.words.ensures, ← c.words-2.ensures) c.if-ne-2.ensures in
    let lists : IsTrue c.are_same.result ↔ (a.keys ≡ b.keys) = rw (← c.keys.ensures, ← c.keys-2.ensures) c.are_same.ensures in
    same_parts-lists a b c.are_same.result (sym c.kind.ensures ∙ c.if-kind.false ∙ c.kind-2.ensures) path (sym c.part.ensures ∙ c.if-part.false ∙ c.part-2.ensures) words lists
