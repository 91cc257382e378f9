-- The test of keys, part by part.
use Rattle.std.proofs.Common.{◌≡◌, ◌↔◌, Bool, true, false, not, refl, sym, ◌∙◌, IsTrue}
use Rattle.std.specs.Str.{bytes_eq}
use Rattle.std.proofs.lemmas.Bool.Decides.{Decides-eqb, same_from_decides}
use Rattle.read_record.specs.Keys.{Parts, same_items, same_parts}
use Rattle.read_record.specs.SameKeys.{same_items-Decides}

not-false : (b : Bool) → false ≡ not b → b ≡ true
not-false true h = refl
not-false false h = cc

module _ (a b : Parts) where
  -- where all but the lists are the same, the lists tell
  pub same_parts-lists : (r : Bool) → a.kind ≡ b.kind → false ≡ not (bytes_eq a.path b.path) → a.part ≡ b.part → false ≡ not (bytes_eq a.words b.words)
      → (IsTrue r ↔ (a.keys ≡ b.keys)) → r ≡ same_parts a b
  same_parts-lists r kind path part words lists =
      same_from_decides r (same_items a.keys b.keys) lists (same_items-Decides a.keys b.keys)
      ∙ sym (rw ((Decides-eqb a.kind b.kind).1 kind, not-false (bytes_eq a.path b.path) path, (Decides-eqb a.part b.part).1 part, not-false (bytes_eq a.words b.words) words) refl)
