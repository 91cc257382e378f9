-- Worked rows: names in their order, and what maps of entries answer.
use Rattle.std.proofs.Common.{◌≡◌, codes, true, false, [], ◌∷◌, Some, None, Less, Greater, refl, ◌∙◌}
use Rattle.std.specs.FinMap.{get, empty}
use Rattle.site_base.specs.declared.item_name.ItemName.{ItemName}
use Rattle.read_record.specs.declared.outcome.Outcome.{Outcome}
use Rattle.read_record.specs.Entries.{Kept}
use Rattle.memo_table.specs.Names.{name_cmp, same_name, is_among}
use Rattle.memo_table.specs.Entries.{Entries, with_entry, of_names}
use Rattle.memo_table.proofs.EntryLaws.{get-with, get-of_names}

abbrev page : ItemName
page = record { path = codes "a.md"; part = 0 }

abbrev second_page : ItemName
second_page = record { path = codes "a.md"; part = 1 }

abbrev post : ItemName
post = record { path = codes "b.md"; part = 0 }

parts_rise : name_cmp page second_page ≡ Less
parts_rise = refl

paths_come_first : name_cmp post second_page ≡ Greater
paths_come_first = refl

itself : same_name second_page second_page ≡ true
itself = refl

another_part : same_name page second_page ≡ false
another_part = refl

there : is_among (page ∷ post ∷ []) post ≡ true
there = refl

not_there : is_among (page ∷ post ∷ []) second_page ≡ false
not_there = refl

abbrev kept : ItemName → Outcome → Kept
kept name outcome = record { name = name; reads = []; outcome = outcome }

module _ (first second : Outcome) where
  abbrev both : Entries
  both = with_entry (kept post second) (with_entry (kept page first) empty)

  found_below : get both page ≡ Some (kept page first)
  found_below = get-with (with_entry (kept page first) empty) post (kept post second) page ∙ get-with empty page (kept page first) page

  replaced : get (with_entry (kept post first) both) post ≡ Some (kept post first)
  replaced = get-with both post (kept post first) post

  stays : get (of_names (second_page ∷ page ∷ []) both) page ≡ Some (kept page first)
  stays = get-of_names (second_page ∷ page ∷ []) both page ∙ found_below

  goes : get (of_names (second_page ∷ page ∷ []) both) post ≡ None
  goes = get-of_names (second_page ∷ page ∷ []) both post
