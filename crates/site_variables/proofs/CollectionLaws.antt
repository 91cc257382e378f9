-- The loops over the collections.
use Rattle.std.proofs.Common.{◌≡◌, ℕ, ◌+◌, ◌<◌, List, ◌∷◌, length, drop, get_or, sym, ap, ◌∙◌}
use Rattle.std.proofs.lemmas.List.{at_drop_more}
use Rattle.data_files.proofs.ItemLaws.{onto_item}
use Rattle.site_base.specs.Plain.{Plain, list, Items, no_items, item, Pairs, onto, set}
use Rattle.site_config.specs.declared.collection.Collection.{Collection}
use Rattle.site_items.specs.Defaults.{set_all}
use Rattle.site_reader.specs.declared.site_item.SiteItem.{SiteItem}
use Rattle.site_variables.specs.Hashes.{collection_with, collections_from, documents_from}
use Rattle.site_variables.specs.Lists.{documents_of, each, named}

module _ (items : List SiteItem) (cs : List Collection) (i : ℕ) (c : Collection) where
  pub collections_more : (is docs : Items) (v : Plain) → i < length cs → c ≡ get_or cs i c → docs ≡ each named (documents_of i items) → v ≡ collection_with (list docs) c
      → onto (onto is (item v no_items)) (collections_from items (i + 1) (drop (i + 1) cs)) ≡ onto is (collections_from items i (drop i cs))
  collections_more is docs v lt e d w =
      onto_item is (collections_from items (i + 1) (drop (i + 1) cs)) v
      ∙ ap (λ (u : Plain). onto is (item u (collections_from items (i + 1) (drop (i + 1) cs)))) (w ∙ ap (λ (ds : Items). collection_with (list ds) c) d)
      ∙ ap (onto is) (ap (λ (x : Collection). collections_from items i (x ∷ drop (i + 1) cs)) e ∙ sym (at_drop_more (collections_from items i) cs i c lt))

  pub documents_more : (made more : Pairs) (docs : Items) → i < length cs → c ≡ get_or cs i c → docs ≡ each named (documents_of i items) → more ≡ set c.name (list docs) made
      → set_all (documents_from items (i + 1) (drop (i + 1) cs)) more ≡ set_all (documents_from items i (drop i cs)) made
  documents_more made more docs lt e d w =
      ap (set_all (documents_from items (i + 1) (drop (i + 1) cs))) (w ∙ ap (λ (ds : Items). set c.name (list ds) made) d)
      ∙ ap (λ (x : Collection). set_all (documents_from items i (x ∷ drop (i + 1) cs)) made) e
      ∙ sym (at_drop_more (λ xs. set_all (documents_from items i xs) made) cs i c lt)
