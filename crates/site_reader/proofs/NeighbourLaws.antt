-- Items that are put one behind another.
use Rattle.std.proofs.Common.{◌≡◌, ◌<◌, ℕ, List, [], ◌∷◌, ◌++◌, length, Option, Some, true, false, refl, sym, ap, ◌∙◌, arith}
use Rattle.std.proofs.lemmas.Bool.{false≢true}
use Rattle.site_items.specs.declared.item.Item.{Item}
use Rattle.site_reader.specs.Neighbours.{first_rank, site_item_of, site_items}
use Rattle.site_reader.specs.Ranks.{Ranked}
use Rattle.site_reader.specs.declared.rank.Rank.{Rank}
use Rattle.site_reader.specs.declared.site_item.SiteItem.{SiteItem}
use Rattle.site_reader.proofs.EachLaws.{behind_one, nothing_behind}

-- a map that gives no first entry has none
pub all_gone : {A : Type 0} (xs : List A) → (0 < length xs → false ≡ true) → xs ≡ []
all_gone [] given = refl
all_gone (x ∷ xs) given = let some : 0 < length (x ∷ xs) = omega arith in absurd (false≢true (given some))

module _ (documents : ℕ) (done : List SiteItem) (before : Option Rank) (all : Ranked) where
  pub one_more : (more : List SiteItem) (rank : Rank) (item : Item) (rest : Ranked) → all ≡ (rank, item) ∷ rest
      → more ≡ done ++ site_item_of documents rank before (first_rank rest) item ∷ []
      → more ++ site_items documents (Some rank) rest ≡ done ++ site_items documents before all
  unfolding site_items
  one_more more rank item rest is pushed =
      ap (λ xs. xs ++ site_items documents (Some rank) rest) pushed
      ∙ behind_one done (site_items documents (Some rank) rest) (site_item_of documents rank before (first_rank rest) item)
      ∙ ap (λ l. done ++ site_items documents before l) (sym is)

  pub none_more : all ≡ [] → done ++ site_items documents before all ≡ done
  unfolding site_items
  none_more is = ap (λ l. done ++ site_items documents before l) is ∙ nothing_behind done
