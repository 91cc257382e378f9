-- The pages of names that are kept.
use Rattle.std.proofs.Common.{◌≡◌, ◌∙◌, refl, ap, sym, subst, ℕ, List, Bool, true, false, cond, Option, Some}
use Rattle.std.specs.Prelude.{IfSome, Ok}
use Rattle.std.specs.BTreeMap.{BTreeMap, Updates, get, is_at}
use Rattle.site_base.specs.Places.{path_cmp}
use Rattle.tag_archives.specs.Gathering.{AreKnown, page_of}
use Rattle.tag_archives.specs.declared.archive.ArchiveWord.{ArchiveWord}
use Rattle.tag_archives.specs.declared.page.Page.{Page}
use Rattle.tag_archives.proofs.EntryLaws.{tied_paths}

-- a page more
pub still_known : (word : ArchiveWord) (old new : BTreeMap (List ℕ) (Option Page)) (name : List ℕ) (page : Option Page)
    → AreKnown word old → page_of word name ≡ Ok page → Updates path_cmp old new name (Some page) → AreKnown word new
still_known word old new name page known made updates q = by (is_at (path_cmp name) q) refl (updates.0 q)
  where
    by : (b : Bool) → is_at (path_cmp name) q ≡ b → get path_cmp new q ≡ cond b (Some page) (get path_cmp old q) → IfSome (get path_cmp new q) (λ p. page_of word q ≡ Ok p)
    by true e is = subst (λ o. IfSome o (λ p. page_of word q ≡ Ok p)) (sym is) (ap (page_of word) (sym (tied_paths name q e)) ∙ made)
    by false e is = subst (λ o. IfSome o (λ p. page_of word q ≡ Ok p)) (sym is) (known q)
