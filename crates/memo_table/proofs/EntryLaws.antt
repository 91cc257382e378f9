-- What the maps from names to entries answer.
use Rattle.std.proofs.Common.{◌≡◌, Bool, true, false, cond, ◌&&◌, nat_eq, nat_cmp, List, Some, None, refl, sym, ap, subst, ◌∙◌}
use Rattle.std.specs.Cmp.{both_tied, unsigned_ties}
use Rattle.std.specs.Cmp.Lexicographic.{pointwise, texts_ties}
use Rattle.std.specs.FinMap.{FinMap, get, insert, empty, get-empty, get-insert, get-retain_keys, same_map}
use Rattle.site_base.specs.Places.{path_cmp}
use Rattle.site_base.specs.declared.item_name.ItemName.{ItemName}
use Rattle.site_base.specs.declared.faults.SiteFault.{SiteFault}
use Rattle.read_record.specs.Queries.{Query}
use Rattle.read_record.specs.Records.{Certifies}
use Rattle.read_record.specs.Outcomes.{Page, met_of}
use Rattle.read_record.specs.Entries.{Kept}
use Rattle.memo_table.specs.Names.{name_cmp, same_name, is_among}
use Rattle.memo_table.specs.SameNames.{name_cmp_total, name_cmp-IsAntisymmetric, same_name-eq}
use Rattle.memo_table.specs.Entries.{Entries, with_entry, of_names, AreNamed, AreCertified}

-- what `==` of names answers
pub equal-names : (a b : ItemName) → (pointwise nat_eq a.path b.path && nat_eq a.part b.part) ≡ same_name a b
equal-names a b = both_tied (pointwise nat_eq a.path b.path) (nat_eq a.part b.part) (path_cmp a.path b.path) (nat_cmp a.part b.part) (texts_ties a.path b.path) (unsigned_ties a.part b.part)

module _ {V : Type 0} where
  -- maps that answer alike are one
  pub same : (m n : FinMap name_cmp V) → ((q : ItemName) → get m q ≡ get n q) → m ≡ n
  same m n h = same_map name_cmp_total name_cmp-IsAntisymmetric m n h

  pub get-with : (m : FinMap name_cmp V) (name : ItemName) (value : V) (q : ItemName) → get (insert m name value) q ≡ cond (same_name q name) (Some value) (get m q)
  get-with m name value q = get-insert name_cmp_total m name value q

  pub get-of_names : (names : List ItemName) (m : FinMap name_cmp V) (q : ItemName) → get (of_names names m) q ≡ cond (is_among names q) (get m q) None
  get-of_names names m q = get-retain_keys m (is_among names) q (λ x e. ap (is_among names) (sym (name_cmp-IsAntisymmetric q x e)))

-- ---- each entry stands under its own name

pub named-empty : AreNamed empty
named-empty name kept h = let e : None ≡ Some kept = sym (get-empty name_cmp name) ∙ h in cc

pub named-with_entry : (kept : Kept) (m : Entries) → AreNamed m → AreNamed (with_entry kept m)
named-with_entry kept m h name k e = at (same_name name kept.name) refl (sym (get-with m kept.name kept name) ∙ e)
  where
    at : (b : Bool) → same_name name kept.name ≡ b → cond b (Some kept) (get m name) ≡ Some k → k.name ≡ name
    at true s g = let one : kept ≡ k = cc in ap (λ (k : Kept). k.name) (sym one) ∙ sym (same_name-eq name kept.name s)
    at false s g = h name k g

pub named-of_names : (names : List ItemName) (m : Entries) → AreNamed m → AreNamed (of_names names m)
named-of_names names m h name k e = at (is_among names name) (sym (get-of_names names m name) ∙ e)
  where
    at : (b : Bool) → cond b (get m name) None ≡ Some k → k.name ≡ name
    at true g = h name k g
    at false g = cc

-- ---- each entry is certified

module _ (item : ItemName → Query SiteFault Page) where
  pub certified-empty : AreCertified item empty
  certified-empty name kept h = let e : None ≡ Some kept = sym (get-empty name_cmp name) ∙ h in cc

  pub certified-with_entry : (kept : Kept) (m : Entries) → Certifies kept.reads (item kept.name) (met_of kept.outcome) → AreCertified item m → AreCertified item (with_entry kept m)
  certified-with_entry kept m certified h name k e = at (same_name name kept.name) (sym (get-with m kept.name kept name) ∙ e)
    where
      at : (b : Bool) → cond b (Some kept) (get m name) ≡ Some k → Certifies k.reads (item k.name) (met_of k.outcome)
      at true g = let one : kept ≡ k = cc in subst (λ (k : Kept). Certifies k.reads (item k.name) (met_of k.outcome)) one certified
      at false g = h name k g

  pub certified-of_names : (names : List ItemName) (m : Entries) → AreCertified item m → AreCertified item (of_names names m)
  certified-of_names names m h name k e = at (is_among names name) (sym (get-of_names names m name) ∙ e)
    where
      at : (b : Bool) → cond b (get m name) None ≡ Some k → Certifies k.reads (item k.name) (met_of k.outcome)
      at true g = h name k g
      at false g = cc
