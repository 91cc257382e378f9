-- The names of layouts rise, since those with one name take one place.
use Rattle.std.proofs.Common.{◌≡◌, ℕ, All, List, [], ◌∷◌, Less, Equal, Greater, Ordering, Ok, arith, refl, ap, subst, ◌∙◌}
use Rattle.std.specs.BTreeMap.{insert_entry}
use Rattle.std.specs.Cmp.{IsTotalOrder}
use Rattle.std.specs.Cmp.Lexicographic.{nat_list_cmp_total}
use Rattle.std.specs.List.{AllByRecursion}
use Rattle.std.specs.List.Sorted.{IsStrictlySortedBy}
use Rattle.std.specs.Map.{keys_of, values_of}
use Rattle.std.specs.Ordering.{match_ordering, ordering_reverse}
use Rattle.std.proofs.lemmas.Map.Keys.{IsDistinct-from_sorted}
use Rattle.std.proofs.lemmas.List.Elements.{All-from_recursion}
use Rattle.site_base.specs.Places.{path_cmp}
use Rattle.site_files.specs.declared.place.Place.TheVariants as place
use Rattle.site_items.specs.Files as file
use Rattle.site_items.specs.Matter.{matter}
use Rattle.site_items.specs.declared.layout_file.LayoutFile.{LayoutFile}
use Rattle.site_reader.specs.Found.{each, in_file}
use Rattle.site_reader.specs.Lawful.{Differ, HasHash}
use Rattle.site_reader.specs.Placing.{File, Placed}
use Rattle.site_reader.specs.Sites as sites
use Rattle.site_reader.proofs.Differing.{differ, named, once_in, tied}
use Rattle.site_reader.proofs.Weights.{each_keeps, file_found, found_before, found_value, weight}

order : IsTotalOrder path_cmp
order = nat_list_cmp_total

abbrev Above : List ℕ → List (List ℕ) → Type 0
Above x ks = AllByRecursion (λ y. path_cmp x y ≡ Less) ks

above : (x k : List ℕ) (ks : List (List ℕ)) → path_cmp x k ≡ Less → Above k ks → Above x ks
above x k [] less all = tt
above x k (y ∷ ys) less all = (order.trans x k y less all.0, above x k ys less all.1)

turned : (x k : List ℕ) → path_cmp k x ≡ Greater → path_cmp x k ≡ Less
turned x k is = order.antisymm x k ∙ ap ordering_reverse is

module _ {V : Type 0} (k : List ℕ) (v : V) where
  above_inserted : (x : List ℕ) (es : List (List ℕ × V)) → path_cmp x k ≡ Less → Above x (keys_of es) → Above x (keys_of (insert_entry path_cmp es k v))
  above_inserted x [] less all = (less, tt)
  above_inserted x (e ∷ es) less all = by (path_cmp k e.0) (above_inserted x es less all.1)
    where
      by : (r : Ordering) → Above x (keys_of (insert_entry path_cmp es k v)) → Above x (keys_of (match_ordering r ((k, v) ∷ e ∷ es) ((e.0, v) ∷ es) (e ∷ insert_entry path_cmp es k v)))
      by Less rest = (less, all)
      by Equal rest = all
      by Greater rest = (all.0, rest)

  rises_inserted : (es : List (List ℕ × V)) → IsStrictlySortedBy path_cmp (keys_of es) → IsStrictlySortedBy path_cmp (keys_of (insert_entry path_cmp es k v))
  unfolding IsStrictlySortedBy
  rises_inserted [] rise = (tt, tt)
  rises_inserted (e ∷ es) rise = by (path_cmp k e.0) refl (rises_inserted es rise.1)
    where
      by : (r : Ordering) → path_cmp k e.0 ≡ r → IsStrictlySortedBy path_cmp (keys_of (insert_entry path_cmp es k v))
          → IsStrictlySortedBy path_cmp (keys_of (match_ordering r ((k, v) ∷ e ∷ es) ((e.0, v) ∷ es) (e ∷ insert_entry path_cmp es k v)))
      by Less is rest = ((is, above k e.0 (keys_of es) is rise.0), rise)
      by Equal is rest = rise
      by Greater is rest = (above_inserted e.0 es (turned e.0 k is) rise.0, rest)

-- ---- layouts under their names

abbrev Layouts : Type 0
Layouts = List (List ℕ × LayoutFile)

abbrev AreNamed : Layouts → Type 0
AreNamed es = AllByRecursion (λ e. e.1.name ≡ e.0) es

names_inserted : (made : LayoutFile) (es : Layouts) → AreNamed es → AreNamed (sites.with_layout made es)
names_inserted made [] all = (refl, tt)
names_inserted made (e ∷ es) all = by (path_cmp made.name e.0) refl (names_inserted made es all.1)
  where
    by : (r : Ordering) → path_cmp made.name e.0 ≡ r → AreNamed (insert_entry path_cmp es made.name made)
        → AreNamed (match_ordering r ((made.name, made) ∷ e ∷ es) ((e.0, made) ∷ es) (e ∷ insert_entry path_cmp es made.name made))
    by Less is rest = (refl, all)
    by Equal is rest = (tied made.name e.0 is, all.1)
    by Greater is rest = (all.0, rest)

abbrev HaveHashes : Layouts → Type 0
HaveHashes es = AllByRecursion (λ e. HasHash e.1) es

hashes_inserted : (made : LayoutFile) (es : Layouts) → HasHash made → HaveHashes es → HaveHashes (sites.with_layout made es)
hashes_inserted made [] has all = (has, tt)
hashes_inserted made (e ∷ es) has all = by (path_cmp made.name e.0) (hashes_inserted made es has all.1)
  where
    by : (r : Ordering) → HaveHashes (insert_entry path_cmp es made.name made)
        → HaveHashes (match_ordering r ((made.name, made) ∷ e ∷ es) ((e.0, made) ∷ es) (e ∷ insert_entry path_cmp es made.name made))
    by Less rest = (has, all)
    by Equal rest = (has, all.1)
    by Greater rest = (all.0, rest)

-- the layout of a file has the variables of its front matter
has_hash : (path bytes : List ℕ) (made : LayoutFile) → file.layout path bytes ≡ Ok made → HasHash made
has_hash path bytes made e =
    let m = found_before (matter bytes) _ made e in
    subst HasHash (found_value (file.layout_with path m.0) made m.2) (m.0.vars, refl)

record InOrder (es : Layouts) : Type 0 where
  rise : IsStrictlySortedBy path_cmp (keys_of es)
  names : AreNamed es
  hashes : HaveHashes es

none_yet : InOrder []
unfolding IsStrictlySortedBy
none_yet = record { rise = tt; names = tt; hashes = tt }

read_layout : (f : File) (made more : Layouts) → sites.read_layout f made ≡ Ok more → InOrder made → InOrder more
read_layout f made more e is =
    let read = found_before (in_file f.0 (file.layout f.0 f.1)) _ more e in
    subst InOrder (found_value _ more read.2) (record {
      rise = rises_inserted read.0.name read.0 made is.rise;
      names = names_inserted read.0 made is.names;
      hashes = hashes_inserted read.0 made (has_hash f.0 f.1 read.0 (file_found f.0 (file.layout f.0 f.1) read.0 read.1)) is.hashes;
    })

add_layout : (f : Placed) (made more : Layouts) → sites.add_layout f made ≡ Ok more → InOrder made → InOrder more
add_layout (place.Layout, f) made more e is = read_layout f made more e is
add_layout (other, f) made more e is = subst InOrder (found_value made more e) is

values_named : (q : List ℕ) (es : Layouts) → AreNamed es → weight (λ l. named q l.name) (values_of es) ≡ weight (λ e. named q e.0) es
values_named q [] all = refl
values_named q (e ∷ es) all = omega (arith, ap (named q) all.0, values_named q es all.1)

values_have : (es : Layouts) → HaveHashes es → AllByRecursion HasHash (values_of es)
values_have [] all = tt
values_have (e ∷ es) all = (all.0, values_have es all.1)

module _ (files : List Placed) (made : List LayoutFile) (e : sites.layouts files ≡ Ok made) where
  found : (all : Layouts) × (each sites.add_layout files [] ≡ Ok all) × (values_of all ≡ made)
  found = let all = found_before (each sites.add_layout files []) _ made e in (all.0, all.1, found_value (values_of all.0) made all.2)

  in_order : InOrder found.0
  in_order = each_keeps sites.add_layout InOrder add_layout files [] found.0 found.1 none_yet

  pub layouts_differ : Differ (λ l. l.name) made
  layouts_differ =
      subst (Differ (λ (l : LayoutFile). l.name)) found.2
      (differ (λ l. l.name) (values_of found.0) (λ q. omega (arith, values_named q found.0 in_order.names, once_in found.0 (IsDistinct-from_sorted path_cmp (keys_of found.0) in_order.rise) q)))

  pub layouts_have : All HasHash made
  layouts_have = subst (All HasHash) found.2 (All-from_recursion HasHash (values_of found.0) (values_have found.0 in_order.hashes))
