-- What changes nothing of the files that are held.
use Rattle.std.proofs.Common.{◌≡◌, ◌∙◌, Bool, true, false, cond, not, List, ℕ, Option, Some, None, refl, sym, ap}
use Rattle.std.specs.Option.{is_some}
use Rattle.std.specs.FinMap.{contains_key, get, get-insert, get-remove, insert, remove, same_map}
use Rattle.std.specs.FinMap.{IsAntisymmetric}
use Rattle.site_base.specs.Places.{Files, path_cmp, same_path}
use Rattle.out_tree.proofs.Paths.{path_order, same_if_tied, the_same}

one-map : (m n : Files) → ((path : List ℕ) → get m path ≡ get n path) → m ≡ n
one-map m n h = same_map path_order same_if_tied m n h

-- a file that is put with the bytes that it has
pub put_same : (files : Files) (path bytes : List ℕ) → get files path ≡ Some bytes → insert files path bytes ≡ files
put_same files path bytes has = one-map (insert files path bytes) files (λ q. get-insert path_order files path bytes q ∙ at q (same_path q path) refl)
  where
    at : (q : List ℕ) (b : Bool) → same_path q path ≡ b → cond b (Some bytes) (get files q) ≡ get files q
    at q true e = sym has ∙ ap (get files) (sym (the_same q path e))
    at q false e = refl

none-there : {A : Type 0} (found : Option A) → is_some found ≡ false → found ≡ None
none-there None e = refl
none-there (Some x) e = cc

-- a file that is not there is removed
pub remove_absent : (files : Files) (path : List ℕ) → contains_key files path ≡ false → remove files path ≡ files
remove_absent files path lacks = one-map (remove files path) files (λ q. get-remove path_order files path q ∙ at q (same_path q path) refl)
  where
    at : (q : List ℕ) (b : Bool) → same_path q path ≡ b → cond b None (get files q) ≡ get files q
    at q true e = sym (none-there (get files path) lacks) ∙ ap (get files) (sym (the_same q path e))
    at q false e = refl

pub none_held : (was : Bool) → not was ≡ true → was ≡ false
none_held true e = cc
none_held false e = refl
