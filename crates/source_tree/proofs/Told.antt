-- What a source tells of its files.
use Rattle.std.proofs.Common.{◌≡◌, ℕ, List, length, min, take, sym, ◌∙◌, ap, arith, Option, Some, Err, Result}
use Rattle.std.specs.FinMap.{contains_key, contains_key-keys, get, keys}
use Rattle.std.proofs.lemmas.List.{take_min}
use Rattle.site_base.specs.Places.{Files, is_listed}
use Rattle.site_base.specs.declared.faults.SiteFault.{SiteFault}
use Rattle.source_tree.specs.declared.scan_error.ScanError.{ScanError}
use Rattle.source_tree.specs.declared.scan_error.ScanError.TheVariants.{Limit}

pub some_same : (m files : Files) → Some m ≡ Some files → m ≡ files
some_same m files e = cc (e)

pub lists_keys : (m files : Files) (paths : List (List ℕ)) (q : List ℕ) → paths ≡ keys m → m ≡ files → is_listed q paths ≡ contains_key files q
lists_keys m files paths q is same = ap (is_listed q) is ∙ sym (contains_key-keys m q) ∙ ap (λ (n : Files). contains_key n q) same

-- the bytes that are read are the file's, cut where they are too many
pub cut_read : (b most : List ℕ) (n : ℕ) → n ≡ min (length b) 16777217 → most ≡ take n b → most ≡ take 16777217 b
cut_read b most n is cut = cut ∙ ap (λ (k : ℕ). take k b) (is ∙ flip (length b)) ∙ take_min 16777217 b
  where
    flip : (k : ℕ) → min k 16777217 ≡ min 16777217 k
    flip k = omega arith

pub found_same : (m files : Files) (path x y : List ℕ) → m ≡ files → Some x ≡ get m path → get files path ≡ Some y → x ≡ y
found_same m files path x y is a b = some_bytes (a ∙ ap (λ (n : Files). get n path) is ∙ b)
  where
    some_bytes : Some x ≡ Some y → x ≡ y
    some_bytes e = cc (e)

limit_same : (f g : SiteFault) → Limit f ≡ Limit g → f ≡ g
limit_same f g is = cc (is)

pub err_same : {A : Type 0} (e f : ScanError) → (same : ◌≡◌ {A = Result A ScanError} (Err e) (Err f)) → e ≡ f
err_same e f same = cc (same)

-- a fault that an answer names
pub named_fault : {A : Type 0} (error : ScanError) (named fault : SiteFault) (found : Option SiteFault) → error ≡ Limit named → found ≡ Some named → (same : ◌≡◌ {A = Result A ScanError} (Err error) (Err (Limit fault))) → found ≡ Some fault
named_fault error named fault found is found_is same = found_is ∙ ap Some (limit_same named fault (sym is ∙ err_same error (Limit fault) same))
