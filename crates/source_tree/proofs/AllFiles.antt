-- What was read of a source may be held.
use Rattle.std.proofs.Common.{◌≡◌, ℕ, ◌≤◌, Bool, true, false, cond, List, [], ◌∷◌, length, sym, ◌∙◌, ap, subst, arith, rules, Some, All}
use Rattle.std.specs.Prelude.{T}
use Rattle.std.specs.FinMap.{entries, entries-from_sorted, find, from_sorted, get, get-from_sorted, len-entries}
use Rattle.std.proofs.lemmas.List.{length-map}
use Rattle.std.proofs.lemmas.List.Elements.{All-tail}
use Rattle.site_base.specs.Clash.{ClashFree}
use Rattle.site_base.specs.Places.{Files, PathsRise, path_cmp, paths_of, same_path}
use Rattle.site_base.specs.Limits.{most_bytes}
use Rattle.source_tree.specs.Limits.{bytes_of, most_files, most_site_bytes, site_bytes}
use Rattle.source_tree.specs.Rise.{Rise}
use Rattle.source_tree.proofs.Clashing.{no_clash-keys}
use Rattle.source_tree.proofs.Holding.{Keeps}
use Rattle.source_tree.proofs.Listed.{rise-paths_of}

abbrev File : Type 0
File = List ℕ × List ℕ

abbrev Short : File → Type 0
Short file = length file.1 ≤ most_bytes

tell : (b : Bool) → b ≡ true → T b
tell b e = subst T (sym e) tt

find_short : (es : List File) (path bytes : List ℕ) → All Short es → find path_cmp path es ≡ Some bytes → length bytes ≤ most_bytes
find_short [] path bytes short there = absurd (cc (there))
find_short (e ∷ es) path bytes short there = by (same_path path e.0) (short 0 e (omega arith)) (find_short es path bytes (All-tail Short e es short)) there
  where
    same_bytes : (v w : List ℕ) → Some v ≡ Some w → v ≡ w
    same_bytes v w e = cc (e)

    by : (b : Bool) → Short e → (find path_cmp path es ≡ Some bytes → length bytes ≤ most_bytes) → cond b (Some e.1) (find path_cmp path es) ≡ Some bytes → length bytes ≤ most_bytes
    by true first rest is = subst (λ (w : List ℕ). length w ≤ most_bytes) (same_bytes e.1 bytes is) first
    by false first rest is = rest is

pub read_rises : (paths : List (List ℕ)) (es : List File) → Rise paths → paths ≡ paths_of es → PathsRise es
read_rises paths es rise is = sym (rise-paths_of es) ∙ subst Rise is rise

pub keeps-read : (paths : List (List ℕ)) (es : List File) (m : Files) (total : ℕ) → Rise paths → length paths ≤ most_files → ClashFree paths → paths ≡ paths_of es → m ≡ from_sorted es → total ≡ bytes_of es → total ≤ most_site_bytes → All Short es → Keeps total m
keeps-read paths es m total rise few free is made sum within short =
    let sorted = tell _ (read_rises paths es rise is) in
    let all : entries m ≡ es = ap entries made ∙ entries-from_sorted path_cmp es sorted in
    let bytes : total ≡ site_bytes m = sum ∙ ap bytes_of (sym all) in
    let count : length (paths_of es) ≡ length es = search (rules, length-map) in (
      bytes,
      record {
        few = omega (arith, len-entries m, ap length all, ap length is, count, few);
        short = λ path b there. find_short es path b short (sym (get-from_sorted path_cmp es path sorted) ∙ sym (ap (λ (n : Files). get n path) made) ∙ there);
        within = omega (arith, bytes, within);
        apart = no_clash-keys m (subst ClashFree (is ∙ ap paths_of (sym all)) free);
      },
    )
