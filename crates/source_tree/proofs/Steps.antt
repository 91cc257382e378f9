-- How a scan goes on by one file, and where it ends.
use Rattle.std.proofs.Common.{◌≡◌, ℕ, ◌+◌, ◌<◌, ◌≤◌, Bool, true, false, cond, List, [], ◌∷◌, ◌++◌, length, take, refl, sym, ◌∙◌, ap, subst, arith, Option, Some, None, append_assoc, nat_lt, length-take}
use Rattle.std.specs.Prelude.{T, ◌&&◌}
use Rattle.std.specs.declared.cmp.Ordering.TheVariants.{Less, Equal, Greater}
use Rattle.std.specs.declared.cmp.Ordering.{Ordering}
use Rattle.std.specs.Ordering.{is_lt, is_eq, ordering_reverse}
use Rattle.std.specs.Cmp.{tied_itself}
use Rattle.std.specs.FinMap.{contains_key, entries, entries_sorted, entries-from_sorted, find, from_sorted, get, get-entries, same_entries_map}
use Rattle.std.specs.FinMap.Entries.{below_all}
use Rattle.std.specs.Option.{is_some}
use Rattle.std.proofs.lemmas.Bool.{le-ltb, lt-ltb, ltb-false, ltb-true}
use Rattle.std.proofs.lemmas.List.{append-nil, map-append, take_all}
use Rattle.site_base.specs.Faults.{fault_at}
use Rattle.site_base.specs.Places.{Files, PathsRise, path_cmp, paths_of}
use Rattle.site_base.specs.declared.faults.FaultKind.{FaultKind}
use Rattle.site_base.specs.declared.faults.SiteFault.{SiteFault}
use Rattle.site_base.specs.Limits.{most_bytes}
use Rattle.source_tree.specs.Limits.{most_site_bytes}
use Rattle.source_tree.specs.Reading.{Adds, Follows, Going}
use Rattle.source_tree.specs.Scan.{first_long, first_over}
use Rattle.source_tree.specs.declared.reading.Reading.{Reading}
use Rattle.source_tree.specs.declared.scan_error.ScanError.{ScanError}
use Rattle.source_tree.specs.declared.scan_error.ScanError.TheVariants.{Limit}
use Rattle.source_tree.proofs.Sums.{o}

front_of : (a b : Bool) → (a && b) ≡ true → a ≡ true
front_of true b p = refl
front_of false b p = p

back_of : (a b : Bool) → (a && b) ≡ true → b ≡ true
back_of true b p = p
back_of false b p = absurd (cc (p))

less : (r : Ordering) → is_lt r ≡ true → r ≡ Less
less Less p = refl
less Equal p = absurd (cc (p))
less Greater p = absurd (cc (p))

told : (b : Bool) → T b → b ≡ true
told true h = refl
told false h = absurd h

abbrev File : Type 0
File = List ℕ × List ℕ

below_in : (x : List ℕ) (fs : List File) (e : File) (rest : List File) → below_all path_cmp x (fs ++ e ∷ rest) ≡ true → path_cmp x e.0 ≡ Less
below_in x [] e rest h = less _ (front_of _ _ h)
below_in x (f ∷ fs) e rest h = below_in x fs e rest (back_of _ _ h)

above : (f : File) (fs : List File) (e : File) (rest : List File) → PathsRise (f ∷ fs ++ e ∷ rest) → path_cmp e.0 f.0 ≡ Greater
above f fs e rest s = o.antisymm e.0 f.0 ∙ ap ordering_reverse (below_in f.0 fs e rest (front_of _ _ s))

find_in : (fs : List File) (e : File) (rest : List File) → PathsRise (fs ++ e ∷ rest) → find path_cmp e.0 (fs ++ e ∷ rest) ≡ Some e.1
find_in [] e rest s = ap (λ r. cond (is_eq r) (Some e.1) (find path_cmp e.0 rest)) (tied_itself o e.0)
find_in (f ∷ fs) e rest s =
    ap (λ r. cond (is_eq r) (Some f.1) (find path_cmp e.0 (fs ++ e ∷ rest))) (above f fs e rest s) ∙ find_in fs e rest (back_of _ _ s)

rising : (files : Files) (es : List File) → entries files ≡ es → PathsRise es
rising files es is = subst (λ (l : List File). PathsRise l) is (told _ (entries_sorted files))

-- the next file that is left
pub record Next (files : Files) (path : List ℕ) (left : List (List ℕ)) (reading : Reading) : Type 0 where
  pub file : File
  pub front : List File
  pub rest : List File
  pub path_is : path ≡ file.0
  pub whole : entries files ≡ front ++ file ∷ rest
  pub left_is : left ≡ paths_of rest
  pub long : first_long (entries files) ≡ first_long (file ∷ rest)
  pub over : (at : List ℕ) → reading.over ≡ Some at → first_over 0 (entries files) ≡ Some at
  pub within : reading.over ≡ None → (reading.files.items ≡ front) × (first_over 0 (entries files) ≡ first_over reading.total (file ∷ rest))

next_by : (files : Files) (path : List ℕ) (left : List (List ℕ)) (reading : Reading) (g : Going files (path ∷ left) reading) (rest : List File) → g.rest ≡ rest → path ∷ left ≡ paths_of rest → Next files path left reading
next_by files path left reading g [] is l = absurd (cc (l))
next_by files path left reading g (e ∷ rest) is l = record {
  file = e;
  front = g.front;
  rest = rest;
  path_is = cc (l);
  whole = g.whole ∙ ap (λ (r : List File). g.front ++ r) is;
  left_is = cc (l);
  long = g.long ∙ ap first_long is;
  over = g.over;
  within = λ n. ((g.within n).0, (g.within n).1 ∙ ap (first_over reading.total) is);
}

pub next : (files : Files) (path : List ℕ) (left : List (List ℕ)) (reading : Reading) → Going files (path ∷ left) reading → Next files path left reading
next files path left reading g = next_by files path left reading g g.rest refl g.left_is

pub next_get : (files : Files) (path : List ℕ) (left : List (List ℕ)) (reading : Reading) (n : Next files path left reading) → get files path ≡ Some n.file.1
next_get files path left reading n =
    ap (get files) n.path_is ∙ get-entries files n.file.0 ∙ ap (find path_cmp n.file.0) n.whole ∙ find_in n.front n.file n.rest (rising files _ n.whole)

pub next_has : (files : Files) (path : List ℕ) (left : List (List ℕ)) (reading : Reading) → Going files (path ∷ left) reading → contains_key files path ≡ true
next_has files path left reading g = ap is_some (next_get files path left reading (next files path left reading g))

-- the bytes that were read are the file's, where they are few enough, and the file is longer where they are not
cut_whole : (b : List ℕ) → length (take 16777217 b) ≤ most_bytes → take 16777217 b ≡ b
cut_whole b short = take_all 16777217 b (omega (arith, length-take 16777217 b))

cut_long : (b : List ℕ) → most_bytes < length (take 16777217 b) → most_bytes < length b
cut_long b long = omega (arith, length-take 16777217 b)

over_by : (files : Files) (path : List ℕ) (left : List (List ℕ)) (old new : Reading) (n : Next files path left old) → Adds old new path n.file.1 → (was : Option (List ℕ)) → old.over ≡ was → (b : Bool) → nat_lt most_site_bytes (old.total + length n.file.1) ≡ b → (p : List ℕ) → new.over ≡ Some p → first_over 0 (entries files) ≡ Some p
over_by files path left old new n a (Some q) was b t p is = n.over q was ∙ sym (a.was_over q was) ∙ is
over_by files path left old new n a None was true t p is =
    (n.within was).1 ∙ ap (λ b. cond b (Some n.file.0) (first_over (old.total + length n.file.1) n.rest)) t ∙ ap Some (sym n.path_is) ∙ sym (a.passes was (ltb-true _ _ t)) ∙ is
over_by files path left old new n a None was false t p is = absurd (cc ((a.fits was (ltb-false _ _ t)).0, is))

within_by : (files : Files) (path : List ℕ) (left : List (List ℕ)) (old new : Reading) (n : Next files path left old) → Adds old new path n.file.1 → (was : Option (List ℕ)) → old.over ≡ was → (b : Bool) → nat_lt most_site_bytes (old.total + length n.file.1) ≡ b → new.over ≡ None → (new.files.items ≡ n.front ++ n.file ∷ []) × (first_over 0 (entries files) ≡ first_over new.total n.rest)
within_by files path left old new n a (Some q) was b t none = absurd (cc (a.was_over q was, none))
within_by files path left old new n a None was true t none = absurd (cc (a.passes was (ltb-true _ _ t), none))
within_by files path left old new n a None was false t none =
    let f = a.fits was (ltb-false _ _ t) in
    let w = n.within was in (
      f.2 ∙ ap (λ (k : List ℕ). old.files.items ++ (k, n.file.1) ∷ []) n.path_is ∙ ap (λ (l : List File). l ++ n.file ∷ []) w.0,
      w.1 ∙ ap (λ b. cond b (Some n.file.0) (first_over (old.total + length n.file.1) n.rest)) t ∙ ap (λ k. first_over k n.rest) (sym f.1),
    )

-- a file was read, and it is not too long
pub going-step : (files : Files) (path : List ℕ) (left : List (List ℕ)) (old new : Reading) (bytes : List ℕ) (n : Next files path left old) → bytes ≡ take 16777217 n.file.1 → length bytes ≤ most_bytes → Adds old new path bytes → Going files left new
going-step files path left old new bytes n read short added =
    let is : bytes ≡ n.file.1 = read ∙ cut_whole n.file.1 (subst (λ (b : List ℕ). length b ≤ most_bytes) read short) in
    let a : Adds old new path n.file.1 = subst (λ (b : List ℕ). Adds old new path b) is added in
    let brief : length n.file.1 ≤ most_bytes = subst (λ (b : List ℕ). length b ≤ most_bytes) is short in
    record {
      front = n.front ++ n.file ∷ [];
      rest = n.rest;
      whole = n.whole ∙ sym (append_assoc n.front (n.file ∷ []) n.rest);
      left_is = n.left_is;
      long = n.long ∙ ap (λ b. cond b (Some n.file.0) (first_long n.rest)) (le-ltb most_bytes (length n.file.1) brief);
      over = over_by files path left old new n a old.over refl _ refl;
      within = within_by files path left old new n a old.over refl _ refl;
    }

pub too_long : (files : Files) (path : List ℕ) (left : List (List ℕ)) (old : Reading) (bytes : List ℕ) (n : Next files path left old) → bytes ≡ take 16777217 n.file.1 → most_bytes < length bytes → first_long (entries files) ≡ Some path
too_long files path left old bytes n is long =
    let more : most_bytes < length n.file.1 = cut_long n.file.1 (subst (λ (b : List ℕ). most_bytes < length b) is long) in
    n.long ∙ ap (λ b. cond b (Some n.file.0) (first_long n.rest)) (lt-ltb most_bytes (length n.file.1) more) ∙ ap Some (sym n.path_is)

over_at : (over : Option (List ℕ)) → is_some over ≡ true → (at : List ℕ) × (over ≡ Some at)
over_at None is = absurd (cc (is))
over_at (Some at) is = (at, refl)

-- when the sum has passed its limit, another file changes nothing
nothing_added : (old : Reading) (path bytes : List ℕ) → (at : List ℕ) × (old.over ≡ Some at) → Adds old old path bytes
nothing_added old path bytes over = record {
  was_over = λ at is. is;
  passes = λ none long. absurd (cc (none, over.1));
  fits = λ none short. absurd (cc (none, over.1));
}

-- a file was measured, and it is not too long
pub going-measured : (files : Files) (path : List ℕ) (left : List (List ℕ)) (old : Reading) (count : ℕ) (n : Next files path left old) → is_some old.over ≡ true → count ≡ length (take 16777217 n.file.1) → count ≤ most_bytes → Going files left old
going-measured files path left old count n over counted short =
    going-step files path left old old (take 16777217 n.file.1) n refl (subst (λ (m : ℕ). m ≤ most_bytes) counted short) (nothing_added old path (take 16777217 n.file.1) (over_at old.over over))

pub follows-measured : (paths left : List (List ℕ)) (old : Reading) → is_some old.over ≡ true → Follows paths left old
follows-measured paths left old over none = absurd (cc (none, (over_at old.over over).1))

pub too_long-measured : (files : Files) (path : List ℕ) (left : List (List ℕ)) (old : Reading) (count : ℕ) (n : Next files path left old) → count ≡ length (take 16777217 n.file.1) → most_bytes < count → first_long (entries files) ≡ Some path
too_long-measured files path left old count n counted long =
    too_long files path left old (take 16777217 n.file.1) n refl (subst (λ (m : ℕ). most_bytes < m) counted long)

no_rest : (rest : List File) → [] ≡ paths_of rest → rest ≡ []
no_rest [] e = refl
no_rest (f ∷ rest) e = absurd (cc (e))

pub all_long : (files : Files) (reading : Reading) → Going files [] reading → first_long (entries files) ≡ None
all_long files reading g = g.long ∙ ap first_long (no_rest g.rest g.left_is)

-- all files were read, and their sum did not pass its limit
pub all_read : (files m : Files) (reading : Reading) → Going files [] reading → reading.over ≡ None → m ≡ from_sorted reading.files.items → PathsRise reading.files.items → (m ≡ files) × (first_over 0 (entries files) ≡ None)
all_read files m reading g none made rise =
    let left : g.rest ≡ [] = no_rest g.rest g.left_is in
    let w = g.within none in
    let read : reading.files.items ≡ entries files = w.0 ∙ sym (g.whole ∙ ap (λ (r : List File). g.front ++ r) left ∙ append-nil g.front) in
    (made ∙ same_entries_map _ _ (entries-from_sorted path_cmp reading.files.items (tell _ rise) ∙ read), w.1 ∙ ap (first_over reading.total) left)
  where
    tell : (b : Bool) → b ≡ true → T b
    tell b e = subst T (sym e) tt

-- whether the source tells its files or not, what was read has the paths that were to be read
pub follows-step : (paths left : List (List ℕ)) (path bytes : List ℕ) (old new : Reading) → Follows paths (path ∷ left) old → Adds old new path bytes → Follows paths left new
follows-step paths left path bytes old new follows added none = by old.over refl (nat_lt most_site_bytes (old.total + length bytes)) refl
  where
    by : (was : Option (List ℕ)) → old.over ≡ was → (b : Bool) → nat_lt most_site_bytes (old.total + length bytes) ≡ b → paths ≡ paths_of new.files.items ++ left
    by (Some q) was b t = absurd (cc (added.was_over q was, none))
    by None was true t = absurd (cc (added.passes was (ltb-true _ _ t), none))
    by None was false t =
        follows was ∙ sym (append_assoc (paths_of old.files.items) (path ∷ []) left)
        ∙ ap (λ (l : List (List ℕ)). l ++ left) (sym (map-append (λ (f : File). f.0) old.files.items ((path, bytes) ∷ [])) ∙ ap paths_of (sym (added.fits was (ltb-false _ _ t)).2))

pub follows-end : (paths : List (List ℕ)) (reading : Reading) → Follows paths [] reading → reading.over ≡ None → paths ≡ paths_of reading.files.items
follows-end paths reading follows none = follows none ∙ append-nil (paths_of reading.files.items)

limit_same : (f g : SiteFault) → Limit f ≡ Limit g → f ≡ g
limit_same f g is = cc (is)

pub limit_is : (kind : FaultKind) (path : List ℕ) (error : ScanError) (fault : SiteFault) → error ≡ Limit (fault_at kind path) → error ≡ Limit fault → (fault ≡ fault_at kind fault.path) × (path ≡ fault.path)
limit_is kind path error fault named is =
    let same = limit_same (fault_at kind path) fault (sym named ∙ is) in
    let at : path ≡ fault.path = ap (λ (f : SiteFault). f.path) same in
    (sym same ∙ ap (fault_at kind) at, at)
