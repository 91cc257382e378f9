-- What files make one after another, at a place of their list.
use Rattle.std.proofs.Common.{◌≡◌, ℕ, suc, ◌+◌, ◌<◌, List, [], ◌∷◌, length, drop, drop-cons, add-one, get_or, map, ◌++◌, ◌≤◌, length-drop, arith, Ok, Err, refl, sym, ap, ◌∙◌}
use Rattle.site_base.specs.Chains.{◌>>=◌}
use Rattle.site_base.specs.declared.faults.SiteFault.{SiteFault}
use Rattle.site_items.specs.Outcomes.{IsFault, Outcome}
use Rattle.site_items.specs.declared.item_error.ItemError.{ItemError}
use Rattle.site_items.specs.declared.item_error.ItemError.TheVariants as item_error
use Rattle.site_reader.specs.Found.{Found, IsFirst, Tells, each, in_file}
use Rattle.site_reader.specs.declared.site_error.SiteError.{SiteError}
use Rattle.site_reader.specs.declared.site_error.SiteError.TheVariants as site_error

pub at_front : {A : Type 0} (xs : List A) (i : ℕ) (x : A) → i < length xs → x ≡ get_or xs i x → drop i xs ≡ x ∷ drop (i + 1) xs
at_front xs i x lt is = rw add-one (drop-cons xs i x lt ∙ ap (λ y. y ∷ drop (suc i) xs) (sym is))

pub none_left : {A : Type 0} (xs : List A) (i : ℕ) → length xs ≤ i → drop i xs ≡ []
none_left xs i le = no_length (drop i xs) (omega (arith, length-drop i xs, le))
  where
    no_length : {A : Type 0} (ys : List A) → length ys ≡ 0 → ys ≡ []
    no_length [] e = refl
    no_length (y ∷ ys) e = absurd (omega (arith, e))

pub behind_one : {A : Type 0} (xs ys : List A) (x : A) → (xs ++ x ∷ []) ++ ys ≡ xs ++ x ∷ ys
behind_one [] ys x = refl
behind_one (z ∷ xs) ys x = ap (λ zs. z ∷ zs) (behind_one xs ys x)

pub mapped_one : {A B : Type 0} (f : A → B) (xs : List A) (x : A) → map f (xs ++ x ∷ []) ≡ map f xs ++ f x ∷ []
mapped_one f [] x = refl
mapped_one f (z ∷ xs) x = ap (λ zs. f z ∷ zs) (mapped_one f xs x)

-- what is seen of a list with one more
pub mapped_more : {A B : Type 0} (f : A → B) (made more : List A) (x : A) (y : B) → more ≡ made ++ x ∷ [] → f x ≡ y → map f more ≡ map f made ++ y ∷ []
mapped_more f made more x y pushed is = ap (map f) pushed ∙ mapped_one f made x ∙ ap (λ z. map f made ++ z ∷ []) is

pub nothing_behind : {A : Type 0} (xs : List A) → xs ++ [] ≡ xs
nothing_behind [] = refl
nothing_behind (x ∷ xs) = ap (λ ys. x ∷ ys) (nothing_behind xs)

-- what is taken one by one, up to the last
pub all_taken : {A : Type 0} (xs ys zs : List A) → ys ≡ [] → xs ++ ys ≡ zs → xs ≡ zs
all_taken xs ys zs none e = sym (nothing_behind xs) ∙ ap (λ l. xs ++ l) (sym none) ∙ e

module _ {A B C : Type 0} (see : B → C) (as_placed : A → C) where
  pub one_placed : (xs : List A) (made more : List B) (i : ℕ) (y : B) (x : A) → i < length xs → x ≡ get_or xs i x → see y ≡ as_placed x → more ≡ made ++ y ∷ []
      → map see made ++ map as_placed (drop i xs) ≡ map as_placed xs → map see more ++ map as_placed (drop (i + 1) xs) ≡ map as_placed xs
  one_placed xs made more i y x lt is placed pushed same =
      ap (λ ys. map see ys ++ map as_placed (drop (i + 1) xs)) pushed
      ∙ ap (λ zs. zs ++ map as_placed (drop (i + 1) xs)) (mapped_one see made y)
      ∙ behind_one (map see made) (map as_placed (drop (i + 1) xs)) (see y)
      ∙ ap (λ z. map see made ++ z ∷ map as_placed (drop (i + 1) xs)) placed
      ∙ ap (λ zs. map see made ++ map as_placed zs) (sym (at_front xs i x lt is))
      ∙ same

  pub all_placed : (xs : List A) (made : List B) (i : ℕ) → length xs ≤ i → map see made ++ map as_placed (drop i xs) ≡ map as_placed xs → map see made ≡ map as_placed xs
  all_placed xs made i le same = sym (nothing_behind (map see made)) ∙ ap (λ zs. map see made ++ map as_placed zs) (sym (none_left xs i le)) ∙ same

module _ {A F S : Type 0} (step : F → S → Found S) (see : A → F) where
  unfolds : (x : F) (xs : List F) (made : S) → each step (x ∷ xs) made ≡ (step x made >>= each step xs)
  unfolding each
  unfolds x xs made = refl

  -- one more file that adds something
  pub each_next : (xs : List A) (i : ℕ) (x : A) (made more : S) → i < length xs → x ≡ get_or xs i x → step (see x) made ≡ Ok more
      → each step (map see (drop i xs)) made ≡ each step (map see (drop (i + 1) xs)) more
  each_next xs i x made more lt is e =
      ap (λ ys. each step (map see ys) made) (at_front xs i x lt is) ∙ unfolds (see x) (map see (drop (i + 1) xs)) made ∙ ap (λ r. r >>= each step (map see (drop (i + 1) xs))) e

  -- behind the last file
  pub each_done : (xs : List A) (i : ℕ) (made : S) (whole : Found S) → length xs ≤ i → each step (map see (drop i xs)) made ≡ whole → whole ≡ Ok made
  unfolding each
  each_done xs i made whole le same = sym same ∙ ap (λ ys. each step (map see ys) made) (none_left xs i le)

  -- one that has a fault
  pub each_stops : (xs : List A) (i : ℕ) (x : A) (made : S) (fault : SiteFault) → i < length xs → x ≡ get_or xs i x → step (see x) made ≡ Err fault
      → each step (map see (drop i xs)) made ≡ Err fault
  each_stops xs i x made fault lt is e =
      ap (λ ys. each step (map see ys) made) (at_front xs i x lt is) ∙ unfolds (see x) (map see (drop (i + 1) xs)) made ∙ ap (λ r. r >>= each step (map see (drop (i + 1) xs))) e

  -- the error at one file is that of all
  pub each_first : (xs : List A) (i : ℕ) (x : A) (made : S) (whole : Found S) (error : SiteError) → i < length xs → x ≡ get_or xs i x
      → IsFirst (step (see x) made) error → each step (map see (drop i xs)) made ≡ whole → IsFirst whole error
  each_first xs i x made whole site_error.Memory lt is first same = tt
  each_first xs i x made whole (site_error.Fault f) lt is first same = sym same ∙ each_stops xs i x made f lt is first

-- the error of a file is that of what follows it
pub first_told : {A B : Type 0} (found : Outcome A) (then : A → Found B) (path : List ℕ) (error : ItemError) (told : SiteError)
    → IsFault found error → Tells path error told → IsFirst (in_file path found >>= then) told
first_told found then path error site_error.Memory fault tells = tt
first_told found then path item_error.Memory (site_error.Fault f) fault tells = absurd tells
first_told found then path (item_error.Fault e) (site_error.Fault f) fault tells = ap (λ o. in_file path o >>= then) fault ∙ ap Err (sym tells)
