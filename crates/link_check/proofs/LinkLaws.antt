-- The walk over a page, and over the attributes of a tag.
use Rattle.std.proofs.Common.{◌≡◌, ◌∙◌, ℕ, zero, suc, ◌+◌, ◌<◌, ◌≤◌, ◌==◌, ◌||◌, Bool, List, None, Option, Some, [], ◌∷◌, ◌++◌, ap, arith, codes, cond, drop, false, get_or, length, length-drop, refl, sym, take, true}
use Rattle.std.specs.List.{after_first, position_or_len}
use Rattle.std.proofs.lemmas.Bool.{eqb-true}
use Rattle.std.proofs.lemmas.List.{drop_more}
use Rattle.std.proofs.lemmas.List.Sums.{fails_before_first, passes_at_first}
use Rattle.std.proofs.Math.ListN.{drop_of_length-le}
use Rattle.site_base.specs.Recursion.{Falls, down_is}
use Rattle.site_text.specs.Fronts.{begins_with}
use Rattle.site_text.proofs.Runs.{run_within}
use Rattle.link_check.specs.Links.{after_comment, after_less_than, after_tag, comment_end, found, found_step, up_to, values_of}
use Rattle.link_check.specs.Reads.{count_of, values_in}
use Rattle.link_check.specs.Tags.{Attribute, Read, assigned, attribute, attribute_name_len, attributes, attributes_step, gap_len, is_gap, joined, no_attributes, open_tag, with_value}

some_same : {A : Type 0} (x y : A) → Some x ≡ Some y → x ≡ y
some_same x y h = cc

-- ---- attributes

-- what takes more than nothing leaves less
drop_less : (n : ℕ) (t : List ℕ) → 0 < n → 0 < length t → length (drop n t) < length t
drop_less n t some one = omega (arith, length-drop n t)

with_value_count : (name : List ℕ) (n : ℕ) (o : Option (Read (List ℕ))) → n ≤ (with_value name n o).count
with_value_count name n None = omega arith
with_value_count name n (Some it) = omega arith

-- an attribute begins with white space, so it takes something of a text that is not empty
pub attribute_takes : (t : List ℕ) (one : Read Attribute) → attribute t ≡ Some one → (0 < one.count) × (0 < length t)
attribute_takes t one e = go (gap_len t == 0) (attribute_name_len (drop (gap_len t) t) == 0) refl e where
  name : ℕ
  name = attribute_name_len (drop (gap_len t) t)

  whole : Read Attribute
  whole = with_value (take name (drop (gap_len t) t)) (gap_len t + name) (assigned (drop (gap_len t + name) t))

  go : (a b : Bool) → (gap_len t == 0) ≡ a → cond (a || b) None (Some whole) ≡ Some one → (0 < one.count) × (0 < length t)
  go true b g h = absurd cc
  go false true g h = absurd cc
  go false false g h =
      let some : 0 < gap_len t = grind (arith, g) in
      let most : gap_len t + name ≤ whole.count = with_value_count (take name (drop (gap_len t) t)) (gap_len t + name) (assigned (drop (gap_len t + name) t)) in
      (omega (arith, some, most, ap (λ (r : Read Attribute). r.count) (some_same whole one h)), omega (arith, some, run_within is_gap t))

pub attribute_less : (t : List ℕ) (one : Read Attribute) → attribute t ≡ Some one → length (drop one.count t) < length t
attribute_less t one e = let takes = attribute_takes t one e in drop_less one.count t takes.0 takes.1

attributes_fall : Falls length no_attributes attributes_step
attributes_fall f g t h = go (attribute t) refl where
  go : (o : Option (Read Attribute)) → attribute t ≡ o → elim o as (λ x. Read (List Attribute)) [ Some one ↦ joined one (f (drop one.count t)) | None ↦ no_attributes ] ≡ elim o as (λ x. Read (List Attribute)) [ Some one ↦ joined one (g (drop one.count t)) | None ↦ no_attributes ]
  go None e = refl
  go (Some one) e = ap (joined one) (h (drop one.count t) (attribute_less t one e))

attributes_is : (t : List ℕ) → attributes t ≡ attributes_step attributes t
unfolding attributes
attributes_is t = down_is length no_attributes attributes_step attributes_fall t

pub no_more : (t : List ℕ) → attribute t ≡ None → attributes t ≡ no_attributes
no_more t e = attributes_is t ∙ ap (λ (o : Option (Read Attribute)). elim o as (λ x. Read (List Attribute)) [ Some one ↦ joined one (attributes (drop one.count t)) | None ↦ no_attributes ]) e

pub one_more : (t : List ℕ) (one : Read Attribute) → attribute t ≡ Some one → attributes t ≡ joined one (attributes (drop one.count t))
one_more t one e = attributes_is t ∙ ap (λ (o : Option (Read Attribute)). elim o as (λ x. Read (List Attribute)) [ Some it ↦ joined it (attributes (drop it.count t)) | None ↦ no_attributes ]) e

-- ---- the walk over a page

found_falls : Falls length [] found_step
found_falls f g [] h = refl
found_falls f g (c ∷ cs) h = go (c == 60) (begins_with (codes "!--") cs) where
  left : (n : ℕ) → f (drop n cs) ≡ g (drop n cs)
  left n = h (drop n cs) (omega (arith, length-drop n cs))

  comment : (o : Option ℕ) → elim o as (λ x. List (List ℕ)) [ Some n ↦ f (drop n (drop 3 cs)) | None ↦ [] ] ≡ elim o as (λ x. List (List ℕ)) [ Some n ↦ g (drop n (drop 3 cs)) | None ↦ [] ]
  comment None = refl
  comment (Some n) = h (drop n (drop 3 cs)) (omega (arith, length-drop n (drop 3 cs), length-drop 3 cs))

  tag : (o : Option (Read (List Attribute))) → after_tag f cs o ≡ after_tag g cs o
  tag None = left 0
  tag (Some it) = ap (λ more. values_of it.value ++ more) (left it.count)

  go : (a b : Bool) → cond a (cond b (after_comment f (drop 3 cs)) (after_tag f cs (open_tag cs))) (f cs) ≡ cond a (cond b (after_comment g (drop 3 cs)) (after_tag g cs (open_tag cs))) (g cs)
  go true true = comment (up_to comment_end (drop 3 cs))
  go true false = tag (open_tag cs)
  go false b = left 0

found_is : (t : List ℕ) → found t ≡ found_step found t
unfolding found
found_is t = down_is length [] found_step found_falls t

pub nothing_found : found [] ≡ []
nothing_found = found_is []

pub other_byte : (c : ℕ) (cs : List ℕ) → (c == 60) ≡ false → found (c ∷ cs) ≡ found cs
other_byte c cs e = found_is (c ∷ cs) ∙ ap (λ b. cond b (after_less_than found cs) (found cs)) e

pub less_than_found : (cs : List ℕ) → found (60 ∷ cs) ≡ after_less_than found cs
less_than_found cs = found_is (60 ∷ cs)

-- up to a `<` nothing is found
before : (n : ℕ) (t : List ℕ) → ((k : ℕ) → k < n → (get_or t k 0 == 60) ≡ false) → found t ≡ found (drop n t)
before zero t none = refl
before (suc n) [] none = refl
before (suc n) (c ∷ cs) none = other_byte c cs (none 0 (omega arith)) ∙ before n cs (λ k lt. none (suc k) (omega arith))

abbrev pub opens : ℕ → Bool
opens c = c == 60

before_opening : (t : List ℕ) → found t ≡ found (drop (position_or_len opens t) t)
before_opening t = before (position_or_len opens t) t (λ k lt. fails_before_first opens t k 0 lt)

-- a text from its first `<` on
pub opening : (t : List ℕ) → position_or_len opens t < length t → found t ≡ after_less_than found (after_first opens t)
opening t lt =
    let at : drop (position_or_len opens t) t ≡ get_or t (position_or_len opens t) 0 ∷ after_first opens t = drop_more t (position_or_len opens t) 0 lt in
    let mark : get_or t (position_or_len opens t) 0 ≡ 60 = eqb-true (get_or t (position_or_len opens t) 0) 60 (passes_at_first opens t 0 lt) in
    before_opening t ∙ ap found at ∙ ap (λ (c : ℕ). found (c ∷ after_first opens t)) mark ∙ less_than_found (after_first opens t)

pub no_opening : (t : List ℕ) → position_or_len opens t ≡ length t → found t ≡ []
no_opening t e = before_opening t ∙ ap found (drop_of_length-le t (omega (arith, e))) ∙ nothing_found

-- ---- after a `<`

-- after a tag that was read
pub tag_found : (t : List ℕ) (o : Option (Read (List Attribute))) (n : ℕ) → Some n ≡ count_of o → values_in o ++ found (drop n t) ≡ after_tag found t o
tag_found t None n e = absurd cc
tag_found t (Some tag) n e = ap (λ (k : ℕ). values_of tag.value ++ found (drop k t)) (some_same n tag.count e)

pub comment_found : (t : List ℕ) (o : Option ℕ) → o ≡ None → up_to comment_end t ≡ o → [] ≡ after_comment found t
comment_found t o none e = sym (ap (λ (m : Option ℕ). elim m as (λ x. List (List ℕ)) [ Some n ↦ found (drop n t) | None ↦ [] ]) (e ∙ none))
