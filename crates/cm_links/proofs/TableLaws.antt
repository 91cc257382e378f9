-- The first place of a key, and the definition there.
use Rattle.std.proofs.Common.{◌≡◌, ◌∙◌, ap, sym, subst, refl, ℕ, suc, ◌<◌, Bool, true, false, cond, ◌==◌, List, [], ◌∷◌, ◌++◌, length, map, get_or, Option, Some, None, is_some, option_map, String, HashMap, chars, IsUtf8, encode_utf8_all, arith}
use Rattle.std.specs.HashMap.{IsEmpty, get_by_text}
use Rattle.std.specs.Map.{update}
use Rattle.std.specs.Str.{bytes_eq}
use Rattle.std.specs.Cmp.Lexicographic.{bytes_decides}
use Rattle.std.proofs.lemmas.List.{get_or-map, length-map, map-append}
use Rattle.std.proofs.lemmas.Str.{chars_from_encodes, encodes-chars}
use Rattle.markdown_grammar.specs.Definitions.{Definition, Target, look_up}
use Rattle.markdown_grammar.specs.Fronts.{same_bytes, ◌orelse◌}
use Rattle.markdown_grammar.specs.Labels.{label_key}
use Rattle.cm_links.specs.Table.{IsIndex, NotesFirst, SamePlaces, definition_of, first_place, target}
use Rattle.cm_links.specs.declared.definitions.LinkDef.{LinkDef}

-- ---- texts with the same bytes

same_refl : (xs : List ℕ) → same_bytes xs xs ≡ true
same_refl [] = refl
same_refl (x ∷ xs) =
    let e : (x == x) ≡ true = grind arith in
    ap (λ (b : Bool). elim b as (λ v. Bool) [ true ↦ same_bytes xs xs | false ↦ false ]) e ∙ same_refl xs

same_is : (xs ys : List ℕ) → same_bytes xs ys ≡ true → xs ≡ ys
same_is [] [] h = refl
same_is [] (y ∷ ys) h = absurd cc
same_is (x ∷ xs) [] h = absurd cc
same_is (x ∷ xs) (y ∷ ys) h = go (x == y) refl h (same_is xs ys) where
  go : (b : Bool) → (x == y) ≡ b → elim b as (λ v. Bool) [ true ↦ same_bytes xs ys | false ↦ false ] ≡ true → (same_bytes xs ys ≡ true → xs ≡ ys) → x ∷ xs ≡ y ∷ ys
  go true e k rest = let heads : x ≡ y = grind arith in let tails = rest k in cc
  go false e k rest = absurd cc

-- keys are the same where their texts are
same_test : (key q : List ℕ) → IsUtf8 key → IsUtf8 q → same_bytes (chars key) (chars q) ≡ bytes_eq key q
same_test key q u v = go (bytes_eq key q) (same_bytes (chars key) (chars q)) refl refl where
  go : (a b : Bool) → bytes_eq key q ≡ a → same_bytes (chars key) (chars q) ≡ b → b ≡ a
  go true true e f = refl
  go false false e f = refl
  go true false e f = let same = (bytes_decides key q).0 e in absurd (let k : same_bytes (chars key) (chars q) ≡ true = ap (λ t. same_bytes (chars key) (chars t)) (sym same) ∙ same_refl (chars key) in cc)
  go false true e f =
      let same = same_is (chars key) (chars q) f in
      let texts : key ≡ q = sym (encodes-chars key u) ∙ ap encode_utf8_all same ∙ encodes-chars q v in
      absurd (let k : bytes_eq key q ≡ true = (bytes_decides key q).1 texts in cc)

-- ---- the first place of a key

first_more : (key : List ℕ) (ds : List Definition) (d : Definition) → first_place key (ds ++ d ∷ []) ≡ (first_place key ds orelse cond (same_bytes (label_key d.name) key) (Some (length ds)) None)
first_more key [] d = go (same_bytes (label_key d.name) key) where
  go : (b : Bool) → elim b as (λ v. Option ℕ) [ true ↦ Some 0 | false ↦ None ] ≡ cond b (Some 0) None
  go true = refl
  go false = refl
first_more key (e ∷ ds) d = go (same_bytes (label_key e.name) key) (first_place key ds) (same_bytes (label_key d.name) key) (first_more key ds d) where
  go : (b : Bool) (o : Option ℕ) (t : Bool) → first_place key (ds ++ d ∷ []) ≡ (o orelse cond t (Some (length ds)) None)
      → elim b as (λ v. Option ℕ) [ true ↦ Some 0 | false ↦ option_map suc (first_place key (ds ++ d ∷ [])) ] ≡ (elim b as (λ v. Option ℕ) [ true ↦ Some 0 | false ↦ option_map suc o ] orelse cond t (Some (suc (length ds))) None)
  go true o t h = refl
  go false (Some i) t h = ap (option_map suc) h
  go false None true h = ap (option_map suc) h
  go false None false h = ap (option_map suc) h

pub record StandsAt (key : List ℕ) (ds : List Definition) (i : ℕ) : Type 0 where
  pub within : i < length ds
  pub found : (d : Definition) → look_up key ds ≡ Some ((get_or ds i d).url, (get_or ds i d).title)

abbrev found_place : ℕ → Option ℕ
found_place i = Some i

stands_at : (key : List ℕ) (ds : List Definition) (i : ℕ) → first_place key ds ≡ Some i → StandsAt key ds i
stands_at key [] i h = absurd cc
stands_at key (d ∷ ds) i h = go (same_bytes (label_key d.name) key) refl (first_place key ds) refl (stands_at key ds) h where
  go : (b : Bool) → same_bytes (label_key d.name) key ≡ b → (o : Option ℕ) → first_place key ds ≡ o → ((j : ℕ) → first_place key ds ≡ Some j → StandsAt key ds j) → elim b as (λ v. Option ℕ) [ true ↦ Some 0 | false ↦ option_map suc o ] ≡ Some i → StandsAt key (d ∷ ds) i
  go true e o f rest k =
      let zeroth : 0 ≡ i = cc in
      subst (StandsAt key (d ∷ ds)) zeroth
      (record { within = omega arith; found = λ x. ap (λ (b : Bool). elim b as (λ v. Option Target) [ true ↦ Some (d.url, d.title) | false ↦ look_up key ds ]) e })
  go false e (Some j) f rest k =
      let next : suc j ≡ i = cc in
      let inner = rest j f in
      subst (StandsAt key (d ∷ ds)) next
      (record { within = omega (arith, inner.within); found = λ x. ap (λ (b : Bool). elim b as (λ v. Option Target) [ true ↦ Some (d.url, d.title) | false ↦ look_up key ds ]) e ∙ inner.found x })
  go false e None f rest k = absurd cc

not_there : (key : List ℕ) (ds : List Definition) → first_place key ds ≡ None → look_up key ds ≡ None
not_there key [] h = refl
not_there key (d ∷ ds) h = go (same_bytes (label_key d.name) key) (first_place key ds) refl (not_there key ds) h where
  go : (b : Bool) (o : Option ℕ) → first_place key ds ≡ o → (first_place key ds ≡ None → look_up key ds ≡ None) → elim b as (λ v. Option ℕ) [ true ↦ Some 0 | false ↦ option_map suc o ] ≡ None → elim b as (λ v. Option Target) [ true ↦ Some (d.url, d.title) | false ↦ look_up key ds ] ≡ None
  go true o f rest k = absurd cc
  go false (Some j) f rest k = absurd cc
  go false None f rest k = rest f

-- ---- the table

absent_at : (b : Bool) (old o : Option ℕ) → (b ≡ true → old ≡ None) → cond b o old ≡ (old orelse cond b o None)
absent_at true old o h = rw (h refl) refl
absent_at false (Some i) o h = refl
absent_at false None o h = refl

pub none_there : (o : Option ℕ) (b : Bool) → b ≡ is_some o → b ≡ false → o ≡ None
none_there None b e f = refl
none_there (Some i) b e f = absurd cc

module _ {Y S : Type 0} where
  pub index_of_none : (m : HashMap (String Y) ℕ S) → IsEmpty m → IsIndex m []
  index_of_none m e q u = rw e refl

  pub index_more : (old new : HashMap (String Y) ℕ S) (ds : List LinkDef) (d : LinkDef) (key : List ℕ) → IsUtf8 key → key ≡ encode_utf8_all (label_key d.label)
      → IsIndex old (map definition_of ds) → NotesFirst old new key (length ds) → IsIndex new (map definition_of (ds ++ d ∷ []))
  index_more old new ds d key u e had noted q v =
      let spelt : label_key d.label ≡ chars key = chars_from_encodes (label_key d.label) key u (sym e) in
      let test : same_bytes (label_key d.label) (chars q) ≡ bytes_eq key q = ap (λ k. same_bytes k (chars q)) spelt ∙ same_test key q u v in
      let P : List Definition → Type 0 = λ all. get_by_text new q ≡ first_place (chars q) all in
      subst P (sym (map-append definition_of ds (d ∷ [])))
      (noted q ∙ ap (λ o. o orelse cond (bytes_eq key q) (Some (length ds)) None) (had q v)
      ∙ ap (λ b. first_place (chars q) (map definition_of ds) orelse cond b (Some (length ds)) None) (sym test)
      ∙ ap (λ n. first_place (chars q) (map definition_of ds) orelse cond (same_bytes (label_key d.label) (chars q)) (Some n) None) (sym (length-map ds definition_of))
      ∙ sym (first_more (chars q) (map definition_of ds) (definition_of d)))

  pub index_same : (old new : HashMap (String Y) ℕ S) (ds : List Definition) → IsIndex old ds → SamePlaces old new → IsIndex new ds
  index_same old new ds had same q v = same q ∙ had q v

  place_of : (m : HashMap (String Y) ℕ S) (ds : List LinkDef) (label key : List ℕ) (o : Option ℕ) → IsUtf8 key → key ≡ encode_utf8_all (label_key label)
      → IsIndex m (map definition_of ds) → get_by_text m key ≡ o → first_place (label_key label) (map definition_of ds) ≡ o
  place_of m ds label key o u e had h =
      ap (λ k. first_place k (map definition_of ds)) (chars_from_encodes (label_key label) key u (sym e)) ∙ sym (had key u) ∙ h

  pub place_within : (m : HashMap (String Y) ℕ S) (ds : List LinkDef) (label key : List ℕ) (i : ℕ) → IsUtf8 key → key ≡ encode_utf8_all (label_key label)
      → IsIndex m (map definition_of ds) → get_by_text m key ≡ Some i → i < length ds
  place_within m ds label key i u e had h =
      omega (arith, (stands_at (label_key label) (map definition_of ds) i (place_of m ds label key (Some i) u e had h)).within, length-map ds definition_of)

  pub found_there : (m : HashMap (String Y) ℕ S) (ds : List LinkDef) (label key : List ℕ) (i : ℕ) (d : LinkDef) → IsUtf8 key → key ≡ encode_utf8_all (label_key label)
      → IsIndex m (map definition_of ds) → get_by_text m key ≡ Some i → d ≡ get_or ds i d → Some (target d) ≡ look_up (label_key label) (map definition_of ds)
  found_there m ds label key i d u e had h is =
      let at = stands_at (label_key label) (map definition_of ds) i (place_of m ds label key (Some i) u e had h) in
      let lt : i < length ds = place_within m ds label key i u e had h in
      ap (λ x. Some (target x)) is
      ∙ ap (λ (x : Definition). Some (x.url, x.title)) (sym (get_or-map definition_of ds i d (definition_of d) lt))
      ∙ sym (at.found (definition_of d))

  pub found_nowhere : (m : HashMap (String Y) ℕ S) (ds : List LinkDef) (label key : List ℕ) → IsUtf8 key → key ≡ encode_utf8_all (label_key label)
      → IsIndex m (map definition_of ds) → get_by_text m key ≡ None → None ≡ look_up (label_key label) (map definition_of ds)
  found_nowhere m ds label key u e had h = sym (not_there (label_key label) (map definition_of ds) (place_of m ds label key None u e had h))

  pub first_noted : (old new : HashMap (String Y) ℕ S) (key : List ℕ) (place : ℕ) → get_by_text old key ≡ None
      → ((q : List ℕ) → get_by_text new q ≡ update bytes_eq (get_by_text old) key (Some place) q) → NotesFirst old new key place
  first_noted old new key place none sets q =
      sets q ∙ absent_at (bytes_eq key q) (get_by_text old q) (Some place) (λ e. ap (get_by_text old) (sym ((bytes_decides key q).0 e)) ∙ none)
