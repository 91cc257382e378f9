-- The names of one collection more.
use Rattle.std.proofs.Common.{◌≡◌, ℕ, Bool, true, false, cond, ◌||◌, List, [], ◌∷◌, ◌++◌, String, refl, sym, ap, ◌∙◌, rules}
use Rattle.std.specs.Str.{bytes_eq}
use Rattle.std.specs.Cmp.Lexicographic.{slice_cmp}
use Rattle.std.specs.Ordering.{nat_cmp}
use Rattle.std.specs.String.{string_bytes, string_cmp}
use Rattle.std.specs.declared.alloc.Global.{Global}
use Rattle.std.specs.BTreeSet.{BTreeSet, UpdatesBy}
use Rattle.std.proofs.lemmas.List.Folds.{list_any-append}
use Rattle.std.proofs.lemmas.Map.Text.{btree_set_updates_text}
use Rattle.std.proofs.lemmas.Slice.Eq.{bytes_eq-Decides}
use Rattle.site_config.specs.declared.collection.Collection.{Collection}
use Rattle.site_config.specs.Config.{is_named}
use Rattle.site_config.specs.Seen.{HasNames}

same_text : (x y : List ℕ) → bytes_eq x y ≡ true → x ≡ y
same_text x y e = search (rules, bytes_eq-Decides)

equal_text : (x y : List ℕ) → x ≡ y → bytes_eq x y ≡ true
equal_text x y e = search (rules, bytes_eq-Decides)

turned : (x y : List ℕ) (a b : Bool) → bytes_eq x y ≡ a → bytes_eq y x ≡ b → a ≡ b
turned x y true true e f = refl
turned x y true false e f = absurd (let g = equal_text y x (sym (same_text x y e)) in cc)
turned x y false true e f = absurd (let g = equal_text x y (sym (same_text y x f)) in cc)
turned x y false false e f = refl

either : (a b c : Bool) → a ≡ c → cond a true b ≡ (b || (c || false))
either true true c e = refl
either true false c e = rw (sym e) refl
either false true c e = refl
either false false c e = rw (sym e) refl

pub names_more : (s n : BTreeSet (String Global)) (cs : List Collection) (c : Collection) (name : List ℕ) → name ≡ c.name
    → UpdatesBy string_cmp (λ k. slice_cmp nat_cmp name (string_bytes k)) s n true → HasNames s cs → HasNames n (cs ++ c ∷ [])
names_more s n cs c name is u h = λ q.
    btree_set_updates_text name s n true u q
    ∙ ap (cond (bytes_eq name q) true) (h q)
    ∙ either (bytes_eq name q) (is_named q cs) (bytes_eq q c.name) (turned name q (bytes_eq name q) (bytes_eq q name) refl refl ∙ ap (bytes_eq q) is)
    ∙ sym (list_any-append (λ d. bytes_eq q d.name) cs (c ∷ []))
