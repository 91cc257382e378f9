-- What holds of the sight of a site: it is lawful, and what it gives has the form of its key.
use Rattle.std.specs.Prelude.{◌≡◌, ℕ, zero, suc, ◌<◌, Bool, true, false, cond, ◌&&◌, nat_lt, List, [], ◌∷◌, slice_get, Option, Some, None, IsTrue, refl}
use Rattle.std.specs.FinMap.{get}
use Rattle.std.specs.List.{find, list_all, position}
use Rattle.std.specs.Option.{option_and_then, option_map}
use Rattle.std.specs.Str.{is_utf8}
use Rattle.std.proofs.Common.{ap, sym, ◌∙◌, subst}
use Rattle.std.proofs.lemmas.Bool.{ltb-true}
use Rattle.memo_table.specs.Names.{same_name}
use Rattle.read_record.specs.Forms.{is_fields, is_layout, is_moment, is_words, IsFormed}
use Rattle.read_record.specs.Outcomes.{is_done}
use Rattle.read_record.specs.Queries.{Reply, Known, Missing}
use Rattle.read_record.specs.Worlds.{Lawful, is_steady}
use Rattle.read_record.specs.declared.key.Key.{Key}
use Rattle.read_record.specs.declared.key.Key.TheVariants.{Source, Content, Output, Var, Paginator, SiteVar, Data, Layout, Include, File, Link, Post, Moment}
use Rattle.read_record.specs.declared.outcome.Outcome.{Outcome}
use Rattle.read_record.specs.declared.outcome.Outcome.TheVariants.{Done, Fault}
use Rattle.site_base.specs.Places.{Files}
use Rattle.site_base.specs.Plain.{Plain, nil, int, text}
use Rattle.site_base.specs.View.{plain}
use Rattle.site_items.specs.declared.layout_file.LayoutFile.{LayoutFile}
use Rattle.site_reader.specs.declared.site.Site.{Site}
use Rattle.site_reader.specs.declared.site_item.SiteItem.{SiteItem}
use Rattle.site_world.specs.Sights.{AreFormed, address, body_of, content_of, done_content, done_output, file_text, layout_value, or_nil, output_of, paginator_of, placed, site_sight}

-- outcomes that are known stay known
abbrev Grows : ℕ → (ℕ → Option Outcome) → (ℕ → Option Outcome) → Type 0
Grows reader known more = (j : ℕ) (o : Outcome) → j < reader → known j ≡ Some o → more j ≡ Some o

-- ---- a reply that rests on the outcome of an item

module _ (done : ℕ → Option Outcome → Reply) (unknown : (place : ℕ) → done place None ≡ Missing place) where
  done-grows : (place : ℕ) (known more : ℕ → Option Outcome) → ((o : Outcome) → known place ≡ Some o → more place ≡ Some o)
      → (v : Plain) (o : Option Outcome) → known place ≡ o → done place o ≡ Known v → done place (more place) ≡ Known v
  done-grows place known more grow v (Some o) e g = ap (done place) (grow o e) ∙ g
  done-grows place known more grow v None e g = let never : Missing place ≡ Known v = sym (unknown place) ∙ g in cc

  early-grows : (reader : ℕ) (known more : ℕ → Option Outcome) → Grows reader known more → (place : ℕ) (late : Reply) (v : Plain)
      → cond (nat_lt place reader) (done place (known place)) late ≡ Known v → cond (nat_lt place reader) (done place (more place)) late ≡ Known v
  early-grows reader known more grow place late v h = at (nat_lt place reader) refl h
    where
      at : (b : Bool) → nat_lt place reader ≡ b → cond b (done place (known place)) late ≡ Known v → cond b (done place (more place)) late ≡ Known v
      at true e g = done-grows place known more (λ o. grow place o (ltb-true place reader e)) v (known place) refl g
      at false e g = g

content-grows : (reader : ℕ) (known more : ℕ → Option Outcome) → Grows reader known more → (found : Option (ℕ × SiteItem)) (v : Plain) → content_of reader known found ≡ Known v → content_of reader more found ≡ Known v
content-grows reader known more grow None v h = h
content-grows reader known more grow (Some found) v h = early-grows done_content (λ place. refl) reader known more grow found.0 (Known (text found.1.body)) v h

output-grows : (reader : ℕ) (known more : ℕ → Option Outcome) → Grows reader known more → (found : Option (ℕ × SiteItem)) (v : Plain) → output_of reader known found ≡ Known v → output_of reader more found ≡ Known v
output-grows reader known more grow None v h = h
output-grows reader known more grow (Some found) v h = early-grows done_output (λ place. refl) reader known more grow found.0 (Known nil) v h

-- ---- what is missed

content-waits : (place j : ℕ) (o : Option Outcome) → done_content place o ≡ Missing j → (place ≡ j) × (is_done o ≡ false)
content-waits place j (Some (Done content output)) h = cc
content-waits place j (Some (Fault fault)) h = (cc, refl)
content-waits place j None h = (cc, refl)

output-waits : (place j : ℕ) (o : Option Outcome) → done_output place o ≡ Missing j → (place ≡ j) × (is_done o ≡ false)
output-waits place j (Some (Done content output)) h = cc
output-waits place j (Some (Fault fault)) h = (cc, refl)
output-waits place j None h = (cc, refl)

module _ (done : ℕ → Option Outcome → Reply) (waits : (place j : ℕ) (o : Option Outcome) → done place o ≡ Missing j → (place ≡ j) × (is_done o ≡ false)) where
  early-misses : (reader : ℕ) (known : ℕ → Option Outcome) (place : ℕ) (late : Plain) (j : ℕ)
      → cond (nat_lt place reader) (done place (known place)) (Known late) ≡ Missing j → (j < reader) × (is_done (known j) ≡ false)
  early-misses reader known place late j h = at (nat_lt place reader) refl h
    where
      at : (b : Bool) → nat_lt place reader ≡ b → cond b (done place (known place)) (Known late) ≡ Missing j → (j < reader) × (is_done (known j) ≡ false)
      at true e g =
          let w = waits place j (known place) g in
          let below : place < reader = ltb-true place reader e in
          (subst (λ n. n < reader) w.0 below, subst (λ n. is_done (known n) ≡ false) w.0 w.1)
      at false e g = cc

content-misses : (reader : ℕ) (known : ℕ → Option Outcome) (found : Option (ℕ × SiteItem)) (j : ℕ) → content_of reader known found ≡ Missing j → (j < reader) × (is_done (known j) ≡ false)
content-misses reader known None j h = cc
content-misses reader known (Some found) j h = early-misses done_content content-waits reader known found.0 (text found.1.body) j h

output-misses : (reader : ℕ) (known : ℕ → Option Outcome) (found : Option (ℕ × SiteItem)) (j : ℕ) → output_of reader known found ≡ Missing j → (j < reader) × (is_done (known j) ≡ false)
output-misses reader known None j h = cc
output-misses reader known (Some found) j h = early-misses done_output output-waits reader known found.0 nil j h

-- ---- the sight is lawful

sight-grows : (files : Files) (site : Site) (reader : ℕ) (known more : ℕ → Option Outcome) → Grows reader known more
    → (k : Key) (v : Plain) → site_sight files site reader known k ≡ Known v → site_sight files site reader more k ≡ Known v
sight-grows files site reader known more grow (Content name) v h = content-grows reader known more grow (placed name site.items) v h
sight-grows files site reader known more grow (Output name) v h = output-grows reader known more grow (placed name site.items) v h
sight-grows files site reader known more grow _ v h = h

sight-misses : (files : Files) (site : Site) (reader : ℕ) (known : ℕ → Option Outcome) (k : Key) (j : ℕ) → site_sight files site reader known k ≡ Missing j → (j < reader) × (is_done (known j) ≡ false)
sight-misses files site reader known (Content name) j h = content-misses reader known (placed name site.items) j h
sight-misses files site reader known (Output name) j h = output-misses reader known (placed name site.items) j h
sight-misses files site reader known _ j h = cc

sight-steady : (files : Files) (site : Site) (k : Key) → is_steady k ≡ true → (reader other : ℕ) (known more : ℕ → Option Outcome) → site_sight files site reader known k ≡ site_sight files site other more k
sight-steady files site (Content name) h reader other known more = cc
sight-steady files site (Output name) h reader other known more = cc
sight-steady files site _ h reader other known more = refl

pub sight-lawful : (files : Files) (site : Site) → Lawful (site_sight files site)
sight-lawful files site = record { grows = sight-grows files site; misses = sight-misses files site; steady = sight-steady files site }

-- ---- what it gives has its key's form

given-form : (test : Plain → Bool) (w v : Plain) → test w ≡ true → Known w ≡ Known v → IsTrue (test v)
given-form test w v t h = let e : w ≡ v = cc in ap test (sym e) ∙ t

body-form : (found : Option (ℕ × SiteItem)) → is_words (body_of found) ≡ true
body-form None = refl
body-form (Some found) = refl

content-done : (place : ℕ) (o : Option Outcome) (v : Plain) → done_content place o ≡ Known v → IsTrue (is_words v)
content-done place (Some (Done content output)) v h = given-form is_words (text content) v refl h
content-done place (Some (Fault fault)) v h = cc
content-done place None v h = cc

output-done : (place : ℕ) (o : Option Outcome) (v : Plain) → done_output place o ≡ Known v → IsTrue (is_words v)
output-done place (Some (Done content output)) v h = given-form is_words (text output) v refl h
output-done place (Some (Fault fault)) v h = cc
output-done place None v h = cc

either-form : (b : Bool) (early : Reply) (late v : Plain) → (early ≡ Known v → IsTrue (is_words v)) → is_words late ≡ true → cond b early (Known late) ≡ Known v → IsTrue (is_words v)
either-form true early late v by t h = by h
either-form false early late v by t h = given-form is_words late v t h

content-form : (reader : ℕ) (known : ℕ → Option Outcome) (found : Option (ℕ × SiteItem)) (v : Plain) → content_of reader known found ≡ Known v → IsTrue (is_words v)
content-form reader known None v h = given-form is_words nil v refl h
content-form reader known (Some found) v h =
    either-form (nat_lt found.0 reader) (done_content found.0 (known found.0)) (text found.1.body) v (content-done found.0 (known found.0) v) refl h

output-form : (reader : ℕ) (known : ℕ → Option Outcome) (found : Option (ℕ × SiteItem)) (v : Plain) → output_of reader known found ≡ Known v → IsTrue (is_words v)
output-form reader known None v h = given-form is_words nil v refl h
output-form reader known (Some found) v h =
    either-form (nat_lt found.0 reader) (done_output found.0 (known found.0)) nil v (output-done found.0 (known found.0) v) refl h

and-first : (s t : Bool) → (s && t) ≡ true → s ≡ true
and-first true t h = refl
and-first false t h = h

and-second : (s t : Bool) → (s && t) ≡ true → t ≡ true
and-second true t h = h
and-second false t h = cc

passes-at : {X : Type 0} (test : X → Bool) (xs : List X) → list_all test xs ≡ true → (i : ℕ) (x : X) → slice_get xs i ≡ Some x → test x ≡ true
passes-at test [] h i x e = cc
passes-at test (y ∷ xs) h zero x e = let one : y ≡ x = cc in ap test (sym one) ∙ and-first (test y) (list_all test xs) h
passes-at test (y ∷ xs) h (suc i) x e = passes-at test xs (and-second (test y) (list_all test xs) h) i x e

paginator-form : (items : List SiteItem) → list_all (λ item. is_fields (plain item.paginator)) items ≡ true → (place : Option ℕ)
    → is_fields (paginator_of (option_and_then (λ place. option_map (λ (item : SiteItem). (place, item)) (slice_get items place)) place)) ≡ true
paginator-form items h None = refl
paginator-form items h (Some place) = at (slice_get items place) refl
  where
    at : (o : Option SiteItem) → slice_get items place ≡ o → is_fields (paginator_of (option_map (λ (item : SiteItem). (place, item)) o)) ≡ true
    at None e = refl
    at (Some item) e = passes-at (λ (item : SiteItem). is_fields (plain item.paginator)) items h place item e

layout-form : (test : LayoutFile → Bool) (layouts : List LayoutFile) → list_all (λ layout. is_layout (layout_value layout)) layouts ≡ true → is_layout (or_nil (option_map layout_value (find test layouts))) ≡ true
layout-form test [] h = refl
layout-form test (l ∷ ls) h =
    elim (test l) as (λ b. is_layout (or_nil (option_map layout_value (cond b (Some l) (find test ls)))) ≡ true) [
      | true ↦ and-first (is_layout (layout_value l)) (list_all (λ layout. is_layout (layout_value layout)) ls) h
      | false ↦ layout-form test ls (and-second (is_layout (layout_value l)) (list_all (λ layout. is_layout (layout_value layout)) ls) h)
    ]

text-form : {X : Type 0} (words : X → List ℕ) (o : Option X) → is_words (or_nil (option_map (λ x. text (words x)) o)) ≡ true
text-form words None = refl
text-form words (Some x) = refl

address-form : (o : Option (List ℕ)) → is_words (address o) ≡ true
address-form None = refl
address-form (Some url) = refl

file-form : (o : Option (List ℕ)) → is_words (file_text o) ≡ true
file-form None = refl
file-form (Some bytes) = elim (is_utf8 bytes) as (λ b. is_words (cond b (text bytes) nil) ≡ true) [ true ↦ refl | false ↦ refl ]

pub sight-formed : (files : Files) (site : Site) → AreFormed site → (reader : ℕ) (known : ℕ → Option Outcome) → IsFormed (site_sight files site reader known)
sight-formed files site forms reader known (Source name) v h = given-form is_words (body_of (placed name site.items)) v (body-form (placed name site.items)) h
sight-formed files site forms reader known (Content name) v h = content-form reader known (placed name site.items) v h
sight-formed files site forms reader known (Output name) v h = output-form reader known (placed name site.items) v h
sight-formed files site forms reader known (Var name x) v h = refl
sight-formed files site forms reader known (Paginator name) v h =
    given-form is_fields (paginator_of (placed name site.items)) v (paginator-form site.items forms.paginators (position (λ item. same_name item.name name) site.items)) h
sight-formed files site forms reader known (SiteVar x) v h = refl
sight-formed files site forms reader known (Data keys) v h = refl
sight-formed files site forms reader known (Layout x) v h = given-form is_layout _ v (layout-form _ site.layouts forms.layouts) h
sight-formed files site forms reader known (Include x) v h = given-form is_words _ v (text-form (λ include. include.body) _) h
sight-formed files site forms reader known (File path) v h = given-form is_words (file_text (get files path)) v (file-form (get files path)) h
sight-formed files site forms reader known (Link path) v h = given-form is_words _ v (address-form _) h
sight-formed files site forms reader known (Post x) v h = given-form is_words _ v (address-form _) h
sight-formed files site forms reader known Moment v h = given-form is_moment (int site.moment) v forms.moment h
