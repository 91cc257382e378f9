-- What a reader finds in a sitemap, and that there is no `{` in it.
use Rattle.std.proofs.Common.{◌≡◌, ◌∙◌, refl, ap, sym, ℕ, ◌==◌, nat_lt, ◌+◌, ◌<◌, ◌/◌, ◌%◌, Bool, true, false, ◌||◌, List, [], ◌∷◌, ◌++◌, append_assoc, arith, drop, flat_map, codes, if◌then◌else◌, IfOk, OnOk, Result, Ok, Err, true≢false}
use Rattle.std.proofs.lemmas.List.Folds.{list_any-append}
use Rattle.std.specs.List.{list_any}
use Rattle.permalinks.specs.Addresses.{behind_slash}
use Rattle.site_text.specs.Fronts.{begins_with}
use Rattle.site_text.specs.Urls.{escaped_byte, hex_digit, percent_byte, stands_in_urls, url_byte, url_text}
use Rattle.feed_pages.specs.Located.{before_tag, has_brace, located}
use Rattle.feed_pages.specs.Sitemap.{address_of, addresses, sitemap, url_line}
use Rattle.feed_pages.specs.declared.sitemap.MapPage.{MapPage}

neither : (a b : Bool) → a ≡ false → b ≡ false → (a || b) ≡ false
neither true b h g = h
neither false b h g = g

not_first : (a b : Bool) → (a || b) ≡ false → a ≡ false
not_first true b h = h
not_first false b h = refl

not_second : (a b : Bool) → (a || b) ≡ false → b ≡ false
not_second true b h = absurd cc
not_second false b h = h

-- ---- No `<` stands in an address

abbrev has_tag : List ℕ → Bool
has_tag t = list_any (λ c. c == 60) t

digit_no_tag : (d : ℕ) → (hex_digit d == 60) ≡ false
digit_no_tag d = go (nat_lt d 10) refl where
  go : (b : Bool) → nat_lt d 10 ≡ b → ((if b then 48 + d else 55 + d) == 60) ≡ false
  go true e = grind (arith, e)
  go false e = grind (arith, e)

byte_no_tag : (c : ℕ) → has_tag (url_byte c) ≡ false
byte_no_tag c = go (stands_in_urls c) where
  itself : (a b d e : Bool) → (c == 60) ≡ b → has_tag (if a then codes "&amp;" else if b then codes "&lt;" else if d then codes "&gt;" else if e then codes "&quot;" else c ∷ []) ≡ false
  itself true b d e is = refl
  itself false true d e is = refl
  itself false false true e is = refl
  itself false false false true is = refl
  itself false false false false is = neither (c == 60) false is refl

  go : (b : Bool) → has_tag (if b then escaped_byte c else percent_byte c) ≡ false
  go true = itself (c == 38) (c == 60) (c == 62) (c == 34) refl
  go false = neither _ _ (digit_no_tag (c / 16 % 16)) (neither _ _ (digit_no_tag (c % 16)) refl)

text_no_tag : (t : List ℕ) → has_tag (url_text t) ≡ false
text_no_tag [] = refl
text_no_tag (c ∷ cs) = list_any-append (λ d. d == 60) (url_byte c) (url_text cs) ∙ neither _ _ (byte_no_tag c) (text_no_tag cs)

-- ---- So a reader finds the addresses

located_past : (t rest : List ℕ) → has_tag t ≡ false → located (t ++ rest) ≡ located rest
located_past [] rest h = refl
located_past (c ∷ cs) rest h =
    let first : (c == 60) ≡ false = not_first (c == 60) _ h in
    let other : (60 == c) ≡ false = grind (arith, first) in
    let text : List ℕ = cs ++ rest in
    ap (λ (b : Bool). if elim b as (λ x. Bool) [ true ↦ begins_with (codes "loc>") text | false ↦ false ] then before_tag (drop 4 text) ∷ located text else located text) other
    ∙ located_past cs rest (not_second (c == 60) _ h)

before_its_tag : (t rest : List ℕ) → has_tag t ≡ false → before_tag (t ++ 60 ∷ rest) ≡ t
before_its_tag [] rest h = refl
before_its_tag (c ∷ cs) rest h =
    ap (λ (b : Bool). if b then [] else c ∷ before_tag (cs ++ 60 ∷ rest)) (not_first (c == 60) _ h)
    ∙ ap (λ (t : List ℕ). c ∷ t) (before_its_tag cs rest (not_second (c == 60) _ h))

line_located : (t rest : List ℕ) → has_tag t ≡ false → located (url_line t ++ rest) ≡ t ∷ located rest
line_located t rest h =
    let end : List ℕ = codes "</loc></url>\n" in
    ap (λ (u : List ℕ). before_tag u ∷ located u) (append_assoc t end rest)
    ∙ ap (λ (u : List ℕ). u ∷ located (t ++ (end ++ rest))) (before_its_tag t (codes "/loc></url>\n" ++ rest) h)
    ∙ ap (λ (us : List (List ℕ)). t ∷ us) (located_past t (end ++ rest) h)

lines_located : (base : List ℕ) (pages : List MapPage) → located (flat_map url_line (addresses base pages) ++ codes "</urlset>\n") ≡ addresses base pages
lines_located base [] = refl
lines_located base (page ∷ pages) =
    let address = address_of base page in
    ap (λ (t : List ℕ). located t) (append_assoc (url_line address) (flat_map url_line (addresses base pages)) (codes "</urlset>\n"))
    ∙ line_located address _ (text_no_tag (base ++ behind_slash page.url))
    ∙ ap (λ (us : List (List ℕ)). address ∷ us) (lines_located base pages)

pub sitemap_located : (base : List ℕ) (pages : List MapPage) → located (sitemap base pages) ≡ addresses base pages
sitemap_located base pages = lines_located base pages

-- ---- No `{` is written

braces_kept : (old new piece : List ℕ) → new ≡ old ++ piece → has_brace piece ≡ false → has_brace new ≡ has_brace old
braces_kept old new piece e h =
    ap (λ (t : List ℕ). has_brace t) e ∙ list_any-append (λ c. c == 123) old piece ∙ or_false (has_brace old) (has_brace piece) h
  where
    or_false : (a b : Bool) → b ≡ false → (a || b) ≡ a
    or_false true b h = refl
    or_false false b h = h

digit_no_brace : (d : ℕ) → d < 16 → (hex_digit d == 123) ≡ false
digit_no_brace d lt = go (nat_lt d 10) where
  go : (b : Bool) → ((if b then 48 + d else 55 + d) == 123) ≡ false
  go true = grind arith
  go false = grind arith

percent_no_brace : (c : ℕ) → has_brace (percent_byte c) ≡ false
percent_no_brace c = neither _ _ (digit_no_brace (c / 16 % 16) (omega arith)) (neither _ _ (digit_no_brace (c % 16) (omega arith)) refl)

standing : (c : ℕ) → stands_in_urls c ≡ true → (c == 123) ≡ false
standing c h = go (c == 123) refl where
  go : (b : Bool) → (c == 123) ≡ b → (c == 123) ≡ false
  go false e = e
  go true e = let is : c ≡ 123 = grind (arith, e) in absurd (true≢false (sym (sym (ap (λ (d : ℕ). stands_in_urls d) is) ∙ h)))

pub byte_no_brace : (c : ℕ) → has_brace (url_byte c) ≡ false
byte_no_brace c = go (stands_in_urls c) refl where
  itself : (a b d e : Bool) → (c == 123) ≡ false → has_brace (if a then codes "&amp;" else if b then codes "&lt;" else if d then codes "&gt;" else if e then codes "&quot;" else c ∷ []) ≡ false
  itself true b d e h = refl
  itself false true d e h = refl
  itself false false true e h = refl
  itself false false false true h = refl
  itself false false false false h = neither (c == 123) false h refl

  go : (b : Bool) → stands_in_urls c ≡ b → has_brace (if b then escaped_byte c else percent_byte c) ≡ false
  go true h = itself (c == 38) (c == 60) (c == 62) (c == 34) (standing c h)
  go false h = percent_no_brace c

pub byte_keeps_braces : (old new : List ℕ) (c : ℕ) → new ≡ old ++ url_byte c → has_brace new ≡ has_brace old
byte_keeps_braces old new c e = braces_kept old new (url_byte c) e (byte_no_brace c)

-- ---- What is said of a result

pub for_ok : {X E P Q : Type 0} (r : Result X E) → (P → Q) → OnOk r P → OnOk r Q
for_ok (Ok x) f h = f h
for_ok (Err e) f h = h

pub for_made : {X E : Type 0} {P Q : X → Type 0} (r : Result X E) → ((x : X) → P x → Q x) → IfOk r P → IfOk r Q
for_made (Ok x) f h = f x h
for_made (Err e) f h = h
