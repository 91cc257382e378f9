-- Escaped texts and dates, as filters make them and as the feed has them.
use Rattle.std.proofs.Common.{◌≡◌, ◌∙◌, refl, ap, ℕ, zero, ◌+◌, ◌≤◌, ◌==◌, nat_lt, ℤ, Bool, true, false, List, [], ◌∷◌, ◌++◌, length, length-append, append-nil, arith, codes, if◌then◌else◌, Some, None, Ok}
use Rattle.site_base.specs.Plain.{text}
use Rattle.filter_base.specs.Dates.{formatted, if_text}
use Rattle.jekyll_filters.specs.Dates.{pattern_of}
use Rattle.jekyll_filters.specs.declared.dates.DateFilter.TheVariants.{DateToXmlschema}
use Rattle.site_dates.specs.Format.{pattern_text, is_percent}
use Rattle.std.specs.List.{slice_split}
use Rattle.site_dates.specs.Shown.{Shown, local_time}
use Rattle.text_filters.specs.Marks.{marked, marked_after, single}
use Rattle.text_filters.specs.declared.marks.Mark.TheVariants.{EscapeXml}
use Rattle.feed_pages.specs.Feed.{escaped, escaped_byte, shown_time, moment_text}

-- ---- Escapes

lasts : (c : ℕ) (cs : List ℕ) (amp less more quote : Bool) →
    elim (single (if amp then Some (codes "&amp;") else if less then Some (codes "&lt;") else if more then Some (codes "&gt;") else if quote then Some (codes "&quot;") else None))
    [ None ↦ c ∷ marked_after EscapeXml zero cs | Some found ↦ found.1 ++ marked_after EscapeXml found.0 cs ]
    ≡ (if amp then codes "&amp;" else if less then codes "&lt;" else if more then codes "&gt;" else if quote then codes "&quot;" else c ∷ []) ++ marked_after EscapeXml zero cs
lasts c cs true less more quote = refl
lasts c cs false true more quote = refl
lasts c cs false false true quote = refl
lasts c cs false false false true = refl
lasts c cs false false false false = refl

byte_escaped : (c : ℕ) (cs : List ℕ) → marked_after EscapeXml zero (c ∷ cs) ≡ escaped_byte c ++ marked_after EscapeXml zero cs
unfolding marked_after
byte_escaped c cs = go (c == 39) refl
  where
    go : (b : Bool) → (c == 39) ≡ b →
        elim (if b then None else single (if c == 38 then Some (codes "&amp;") else if c == 60 then Some (codes "&lt;") else if c == 62 then Some (codes "&gt;") else if c == 34 then Some (codes "&quot;") else if b then Some (codes "&#39;") else None))
        [ None ↦ c ∷ marked_after EscapeXml zero cs | Some found ↦ found.1 ++ marked_after EscapeXml found.0 cs ]
        ≡ escaped_byte c ++ marked_after EscapeXml zero cs
    go true e = let same : c ≡ 39 = grind arith in rw same refl
    go false e = lasts c cs (c == 38) (c == 60) (c == 62) (c == 34)

pub escaped_is : (t : List ℕ) → marked EscapeXml t ≡ escaped t
unfolding marked_after
escaped_is [] = refl
escaped_is (c ∷ cs) = byte_escaped c cs ∙ ap (λ u. escaped_byte c ++ u) (escaped_is cs)

byte_some : (c : ℕ) → 1 ≤ length (escaped_byte c)
byte_some c = go (c == 38) (c == 60) (c == 62) (c == 34)
  where
    go : (amp less more quote : Bool) → 1 ≤ length (if amp then codes "&amp;" else if less then codes "&lt;" else if more then codes "&gt;" else if quote then codes "&quot;" else c ∷ [])
    go true less more quote = omega arith
    go false true more quote = omega arith
    go false false true quote = omega arith
    go false false false true = omega arith
    go false false false false = omega arith

-- an escaped text is no shorter
pub escaped_longer : (t : List ℕ) → length t ≤ length (escaped t)
escaped_longer [] = omega arith
escaped_longer (c ∷ cs) =
    let more = escaped_longer cs in
    let some = byte_some c in
    let len : length (escaped (c ∷ cs)) ≡ length (escaped_byte c) + length (escaped cs) = length-append (escaped_byte c) (escaped cs) in
    omega (arith, more, some, len)

-- ---- Lengths

pub lt_more : (m a b : ℕ) → nat_lt m b ≡ true → nat_lt m (a + b) ≡ true
lt_more m a b h = grind arith

pub lt_wider : (m a b : ℕ) → a ≤ b → nat_lt m a ≡ true → nat_lt m b ≡ true
lt_wider m a b le h = grind arith

-- ---- Dates

shown_by_pattern : (t : Shown) → pattern_text t (slice_split is_percent (codes "%Y-%m-%dT%H:%M:%S%:z")) ≡ Some (shown_time t)
shown_by_pattern t = simp append-nil

pub date_formatted : (offset moment : ℤ) → formatted (pattern_of DateToXmlschema) offset moment ≡ Ok (text (moment_text offset moment))
unfolding formatted
date_formatted offset moment = ap if_text (shown_by_pattern (local_time moment offset))
