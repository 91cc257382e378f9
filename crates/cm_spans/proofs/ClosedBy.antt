-- Readers that end with one byte of ASCII.
use Rattle.std.proofs.Common.{◌≡◌, ◌∙◌, Bool, List, None, Option, Some, [], ap, arith, codes, cond, drop, false, get_or, length, refl, subst, suc, sym, true, zero, ℕ, ◌+◌, ◌-◌, ◌<◌, ◌==◌, ◌∷◌, ◌≤◌, IsUtf8, IfSome}
use Rattle.std.specs.Str.{IsCharBoundary}
use Rattle.std.proofs.lemmas.List.{drop_more, get_or-drop, length-drop}
use Rattle.cm_starts.proofs.Repeats.{Goes}
use Rattle.markdown_grammar.specs.Autolinks.{host_part, pointed}
use Rattle.site_text.specs.Bytes.{is_letter}
use Rattle.site_text.specs.Fronts.{begins_with}
use Rattle.markdown_grammar.specs.Readers.{Reader, ahead, exactly, perhaps, plus, repeat, to, white_gap, ◌or◌, ◌then◌}
use Rattle.markdown_grammar.specs.Tags.{attribute, cdata, closing_tag, comment, declaration, html_tag, instruction, open_tag, tag_name}
use Rattle.cm_links.specs.Cuts.{HasByte, IsLabelled}
use Rattle.cm_links.proofs.Boundaries.{encloses}
use Rattle.std.proofs.lemmas.Str.{IsCharBoundary-after_ascii, IsUtf8-drop}
use Rattle.cm_spans.specs.Cuts.{Ends}
use Rattle.cm_spans.proofs.Runs.{ends_ascii}

-- so many bytes and not none, the last of which is c
pub record ClosedAt (c : ℕ) (t : List ℕ) (n : ℕ) : Type 0 where
  pub some : 0 < n
  pub within : n ≤ length t
  pub last : get_or t (n - 1) 0 ≡ c

abbrev Closes : ℕ → Reader → Type 0
Closes c r = (t : List ℕ) (n : ℕ) → r t ≡ Some n → ClosedAt c t n

begins_at : (w t : List ℕ) (j : ℕ) → begins_with w t ≡ true → j < length w → (j < length t) × (get_or t j 0 ≡ get_or w j 0)
begins_at [] t j h lt = absurd (omega (arith, lt))
begins_at (d ∷ ds) [] j h lt = absurd cc
begins_at (d ∷ ds) (c ∷ cs) zero h lt = go (d == c) refl h where
  go : (b : Bool) → (d == c) ≡ b → elim b as (λ x. Bool) [ true ↦ begins_with ds cs | false ↦ false ] ≡ true → (0 < suc (length cs)) × (c ≡ d)
  go true e k = (omega arith, grind (arith, e))
  go false e k = absurd cc
begins_at (d ∷ ds) (c ∷ cs) (suc j) h lt = go (d == c) h (λ k. begins_at ds cs j k (omega (arith, lt))) where
  go : (b : Bool) → elim b as (λ x. Bool) [ true ↦ begins_with ds cs | false ↦ false ] ≡ true → (begins_with ds cs ≡ true → (j < length cs) × (get_or cs j 0 ≡ get_or ds j 0)) → (suc j < suc (length cs)) × (get_or cs j 0 ≡ get_or ds j 0)
  go true k rest = (omega (arith, (rest k).0), (rest k).1)
  go false k rest = absurd cc

pub begins_within : (w t : List ℕ) → begins_with w t ≡ true → length w ≤ length t
begins_within [] t h = omega arith
begins_within (d ∷ ds) t h = omega (arith, (begins_at (d ∷ ds) t (length ds) h (omega arith)).0)

-- a word
word_closes : (w : List ℕ) (c : ℕ) → 0 < length w → get_or w (length w - 1) 0 ≡ c → Closes c (exactly w)
word_closes w c some e t n h = go (begins_with w t) refl h where
  go : (b : Bool) → begins_with w t ≡ b → cond b (Some (length w)) None ≡ Some n → ClosedAt c t n
  go false f k = absurd cc
  go true f k =
      let size : length w ≡ n = cc in
      let last = begins_at w t (length w - 1) f (omega (arith, some)) in
      subst (ClosedAt c t) size (record { some = some; within = omega (arith, last.0, some); last = last.1 ∙ e })

plus_is : (k n : ℕ) (o : Option ℕ) → plus k o ≡ Some n → (m : ℕ) × (o ≡ Some m) × (k + m ≡ n)
plus_is k n (Some m) h = let same : k + m ≡ n = cc in (m, refl, same)
plus_is k n None h = absurd cc

abbrev then_case : (ℕ → Option ℕ) → Option ℕ → Option ℕ
then_case rest o = elim o as (λ x. Option ℕ) [ Some k ↦ plus k (rest k) | None ↦ None ]

closed_behind : (c : ℕ) (t : List ℕ) (k m n : ℕ) → ClosedAt c (drop k t) m → k + m ≡ n → ClosedAt c t n
closed_behind c t k m n h e =
    let place : k + (m - 1) ≡ n - 1 = omega (arith, h.some, e) in
    record {
      some = omega (arith, h.some, e);
      within = omega (arith, h.some, h.within, length-drop k t, e);
      last = ap (λ (j : ℕ). get_or t j 0) (sym place) ∙ sym (get_or-drop k t (m - 1) 0) ∙ h.last;
    }

then_closes : (c : ℕ) (r s : Reader) → Closes c s → Closes c (r then s)
then_closes c r s cl t n h = go (r t) h where
  go : (o : Option ℕ) → then_case (λ k. s (drop k t)) o ≡ Some n → ClosedAt c t n
  go None h = absurd cc
  go (Some k) h = let m = plus_is k n (s (drop k t)) h in closed_behind c t k m.0 n (cl (drop k t) m.0 m.1) m.2

or_closes : (c : ℕ) (r s : Reader) → Closes c r → Closes c s → Closes c (r or s)
or_closes c r s cl dl t n h = go (r t) refl h where
  go : (o : Option ℕ) → r t ≡ o → elim o as (λ x. Option ℕ) [ Some k ↦ Some k | None ↦ s t ] ≡ Some n → ClosedAt c t n
  go (Some k) e h = cl t n (e ∙ h)
  go None e h = dl t n h

to_closes : (w : List ℕ) (c : ℕ) → 0 < length w → get_or w (length w - 1) 0 ≡ c → Closes c (to w)
to_closes w c some e [] n h = absurd cc
to_closes w c some e (b ∷ bs) n h = go (begins_with w (b ∷ bs)) refl h (to_closes w c some e bs) where
  go : (x : Bool) → begins_with w (b ∷ bs) ≡ x → elim x as (λ v. Option ℕ) [ true ↦ Some (length w) | false ↦ plus 1 (to w bs) ] ≡ Some n → ((m : ℕ) → to w bs ≡ Some m → ClosedAt c bs m) → ClosedAt c (b ∷ bs) n
  go true f k rest = word_closes w c some e (b ∷ bs) n (ap (λ (v : Bool). cond v (Some (length w)) None) f ∙ k)
  go false f k rest = let m = plus_is 1 n (to w bs) k in closed_behind c (b ∷ bs) 1 m.0 n (rest m.0 m.1) m.2

gt_closes : Closes 62 (exactly (codes ">"))
gt_closes = word_closes (codes ">") 62 (omega arith) refl

open_closes : Closes 62 open_tag
open_closes =
    then_closes 62 (exactly (codes "<")) (tag_name then repeat attribute then white_gap then perhaps (exactly (codes "/")) then exactly (codes ">"))
    (then_closes 62 tag_name (repeat attribute then white_gap then perhaps (exactly (codes "/")) then exactly (codes ">"))
    (then_closes 62 (repeat attribute) (white_gap then perhaps (exactly (codes "/")) then exactly (codes ">"))
    (then_closes 62 white_gap (perhaps (exactly (codes "/")) then exactly (codes ">"))
    (then_closes 62 (perhaps (exactly (codes "/"))) (exactly (codes ">")) gt_closes))))

closing_closes : Closes 62 closing_tag
closing_closes =
    then_closes 62 (exactly (codes "</")) (tag_name then white_gap then exactly (codes ">"))
    (then_closes 62 tag_name (white_gap then exactly (codes ">"))
    (then_closes 62 white_gap (exactly (codes ">")) gt_closes))

comment_closes : Closes 62 comment
comment_closes =
    or_closes 62 (exactly (codes "<!-->")) (exactly (codes "<!--->") or (exactly (codes "<!--") then to (codes "-->")))
    (word_closes (codes "<!-->") 62 (omega arith) refl)
    (or_closes 62 (exactly (codes "<!--->")) (exactly (codes "<!--") then to (codes "-->"))
    (word_closes (codes "<!--->") 62 (omega arith) refl)
    (then_closes 62 (exactly (codes "<!--")) (to (codes "-->")) (to_closes (codes "-->") 62 (omega arith) refl)))

instruction_closes : Closes 62 instruction
instruction_closes = then_closes 62 (exactly (codes "<?")) (to (codes "?>")) (to_closes (codes "?>") 62 (omega arith) refl)

declaration_closes : Closes 62 declaration
declaration_closes =
    then_closes 62 (exactly (codes "<!")) (ahead is_letter then to (codes ">"))
    (then_closes 62 (ahead is_letter) (to (codes ">")) (to_closes (codes ">") 62 (omega arith) refl))

cdata_closes : Closes 62 cdata
cdata_closes = then_closes 62 (exactly (codes "<![CDATA[")) (to (codes "]]>")) (to_closes (codes "]]>") 62 (omega arith) refl)

html_closes : Closes 62 html_tag
html_closes =
    or_closes 62 open_tag (closing_tag or comment or instruction or declaration or cdata) open_closes
    (or_closes 62 closing_tag (comment or instruction or declaration or cdata) closing_closes
    (or_closes 62 comment (instruction or declaration or cdata) comment_closes
    (or_closes 62 instruction (declaration or cdata) instruction_closes
    (or_closes 62 declaration cdata declaration_closes cdata_closes))))

closed_ends : (c : ℕ) (t : List ℕ) (n : ℕ) → IsUtf8 t → c < 128 → ClosedAt c t n → Ends t n
closed_ends c t n u small h =
    let e : n - 1 + 1 ≡ n = omega (arith, h.some) in
    subst (Ends t) e (ends_ascii t (n - 1) u (omega (arith, h.some, h.within)) (omega (arith, h.last, small)))

pub html_ends : (t : List ℕ) (n : ℕ) → IsUtf8 t → html_tag t ≡ Some n → Ends t n
html_ends t n u h = closed_ends 62 t n u (omega arith) (html_closes t n h)

-- ---- what stands between `<` and `>`

abbrev behind_point : Reader → Reader
behind_point r = r then exactly (codes ">")

labelled_gt : (t : List ℕ) (m n : ℕ) → IsUtf8 t → IsCharBoundary t 1 → ClosedAt 62 (drop 1 t) m → 1 + m ≡ n → IsLabelled t n
labelled_gt t m n u start h e =
    let byte : HasByte 62 (drop 1 t) (n - 2) = record {
      within = omega (arith, h.some, h.within, e);
      byte = (let same : n - 2 ≡ m - 1 = omega (arith, h.some, e) in ap (λ (j : ℕ). get_or (drop 1 t) j 0) same ∙ h.last);
    } in
    let round = encloses t (n - 2) 62 (IsUtf8-drop t 1 u start) start byte (omega arith) in
    let all : n - 2 + 2 ≡ n = omega (arith, h.some, e) in
    record { some = omega (arith, h.some, e); start = start; inside = round.inside; end = subst (IsCharBoundary t) all round.end }

pub pointed_labelled : (r : Reader) (t : List ℕ) (n : ℕ) → IsUtf8 t → pointed r t ≡ Some n → IsLabelled t n
pointed_labelled r t n u h = go (begins_with (codes "<") t) refl h where
  go : (b : Bool) → begins_with (codes "<") t ≡ b → then_case (λ k. behind_point r (drop k t)) (cond b (Some 1) None) ≡ Some n → IsLabelled t n
  go false e k = absurd cc
  go true e k =
      let first = begins_at (codes "<") t 0 e (omega arith) in
      let one : 0 + 1 ≡ 1 = omega arith in
      let start = subst (IsCharBoundary t) one (IsCharBoundary-after_ascii t 0 u first.0 (omega (arith, first.1))) in
      let m = plus_is 1 n (behind_point r (drop 1 t)) k in
      labelled_gt t m.0 n u start (then_closes 62 r (exactly (codes ">")) gt_closes (drop 1 t) m.0 m.1) m.2

-- ---- searching for a word

plus_plus : (i : ℕ) (o : Option ℕ) → plus (i + 1) o ≡ plus i (plus 1 o)
plus_plus i (Some k) = ap (λ (n : ℕ). Some n) (omega arith)
plus_plus i None = refl

pub to_more : (w t rest : List ℕ) (i : ℕ) (whole : Option ℕ) → i < length t → rest ≡ drop i t → begins_with w rest ≡ false → plus i (to w (drop i t)) ≡ whole → plus (i + 1) (to w (drop (i + 1) t)) ≡ whole
to_more w t rest i whole lt d h e =
    let opened = drop_more t i 0 lt in
    let test : begins_with w (get_or t i 0 ∷ drop (i + 1) t) ≡ false = ap (begins_with w) (sym opened ∙ sym d) ∙ h in
    plus_plus i (to w (drop (i + 1) t))
    ∙ sym (ap (λ (u : List ℕ). plus i (to w u)) opened ∙ ap (λ (b : Bool). plus i (elim b as (λ v. Option ℕ) [ true ↦ Some (length w) | false ↦ plus 1 (to w (drop (i + 1) t)) ])) test) ∙ e

-- ---- `.` and a part of a host

pub point_goes : Goes (exactly (codes ".") then host_part)
point_goes t n h = go (begins_with (codes ".") t) refl h where
  go : (b : Bool) → begins_with (codes ".") t ≡ b → then_case (λ k. host_part (drop k t)) (cond b (Some 1) None) ≡ Some n → (0 < n) × (0 < length t)
  go false e k = absurd cc
  go true e k =
      let m = plus_is 1 n (host_part (drop 1 t)) k in
      (omega (arith, m.2), omega (arith, (begins_at (codes ".") t 0 e (omega arith)).0))

-- ---- what a call finds

pub html_found : (o : Option ℕ) (t : List ℕ) → IsUtf8 t → o ≡ html_tag t → IfSome o (Ends t)
html_found None t u h = tt
html_found (Some n) t u h = html_ends t n u (sym h)

pub pointed_found : (r : Reader) (o : Option ℕ) (t : List ℕ) → IsUtf8 t → o ≡ pointed r t → IfSome o (IsLabelled t)
pointed_found r None t u h = tt
pointed_found r (Some n) t u h = pointed_labelled r t n u (sym h)

pub labelled_ends : (t : List ℕ) (n : ℕ) → IsLabelled t n → Ends t n
labelled_ends t n h = record { some = omega (arith, h.some); cut = h.end }
