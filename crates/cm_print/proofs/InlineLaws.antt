-- What the tokens of inlines print is the HTML of the inlines.
use Rattle.std.proofs.Common.{◌≡◌, ◌∙◌, ap, sym, refl, ℕ, suc, List, ◌∷◌, ◌++◌, append_assoc}
use Rattle.std.specs.Prelude.{Option, codes}
use Rattle.std.proofs.lemmas.Grind.{flat_map-append}
use Rattle.site_text.specs.Bytes.{line_feed}
use Rattle.markdown_grammar.specs.Escaping.{escaped, title_text}
use Rattle.site_text.specs.Urls.{escaped_byte, url_text}
use Rattle.markdown_grammar.specs.InlineHtml.{alt, inline_html}
use Rattle.markdown_grammar.specs.Inlines.{Inlines, code_span, emphasis, hard_break, image, link, no_inlines, raw_html, soft_break, strong, textual}
use Rattle.cm_inlines.specs.Tokens.{Token, close_emphasis, close_image, close_link, close_strong, tokens}
use Rattle.cm_print.specs.InlineTokens.{Place, described, outside, printed}

both : (a b : List ℕ) → escaped (a ++ b) ≡ escaped a ++ escaped b
both a b = flat_map-append escaped_byte a b

-- ---- in a description

-- what inlines print at a place, whatever follows
abbrev Shows : Place → Inlines → List ℕ → Type 0
Shows place xs text = (ts : List Token) → printed place (tokens xs ++ ts) ≡ text ++ printed place ts

-- one text behind another
joined : (place : Place) (text a b : List ℕ) (ts us : List Token) → printed place us ≡ b ++ printed place ts → a ++ b ≡ text → a ++ printed place us ≡ text ++ printed place ts
joined place text a b ts us h e = ap (λ t. a ++ t) h ∙ sym (append_assoc a b (printed place ts)) ∙ ap (λ t. t ++ printed place ts) e

-- inlines between two tokens of which the second prints nothing
around : (place : Place) (body rest : Inlines) (close : Token) (b r : List ℕ) → ((ts : List Token) → printed place (close ∷ ts) ≡ printed place ts) → Shows place body b → Shows place rest r
    → (ts : List Token) → printed place ((tokens body ++ close ∷ tokens rest) ++ ts) ≡ (b ++ r) ++ printed place ts
around place body rest close b r quiet hb hr ts =
    ap (printed place) (append_assoc (tokens body) (close ∷ tokens rest) ts) ∙ hb (close ∷ (tokens rest ++ ts))
    ∙ joined place (b ++ r) b r ts (close ∷ (tokens rest ++ ts)) (quiet (tokens rest ++ ts) ∙ hr ts) refl

-- in a description the tokens print its plain text
inside : (title : Option (List ℕ)) (images : ℕ) (xs : Inlines) → Shows (described title images) xs (escaped (alt xs))
inside title images no_inlines ts = refl
inside title images (textual b rest) ts = joined (described title images) _ (escaped b) (escaped (alt rest)) ts (tokens rest ++ ts) (inside title images rest ts) (sym (both b (alt rest)))
inside title images (soft_break rest) ts = ap (λ t. line_feed ∷ t) (inside title images rest ts)
inside title images (hard_break rest) ts = ap (λ t. line_feed ∷ t) (inside title images rest ts)
inside title images (code_span b rest) ts = joined (described title images) _ (escaped b) (escaped (alt rest)) ts (tokens rest ++ ts) (inside title images rest ts) (sym (both b (alt rest)))
inside title images (raw_html b rest) ts = inside title images rest ts
inside title images (emphasis body rest) ts =
    around (described title images) body rest close_emphasis _ _ (λ us. refl) (inside title images body) (inside title images rest) ts ∙ ap (λ t. t ++ printed (described title images) ts) (sym (both (alt body) (alt rest)))
inside title images (strong body rest) ts =
    around (described title images) body rest close_strong _ _ (λ us. refl) (inside title images body) (inside title images rest) ts ∙ ap (λ t. t ++ printed (described title images) ts) (sym (both (alt body) (alt rest)))
inside title images (link url other body rest) ts =
    around (described title images) body rest close_link _ _ (λ us. refl) (inside title images body) (inside title images rest) ts ∙ ap (λ t. t ++ printed (described title images) ts) (sym (both (alt body) (alt rest)))
inside title images (image url other body rest) ts =
    ap (printed (described title (suc images))) (append_assoc (tokens body) (close_image ∷ tokens rest) ts) ∙ inside title (suc images) body (close_image ∷ (tokens rest ++ ts))
    ∙ joined (described title images) _ (escaped (alt body)) (escaped (alt rest)) ts (tokens rest ++ ts) (inside title images rest ts) (sym (both (alt body) (alt rest)))

-- ---- outside of images

-- inlines between two tokens that print tags
tagged : (body rest : Inlines) (close : Token) (front b back r : List ℕ) → ((ts : List Token) → printed outside (close ∷ ts) ≡ back ++ printed outside ts) → Shows outside body b → Shows outside rest r
    → (ts : List Token) → front ++ printed outside ((tokens body ++ close ∷ tokens rest) ++ ts) ≡ (front ++ (b ++ (back ++ r))) ++ printed outside ts
tagged body rest close front b back r shown hb hr ts =
    joined outside (front ++ (b ++ (back ++ r))) front (b ++ (back ++ r)) ts ((tokens body ++ close ∷ tokens rest) ++ ts)
    (ap (printed outside) (append_assoc (tokens body) (close ∷ tokens rest) ts) ∙ hb (close ∷ (tokens rest ++ ts))
    ∙ joined outside (b ++ (back ++ r)) b (back ++ r) ts (close ∷ (tokens rest ++ ts)) (shown (tokens rest ++ ts) ∙ joined outside (back ++ r) back r ts (tokens rest ++ ts) (hr ts) refl) refl) refl

link_parts : (url title rest : List ℕ) → (codes "<a href=\"" ++ (url ++ (codes "\"" ++ (title ++ codes ">")))) ++ rest ≡ codes "<a href=\"" ++ (url ++ (codes "\"" ++ (title ++ (codes ">" ++ rest))))
link_parts url title rest = ap (λ t. codes "<a href=\"" ++ t) (append_assoc url (codes "\"" ++ (title ++ codes ">")) rest ∙ ap (λ t. url ++ (codes "\"" ++ t)) (append_assoc title (codes ">") rest))

image_parts : (url title inner rest : List ℕ) → (codes "<img src=\"" ++ (url ++ codes "\" alt=\"")) ++ (inner ++ ((codes "\"" ++ (title ++ codes " />")) ++ rest))
    ≡ codes "<img src=\"" ++ (url ++ (codes "\" alt=\"" ++ (inner ++ (codes "\"" ++ (title ++ (codes " />" ++ rest))))))
image_parts url title inner rest =
    ap (λ t. codes "<img src=\"" ++ t) (append_assoc url (codes "\" alt=\"") (inner ++ ((codes "\"" ++ (title ++ codes " />")) ++ rest))
    ∙ ap (λ t. url ++ (codes "\" alt=\"" ++ (inner ++ (codes "\"" ++ t)))) (append_assoc title (codes " />") rest))

-- the tokens print the HTML of the inlines
pub shown : (xs : Inlines) → (ts : List Token) → printed outside (tokens xs ++ ts) ≡ inline_html xs ++ printed outside ts
shown no_inlines ts = refl
shown (textual b rest) ts = joined outside _ (escaped b) (inline_html rest) ts (tokens rest ++ ts) (shown rest ts) refl
shown (soft_break rest) ts = ap (λ t. line_feed ∷ t) (shown rest ts)
shown (hard_break rest) ts = joined outside _ (codes "<br />\n") (inline_html rest) ts (tokens rest ++ ts) (shown rest ts) refl
shown (code_span b rest) ts =
    joined outside _ (codes "<code>" ++ (escaped b ++ codes "</code>")) (inline_html rest) ts (tokens rest ++ ts) (shown rest ts) (ap (λ t. codes "<code>" ++ t) (append_assoc (escaped b) (codes "</code>") (inline_html rest)))
shown (raw_html b rest) ts = joined outside _ b (inline_html rest) ts (tokens rest ++ ts) (shown rest ts) refl
shown (emphasis body rest) ts = tagged body rest close_emphasis (codes "<em>") (inline_html body) (codes "</em>") (inline_html rest) (λ us. refl) (shown body) (shown rest) ts
shown (strong body rest) ts = tagged body rest close_strong (codes "<strong>") (inline_html body) (codes "</strong>") (inline_html rest) (λ us. refl) (shown body) (shown rest) ts
shown (link url title body rest) ts =
    tagged body rest close_link (codes "<a href=\"" ++ (url_text url ++ (codes "\"" ++ (title_text title ++ codes ">")))) (inline_html body) (codes "</a>") (inline_html rest) (λ us. refl) (shown body) (shown rest) ts
    ∙ ap (λ t. t ++ printed outside ts) (link_parts (url_text url) (title_text title) (inline_html body ++ (codes "</a>" ++ inline_html rest)))
shown (image url title body rest) ts =
    let end = codes "\"" ++ (title_text title ++ codes " />") in
    let front = codes "<img src=\"" ++ (url_text url ++ codes "\" alt=\"") in
    ap (λ t. front ++ t)
    (ap (printed (described title 0)) (append_assoc (tokens body) (close_image ∷ tokens rest) ts) ∙ inside title 0 body (close_image ∷ (tokens rest ++ ts))
    ∙ ap (λ t. escaped (alt body) ++ t) (joined outside _ end (inline_html rest) ts (tokens rest ++ ts) (shown rest ts) refl)
    ∙ sym (append_assoc (escaped (alt body)) (end ++ inline_html rest) (printed outside ts)))
    ∙ sym (append_assoc front (escaped (alt body) ++ (end ++ inline_html rest)) (printed outside ts))
    ∙ ap (λ t. t ++ printed outside ts) (image_parts (url_text url) (title_text title) (escaped (alt body)) (inline_html rest))
