-- Inlines as HTML, one token after another (CommonMark 0.31.2, section 6): what opens and what closes has a tag of its own. In the description of an image there are no tags (section 6.4).
use Rattle.std.specs.Prelude.{List, [], ◌∷◌, ◌++◌, ℕ, zero, suc, Option, codes}
use Rattle.site_text.specs.Bytes.{line_feed}
use Rattle.markdown_grammar.specs.Escaping.{escaped, title_text}
use Rattle.site_text.specs.Urls.{url_text}
use Rattle.cm_inlines.specs.Tokens.{Token, close_emphasis, close_image, close_link, close_strong, code_token, hard_token, html_token, open_emphasis, open_image, open_link, open_strong, soft_token, text_token}

-- outside of images, or in one with this title, inside of so many others that stand in it
pub data Place : Type 0 where
  outside : Place
  described : (title : Option (List ℕ)) → (images : ℕ) → Place

-- the end of an image, or of one that stands in another's description
abbrev pub image_end : Option (List ℕ) → ℕ → List ℕ
image_end title zero = codes "\"" ++ (title_text title ++ codes " />")
image_end title (suc images) = []

abbrev pub place_behind : Option (List ℕ) → ℕ → Place
place_behind title zero = outside
place_behind title (suc images) = described title images

-- the start of a link
abbrev pub link_start : List ℕ → Option (List ℕ) → List ℕ
link_start url title = codes "<a href=\"" ++ (url_text url ++ (codes "\"" ++ (title_text title ++ codes ">")))

abbrev pub printed_outside : Token → List ℕ
printed_outside (text_token b) = escaped b
printed_outside soft_token = line_feed ∷ []
printed_outside hard_token = codes "<br />\n"
printed_outside (code_token b) = codes "<code>" ++ (escaped b ++ codes "</code>")
printed_outside (html_token b) = b
printed_outside open_emphasis = codes "<em>"
printed_outside close_emphasis = codes "</em>"
printed_outside open_strong = codes "<strong>"
printed_outside close_strong = codes "</strong>"
printed_outside (open_link url title) = link_start url title
printed_outside close_link = codes "</a>"
printed_outside (open_image url title) = codes "<img src=\"" ++ (url_text url ++ codes "\" alt=\"")
printed_outside close_image = []

abbrev pub printed_inside : Option (List ℕ) → ℕ → Token → List ℕ
printed_inside title images (text_token b) = escaped b
printed_inside title images soft_token = line_feed ∷ []
printed_inside title images hard_token = line_feed ∷ []
printed_inside title images (code_token b) = escaped b
printed_inside title images close_image = image_end title images
printed_inside title images _ = []

-- what a token prints
abbrev pub printed_at : Place → Token → List ℕ
printed_at outside t = printed_outside t
printed_at (described title images) t = printed_inside title images t

-- the place behind a token
abbrev pub place_after : Place → Token → Place
place_after outside (open_image url title) = described title 0
place_after outside _ = outside
place_after (described title images) (open_image url other) = described title (suc images)
place_after (described title images) close_image = place_behind title images
place_after (described title images) _ = described title images

abbrev pub printed : Place → List Token → List ℕ
printed place [] = []
printed place (t ∷ ts) = printed_at place t ++ printed (place_after place t) ts
