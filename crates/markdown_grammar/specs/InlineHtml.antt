-- Inlines as HTML.
use Rattle.std.specs.Prelude.{List, [], codes, ℕ, ◌++◌, ◌∷◌}
use Rattle.site_text.specs.Bytes.{line_feed}
use Rattle.markdown_grammar.specs.Escaping.{escaped, title_text}
use Rattle.site_text.specs.Urls.{url_text}
use Rattle.markdown_grammar.specs.Inlines.{Inlines, code_span, emphasis, hard_break, image, link, no_inlines, raw_html, soft_break, strong, textual}

-- the text of an image's description: breaks give LF, and raw HTML nothing
abbrev pub alt : Inlines → List ℕ
alt no_inlines = []
alt (textual b rest) = b ++ alt rest
alt (soft_break rest) = line_feed ∷ alt rest
alt (hard_break rest) = line_feed ∷ alt rest
alt (code_span b rest) = b ++ alt rest
alt (raw_html b rest) = alt rest
alt (emphasis body rest) = alt body ++ alt rest
alt (strong body rest) = alt body ++ alt rest
alt (link url title body rest) = alt body ++ alt rest
alt (image url title body rest) = alt body ++ alt rest

-- inlines as they are printed
abbrev pub inline_html : Inlines → List ℕ
inline_html no_inlines = []
inline_html (textual b rest) = escaped b ++ inline_html rest
inline_html (soft_break rest) = line_feed ∷ inline_html rest
inline_html (hard_break rest) = codes "<br />\n" ++ inline_html rest
inline_html (code_span b rest) = codes "<code>" ++ (escaped b ++ (codes "</code>" ++ inline_html rest))
inline_html (raw_html b rest) = b ++ inline_html rest
inline_html (emphasis body rest) = codes "<em>" ++ (inline_html body ++ (codes "</em>" ++ inline_html rest))
inline_html (strong body rest) = codes "<strong>" ++ (inline_html body ++ (codes "</strong>" ++ inline_html rest))
inline_html (link url title body rest) = codes "<a href=\"" ++ (url_text url ++ (codes "\"" ++ (title_text title ++ (codes ">" ++ (inline_html body ++ (codes "</a>" ++ inline_html rest))))))
inline_html (image url title body rest) = codes "<img src=\"" ++ (url_text url ++ (codes "\" alt=\"" ++ (escaped (alt body) ++ (codes "\"" ++ (title_text title ++ (codes " />" ++ inline_html rest))))))
