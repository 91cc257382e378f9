-- What starts and ends an HTML block, of seven kinds: CommonMark 0.31.2, section 4.6.
use Rattle.std.specs.Prelude.{Bool, List, [], codes, drop, false, if◌then◌else◌, length, not, take, true, ℕ, ◌&&◌, ◌==◌, ◌||◌, ◌∷◌}
use Rattle.site_text.specs.Bytes.{hyphen, is_alnum, is_letter, is_space, less_than, lowered, slash}
use Rattle.site_text.specs.Fronts.{begins_with, first_byte, run_len}
use Rattle.markdown_grammar.specs.Fronts.{has, same_bytes}
use Rattle.markdown_grammar.specs.Places.{Place, is_fresh}
use Rattle.markdown_grammar.specs.Readers.{Reader, ahead, at_end, exactly, spaces, to, ◌or◌, ◌then◌}
use Rattle.markdown_grammar.specs.Starts.{Start, html_start, text_start}
use Rattle.markdown_grammar.specs.Tags.{closing_tag, open_tag}
use Rattle.markdown_grammar.specs.declared.html_kind.HtmlKind.{HtmlKind}
use Rattle.markdown_grammar.specs.declared.html_kind.HtmlKind.TheVariants.{Cdata, Comment, Declaration, Instruction, Listed, Lone, Verbatim}

-- a name is one of these
abbrev pub is_among : List (List ℕ) → List ℕ → Bool
is_among [] w = false
is_among (n ∷ ns) w = elim (same_bytes n w) [ true ↦ true | false ↦ is_among ns w ]

-- the tags of kind 1, whose text is no Markdown
unfoldable pub verbatim_names : List (List ℕ)
verbatim_names = codes "script" ∷ codes "pre" ∷ codes "style" ∷ codes "textarea" ∷ []

-- the tags of kind 6
unfoldable pub block_names : List (List ℕ)
block_names =
    codes "address" ∷ codes "article" ∷ codes "aside" ∷ codes "base" ∷ codes "basefont" ∷ codes "blockquote" ∷ codes "body" ∷ codes "caption"
    ∷ codes "center" ∷ codes "col" ∷ codes "colgroup" ∷ codes "dd" ∷ codes "details" ∷ codes "dialog" ∷ codes "dir" ∷ codes "div"
    ∷ codes "dl" ∷ codes "dt" ∷ codes "fieldset" ∷ codes "figcaption" ∷ codes "figure" ∷ codes "footer" ∷ codes "form" ∷ codes "frame"
    ∷ codes "frameset" ∷ codes "h1" ∷ codes "h2" ∷ codes "h3" ∷ codes "h4" ∷ codes "h5" ∷ codes "h6" ∷ codes "head"
    ∷ codes "header" ∷ codes "hr" ∷ codes "html" ∷ codes "iframe" ∷ codes "legend" ∷ codes "li" ∷ codes "link" ∷ codes "main"
    ∷ codes "menu" ∷ codes "menuitem" ∷ codes "nav" ∷ codes "noframes" ∷ codes "ol" ∷ codes "optgroup" ∷ codes "option" ∷ codes "p"
    ∷ codes "param" ∷ codes "search" ∷ codes "section" ∷ codes "summary" ∷ codes "table" ∷ codes "tbody" ∷ codes "td" ∷ codes "tfoot"
    ∷ codes "th" ∷ codes "thead" ∷ codes "title" ∷ codes "tr" ∷ codes "track" ∷ codes "ul" ∷ []

-- what ends a tag's name
abbrev pub tag_end : Reader
tag_end = at_end or ahead is_space or exactly (codes ">")

-- the name after `<` or `</`: letters, digits and hyphens
abbrev pub name_in : List ℕ → List ℕ
name_in t = lowered (take (run_len (λ c. is_alnum c || (c == hyphen)) t) t)

-- a tag of kind 1 stands behind `<`
abbrev pub starts_verbatim : List ℕ → Bool
starts_verbatim t = let n = name_in t in is_among verbatim_names n && has (tag_end (drop (length n) t))

-- a tag of kind 6 stands behind `<` or `</`
abbrev pub starts_listed : List ℕ → Bool
starts_listed t = let n = name_in t in is_among block_names n && has ((tag_end or exactly (codes "/>")) (drop (length n) t))

-- a whole tag alone on its line
abbrev pub alone : Reader
alone = (open_tag or closing_tag) then spaces then at_end

-- what stands behind `<` or `</`
abbrev pub tag_text : List ℕ → List ℕ
tag_text t = drop (if first_byte (drop 1 t) == slash then 2 else 1) t

-- the kind that a line starts; kind 7 only where no paragraph is open, and not by a tag with a verbatim name
abbrev pub html_at : Place → List ℕ → Start
html_at place t = if not (first_byte t == less_than) then text_start
    else if starts_verbatim (drop 1 t) then html_start Verbatim
    else if begins_with (codes "<!--") t then html_start Comment
    else if begins_with (codes "<?") t then html_start Instruction
    else if begins_with (codes "<!") t && is_letter (first_byte (drop 2 t)) then html_start Declaration
    else if begins_with (codes "<![CDATA[") t then html_start Cdata
    else if starts_listed (tag_text t) then html_start Listed
    else if (is_fresh place && has (alone t)) && not (is_among verbatim_names (name_in (tag_text t))) then html_start Lone
    else text_start

-- the line that ends a block of kinds 1 to 5
abbrev pub ends_html : HtmlKind → List ℕ → Bool
ends_html Verbatim t = has (to (codes "</script>") (lowered t)) || (has (to (codes "</pre>") (lowered t)) || (has (to (codes "</style>") (lowered t)) || has (to (codes "</textarea>") (lowered t))))
ends_html Comment t = has (to (codes "-->") t)
ends_html Instruction t = has (to (codes "?>") t)
ends_html Declaration t = has (to (codes ">") t)
ends_html Cdata t = has (to (codes "]]>") t)
ends_html _ t = false

-- blocks of kinds 6 and 7 end before a blank line
abbrev pub ends_at_blank : HtmlKind → Bool
ends_at_blank Listed = true
ends_at_blank Lone = true
ends_at_blank _ = false
