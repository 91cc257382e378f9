-- Raw HTML: CommonMark 0.31.2, section 6.6, in the standard's words.
use Rattle.std.specs.Prelude.{[], codes, not, ℕ, ◌==◌, ◌||◌, ◌∷◌}
use Rattle.site_text.specs.Bytes.{double_quote, hyphen, is_alnum, is_letter, is_one_of, is_white, single_quote}
use Rattle.markdown_grammar.specs.Readers.{Reader, ahead, at_least, exactly, one_byte, perhaps, repeat, some_white_gap, to, white_gap, ◌or◌, ◌then◌}

-- a letter, then letters, digits and hyphens
abbrev pub tag_name : Reader
tag_name = one_byte is_letter then at_least 0 (λ c. is_alnum c || (c == hyphen))

-- a letter, `_` or `:`, then letters, digits, `_`, `.`, `:` and `-`
abbrev pub attribute_name : Reader
attribute_name = one_byte (λ c. is_letter c || is_one_of (codes "_:") c) then at_least 0 (λ c. is_alnum c || is_one_of (codes "_.:-") c)

-- a value without quotes
abbrev pub unquoted : Reader
unquoted = at_least 1 (λ c. not (is_white c || is_one_of (codes "\"'=<>`") c))

-- a value in quotes
abbrev pub quoted : ℕ → Reader
quoted q = exactly (q ∷ []) then at_least 0 (λ c. not (c == q)) then exactly (q ∷ [])

-- `=` and a value
abbrev pub value_part : Reader
value_part = white_gap then exactly (codes "=") then white_gap then (unquoted or quoted single_quote or quoted double_quote)

-- white space, a name, and perhaps a value
abbrev pub attribute : Reader
attribute = some_white_gap then attribute_name then perhaps value_part

-- an open tag
abbrev pub open_tag : Reader
open_tag = exactly (codes "<") then tag_name then repeat attribute then white_gap then perhaps (exactly (codes "/")) then exactly (codes ">")

-- a closing tag
abbrev pub closing_tag : Reader
closing_tag = exactly (codes "</") then tag_name then white_gap then exactly (codes ">")

-- a comment
abbrev pub comment : Reader
comment = exactly (codes "<!-->") or exactly (codes "<!--->") or (exactly (codes "<!--") then to (codes "-->"))

-- a processing instruction
abbrev pub instruction : Reader
instruction = exactly (codes "<?") then to (codes "?>")

-- a declaration
abbrev pub declaration : Reader
declaration = exactly (codes "<!") then ahead is_letter then to (codes ">")

-- a CDATA section
abbrev pub cdata : Reader
cdata = exactly (codes "<![CDATA[") then to (codes "]]>")

-- any of them
abbrev pub html_tag : Reader
html_tag = open_tag or closing_tag or comment or instruction or declaration or cdata
