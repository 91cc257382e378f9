-- Inlines from left to right, where what opens and what closes stands for itself: CommonMark 0.31.2, section 6.
use Rattle.std.specs.Prelude.{List, Option, [], ℕ, ◌++◌, ◌∷◌}
use Rattle.markdown_grammar.specs.Inlines.{Inlines, code_span, emphasis, hard_break, image, link, no_inlines, raw_html, soft_break, strong, textual}

pub data Token : Type 0 where
  text_token : (bytes : List ℕ) → Token
  soft_token : Token
  hard_token : Token
  code_token : (bytes : List ℕ) → Token
  html_token : (bytes : List ℕ) → Token
  open_emphasis : Token
  close_emphasis : Token
  open_strong : Token
  close_strong : Token
  open_link : (url : List ℕ) → (title : Option (List ℕ)) → Token
  close_link : Token
  open_image : (url : List ℕ) → (title : Option (List ℕ)) → Token
  close_image : Token

abbrev pub tokens : Inlines → List Token
tokens no_inlines = []
tokens (textual b rest) = text_token b ∷ tokens rest
tokens (soft_break rest) = soft_token ∷ tokens rest
tokens (hard_break rest) = hard_token ∷ tokens rest
tokens (code_span b rest) = code_token b ∷ tokens rest
tokens (raw_html b rest) = html_token b ∷ tokens rest
tokens (emphasis body rest) = open_emphasis ∷ (tokens body ++ close_emphasis ∷ tokens rest)
tokens (strong body rest) = open_strong ∷ (tokens body ++ close_strong ∷ tokens rest)
tokens (link u t body rest) = open_link u t ∷ (tokens body ++ close_link ∷ tokens rest)
tokens (image u t body rest) = open_image u t ∷ (tokens body ++ close_image ∷ tokens rest)

-- ---- the tree of tokens

-- inlines that stand beside one another in each of the containers that are open, the innermost first
pub data Levels : Type 0 where
  outermost : (xs : Inlines) → Levels
  level : (xs : Inlines) → (outer : Levels) → Levels

abbrev pub top : Levels → Inlines
top (outermost xs) = xs
top (level xs outer) = xs

abbrev pub with_top : (Inlines → Inlines) → Levels → Levels
with_top f (outermost xs) = outermost (f xs)
with_top f (level xs outer) = level (f xs) outer

-- a container round the innermost level
abbrev pub wrapped : (Inlines → Inlines → Inlines) → Levels → Levels
wrapped f (outermost xs) = outermost (f xs no_inlines)
wrapped f (level body outer) = with_top (f body) outer

abbrev pub levels : List Token → Levels
levels [] = outermost no_inlines
levels (text_token b ∷ ts) = with_top (textual b) (levels ts)
levels (soft_token ∷ ts) = with_top soft_break (levels ts)
levels (hard_token ∷ ts) = with_top hard_break (levels ts)
levels (code_token b ∷ ts) = with_top (code_span b) (levels ts)
levels (html_token b ∷ ts) = with_top (raw_html b) (levels ts)
levels (open_emphasis ∷ ts) = wrapped emphasis (levels ts)
levels (open_strong ∷ ts) = wrapped strong (levels ts)
levels (open_link u t ∷ ts) = wrapped (link u t) (levels ts)
levels (open_image u t ∷ ts) = wrapped (image u t) (levels ts)
levels (close_emphasis ∷ ts) = level no_inlines (levels ts)
levels (close_strong ∷ ts) = level no_inlines (levels ts)
levels (close_link ∷ ts) = level no_inlines (levels ts)
levels (close_image ∷ ts) = level no_inlines (levels ts)

unfoldable pub tree_of : List Token → Inlines
tree_of ts = top (levels ts)
