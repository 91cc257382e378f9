-- Inlines as their tokens, by which a proof tells inlines apart.
use Rattle.std.specs.Prelude.{◌≡◌, List, None, Option, [], if◌then◌else◌, refl, ℕ, ◌++◌, ◌==◌, ◌∷◌}
use Rattle.std.specs.Coded.{Coded, code_by, coded_list, coded_option, coded_ℕ, coded×}
use Rattle.std.proofs.Common.{ap, append_assoc, append-nil, sym, ◌∙◌}
use Rattle.markdown_grammar.specs.Inlines.{Inlines, before_all, code_span, emphasis, hard_break, image, link, no_inlines, raw_html, soft_break, strong, textual}
use Rattle.cm_inlines.specs.Tokens.{Levels, Token, close_emphasis, close_image, close_link, close_strong, code_token, hard_token, html_token, level, levels, open_emphasis, open_image, open_link, open_strong, outermost, soft_token, text_token, tokens, top, tree_of, with_top, wrapped}

before_none : (xs : Inlines) → before_all xs no_inlines ≡ xs
before_none no_inlines = refl
before_none (textual b rest) = ap (textual b) (before_none rest)
before_none (soft_break rest) = ap soft_break (before_none rest)
before_none (hard_break rest) = ap hard_break (before_none rest)
before_none (code_span b rest) = ap (code_span b) (before_none rest)
before_none (raw_html b rest) = ap (raw_html b) (before_none rest)
before_none (emphasis body rest) = ap (emphasis body) (before_none rest)
before_none (strong body rest) = ap (strong body) (before_none rest)
before_none (link u t body rest) = ap (link u t body) (before_none rest)
before_none (image u t body rest) = ap (image u t body) (before_none rest)

-- inlines in front of the innermost level
abbrev in_front : Inlines → Levels → Levels
in_front xs l = with_top (before_all xs) l

top_twice : (f g : Inlines → Inlines) (l : Levels) → with_top f (with_top g l) ≡ with_top (λ xs. f (g xs)) l
top_twice f g (outermost xs) = refl
top_twice f g (level xs outer) = refl

-- a container that is open, and closed behind its body
container : (f : Inlines → Inlines → Inlines) (body rest : Inlines) (l : Levels) → wrapped f (in_front body (level no_inlines (in_front rest l))) ≡ with_top (λ ys. f body (before_all rest ys)) l
container f body rest l = ap (λ (b : Inlines). with_top (f b) (in_front rest l)) (before_none body) ∙ top_twice (f body) (before_all rest) l

same_top : (l : Levels) → l ≡ in_front no_inlines l
same_top (outermost xs) = refl
same_top (level xs outer) = refl

levels_of : (xs : Inlines) (ts : List Token) → levels (tokens xs ++ ts) ≡ in_front xs (levels ts)
levels_of no_inlines ts = same_top (levels ts)
levels_of (textual b rest) ts = ap (with_top (textual b)) (levels_of rest ts) ∙ top_twice (textual b) (before_all rest) (levels ts)
levels_of (soft_break rest) ts = ap (with_top soft_break) (levels_of rest ts) ∙ top_twice soft_break (before_all rest) (levels ts)
levels_of (hard_break rest) ts = ap (with_top hard_break) (levels_of rest ts) ∙ top_twice hard_break (before_all rest) (levels ts)
levels_of (code_span b rest) ts = ap (with_top (code_span b)) (levels_of rest ts) ∙ top_twice (code_span b) (before_all rest) (levels ts)
levels_of (raw_html b rest) ts = ap (with_top (raw_html b)) (levels_of rest ts) ∙ top_twice (raw_html b) (before_all rest) (levels ts)
levels_of (emphasis body rest) ts =
    ap (λ (us : List Token). wrapped emphasis (levels us)) (append_assoc (tokens body) (close_emphasis ∷ tokens rest) ts)
    ∙ ap (wrapped emphasis) (levels_of body (close_emphasis ∷ (tokens rest ++ ts)) ∙ ap (λ (l : Levels). in_front body (level no_inlines l)) (levels_of rest ts)) ∙ container emphasis body rest (levels ts)
levels_of (strong body rest) ts =
    ap (λ (us : List Token). wrapped strong (levels us)) (append_assoc (tokens body) (close_strong ∷ tokens rest) ts)
    ∙ ap (wrapped strong) (levels_of body (close_strong ∷ (tokens rest ++ ts)) ∙ ap (λ (l : Levels). in_front body (level no_inlines l)) (levels_of rest ts)) ∙ container strong body rest (levels ts)
levels_of (link u t body rest) ts =
    ap (λ (us : List Token). wrapped (link u t) (levels us)) (append_assoc (tokens body) (close_link ∷ tokens rest) ts)
    ∙ ap (wrapped (link u t)) (levels_of body (close_link ∷ (tokens rest ++ ts)) ∙ ap (λ (l : Levels). in_front body (level no_inlines l)) (levels_of rest ts)) ∙ container (link u t) body rest (levels ts)
levels_of (image u t body rest) ts =
    ap (λ (us : List Token). wrapped (image u t) (levels us)) (append_assoc (tokens body) (close_image ∷ tokens rest) ts)
    ∙ ap (wrapped (image u t)) (levels_of body (close_image ∷ (tokens rest ++ ts)) ∙ ap (λ (l : Levels). in_front body (level no_inlines l)) (levels_of rest ts)) ∙ container (image u t) body rest (levels ts)

-- the tokens of inlines give them back
pub tree_of-tokens : (xs : Inlines) → tree_of (tokens xs) ≡ xs
unfolding tree_of
tree_of-tokens xs = ap (λ (ts : List Token). top (levels ts)) (sym (append-nil (tokens xs))) ∙ ap top (levels_of xs []) ∙ before_none xs

-- ---- a token as a number, a text and a title

abbrev pub Coding : Type 0
Coding = ℕ × (List ℕ × Option (List ℕ))

abbrev pub coding : Token → Coding
coding (text_token b) = (0, (b, None))
coding soft_token = (1, ([], None))
coding hard_token = (2, ([], None))
coding (code_token b) = (3, (b, None))
coding (html_token b) = (4, (b, None))
coding open_emphasis = (5, ([], None))
coding close_emphasis = (6, ([], None))
coding open_strong = (7, ([], None))
coding close_strong = (8, ([], None))
coding (open_link u t) = (9, (u, t))
coding close_link = (10, ([], None))
coding (open_image u t) = (11, (u, t))
coding close_image = (12, ([], None))

abbrev pub coded : Coding → Token
coded c =
    if c.0 == 0 then text_token c.1.0
    else if c.0 == 1 then soft_token
    else if c.0 == 2 then hard_token
    else if c.0 == 3 then code_token c.1.0
    else if c.0 == 4 then html_token c.1.0
    else if c.0 == 5 then open_emphasis
    else if c.0 == 6 then close_emphasis
    else if c.0 == 7 then open_strong
    else if c.0 == 8 then close_strong
    else if c.0 == 9 then open_link c.1.0 c.1.1
    else if c.0 == 10 then close_link
    else if c.0 == 11 then open_image c.1.0 c.1.1
    else close_image

pub coded-coding : (t : Token) → coded (coding t) ≡ t
coded-coding (text_token b) = refl
coded-coding soft_token = refl
coded-coding hard_token = refl
coded-coding (code_token b) = refl
coded-coding (html_token b) = refl
coded-coding open_emphasis = refl
coded-coding close_emphasis = refl
coded-coding open_strong = refl
coded-coding close_strong = refl
coded-coding (open_link u t) = refl
coded-coding close_link = refl
coded-coding (open_image u t) = refl
coded-coding close_image = refl

abbrev pub token_code : Coded Token
token_code = code_by Coding (coded× coded_ℕ (coded× (coded_list coded_ℕ) (coded_option (coded_list coded_ℕ)))) coding coded coded-coding

abbrev pub inlines_code : Coded Inlines
inlines_code = code_by (List Token) (coded_list token_code) tokens tree_of tree_of-tokens
