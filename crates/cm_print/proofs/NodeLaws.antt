-- Nodes print one after another.
use Rattle.std.proofs.Common.{◌≡◌, ◌∙◌, ap, sym, refl, ℕ, suc, ◌+◌, ◌-◌, ◌<◌, ◌≤◌, List, [], ◌∷◌, ◌++◌, append_assoc, append-nil, length, drop, get_or, replicate, arith, length-append, drop-cons, add-one}
use Rattle.markdown_grammar.specs.Escaping.{escaped}
use Rattle.site_text.specs.Urls.{escaped_byte, url_byte, url_text}
use Rattle.markdown_grammar.specs.InlineHtml.{inline_html}
use Rattle.markdown_grammar.specs.Inlines.{Inlines}
use Rattle.cm_inlines.specs.Cells.{Cell, plain_tokens, token_of}
use Rattle.cm_inlines.specs.Nodes.{cells, cells_at, tokens_in}
use Rattle.cm_inlines.specs.Tokens.{Token, tokens}
use Rattle.cm_inlines.specs.declared.node.Node.{Node}
use Rattle.cm_print.specs.InlineNodes.{node_text, place_behind, place_behind_node}
use Rattle.cm_print.specs.InlineTokens.{Place, outside, place_after, printed, printed_at}
use Rattle.cm_print.proofs.InlineLaws.{shown}

plain_split : (a b : List Cell) → plain_tokens (a ++ b) ≡ plain_tokens a ++ plain_tokens b
plain_split [] b = refl
plain_split (c ∷ a) b = ap (λ ts. token_of c ∷ ts) (plain_split a b)

split : (place : Place) (a b : List Token) → printed place (a ++ b) ≡ printed place a ++ printed (place_behind place a) b
split place [] b = refl
split place (t ∷ a) b = ap (λ u. printed_at place t ++ u) (split (place_after place t) a b) ∙ sym (append_assoc (printed_at place t) (printed (place_after place t) a) (printed (place_behind (place_after place t) a) b))

-- a node, and those behind it
pub node_first : (place : Place) (n : Node) (ns : List Node) → printed place (tokens_in (n ∷ ns)) ≡ node_text place n ++ printed (place_behind_node place n) (tokens_in ns)
node_first place n ns = ap (printed place) (plain_split (cells_at [] n) (cells [] ns)) ∙ split place (plain_tokens (cells_at [] n)) (tokens_in ns)

-- all nodes
pub nodes_all : (xs : Inlines) (ns : List Node) → tokens_in ns ≡ tokens xs → printed outside (tokens_in ns) ≡ inline_html xs
nodes_all xs ns e = ap (printed outside) (e ∙ sym (append-nil (tokens xs))) ∙ shown xs [] ∙ append-nil (inline_html xs)

-- one node more is printed
pub node_step : (w now whole : List ℕ) (place next : Place) (ns : List Node) (i : ℕ) (n : Node) → i < length ns → n ≡ get_or ns i n → next ≡ place_behind_node place n
    → w ++ printed place (tokens_in (drop i ns)) ≡ whole → now ≡ w ++ node_text place n → now ++ printed next (tokens_in (drop (i + 1) ns)) ≡ whole
node_step w now whole place next ns i n lt at moves same is =
    let rest : drop i ns ≡ n ∷ drop (i + 1) ns = rw add-one (drop-cons ns i n lt ∙ ap (λ m. m ∷ drop (suc i) ns) (sym at)) in
    let tail = printed (place_behind_node place n) (tokens_in (drop (i + 1) ns)) in
    ap (λ t. t ++ printed next (tokens_in (drop (i + 1) ns))) is ∙ ap (λ p. (w ++ node_text place n) ++ printed p (tokens_in (drop (i + 1) ns))) moves
    ∙ append_assoc w (node_text place n) tail ∙ ap (λ t. w ++ t) (sym (ap (λ m. printed place (tokens_in m)) rest ∙ node_first place n (drop (i + 1) ns))) ∙ same

-- a node that does not fit
pub node_refused : (w whole : List ℕ) (most : ℕ) (place : Place) (ns : List Node) (i : ℕ) (n : Node) → i < length ns → n ≡ get_or ns i n
    → w ++ printed place (tokens_in (drop i ns)) ≡ whole → most < length (w ++ node_text place n) → most < length whole
node_refused w whole most place ns i n lt at same over =
    let is = node_step w (w ++ node_text place n) whole place (place_behind_node place n) ns i n lt at refl same refl in
    omega (arith, over, ap length is, length-append (w ++ node_text place n) (printed (place_behind_node place n) (tokens_in (drop (i + 1) ns))))

-- ---- marks

mark_first : (len i mark : ℕ) → i < len → escaped (replicate (len - i) mark) ≡ escaped_byte mark ++ escaped (replicate (len - (i + 1)) mark)
mark_first len i mark lt = let e : len - i ≡ suc (len - (i + 1)) = omega arith in ap (λ k. escaped (replicate k mark)) e

pub mark_step : (w now whole : List ℕ) (len i mark : ℕ) → i < len → w ++ escaped (replicate (len - i) mark) ≡ whole → now ≡ w ++ escaped_byte mark → now ++ escaped (replicate (len - (i + 1)) mark) ≡ whole
mark_step w now whole len i mark lt same is =
    let tail = escaped (replicate (len - (i + 1)) mark) in
    ap (λ t. t ++ tail) is ∙ append_assoc w (escaped_byte mark) tail ∙ ap (λ t. w ++ t) (sym (mark_first len i mark lt)) ∙ same

pub mark_refused : (w whole : List ℕ) (most len i mark : ℕ) → i < len → w ++ escaped (replicate (len - i) mark) ≡ whole → most < length (w ++ escaped_byte mark) → most < length whole
mark_refused w whole most len i mark lt same over =
    let is = mark_step w (w ++ escaped_byte mark) whole len i mark lt same refl in
    omega (arith, over, ap length is, length-append (w ++ escaped_byte mark) (escaped (replicate (len - (i + 1)) mark)))

pub mark_end : (w whole : List ℕ) (len i mark : ℕ) → len ≤ i → w ++ escaped (replicate (len - i) mark) ≡ whole → w ≡ whole
mark_end w whole len i mark past same = let e : len - i ≡ 0 = omega arith in sym (append-nil w) ∙ ap (λ k. w ++ escaped (replicate k mark)) (sym e) ∙ same

-- ---- addresses

-- a byte of an address that does not fit
pub url_refused : (w whole : List ℕ) (most : ℕ) (bytes : List ℕ) (i d : ℕ) → i < length bytes → w ++ url_text (drop i bytes) ≡ whole → most < length (w ++ url_byte (get_or bytes i d)) → most < length whole
url_refused w whole most bytes i d lt same over =
    let rest : url_text (drop i bytes) ≡ url_byte (get_or bytes i d) ++ url_text (drop (suc i) bytes) = ap (λ (t : List ℕ). url_text t) (drop-cons bytes i d lt) in
    omega (arith, over, ap length same, ap length rest, length-append w (url_text (drop i bytes)), length-append w (url_byte (get_or bytes i d)), length-append (url_byte (get_or bytes i d)) (url_text (drop (suc i) bytes)))
