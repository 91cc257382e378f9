-- The filter that cuts a text into a list. After the reference of Liquid 4 (Shopify), "Filters": `split`.
use Rattle.std.specs.Prelude.{ℕ, zero, suc, ◌==◌, List, [], ◌∷◌, length, map, if◌then◌else◌, Result, Ok}
use Rattle.std.specs.Char.{encode_utf8}
use Rattle.std.specs.Str.{bytes_eq, chars}
use Rattle.site_base.specs.Chains.{◌>>=◌}
use Rattle.site_base.specs.Plain.{Plain, text, list, Items, no_items, item}
use Rattle.site_base.specs.Values.{value_text}
use Rattle.site_base.specs.declared.faults.FaultKind.{FaultKind}
use Rattle.filter_base.specs.Arguments.{one}
use Rattle.text_filters.specs.Parts.{parts}
use Rattle.text_filters.specs.Words.{words}

abbrev pub Texts : Type 0
Texts = List (List ℕ)

abbrev pub text_items : List (List ℕ) → Items
text_items [] = no_items
text_items (t ∷ ts) = item (text t) (text_items ts)

abbrev pub characters : List ℕ → List (List ℕ)
characters t = map encode_utf8 (chars t)

-- so many empty parts
abbrev pub empties : ℕ → List (List ℕ)
empties zero = []
empties (suc n) = [] ∷ empties n

-- a part before others, which is dropped where it is empty and nothing follows
abbrev pub before_kept : List ℕ → List (List ℕ) → List (List ℕ)
before_kept p [] = if length p == 0 then [] else p ∷ []
before_kept p (q ∷ qs) = p ∷ q ∷ qs

abbrev pub without_empty_end : List (List ℕ) → List (List ℕ)
without_empty_end [] = []
without_empty_end (p ∷ ps) = before_kept p (without_empty_end ps)

-- at a space the words, at nothing the characters, at any other text the parts between the places where it stands
abbrev pub pieces : List ℕ → List ℕ → List (List ℕ)
pieces mark t =
    if bytes_eq mark (32 ∷ []) then words t
    else if length mark == 0 then characters t
    else without_empty_end (parts mark t)

abbrev pub split_filter : Plain → List Plain → Result Plain FaultKind
split_filter v ws = one ws >>= λ w. Ok (list (text_items (pieces (value_text w) (value_text v))))
