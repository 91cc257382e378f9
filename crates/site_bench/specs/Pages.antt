-- A page that stands alone: what its look-ups give, by its variables.
use Rattle.std.specs.Prelude.{◌≡◌, ℕ, pos, List, codes, Option, Some, IsTrue, refl}
use Rattle.std.proofs.Common.{subst}
use Rattle.site_base.specs.Plain.{Plain, nil, int, text, hash, Pairs, get}
use Rattle.filter_base.specs.Properties.{or_nil}
use Rattle.read_record.specs.declared.key.Key.{Key}
use Rattle.read_record.specs.declared.key.Key.TheVariants.{Var, SiteVar, Data, Include, Moment}
use Rattle.read_record.specs.Forms.{has_form, is_words, IsFormed}
use Rattle.read_record.specs.Queries.{View, Known}

-- a text, and nil for anything else
abbrev pub text_or_nil : Option Plain → Plain
text_or_nil (Some (text s)) = text s
text_or_nil v = nil

-- the text of that name, where the texts stand in a hash
abbrev pub text_in : List ℕ → Option Plain → Plain
text_in x (Some (hash ps)) = text_or_nil (get x ps)
text_in x v = nil

-- the page's includes stand among its variables
abbrev pub include_text : List ℕ → Pairs → Plain
include_text x vars = text_in x (get (codes "includes") vars)

abbrev pub page_view : Pairs → View
page_view vars (Var name x) = Known (or_nil (get x vars))
page_view vars (Include x) = Known (include_text x vars)
page_view vars Moment = Known (int (pos 0))
page_view vars k = Known nil

text_or_nil-formed : (v : Option Plain) → IsTrue (is_words (text_or_nil v))
text_or_nil-formed (Some (text s)) = refl
text_or_nil-formed v = refl

text_in-formed : (x : List ℕ) (v : Option Plain) → IsTrue (is_words (text_in x v))
text_in-formed x (Some (hash ps)) = text_or_nil-formed (get x ps)
text_in-formed x v = refl

formed-at : (k : Key) (v w : Plain) → IsTrue (has_form k v) → v ≡ w → IsTrue (has_form k w)
formed-at k v w h e = subst (λ x. IsTrue (has_form k x)) e h

pub page-formed : (vars : Pairs) → IsFormed (page_view vars)
page-formed vars (Var name x) v h = refl
page-formed vars (SiteVar x) v h = refl
page-formed vars (Data keys) v h = refl
page-formed vars (Include x) v h = formed-at (Include x) (include_text x vars) v (text_in-formed x (get (codes "includes") vars)) (cc)
page-formed vars Moment v h = formed-at Moment (int (pos 0)) v refl (cc)
page-formed vars k v h = formed-at k nil v refl (cc)
