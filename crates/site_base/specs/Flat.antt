-- Plain trees as flat lists of tokens, which proofs tell them apart by.
use Rattle.std.specs.Prelude.{◌≡◌, ℕ, zero, suc, ℤ, pos, negsuc, Bool, true, false, List, [], ◌∷◌, refl}
use Rattle.std.proofs.Common.{ap, ◌∙◌}
use Rattle.std.specs.Coded.{Coded, code_by, coded×, coded_list, coded_ℕ, coded_ℤ}
use Rattle.site_base.specs.Plain.{Plain, nil, bool, int, text, list, hash, site_item, range, Items, no_items, item, Pairs, no_pairs, pair}

-- what is met, two numbers and a text
abbrev pub Token : Type 0
Token = ℕ × (ℤ × (ℤ × List ℕ))

abbrev pub token : ℕ → ℤ → ℤ → List ℕ → Token
token kind a b t = (kind, (a, (b, t)))

abbrev pub plain_token : ℕ → Token
plain_token kind = token kind (pos 0) (pos 0) []

abbrev pub bool_token : Bool → Token
bool_token true = plain_token 2
bool_token false = plain_token 1

-- the tokens of a value, in front of others
abbrev mutual
  pub tokens : Plain → List Token → List Token
  tokens nil ts = plain_token 0 ∷ ts
  tokens (bool b) ts = bool_token b ∷ ts
  tokens (int n) ts = token 3 n (pos 0) [] ∷ ts
  tokens (text s) ts = token 4 (pos 0) (pos 0) s ∷ ts
  tokens (list is) ts = plain_token 5 ∷ items_tokens is ts
  tokens (hash ps) ts = plain_token 6 ∷ pairs_tokens ps ts
  tokens (site_item path part) ts = token 7 (pos part) (pos 0) path ∷ ts
  tokens (range a b) ts = token 8 a b [] ∷ ts

  pub items_tokens : Items → List Token → List Token
  items_tokens no_items ts = plain_token 9 ∷ ts
  items_tokens (item v is) ts = plain_token 10 ∷ tokens v (items_tokens is ts)

  pub pairs_tokens : Pairs → List Token → List Token
  pairs_tokens no_pairs ts = plain_token 11 ∷ ts
  pairs_tokens (pair k v ps) ts = token 12 (pos 0) (pos 0) k ∷ tokens v (pairs_tokens ps ts)

pub data Part : Type 0 where
  value : Plain → Part
  items : Items → Part
  pairs : Pairs → Part

abbrev pub on_list : List Part → List Part
on_list (items is ∷ s) = value (list is) ∷ s
on_list s = []

abbrev pub on_hash : List Part → List Part
on_hash (pairs ps ∷ s) = value (hash ps) ∷ s
on_hash s = []

abbrev pub on_item : List Part → List Part
on_item (value v ∷ items is ∷ s) = items (item v is) ∷ s
on_item s = []

abbrev pub on_pair : List ℕ → List Part → List Part
on_pair k (value v ∷ pairs ps ∷ s) = pairs (pair k v ps) ∷ s
on_pair k s = []

abbrev pub unsigned : ℤ → ℕ
unsigned (pos n) = n
unsigned (negsuc n) = 0

-- a token in front of what the later ones make
abbrev pub put : ℕ → ℤ → ℤ → List ℕ → List Part → List Part
put zero a b t s = value nil ∷ s
put (suc zero) a b t s = value (bool false) ∷ s
put (suc (suc zero)) a b t s = value (bool true) ∷ s
put (suc (suc (suc zero))) a b t s = value (int a) ∷ s
put (suc (suc (suc (suc zero)))) a b t s = value (text t) ∷ s
put (suc (suc (suc (suc (suc zero))))) a b t s = on_list s
put (suc (suc (suc (suc (suc (suc zero)))))) a b t s = on_hash s
put (suc (suc (suc (suc (suc (suc (suc zero))))))) a b t s = value (site_item t (unsigned a)) ∷ s
put (suc (suc (suc (suc (suc (suc (suc (suc zero)))))))) a b t s = value (range a b) ∷ s
put (suc (suc (suc (suc (suc (suc (suc (suc (suc zero))))))))) a b t s = items no_items ∷ s
put (suc (suc (suc (suc (suc (suc (suc (suc (suc (suc zero)))))))))) a b t s = on_item s
put (suc (suc (suc (suc (suc (suc (suc (suc (suc (suc (suc zero))))))))))) a b t s = pairs no_pairs ∷ s
put kind a b t s = on_pair t s

abbrev pub parts : List Token → List Part
parts [] = []
parts (t ∷ ts) = put t.0 t.1.0 t.1.1.0 t.1.1.1 (parts ts)

mutual
  pub plain-back : (v : Plain) (ts : List Token) → parts (tokens v ts) ≡ value v ∷ parts ts
  plain-back nil ts = refl
  plain-back (bool true) ts = refl
  plain-back (bool false) ts = refl
  plain-back (int n) ts = refl
  plain-back (text s) ts = refl
  plain-back (list is) ts = ap on_list (items-back is ts)
  plain-back (hash ps) ts = ap on_hash (pairs-back ps ts)
  plain-back (site_item path part) ts = refl
  plain-back (range a b) ts = refl

  pub items-back : (is : Items) (ts : List Token) → parts (items_tokens is ts) ≡ items is ∷ parts ts
  items-back no_items ts = refl
  items-back (item v is) ts = ap on_item (plain-back v (items_tokens is ts) ∙ ap (λ s. value v ∷ s) (items-back is ts))

  pub pairs-back : (ps : Pairs) (ts : List Token) → parts (pairs_tokens ps ts) ≡ pairs ps ∷ parts ts
  pairs-back no_pairs ts = refl
  pairs-back (pair k v ps) ts = ap (on_pair k) (plain-back v (pairs_tokens ps ts) ∙ ap (λ s. value v ∷ s) (pairs-back ps ts))

abbrev pub first_items : List Part → Items
first_items (items is ∷ s) = is
first_items s = no_items

abbrev pub first_pairs : List Part → Pairs
first_pairs (pairs ps ∷ s) = ps
first_pairs s = no_pairs

abbrev pub token_code : Coded (List Token)
token_code = coded_list (coded× coded_ℕ (coded× coded_ℤ (coded× coded_ℤ (coded_list coded_ℕ))))

abbrev pub flat_items : Coded Items
flat_items = code_by (List Token) token_code (λ is. items_tokens is []) (λ ts. first_items (parts ts)) (λ is. ap first_items (items-back is []))

abbrev pub flat_pairs : Coded Pairs
flat_pairs = code_by (List Token) token_code (λ ps. pairs_tokens ps []) (λ ts. first_pairs (parts ts)) (λ ps. ap first_pairs (pairs-back ps []))
