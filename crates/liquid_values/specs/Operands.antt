-- What operands stand for. After the reference of Liquid 4 (Shopify), "Types" and "Variables", and Jekyll 4's manual, "Variables".
use Rattle.std.specs.Prelude.{ℕ, ℤ, List, [], ◌∷◌, codes, if◌then◌else◌, None, Result, Ok}
use Rattle.std.specs.Str.{bytes_eq}
use Rattle.site_base.specs.Chains.{◌>>=◌}
use Rattle.site_base.specs.Plain.{Plain, nil, bool, int, text, site_item, range, Items, Pairs}
use Rattle.site_base.specs.declared.faults.FaultKind.{FaultKind}
use Rattle.site_base.specs.declared.faults.SiteFault.{SiteFault}
use Rattle.site_base.specs.declared.item_name.ItemName.{ItemName}
use Rattle.read_record.specs.declared.key.Key.TheVariants.{Source, Content, Output, Var}
use Rattle.read_record.specs.Queries.{Query, Give, Ask, bind}
use Rattle.filter_base.specs.Numerals.{num}
use Rattle.liquid_grammar.specs.declared.literal.Literal.{Literal}
use Rattle.liquid_grammar.specs.declared.literal.Literal.TheVariants as literals
use Rattle.liquid_grammar.specs.Operands as operands
use Rattle.liquid_values.specs.Places.{Manner, of_body, of_excerpt, of_layout, Place, found_at}
use Rattle.liquid_values.specs.Members.{member_value, element_at}
use Rattle.liquid_values.specs.Names.{Found, value, the_site, the_data, settled, given, reached, looked_up, Excerpting, named, site_member, ends_keys, with_key, is_item}

-- `blank` and `empty` are nil but in a comparison
abbrev pub literal_value : Literal → Plain
literal_value literals.Nil = nil
literal_value (literals.Bool b) = bool b
literal_value literals.Blank = nil
literal_value literals.Empty = nil
literal_value (literals.Int n) = int n
literal_value (literals.Text t) = text t

abbrev pub item_of : List ℕ → ℕ → ItemName
item_of path part = record { path = path; part = part }

-- an item's own text in its layouts, its source in an excerpt, and else its content
abbrev pub content_of : Place → Manner → ItemName → Query SiteFault Found
content_of p of_body n = Ask (Content n) given
content_of p of_excerpt n = Ask (Source n) given
content_of p (of_layout own content layout) n = if is_item n (site_item p.page.path p.page.part) then given (text own) else Ask (Content n) given

-- nothing has an output in an excerpt
abbrev pub output_of : Manner → ItemName → Query SiteFault Found
output_of of_excerpt n = given nil
output_of of_body n = Ask (Output n) given
output_of (of_layout own content layout) n = Ask (Output n) given

-- both ends count as numbers
abbrev pub range_of : Plain → Plain → Result Plain FaultKind
range_of v w = num v >>= λ a. num w >>= λ b. Ok (range a b)

-- `v[n]`
abbrev pub numbered : Place → Found → ℤ → Query SiteFault Found
numbered p f n = bind (settled p f) (λ v. reached p (element_at n v))

-- what neither a text nor a number names is undefined
abbrev pub unnamed : Place → Found → Query SiteFault Found
unnamed p f = bind (settled p f) (λ v. reached p None)

-- a range from this value, once its last end is known too
abbrev pub range_from : Place → Plain → Found → Query SiteFault Found
range_from p v g = bind (settled p g) (λ w. bind (found_at p (range_of v w)) given)

module _ (excerpts : Excerpting) where
  abbrev pub item_member : Place → ItemName → List ℕ → Query SiteFault Found
  item_member p n x =
      if bytes_eq x (codes "content") then content_of p p.manner n
      else if bytes_eq x (codes "output") then output_of p.manner n
      else if bytes_eq x (codes "excerpt") then excerpts p n
      else looked_up p (Var n x)

  abbrev pub value_member : Place → Plain → List ℕ → Query SiteFault Found
  value_member p (site_item path part) x = item_member p (item_of path part) x
  value_member p v x = reached p (member_value x v)

  -- a member of what the data has under these keys
  abbrev pub member_of_data : Place → Items → List ℕ → Query SiteFault Found
  member_of_data p keys x = bind (settled p (the_data keys)) (λ v. value_member p v x)

  abbrev pub data_member : Place → Items → List ℕ → Query SiteFault Found
  data_member p keys x = if ends_keys x then member_of_data p keys x else Give (the_data (with_key keys x))

  abbrev pub member : Place → Found → List ℕ → Query SiteFault Found
  member p the_site x = site_member p x
  member p (the_data keys) x = data_member p keys x
  member p (value v) x = value_member p v x

  -- a text in brackets names a member, a number a place
  abbrev pub indexed : Place → Found → Plain → Query SiteFault Found
  indexed p f (text x) = member p f x
  indexed p f (int n) = numbered p f n
  indexed p f v = unnamed p f

  -- what stands in brackets is looked up first
  abbrev pub index_found : Place → Found → Found → Query SiteFault Found
  index_found p f g = bind (settled p g) (λ v. indexed p f v)

  -- from left to right: a range's first end is settled before its last is begun
  abbrev pub found : Place → Pairs → operands.Operand → Query SiteFault Found
  found p vars (operands.literal l) = given (literal_value l)
  found p vars (operands.range a b) = bind (found p vars a) (λ f. bind (settled p f) (λ v. bind (found p vars b) (λ g. range_from p v g)))
  found p vars (operands.variable x) = named p vars x
  found p vars (operands.member e x) = bind (found p vars e) (λ f. member p f x)
  found p vars (operands.index e x) = bind (found p vars e) (λ f. bind (found p vars x) (λ g. index_found p f g))

  abbrev pub operand : Place → Pairs → operands.Operand → Query SiteFault Plain
  operand p vars e = bind (found p vars e) (settled p)

  -- the values of several, from left to right
  abbrev pub operand_values : Place → Pairs → List operands.Operand → Query SiteFault (List Plain)
  operand_values p vars [] = Give []
  operand_values p vars (e ∷ es) = bind (operand p vars e) (λ v. bind (operand_values p vars es) (λ vs. Give (v ∷ vs)))
