-- What a loop goes over. After the reference of Liquid 4 (Shopify), "Tags", "Iteration".
use Rattle.std.specs.Prelude.{ℕ, zero, suc, pos, negsuc, ℤ, nat_lt, Bool, true, false, List, [], ◌∷◌, length, take, drop, reverse, if◌then◌else◌, ◌==◌, Option, Some, None, Result, Ok, Err}
use Rattle.std.specs.Option.{unwrap_or}
use Rattle.std.specs.List.{list_any}
use Rattle.site_base.specs.Chains.{◌>>=◌}
use Rattle.site_base.specs.Plain.{Plain, nil, bool, int, text, list, hash, site_item, range, Items, no_items, item, item_list, Pairs, no_pairs, pair}
use Rattle.site_base.specs.declared.faults.FaultKind.{FaultKind}
use Rattle.site_base.specs.declared.faults.FaultKind.TheVariants.{FilterArgument}
use Rattle.site_base.specs.declared.faults.SiteFault.{SiteFault}
use Rattle.read_record.specs.Queries.{Query, Give, bind}
use Rattle.filter_base.specs.Elements.{counted, range_len, range_count}
use Rattle.liquid_grammar.specs.declared.expression.Expr.{Expr}
use Rattle.liquid_grammar.specs.declared.tag.Loop.{Loop}
use Rattle.liquid_grammar.specs.declared.tag.LoopKey.{LoopKey}
use Rattle.liquid_grammar.specs.declared.tag.LoopKey.TheVariants.{Limit, Offset, Columns}
use Rattle.liquid_grammar.specs.declared.tag.LoopPart.{LoopPart}
use Rattle.liquid_grammar.specs.declared.tag.LoopPart.TheVariants.{Reversed, Number}
use Rattle.liquid_grammar.specs.Tags.{has_key}
use Rattle.liquid_tags.specs.declared.elements.Numbers.{Numbers}
use Rattle.liquid_values.specs.Places.{Place, found_at}
use Rattle.liquid_values.specs.Names.{Excerpting}
use Rattle.liquid_tags.specs.Expressions.{expression}

-- a key and its value, as a list of two
abbrev pub pair_value : List ℕ → Plain → Plain
pair_value k v = list (item (text k) (item v no_items))

abbrev pub pair_list : Pairs → List Plain
pair_list no_pairs = []
pair_list (pair k v ps) = pair_value k v ∷ pair_list ps

-- a text that is not empty is one element
abbrev pub lone_text : List ℕ → List Plain
lone_text [] = []
lone_text (c ∷ cs) = text (c ∷ cs) ∷ []

abbrev pub elements : Plain → Result (List Plain) FaultKind
elements (list is) = Ok (item_list is)
elements (hash ps) = Ok (pair_list ps)
elements (range a b) = range_count (range_len a b) >>= λ n. Ok (item_list (counted a n))
elements (text t) = Ok (lone_text t)
elements nil = Ok []
elements (bool b) = Ok []
elements (int n) = Ok []
elements (site_item path part) = Ok []

-- a number below 0 counts as 0, and what is none is a fault
abbrev pub count : ℤ → ℕ
count (pos n) = n
count (negsuc n) = 0

abbrev pub whole : Plain → Result ℕ FaultKind
whole (int n) = Ok (count n)
whole v = Err FilterArgument

abbrev pub cut_from : Option ℕ → List Plain → List Plain
cut_from None vs = vs
cut_from (Some n) vs = drop n vs

abbrev pub cut_to : Option ℕ → List Plain → List Plain
cut_to None vs = vs
cut_to (Some n) vs = take n vs

abbrev pub turned_round : Bool → List Plain → List Plain
turned_round true vs = reverse vs
turned_round false vs = vs

abbrev pub no_numbers : Numbers
no_numbers = record { limit = None; offset = None; columns = None }

abbrev pub with_number : LoopKey → ℕ → Numbers → Numbers
with_number Limit n ns = record { limit = Some n; offset = ns.offset; columns = ns.columns }
with_number Offset n ns = record { limit = ns.limit; offset = Some n; columns = ns.columns }
with_number Columns n ns = record { limit = ns.limit; offset = ns.offset; columns = Some n }

-- cut at its front, then to its length, and then turned round
abbrev pub cut : Numbers → Bool → List Plain → List Plain
cut ns reversed vs = turned_round reversed (cut_to ns.limit (cut_from ns.offset vs))

module _ (excerpts : Excerpting) where
  abbrev pub given_number : Place → Pairs → Expr → Query SiteFault ℕ
  given_number p vars e = bind (expression excerpts p vars e) (λ v. found_at p (whole v))

  abbrev pub with_part : Place → Pairs → Numbers → LoopPart → Query SiteFault Numbers
  with_part p vars made Reversed = Give made
  with_part p vars made (Number key e) = bind (given_number p vars e) (λ n. Give (with_number key n made))

  -- in the order in which they stand
  abbrev pub numbers : Place → Pairs → Numbers → List LoopPart → Query SiteFault Numbers
  numbers p vars made [] = Give made
  numbers p vars made (q ∷ qs) = bind (with_part p vars made q) (λ ns. numbers p vars ns qs)

  abbrev pub cut_elements : Place → Pairs → Loop → Plain → Query SiteFault (List Plain)
  cut_elements p vars l v =
      bind (found_at p (elements v)) (λ vs.
      bind (numbers p vars no_numbers l.parts) (λ ns.
      Give (cut ns (list_any (has_key None) l.parts) vs)))

  -- what a `for` goes over
  abbrev pub loop_elements : Place → Pairs → Loop → Query SiteFault (List Plain)
  loop_elements p vars l = bind (expression excerpts p vars l.list) (λ v. cut_elements p vars l v)

-- how many columns a row has: the whole list where none are given, or fewer than one
abbrev pub columns_of : Option ℕ → ℕ → ℕ
columns_of None len = len
columns_of (Some zero) len = len
columns_of (Some (suc n)) len = suc n
