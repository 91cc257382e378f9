-- A query for each item of a list, as a loop makes them.
use Rattle.std.proofs.Common.{◌≡◌, ℕ, ◌+◌, ◌<◌, ◌≤◌, List, length, get_or, drop, ◌∙◌, ap, sym, subst, Result}
use Rattle.std.proofs.lemmas.List.{at_drop_more, at_drop_all}
use Rattle.site_base.specs.Plain.{Plain, Items, no_items, item, onto}
use Rattle.site_base.specs.View.{plain, items_of}
use Rattle.site_base.specs.declared.faults.FaultKind.{FaultKind}
use Rattle.site_base.specs.declared.item_name.ItemName.{ItemName}
use Rattle.site_base.specs.declared.value.Value.{Value}
use Rattle.site_base.specs.declared.value.Value.TheVariants as the
use Rattle.read_record.specs.declared.key.Key.{Key}
use Rattle.read_record.specs.Queries.{Query, Give, Ask, bind, View, Trace, RanTo, run}
use Rattle.read_record.proofs.BindLaws.{bind-assoc, bind-give}
use Rattle.read_record.proofs.QueryLaws.{run_gave}
use Rattle.filter_base.specs.Answers.{Finds}
use Rattle.filter_base.specs.Properties.{each, property, property_key}
use Rattle.filter_base.specs.Stops.{Stop}
use Rattle.filter_base.proofs.ItemLaws.{onto_item, onto_nothing}

abbrev pub Asking : Type 0
Asking = Plain → Query FaultKind Plain

-- what is asked of the values from a place on, behind what was found
abbrev pub left : Asking → Items → List Value → ℕ → Query FaultKind Items
left ask found vs i = bind (each ask (items_of (drop i vs))) (λ ps. Give (onto found ps))

pub each_first : (ask : Asking) (vs : List Value) → left ask no_items vs 0 ≡ each ask (items_of vs)
each_first ask vs = bind-give (each ask (items_of vs))

-- the next value first
split : (ask : Asking) (found : Items) (v : Plain) (is : Items) → bind (each ask (item v is)) (λ ps. Give (onto found ps)) ≡ bind (ask v) (λ p. bind (each ask is) (λ ps. Give (onto (onto found (item p no_items)) ps)))
split ask found v is =
    bind-assoc (ask v) (λ p. bind (each ask is) (λ ps. Give (item p ps))) (λ ps. Give (onto found ps))
    ∙ (λ i. bind (ask v) (λ (p : Plain). one p i))
  where
    one : (p : Plain) → bind (bind (each ask is) (λ ps. Give (item p ps))) (λ ps. Give (onto found ps)) ≡ bind (each ask is) (λ ps. Give (onto (onto found (item p no_items)) ps))
    one p = bind-assoc (each ask is) (λ ps. Give (item p ps)) (λ ps. Give (onto found ps)) ∙ (λ i. bind (each ask is) (λ (ps : Items). Give (sym (onto_item found ps p) i)))

next : (ask : Asking) (found : Items) (vs : List Value) (i : ℕ) (v : Value) → i < length vs → v ≡ get_or vs i v
    → left ask found vs i ≡ bind (ask (plain v)) (λ p. left ask (onto found (item p no_items)) vs (i + 1))
next ask found vs i v lt e =
    at_drop_more (λ xs. bind (each ask (items_of xs)) (λ ps. Give (onto found ps))) vs i v lt
    ∙ ap (λ (w : Value). bind (each ask (item (plain w) (items_of (drop (i + 1) vs)))) (λ ps. Give (onto found ps))) (sym e)
    ∙ split ask found (plain v) (items_of (drop (i + 1) vs))

-- one value more
pub each_more : (view : View) (t s : Trace) (ask : Asking) (found : Items) (vs : List Value) (i : ℕ) (v : Value) (p : Plain) → i < length vs → v ≡ get_or vs i v
    → run view t (ask (plain v)) ≡ RanTo p s → run view t (left ask found vs i) ≡ run view s (left ask (onto found (item p no_items)) vs (i + 1))
each_more view t s ask found vs i v p lt e gave =
    ap (run view t) (next ask found vs i v lt e) ∙ run_gave view t (ask (plain v)) (λ p. left ask (onto found (item p no_items)) vs (i + 1)) p s gave

pub each_last : (ask : Asking) (found : Items) (vs : List Value) (i : ℕ) → length vs ≤ i → left ask found vs i ≡ Give found
each_last ask found vs i le =
    at_drop_all (λ xs. bind (each ask (items_of xs)) (λ ps. Give (onto found ps))) vs i le ∙ ap Give (onto_nothing found)

-- one look-up for a property of an item
pub item_asked : (view : View) (t s : Trace) (name : List ℕ) (v : Value) (named : ItemName) (k : Key) (r : Result Plain Stop) → v ≡ the.Item named → k ≡ property_key named name
    → Finds (run view t (Ask k Give)) r s → Finds (run view t (property name (plain v))) r s
item_asked view t s name v named k r is key h =
    subst (λ (w : Value). Finds (run view t (property name (plain w))) r s) (sym is)
    (subst (λ (l : Key). Finds (run view t (Ask l Give)) r s) key h)
