-- A site whose items stand in a row: each shows a value, which it sees once the item that it needs is done.
use Rattle.std.specs.Prelude.{◌≡◌, ℕ, zero, suc, pos, Bool, true, false, ◌==◌, ◌<◌, List, Option, Some, None, IsTrue, if◌then◌else◌, slice_get, length, refl}
use Rattle.std.proofs.Common.{arith, ap, subst, sym, ◌∙◌, get_or}
use Rattle.std.proofs.lemmas.Option.{slice_get-get_or}
use Rattle.site_base.specs.Plain.{Plain, nil, int}
use Rattle.site_base.specs.declared.faults.SiteFault.{SiteFault}
use Rattle.site_base.specs.declared.item_name.ItemName.{ItemName}
use Rattle.read_record.specs.declared.key.Key.{Key}
use Rattle.read_record.specs.declared.key.Key.TheVariants.{Content, Output, Var, SiteVar, Data, Moment}
use Rattle.read_record.specs.declared.outcome.Outcome.{Outcome}
use Rattle.read_record.specs.declared.outcome.Outcome.TheVariants.{Done, Fault}
use Rattle.read_record.specs.Queries.{Query, Ask, Reply, Known, Missing}
use Rattle.read_record.specs.Outcomes.{Page, is_done}
use Rattle.read_record.specs.Worlds.{Sight, Lawful, is_steady}
use Rattle.read_record.specs.Forms.{has_form, is_words, IsFormed}
use Rattle.round_core.specs.Meant.{nameless}
use Rattle.round_core.specs.Samples.{variable_page}
use Rattle.round_tests.specs.declared.row.Needs.{Needs}
use Rattle.round_tests.specs.declared.row.Needs.TheVariants as needs

-- the item that one needs
abbrev pub needed_by : Needs → ℕ → Option ℕ
needed_by needs.Nothing i = None
needed_by needs.Before zero = None
needed_by needs.Before (suc i) = Some i
needed_by needs.First zero = None
needed_by needs.First (suc i) = Some 0

-- one item has no value
abbrev pub value_at : ℕ → Plain → ℕ → Plain
value_at lacking value i = if i == lacking then nil else value

-- the item that is needed, where it is not done
abbrev pub open_need : Option ℕ → (ℕ → Option Outcome) → Option ℕ
open_need None known = None
open_need (Some j) known = if is_done (known j) then None else Some j

abbrev pub unless_open : Option ℕ → Plain → Reply
unless_open None v = Known v
unless_open (Some j) v = Missing j

abbrev pub reply_of : Option ℕ → Plain → (ℕ → Option Outcome) → Reply
reply_of o v known = unless_open (open_need o known) v

abbrev pub row_sight : Needs → ℕ → Plain → Sight
row_sight needs lacking value reader known (Content name) = reply_of (needed_by needs reader) (value_at lacking value reader) known
row_sight needs lacking value reader known Moment = Known (int (pos 0))
row_sight needs lacking value reader known k = Known nil

needs-earlier : (n : Needs) (i j : ℕ) → needed_by n i ≡ Some j → j < i
needs-earlier needs.Nothing i j h = cc
needs-earlier needs.Before zero j h = cc
needs-earlier needs.Before (suc i) j h = let e : i ≡ j = cc in omega (arith, e)
needs-earlier needs.First zero j h = cc
needs-earlier needs.First (suc i) j h = let e : 0 ≡ j = cc in omega (arith, e)

done-more : (o p : Option Outcome) → ((q : Outcome) → o ≡ Some q → p ≡ Some q) → is_done o ≡ true → is_done p ≡ true
done-more (Some (Done c t)) p grow h = ap is_done (grow (Done c t) refl)
done-more (Some (Fault f)) p grow h = cc
done-more None p grow h = cc

was-done : (b : Bool) (v w : Plain) (j : ℕ) → unless_open (if b then None else Some j) v ≡ Known w → (b ≡ true) × (v ≡ w)
was-done true v w j h = (refl, cc)
was-done false v w j h = cc

grows-at : (o : Option ℕ) (reader : ℕ) → ((j : ℕ) → o ≡ Some j → j < reader) → (known more : ℕ → Option Outcome) → ((j : ℕ) (q : Outcome) → j < reader → known j ≡ Some q → more j ≡ Some q)
    → (v w : Plain) → reply_of o v known ≡ Known w → reply_of o v more ≡ Known w
grows-at None reader below known more grow v w h = h
grows-at (Some j) reader below known more grow v w h =
    let was = was-done (is_done (known j)) v w j h in
    ap (λ b. unless_open (if b then None else Some j) v) (done-more (known j) (more j) (λ q. grow j q (below j refl)) was.0) ∙ ap Known was.1

waits-for : (b : Bool) (v : Plain) (i j : ℕ) → unless_open (if b then None else Some i) v ≡ Missing j → (i ≡ j) × (b ≡ false)
waits-for true v i j h = cc
waits-for false v i j h = (cc, refl)

misses-at : (o : Option ℕ) (reader : ℕ) → ((j : ℕ) → o ≡ Some j → j < reader) → (known : ℕ → Option Outcome) (v : Plain) (j : ℕ) → reply_of o v known ≡ Missing j → (j < reader) × (is_done (known j) ≡ false)
misses-at None reader below known v j h = cc
misses-at (Some i) reader below known v j h =
    let w = waits-for (is_done (known i)) v i j h in
    (subst (λ n. n < reader) w.0 (below i refl), subst (λ n. is_done (known n) ≡ false) w.0 w.1)

row-grows : (n : Needs) (lacking : ℕ) (value : Plain) (reader : ℕ) (known more : ℕ → Option Outcome) → ((j : ℕ) (q : Outcome) → j < reader → known j ≡ Some q → more j ≡ Some q)
    → (k : Key) (w : Plain) → row_sight n lacking value reader known k ≡ Known w → row_sight n lacking value reader more k ≡ Known w
row-grows n lacking value reader known more grow (Content name) w h = grows-at (needed_by n reader) reader (needs-earlier n reader) known more grow (value_at lacking value reader) w h
row-grows n lacking value reader known more grow _ w h = h

row-misses : (n : Needs) (lacking : ℕ) (value : Plain) (reader : ℕ) (known : ℕ → Option Outcome) (k : Key) (j : ℕ) → row_sight n lacking value reader known k ≡ Missing j → (j < reader) × (is_done (known j) ≡ false)
row-misses n lacking value reader known (Content name) j h = misses-at (needed_by n reader) reader (needs-earlier n reader) known (value_at lacking value reader) j h
row-misses n lacking value reader known _ j h = cc

row-steady : (n : Needs) (lacking : ℕ) (value : Plain) (k : Key) → is_steady k ≡ true → (reader other : ℕ) (known more : ℕ → Option Outcome) → row_sight n lacking value reader known k ≡ row_sight n lacking value other more k
row-steady n lacking value (Content name) h reader other known more = cc
row-steady n lacking value (Output name) h reader other known more = cc
row-steady n lacking value Moment h reader other known more = refl
row-steady n lacking value _ h reader other known more = refl

pub row-lawful : (n : Needs) (lacking : ℕ) (value : Plain) → Lawful (row_sight n lacking value)
row-lawful n lacking value = record { grows = row-grows n lacking value; misses = row-misses n lacking value; steady = row-steady n lacking value }

formed-at : (k : Key) (v w : Plain) → IsTrue (has_form k v) → v ≡ w → IsTrue (has_form k w)
formed-at k v w h e = subst (λ x. IsTrue (has_form k x)) e h

value-words : (lacking : ℕ) (value : Plain) (i : ℕ) → IsTrue (is_words value) → IsTrue (is_words (value_at lacking value i))
value-words lacking value i words = by (i == lacking)
  where
    by : (b : Bool) → IsTrue (is_words (if b then nil else value))
    by true = refl
    by false = words

reply-value : (o : Option ℕ) (v w : Plain) (known : ℕ → Option Outcome) → reply_of o v known ≡ Known w → v ≡ w
reply-value None v w known h = cc
reply-value (Some j) v w known h = (was-done (is_done (known j)) v w j h).1

pub row-formed : (n : Needs) (lacking : ℕ) (value : Plain) → IsTrue (is_words value) → (reader : ℕ) (known : ℕ → Option Outcome) → IsFormed (row_sight n lacking value reader known)
row-formed n lacking value words reader known (Content name) v h =
    formed-at (Content name) (value_at lacking value reader) v (value-words lacking value reader words) (reply-value (needed_by n reader) (value_at lacking value reader) v known h)
row-formed n lacking value words reader known (Var name x) v h = refl
row-formed n lacking value words reader known (SiteVar x) v h = refl
row-formed n lacking value words reader known (Data keys) v h = refl
row-formed n lacking value words reader known Moment v h = formed-at Moment (int (pos 0)) v refl (cc)
row-formed n lacking value words reader known k v h = formed-at k nil v refl (cc)

-- each name has its place as its part
abbrev pub AreNumbered : List ItemName → Type 0
AreNumbered names = (i : ℕ) (name : ItemName) → slice_get names i ≡ Some name → name.part ≡ i

pub numbered-differ : (names : List ItemName) → AreNumbered names → (i j : ℕ) → i < length names → slice_get names i ≡ slice_get names j → i ≡ j
numbered-differ names numbered i j within h =
    let at = slice_get-get_or names i nameless within in
    sym (numbered i (get_or names i nameless) at) ∙ numbered j (get_or names i nameless) (sym h ∙ at)

-- each item shows its content
abbrev pub row_item : ItemName → Query SiteFault Page
row_item name = Ask (Content name) (λ v. variable_page name v)
