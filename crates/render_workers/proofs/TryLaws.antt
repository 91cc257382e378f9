-- One try at an item, whatever it comes to.
use Rattle.std.proofs.Common.{◌≡◌, ℕ, ◌<◌, List, [], ◌∷◌, ◌++◌, length, get_or, append-nil, option_map, Option, Some, None, Result, Ok, Err, refl, ap, sym, ◌∙◌, subst}
use Rattle.std.specs.Prelude.{IfSome, MatchOption, slice_get}
use Rattle.std.proofs.lemmas.Option.{slice_get-get_or}
use Rattle.std.specs.FinMap.{get}
use Rattle.site_base.specs.declared.faults.SiteFault.{SiteFault}
use Rattle.site_base.specs.declared.item_name.ItemName.{ItemName}
use Rattle.read_record.specs.declared.key.Key.{Key}
use Rattle.read_record.specs.declared.outcome.Outcome.{Outcome}
use Rattle.read_record.specs.declared.outcome.Checked.{Checked}
use Rattle.read_record.specs.declared.outcome.Checked.TheVariants as checked
use Rattle.read_record.specs.Queries.{Query, View, interpret, needed_item}
use Rattle.read_record.specs.Records.{first_other, Certifies}
use Rattle.read_record.specs.Outcomes.{Page, met_of}
use Rattle.read_record.specs.Entries.{Kept, Tells}
use Rattle.read_record.proofs.RecordLaws.{carried}
use Rattle.memo_table.specs.Entries.{Entries}
use Rattle.memo_table.specs.Lending.{EntriesAndWorld}
use Rattle.round_core.specs.Meant.{nameless, is_other, is_stale}
use Rattle.round_core.specs.Steps.{Differs}
use Rattle.render_workers.specs.declared.answers.Why.{Why}
use Rattle.render_workers.specs.declared.answers.RoundError.{RoundError}
use Rattle.render_workers.specs.declared.answers.RoundError.TheVariants as error
use Rattle.render_workers.specs.declared.progress.Progress.{Progress}
use Rattle.render_workers.specs.declared.settling.Settled.{Settled}
use Rattle.render_workers.specs.declared.settling.Settled.TheVariants as settled
use Rattle.render_workers.specs.Folds.{counted, tree_too_long}
use Rattle.render_workers.specs.Whys.{first_other_key, reason_of, why_for, why_of, why_names}
use Rattle.render_workers.specs.Turns.{kept_in, with_check, IsFound, waits_at, waits_for, IsRendered, IsSettled, IsFault, IsAdded, IsAddedNew, IsTurn}
use Rattle.render_workers.proofs.FoldLaws.{MissesNothing, waits-none}
use Rattle.render_workers.proofs.WhyLaws.{why-differs, why-fresh}
use Rattle.render_workers.proofs.KeepLaws.{kept-same}

module _ {A : Type 0} (P : A → Type 0) (o : Option A) (x : A) (is : o ≡ Some x) where
  -- what is said of a value that is there
  pub of-some : IfSome o P → P x
  of-some h = subst (λ y. IfSome y P) is h

  pub if-some : P x → IfSome o P
  if-some h = subst (λ y. IfSome y P) (sym is) h

module _ {M : Type 0} (view : View) (name : ItemName) (query : Query SiteFault Page) (before after : List ItemName) where
  -- a stale item was rendered for its reason
  rendered : (kept : Option Kept) (key : Option Key) (r : Settled M) → Differs kept view → key ≡ reason_of kept view → waits_for kept view query ≡ needed_item (interpret view query)
      → IsRendered view name query key r before after → IsSettled kept view name query r before after
  rendered kept key (settled.Kept e) differs is waits h = absurd h
  rendered kept key (settled.New e why) differs is waits h = (differs, h.0, h.1 ∙ ap (why_for name) is, h.2)
  rendered kept key (settled.Needs j) differs is waits h = (waits ∙ h.0, h.1)
  rendered kept key settled.Memory differs is waits h = tt

  -- nothing is kept
  pub rendered-first : (kept : Option Kept) (r : Settled M) → kept ≡ None → IsRendered view name query None r before after → IsSettled kept view name query r before after
  rendered-first kept r none h = subst (λ k. IsSettled k view name query r before after) (sym none) (rendered None None r tt refl refl h)

  -- what is kept differs
  pub rendered-anew : (kept : Option Kept) (e : Kept) (place : ℕ) (key : Option Key) (r : Settled M) → kept ≡ Some e → first_other e.reads view ≡ checked.Differs place → key ≡ reason_of (Some e) view
      → IsRendered view name query key r before after → IsSettled kept view name query r before after
  rendered-anew kept e place key r is differs reason h =
      subst (λ k. IsSettled k view name query r before after) (sym is)
      (rendered (Some e) key r (place, differs) reason (ap (λ c. waits_at c (needed_item (interpret view query))) differs) h)

module _ (o : Option ItemName) (n : ItemName) (is : o ≡ Some n) (view : View) (m : Entries) where
  -- what was found of an item is its entry, checked
  pub found_right : (found : Option (Kept × Checked)) → MatchOption found (get m n ≡ None) (λ r. (get m n ≡ Some r.0) × (r.1 ≡ first_other r.0.reads view)) → IfSome found (λ r. r.0.name ≡ n)
      → IfSome o (λ name. IfSome found (IsFound view name))
  found_right None h named = if-some (λ name. IfSome None (IsFound view name)) o n is tt
  found_right (Some r) h named = if-some (λ name. IfSome (Some r) (IsFound view name)) o n is (named, h.1)

  found-kept : (found : Option (Kept × Checked)) → MatchOption found (get m n ≡ None) (λ r. (get m n ≡ Some r.0) × (r.1 ≡ first_other r.0.reads view)) → kept_in found ≡ get m n
  found-kept None h = sym h
  found-kept (Some r) h = sym h.0

  -- and what came of it came of what is kept
  pub settled_found : {M : Type 0} (item : ItemName → Query SiteFault Page) (found : Option (Kept × Checked)) (r : Settled M) (before after : List ItemName)
      → MatchOption found (get m n ≡ None) (λ r. (get m n ≡ Some r.0) × (r.1 ≡ first_other r.0.reads view))
      → IfSome o (λ name. IsSettled (kept_in found) view name (item name) r before after) → IfSome o (λ name. IsSettled (get m name) view name (item name) r before after)
  settled_found item found r before after h settled =
      if-some (λ name. IsSettled (get m name) view name (item name) r before after) o n is
      (subst (λ k. IsSettled k view n (item n) r before after) (found-kept found h) (of-some (λ name. IsSettled (kept_in found) view name (item name) r before after) o n is settled))

-- an entry with its check is what was found of it
module _ (o : Option ItemName) (n : ItemName) (is : o ≡ Some n) (view : View) (m : Entries) (k : Option Kept) (c : Option Checked) (found : Option (Kept × Checked)) (entry : k ≡ get m n)
    (checks : c ≡ option_map (λ e. first_other e.reads view) (get m n)) (both : found ≡ with_check k c) where
  checked-found : (k : Option Kept) → MatchOption (with_check k (option_map (λ e. first_other e.reads view) k)) (k ≡ None) (λ r. (k ≡ Some r.0) × (r.1 ≡ first_other r.0.reads view))
  checked-found None = refl
  checked-found (Some e) = (refl, refl)

  noted-found : MatchOption found (get m n ≡ None) (λ r. (get m n ≡ Some r.0) × (r.1 ≡ first_other r.0.reads view))
  noted-found =
      subst (λ f. MatchOption f (get m n ≡ None) (λ r. (get m n ≡ Some r.0) × (r.1 ≡ first_other r.0.reads view))) (sym (both ∙ (λ i. with_check (entry i) (checks i)))) (checked-found (get m n))

  noted-named : IfSome k (λ e. e.name ≡ n) → IfSome found (λ r. r.0.name ≡ n)
  noted-named h = subst (λ f. IfSome f (λ r. r.0.name ≡ n)) (sym both) (go k c h)
    where
      go : (k : Option Kept) (c : Option Checked) → IfSome k (λ e. e.name ≡ n) → IfSome (with_check k c) (λ r. r.0.name ≡ n)
      go None c h = tt
      go (Some e) None h = tt
      go (Some e) (Some v) h = h

  pub noted_right : IfSome k (λ e. e.name ≡ n) → IfSome o (λ name. IfSome found (IsFound view name))
  noted_right named = found_right o n is view m found noted-found (noted-named named)

  pub noted_settled : {M : Type 0} (item : ItemName → Query SiteFault Page) (r : Settled M) (before after : List ItemName)
      → IfSome o (λ name. IsSettled (kept_in found) view name (item name) r before after) → IfSome o (λ name. IsSettled (get m name) view name (item name) r before after)
  noted_settled item r before after settled = settled_found o n is view m item found r before after noted-found settled

-- what came of an entry that was found
module _ (names : List ItemName) (i : ℕ) (within : i < length names) (view : View) (found : Option (Kept × Checked)) (e : Kept) (c : Checked) (there : found ≡ Some (e, c))
    (is : IfSome (slice_get names i) (λ name. IfSome found (IsFound view name))) where
  its-name : slice_get names i ≡ Some (get_or names i nameless)
  its-name = slice_get-get_or names i nameless within

  found-there : IsFound view (get_or names i nameless) (e, c)
  found-there =
      of-some (IsFound view (get_or names i nameless)) found (e, c) there
      (of-some (λ name. IfSome found (IsFound view name)) (slice_get names i) (get_or names i nameless) its-name is)

  pub first_found : first_other e.reads view ≡ c
  first_found = sym found-there.1

  -- it agrees, and is kept
  pub settled_kept : (M : Type 0) (item : ItemName → Query SiteFault Page) (tally : List ItemName) → c ≡ checked.Agrees → Certifies e.reads (item e.name) (met_of e.outcome)
      → IfSome (slice_get names i) (λ name. IsSettled {M = M} (kept_in found) view name (item name) (settled.Kept e) tally tally)
  settled_kept M item tally agrees certified =
      let n = get_or names i nameless in
      let own : e.name ≡ n = found-there.0 in
      let certified' : Certifies e.reads (item n) (met_of e.outcome) = subst (λ m. Certifies e.reads (item m) (met_of e.outcome)) own certified in
      let same : first_other e.reads view ≡ checked.Agrees = first_found ∙ agrees in
      let tells : Tells view n (item n) e = record { named = own; outcome = carried e.reads view same (item n) (met_of e.outcome) certified'; agrees = same; certified = certified' } in
      if-some (λ name. IsSettled {M = M} (kept_in found) view name (item name) (settled.Kept e) tally tally) (slice_get names i) n its-name (ap kept_in there, tells, refl)

  -- it differs, and the item was rendered for that reason
  pub settled_anew : {M : Type 0} (item : ItemName → Query SiteFault Page) (place : ℕ) (key : Key) (r : Settled M) (before after : List ItemName) → c ≡ checked.Differs place → Some key ≡ first_other_key e.reads view
      → IfSome (slice_get names i) (λ name. IsRendered view name (item name) (Some key) r before after) → IfSome (slice_get names i) (λ name. IsSettled (kept_in found) view name (item name) r before after)
  settled_anew item place key r before after differs reason h =
      let n = get_or names i nameless in
      if-some (λ name. IsSettled (kept_in found) view name (item name) r before after) (slice_get names i) n its-name
      (rendered-anew view n (item n) before after (kept_in found) e place (Some key) r (ap kept_in there) (first_found ∙ differs) reason (of-some (λ name. IsRendered view name (item name) (Some key) r before after) (slice_get names i) n its-name h))

-- ---- what joins the outcomes

pub too-long : (name : ItemName) (outcome : Outcome) (error : RoundError) (old new : Progress) → counted outcome name old.bytes ≡ Err (tree_too_long name) → IsFault (tree_too_long name) error → IsAdded name outcome (Err error) old new
too-long name outcome (error.Fault f) old new counts h = counts ∙ ap (λ (x : SiteFault). Err x) (sym h)
too-long name outcome error.Memory old new counts h = tt

pub ended-new : (entry : Kept) (why : Why) (outcome : Outcome) (name : ItemName) (error : RoundError) (old new : Progress) (kept kept' : Entries) → outcome ≡ entry.outcome → name ≡ entry.name → kept' ≡ kept
    → IsAdded name outcome (Err error) old new → IsAddedNew entry why (Err error) old new kept kept'
ended-new entry why outcome name (error.Fault f) old new kept kept' o n same h = ((λ i. counted (sym o i) (sym n i) old.bytes) ∙ h, same)
ended-new entry why outcome name error.Memory old new kept kept' o n same h = tt

module _ (view : View) (name : ItemName) (query : Query SiteFault Page) (e : Kept) (tells : Tells view name query e) (old new : Progress) (kept : Entries) (before after : List ItemName) where
  -- an item whose entry stays
  pub turn-kept : (outcome : Outcome) (given : ItemName) (r : Result (Unit {0}) RoundError) → get kept name ≡ Some e → outcome ≡ e.outcome → given ≡ e.name → after ≡ before
      → IsAdded given outcome r old new → IsTurn view name query r old new kept kept before after
  turn-kept outcome given r is o n same added = go r added
    where
      fresh : why_of (get kept name) view name ≡ []
      fresh = why-fresh (get kept name) view name (ap (λ k. is_stale k view) is ∙ ap is_other tells.agrees)

      nobody : after ≡ before ++ why_names (why_of (get kept name) view name)
      nobody = same ∙ sym (append-nil before) ∙ ap (λ ws. before ++ why_names ws) (sym fresh)

      counts : counted e.outcome name old.bytes ≡ counted outcome given old.bytes
      counts = λ i. counted (sym o i) ((sym tells.named ∙ sym n) i) old.bytes

      go : (r : Result (Unit {0}) RoundError) → IsAdded given outcome r old new → IsTurn view name query r old new kept kept before after
      go (Ok u) h = record {
        entry = e;
        tells = tells;
        bytes = counts ∙ h.bytes;
        outs = h.outs ∙ ap (λ x. old.outs ++ x ∷ []) o;
        why = h.why ∙ sym (append-nil old.why) ∙ ap (λ ws. old.why ++ ws) (sym fresh);
        kept = sym (kept-same kept e (ap (get kept) tells.named ∙ is));
        tally = nobody;
      }
      go (Err (error.Fault f)) h = record { outcome = e.outcome; met = tells.outcome; counts = counts ∙ h; kept = refl; tally = nobody }
      go (Err error.Memory) h = tt

  -- an item that was rendered
  pub turn-new : (why : Why) (kept' : Entries) (r : Result (Unit {0}) RoundError) → why_of (get kept name) view name ≡ why ∷ [] → after ≡ before ++ why.name ∷ []
      → IsAddedNew e why r old new kept kept' → IsTurn view name query r old new kept kept' before after
  turn-new why kept' r told tallied added = go r added
    where
      named : after ≡ before ++ why_names (why_of (get kept name) view name)
      named = tallied ∙ ap (λ ws. before ++ why_names ws) (sym told)

      counts : counted e.outcome name old.bytes ≡ counted e.outcome e.name old.bytes
      counts = ap (λ n. counted e.outcome n old.bytes) (sym tells.named)

      go : (r : Result (Unit {0}) RoundError) → IsAddedNew e why r old new kept kept' → IsTurn view name query r old new kept kept' before after
      go (Ok u) h = record {
        entry = e;
        tells = tells;
        bytes = counts ∙ h.bytes;
        outs = h.outs;
        why = h.why ∙ ap (λ ws. old.why ++ ws) (sym told);
        kept = h.kept;
        tally = named;
      }
      go (Err (error.Fault f)) h = record { outcome = e.outcome; met = tells.outcome; counts = counts ∙ h.0; kept = h.1; tally = named }
      go (Err error.Memory) h = tt

module _ (o : Option ItemName) (view : View) (item : ItemName → Query SiteFault Page) (e : Kept) (p q : Progress) (m : Entries) (before after : List ItemName) where
  pub kept_turn : (outcome : Outcome) (given : ItemName) (r : Result (Unit {0}) RoundError) → outcome ≡ e.outcome → given ≡ e.name → IfSome o (λ name. (get m name ≡ Some e) × Tells view name (item name) e × (after ≡ before))
      → IsAdded given outcome r p q → IfSome o (λ name. IsTurn view name (item name) r p q m m before after)
  kept_turn outcome given r os ns h added = go o h
    where
      go : (o : Option ItemName) → IfSome o (λ name. (get m name ≡ Some e) × Tells view name (item name) e × (after ≡ before)) → IfSome o (λ name. IsTurn view name (item name) r p q m m before after)
      go (Some n) h = turn-kept view n (item n) e h.1 p q m before after outcome given r h.0 os ns h.2 added
      go None h = h

  pub new_turn : (why : Why) (m' : Entries) (r : Result (Unit {0}) RoundError)
      → IfSome o (λ name. Differs (get m name) view × Tells view name (item name) e × (why ≡ why_for name (reason_of (get m name) view)) × (after ≡ before ++ name ∷ []))
      → IsAddedNew e why r p q m m' → IfSome o (λ name. IsTurn view name (item name) r p q m m' before after)
  new_turn why m' r h added = go o h
    where
      go : (o : Option ItemName) → IfSome o (λ name. Differs (get m name) view × Tells view name (item name) e × (why ≡ why_for name (reason_of (get m name) view)) × (after ≡ before ++ name ∷ []))
          → IfSome o (λ name. IsTurn view name (item name) r p q m m' before after)
      go (Some n) h = turn-new view n (item n) e h.1 p q m before after why m' r (why-differs (get m n) view n why h.0 h.2) (h.3 ∙ ap (λ (w : Why). before ++ w.name ∷ []) (sym h.2)) added
      go None h = h

-- the world stays the one that is asked
pub asks_on : {W : Type 0} (a b : EntriesAndWorld W) (w : W) → a ≡ b → b.world ≡ w → a.world ≡ w
asks_on a b w same is = ap (λ (x : EntriesAndWorld _). x.world) same ∙ is

-- and the entries are what it says
pub keeps_on : {W : Type 0} (a b : EntriesAndWorld W) (m : Entries) → a ≡ b → b.entries ≡ m → a.entries ≡ m
keeps_on a b m same is = ap (λ (x : EntriesAndWorld _). x.entries) same ∙ is

-- where the view misses nothing, no item has to be done first
pub never_waits : (names : List ItemName) (i : ℕ) → i < length names → (view : View) (item : ItemName → Query SiteFault Page) (m : Entries) (j : ℕ) (before after : List ItemName) → MissesNothing view
    → IfSome (slice_get names i) (λ name. (waits_for (get m name) view (item name) ≡ Some j) × (after ≡ before)) → ⊥
never_waits names i within view item m j before after all h =
    let n = get_or names i nameless in
    let w = of-some (λ name. (waits_for (get m name) view (item name) ≡ Some j) × (after ≡ before)) (slice_get names i) n (slice_get-get_or names i nameless within) h in
    waits-none view all (get m n) (item n) j w.0

pub ruleset joins = (too-long, ended-new)
