-- Groups that are made one element after another.
use Rattle.std.proofs.Common.{◌≡◌, ℕ, ◌+◌, ◌<◌, ℤ, List, length, drop, get_or, map, sym, ap, ◌∙◌, Result, Ok, Err}
use Rattle.std.proofs.lemmas.List.{at_drop_more}
use Rattle.site_base.specs.Chains.{◌>>=◌}
use Rattle.site_base.specs.Plain.{list, Items, no_items, Pairs, onto}
use Rattle.site_base.specs.Values.{value_text}
use Rattle.site_base.specs.View.{plain, pairs_of}
use Rattle.site_base.specs.declared.faults.FaultKind.{FaultKind}
use Rattle.site_base.specs.declared.value.Pair.{Pair}
use Rattle.filter_base.specs.Answers.{Makes}
use Rattle.filter_base.specs.Elements.{alone}
use Rattle.filter_base.specs.Limits.{fits}
use Rattle.filter_base.specs.Taken.{entry_of}
use Rattle.filter_base.specs.declared.keyed.Entry.{Entry}
use Rattle.read_record.specs.declared.stop.Stop.TheVariants as stop
use Rattle.jekyll_filters.specs.Groups.{added, groups, size_of, group, shown, shown_groups}

-- one element more
pub next_element : (so_far more : Pairs) (es : List Entry) (i : ℕ) (e : Entry) → i < length es → e ≡ get_or es i e → more ≡ added (value_text (plain e.key.now)) (plain e.value.now) so_far
    → groups (map entry_of (drop i es)) so_far ≡ groups (map entry_of (drop (i + 1) es)) more
next_element so_far more es i e lt is made =
    at_drop_more (λ xs. groups (map entry_of xs) so_far) es i e lt
    ∙ ap (λ (x : Entry). groups (map entry_of (drop (i + 1) es)) (added (value_text (plain x.key.now)) (plain x.value.now) so_far)) (sym is)
    ∙ ap (groups (map entry_of (drop (i + 1) es))) (sym made)

-- one group more
first_group : (is : Items) (ps : List Pair) (i : ℕ) (p : Pair) → i < length ps → p ≡ get_or ps i p
    → shown (pairs_of (drop i ps)) is ≡ (size_of (plain p.value) >>= λ size. shown (pairs_of (drop (i + 1) ps)) (onto is (alone (group p.key (plain p.value) size))))
first_group is ps i p lt e =
    at_drop_more (λ xs. shown (pairs_of xs) is) ps i p lt
    ∙ ap (λ (q : Pair). size_of (plain q.value) >>= λ size. shown (pairs_of (drop (i + 1) ps)) (onto is (alone (group q.key (plain q.value) size)))) (sym e)

pub next_group : (is more : Items) (ps : List Pair) (i : ℕ) (p : Pair) (size : ℤ) → i < length ps → p ≡ get_or ps i p → size_of (plain p.value) ≡ Ok size → more ≡ onto is (alone (group p.key (plain p.value) size))
    → shown (pairs_of (drop i ps)) is ≡ shown (pairs_of (drop (i + 1) ps)) more
next_group is more ps i p size lt e found made =
    first_group is ps i p lt e
    ∙ ap (λ (r : Result ℤ FaultKind). r >>= λ size. shown (pairs_of (drop (i + 1) ps)) (onto is (alone (group p.key (plain p.value) size)))) found
    ∙ ap (shown (pairs_of (drop (i + 1) ps))) (sym made)

-- a group whose size is no number
pub group_refused : (is : Items) (ps : List Pair) (i : ℕ) (p : Pair) (k : FaultKind) → i < length ps → p ≡ get_or ps i p → size_of (plain p.value) ≡ Err k → shown (pairs_of (drop i ps)) is ≡ shown (pairs_of ps) no_items
    → Makes (shown_groups (pairs_of ps)) (Err (stop.Fault k))
group_refused is ps i p k lt e found so_far =
    let none : shown (pairs_of ps) no_items ≡ Err k =
    sym so_far ∙ first_group is ps i p lt e ∙ ap (λ (r : Result ℤ FaultKind). r >>= λ size. shown (pairs_of (drop (i + 1) ps)) (onto is (alone (group p.key (plain p.value) size)))) found in
    ap (λ (r : Result Items FaultKind). (r >>= λ is. Ok (list is)) >>= fits) none
