-- Entries by numbers: what a store holds for them, and what they stand for in it.
use Rattle.std.proofs.Common.{◌≡◌, ℕ, length, zero, suc, ◌+◌, ◌<◌, ◌≤◌, Bool, true, false, cond, List, [], ◌∷◌, ◌++◌, map, take, drop, slice_get, option_map, Option, Some, None, refl, sym, ap, subst, ◌∙◌, arith}
use Rattle.std.proofs.lemmas.List.{append-nil, append_assoc, drop_all, length-append, map-append, take_all}
use Rattle.std.proofs.lemmas.Option.{slice_get-map}
use Rattle.std.proofs.lemmas.List.Sums.{sum_by-cons}
use Rattle.std.proofs.lemmas.List.Sorted.{sum_by-IsPermutation}
use Rattle.std.specs.Prelude.{Result, Ok, Err, OnErr}
use Rattle.std.specs.List.{sum_by}
use Rattle.std.specs.List.Sorted.{IsPermutation}
use Rattle.std.specs.Map.{lookup, values_of}
use Rattle.std.specs.FinMap.{get, insert}
use Rattle.indexmap.specs.IndexMap.{insert_entry}
use Rattle.text_pool.specs.Texts.{count_of}
use Rattle.text_pool.proofs.TextLaws.{count-empty}
use Rattle.site_base.specs.declared.item_name.ItemName.{ItemName}
use Rattle.site_base.specs.declared.faults.SiteFault.{SiteFault}
use Rattle.read_record.specs.Entries.{Kept}
use Rattle.read_record.specs.Outcomes.{Page, met_of}
use Rattle.read_record.specs.Records.{Certifies}
use Rattle.read_record.specs.Queries.{Query}
use Rattle.read_record.specs.Stores.{Store, Numbers, uses_of, times, resolved, HasMore, Has}
use Rattle.read_record.specs.Numbered.{KeptNumbers, entry_in, IsCertified}
use Rattle.read_record.proofs.StoreLaws.{Leaves, times-append, more-then, resolved-later}
use Rattle.memo_table.specs.declared.name_key.NameKey.{NameKey}
use Rattle.memo_table.specs.declared.name_key.NameKey.TheVariants.{Kept as Kept'}
use Rattle.memo_table.specs.Names.{is_among}
use Rattle.memo_table.specs.Entries.{of_names, with_entry, AreCertified, AreNamed}
use Rattle.memo_table.specs.Lending.{IsLent}
use Rattle.memo_table.specs.NameKeys.{name_of, same_key, as_map, StandsAt}
use Rattle.memo_table.specs.Stored.{Listed, resolved_all, as_entries, all_reads, no_reads, HoldsJust, IsSound}
use Rattle.memo_table.proofs.EntryLaws.{same, get-of_names, named-with_entry, named-of_names, certified-with_entry, certified-of_names}
use Rattle.memo_table.proofs.PlaceLaws.{get-as_map, merged}

-- ---- how often a number stands in reads, on one of their sides

abbrev part : (ℕ × ℕ → ℕ) → ℕ → Numbers → ℕ
part side q reads = times q (map side reads)

abbrev key_side : ℕ × ℕ → ℕ
key_side read = read.0

abbrev code_side : ℕ × ℕ → ℕ
code_side read = read.1

module _ (side : ℕ × ℕ → ℕ) (q : ℕ) where
  part-append : (xs ys : Numbers) → part side q (xs ++ ys) ≡ part side q xs + part side q ys
  part-append xs ys = ap (times q) (map-append side xs ys) ∙ times-append q (map side xs) (map side ys)

  abbrev all_in : List KeptNumbers → ℕ
  all_in ks = part side q (all_reads ks)

  all-append : (ks ls : List KeptNumbers) → all_in (ks ++ ls) ≡ all_in ks + all_in ls
  all-append [] ls = omega arith
  all-append (k ∷ ks) ls = let rest = all-append ks ls in let first = part-append k.reads (all_reads (ks ++ ls)) in let whole = part-append k.reads (all_reads ks) in omega (arith, rest, first, whole)

  one_of_all : (ks : List KeptNumbers) (p : ℕ) (k : KeptNumbers) → slice_get ks p ≡ Some k → part side q k.reads ≤ all_in ks
  one_of_all [] p k at = cc
  one_of_all (l ∷ ks) zero k at =
      let here : l ≡ k = cc in
      let first : part side q l.reads ≡ part side q k.reads = ap (λ (k : KeptNumbers). part side q k.reads) here in
      let whole = part-append l.reads (all_reads ks) in
      omega (arith, first, whole)
  one_of_all (l ∷ ks) (suc p) k at = let rest = one_of_all ks p k at in let whole = part-append l.reads (all_reads ks) in omega (arith, rest, whole)

  -- what stands in front, and what stands behind
  all-split : (n : ℕ) (es : Listed) → all_in (values_of es) ≡ all_in (values_of (take n es)) + all_in (values_of (drop n es))
  all-split zero [] = refl
  all-split (suc n) [] = refl
  all-split zero (e ∷ es) = omega arith
  all-split (suc n) (e ∷ es) =
      let rest = all-split n es in
      let front = part-append e.1.reads (all_reads (values_of (take n es))) in
      let whole = part-append e.1.reads (all_reads (values_of es)) in
      omega (arith, rest, front, whole)

  all-sum : (es : Listed) → all_in (values_of es) ≡ sum_by (λ e. part side q e.1.reads) es
  all-sum [] = refl
  all-sum (e ∷ es) =
      let rest = all-sum es in
      let whole = part-append e.1.reads (all_reads (values_of es)) in
      let sum = sum_by-cons (λ (e : NameKey × KeptNumbers). part side q e.1.reads) e es in
      omega (arith, rest, whole, sum)

  all-moved : (es fs : Listed) → IsPermutation es fs → all_in (values_of fs) ≡ all_in (values_of es)
  all-moved es fs moved = all-sum fs ∙ sum_by-IsPermutation (λ (e : NameKey × KeptNumbers). part side q e.1.reads) es fs moved ∙ sym (all-sum es)

  abbrev old_in : Option KeptNumbers → ℕ
  old_in (Some k) = part side q k.reads
  old_in None = 0

  -- an entry that is put, in place of the one of its key
  all-put : (es : Listed) (key : NameKey) (k : KeptNumbers) → all_in (values_of (insert_entry same_key es key k)) + old_in (lookup (same_key key) es) ≡ all_in (values_of es) + part side q k.reads
  all-put [] key k = let whole = part-append k.reads [] in omega (arith, whole)
  all-put (e ∷ es) key k = by (same_key key e.0) (all-put es key k)
    where
      by : (b : Bool) → all_in (values_of (insert_entry same_key es key k)) + old_in (lookup (same_key key) es) ≡ all_in (values_of es) + part side q k.reads
          → all_in (values_of (cond b ((e.0, k) ∷ es) (e ∷ insert_entry same_key es key k))) + old_in (cond b (Some e.1) (lookup (same_key key) es)) ≡ all_in (values_of (e ∷ es)) + part side q k.reads
      by true rest = let new = part-append k.reads (all_reads (values_of es)) in let was = part-append e.1.reads (all_reads (values_of es)) in omega (arith, new, was)
      by false rest =
          let new = part-append e.1.reads (all_reads (values_of (insert_entry same_key es key k))) in
          let was = part-append e.1.reads (all_reads (values_of es)) in
          omega (arith, rest, new, was)

-- ---- a store that holds these reads and no others

abbrev Counts : Store → ((ℕ × ℕ → ℕ) → ℕ → ℕ) → Type 0
Counts store many = ((q : ℕ) → uses_of store.keys q ≡ many key_side q) × ((q : ℕ) → count_of store.codes q ≡ many code_side q)

counts : (store : Store) (reads : Numbers) → HasMore no_reads store reads → Counts store (λ side q. part side q reads)
counts store reads m = (
  λ q. let none : uses_of [] q ≡ 0 = refl in omega (arith, m.keys.counts q, none),
  λ q. omega (arith, m.codes.counts q, count-empty q),
)

counted : (store : Store) (reads : Numbers) → Counts store (λ side q. part side q reads) → HasMore no_reads store reads
counted store reads c =
    record {
      keys = record { counts = λ q. let none : uses_of [] q ≡ 0 = refl in omega (arith, c.0 q, none); same = λ q old new. let none : uses_of [] q ≡ 0 = refl in absurd (omega (arith, old, none)) };
      codes = record { counts = λ q. omega (arith, c.1 q, count-empty q); same = λ q old new. absurd (omega (arith, old, count-empty q)) };
    }

module _ (store : Store) (es : Listed) (replaced : List KeptNumbers) (just : HoldsJust store es replaced) where
  just_counts : Counts store (λ side q. all_in side q (values_of es) + all_in side q replaced)
  just_counts =
      let c = counts store (all_reads (values_of es ++ replaced)) just in
      (λ q. c.0 q ∙ all-append key_side q (values_of es) replaced, λ q. c.1 q ∙ all-append code_side q (values_of es) replaced)

  -- each entry's reads are among those that the store holds
  pub has_entry : (p : ℕ) (k : KeptNumbers) → slice_get (values_of es) p ≡ Some k → Has store k.reads
  has_entry p k at =
      record {
        keys = λ q. omega (arith, just_counts.0 q, one_of_all key_side q (values_of es) p k at);
        codes = λ q. omega (arith, just_counts.1 q, one_of_all code_side q (values_of es) p k at);
      }

  pub has_entries : Has store (all_reads (values_of es))
  has_entries = record { keys = λ q. omega (arith, just_counts.0 q); codes = λ q. omega (arith, just_counts.1 q) }

  pub has_replaced : Has store (all_reads replaced)
  has_replaced = record { keys = λ q. omega (arith, just_counts.0 q); codes = λ q. omega (arith, just_counts.1 q) }

  pub has_behind : (n : ℕ) → Has store (all_reads (values_of (drop n es)))
  has_behind n =
      record {
        keys = λ q. omega (arith, just_counts.0 q, all-split key_side q n es);
        codes = λ q. omega (arith, just_counts.1 q, all-split code_side q n es);
      }

  -- entries that change their places
  pub just-moved : (fs : Listed) → IsPermutation es fs → HoldsJust store fs replaced
  just-moved fs moved =
      counted store (all_reads (values_of fs ++ replaced)) (
        λ q. just_counts.0 q ∙ ap (λ n. n + all_in key_side q replaced) (sym (all-moved key_side q es fs moved)) ∙ sym (all-append key_side q (values_of fs) replaced),
        λ q. just_counts.1 q ∙ ap (λ n. n + all_in code_side q replaced) (sym (all-moved code_side q es fs moved)) ∙ sym (all-append code_side q (values_of fs) replaced),
      )

  -- entries behind that give their reads back
  pub just-front : (n : ℕ) (now : Store) → HasMore now store (all_reads (values_of (drop n es))) → HoldsJust now (take n es) replaced
  just-front n now m =
      counted now (all_reads (values_of (take n es) ++ replaced)) (
        λ q. omega (arith, just_counts.0 q, m.keys.counts q, all-split key_side q n es, all-append key_side q (values_of (take n es)) replaced),
        λ q. omega (arith, just_counts.1 q, m.codes.counts q, all-split code_side q n es, all-append code_side q (values_of (take n es)) replaced),
      )

  -- those that were replaced give their reads back
  pub just-entries : (now : Store) → HasMore now store (all_reads replaced) → HoldsJust now es []
  just-entries now m =
      counted now (all_reads (values_of es ++ [])) (
        λ q. omega (arith, just_counts.0 q, m.keys.counts q, all-append key_side q (values_of es) []),
        λ q. omega (arith, just_counts.1 q, m.codes.counts q, all-append code_side q (values_of es) []),
      )

  -- nothing was added in the end
  pub just-unchanged : (now : Store) → HasMore store now [] → HoldsJust now es replaced
  just-unchanged now m =
      counted now (all_reads (values_of es ++ replaced)) (
        λ q. omega (arith, just_counts.0 q, m.keys.counts q, all-append key_side q (values_of es) replaced),
        λ q. omega (arith, just_counts.1 q, m.codes.counts q, all-append code_side q (values_of es) replaced),
      )

  module _ (now : Store) (key : NameKey) (k : KeptNumbers) (m : HasMore store now k.reads) where
    -- an entry under a new name
    pub just-added : lookup (same_key key) es ≡ None → HoldsJust now (insert_entry same_key es key k) replaced
    just-added none =
        counted now (all_reads (values_of (insert_entry same_key es key k) ++ replaced)) (
          λ q. let old : old_in key_side q (lookup (same_key key) es) ≡ 0 = ap (old_in key_side q) none in
              omega (arith, old, just_counts.0 q, m.keys.counts q, all-put key_side q es key k, all-append key_side q (values_of (insert_entry same_key es key k)) replaced),
          λ q. let old : old_in code_side q (lookup (same_key key) es) ≡ 0 = ap (old_in code_side q) none in
              omega (arith, old, just_counts.1 q, m.codes.counts q, all-put code_side q es key k, all-append code_side q (values_of (insert_entry same_key es key k)) replaced),
        )

    -- an entry in place of another, which waits
    pub just-replaced : (old : KeptNumbers) → lookup (same_key key) es ≡ Some old → HoldsJust now (insert_entry same_key es key k) (replaced ++ old ∷ [])
    just-replaced old was =
        counted now (all_reads (values_of (insert_entry same_key es key k) ++ (replaced ++ old ∷ []))) (
          λ q. let there : old_in key_side q (lookup (same_key key) es) ≡ part key_side q old.reads = ap (old_in key_side q) was in
              omega (
                arith,
                there,
                just_counts.0 q,
                m.keys.counts q,
                all-put key_side q es key k,
                all-append key_side q (values_of (insert_entry same_key es key k)) (replaced ++ old ∷ []),
                all-append key_side q replaced (old ∷ []),
                part-append key_side q old.reads [],
              ),
          λ q. let there : old_in code_side q (lookup (same_key key) es) ≡ part code_side q old.reads = ap (old_in code_side q) was in
              omega (
                arith,
                there,
                just_counts.1 q,
                m.codes.counts q,
                all-put code_side q es key k,
                all-append code_side q (values_of (insert_entry same_key es key k)) (replaced ++ old ∷ []),
                all-append code_side q replaced (old ∷ []),
                part-append code_side q old.reads [],
              ),
        )

pub just-nothing : HoldsJust no_reads [] []
just-nothing = counted no_reads [] (λ q. refl, λ q. count-empty q)

-- ---- what the numbers stand for

has_left : (store : Store) (xs ys : Numbers) → Has store (xs ++ ys) → Has store xs
has_left store xs ys has = record { keys = λ q. omega (arith, has.keys q, part-append key_side q xs ys); codes = λ q. omega (arith, has.codes q, part-append code_side q xs ys) }

has_right : (store : Store) (xs ys : Numbers) → Has store (xs ++ ys) → Has store ys
has_right store xs ys has = record { keys = λ q. omega (arith, has.keys q, part-append key_side q xs ys); codes = λ q. omega (arith, has.codes q, part-append code_side q xs ys) }

-- entries of a store stand for the same in one that holds more
pub resolved-stays : (a b : Store) (es : Listed) (more : Numbers) → Has a (all_reads (values_of es)) → HasMore a b more → resolved_all b es ≡ resolved_all a es
resolved-stays a b [] more has m = refl
resolved-stays a b (e ∷ es) more has m =
    let first : resolved b e.1.reads ≡ resolved a e.1.reads = resolved-later a b e.1.reads more (has_left a e.1.reads (all_reads (values_of es)) has) m in
    λ i. (e.0, record { name = e.1.name; reads = first i; outcome = e.1.outcome }) ∷ resolved-stays a b es more (has_right a e.1.reads (all_reads (values_of es)) has) m i

lookup-resolved : (store : Store) (test : NameKey → Bool) (es : Listed) → lookup test (resolved_all store es) ≡ option_map (entry_in store) (lookup test es)
lookup-resolved store test [] = refl
lookup-resolved store test (e ∷ es) = by (test e.0) (lookup-resolved store test es)
  where
    by : (b : Bool) → lookup test (resolved_all store es) ≡ option_map (entry_in store) (lookup test es)
        → cond b (Some (entry_in store e.1)) (lookup test (resolved_all store es)) ≡ option_map (entry_in store) (cond b (Some e.1) (lookup test es))
    by true rest = refl
    by false rest = rest

pub get-resolved : (store : Store) (es : Listed) (q : ItemName) → get (as_map (resolved_all store es)) q ≡ option_map (entry_in store) (get (as_map es) q)
get-resolved store es q = get-as_map (resolved_all store es) q ∙ lookup-resolved store (λ k. same_key (Kept' q) k) es ∙ ap (option_map (entry_in store)) (sym (get-as_map es q))

pushed_in : {A B : Type 0} (f : A → B) (b : Bool) (a : A) (o : Option A) → option_map f (cond b (Some a) o) ≡ cond b (Some (f a)) (option_map f o)
pushed_in f true a o = refl
pushed_in f false a o = refl

-- an entry that was put stands there
pub resolved-put : (store : Store) (es fs : Listed) (key : NameKey) (k : KeptNumbers) → name_of key ≡ k.name
    → ((asked : NameKey) → lookup (same_key asked) fs ≡ cond (same_key key asked) (Some k) (lookup (same_key asked) es)) → as_map (resolved_all store fs) ≡ insert (as_map (resolved_all store es)) k.name (entry_in store k)
resolved-put store es fs key k named put =
    merged (resolved_all store es) (resolved_all store fs) key k.name (entry_in store k) named (λ asked.
    lookup-resolved store (same_key asked) fs
    ∙ ap (option_map (entry_in store)) (put asked)
    ∙ pushed_in (entry_in store) (same_key key asked) k (lookup (same_key asked) es)
    ∙ ap (cond (same_key key asked) (Some (entry_in store k))) (sym (lookup-resolved store (same_key asked) es)))

-- the entries of some names
pub resolved-of_names : (store : Store) (es fs : Listed) (names : List ItemName) → as_map fs ≡ of_names names (as_map es) → as_map (resolved_all store fs) ≡ of_names names (as_map (resolved_all store es))
resolved-of_names store es fs names front =
    same (as_map (resolved_all store fs)) (of_names names (as_map (resolved_all store es))) (λ q.
    get-resolved store fs q
    ∙ ap (option_map (entry_in store)) (ap (λ m. get m q) front ∙ get-of_names names (as_map es) q)
    ∙ kept (is_among names q) (get (as_map es) q)
    ∙ ap (λ o. cond (is_among names q) o None) (sym (get-resolved store es q))
    ∙ sym (get-of_names names (as_map (resolved_all store es)) q))
  where
    kept : (b : Bool) (o : Option KeptNumbers) → option_map (entry_in store) (cond b o None) ≡ cond b (option_map (entry_in store) o) None
    kept true o = refl
    kept false o = refl

-- what stands at a place under a name
pub found-at : (store : Store) (es : Listed) (name : ItemName) (place : ℕ) (k : KeptNumbers) → StandsAt name es place → slice_get (values_of es) place ≡ Some k → get (as_map (resolved_all store es)) name ≡ Some (entry_in store k)
found-at store es name place k s at =
    let value : slice_get (values_of es) place ≡ Some s.value = slice_get-map (λ (e : NameKey × KeptNumbers). e.1) es place ∙ ap (option_map (λ (e : NameKey × KeptNumbers). e.1)) s.there in
    get-resolved store es name ∙ ap (option_map (entry_in store)) (s.found ∙ sym value ∙ at)

-- where the lists are one map, so are their entries
pub resolved-same : (store : Store) (es fs : Listed) → as_map fs ≡ as_map es → as_map (resolved_all store fs) ≡ as_map (resolved_all store es)
resolved-same store es fs alike =
    same (as_map (resolved_all store fs)) (as_map (resolved_all store es)) (λ q. get-resolved store fs q ∙ ap (λ m. option_map (entry_in store) (get m q)) alike ∙ sym (get-resolved store es q))

-- ---- what a memo keeps

pub lent_of : (item : ItemName → Query SiteFault Page) (store : Store) (es : Listed) (replaced : List KeptNumbers) → IsSound item store es replaced → IsLent item store es
lent_of item store es replaced s = record { named = s.named; certified = s.certified; has = has_entry store es replaced s.just }

module _ (item : ItemName → Query SiteFault Page) where
  -- nothing was added in the end
  pub sound-same : (a b : Store) (es fs : Listed) (old new : List KeptNumbers) → IsSound item a es old → fs ≡ es → new ≡ old → HasMore a b [] → IsSound item b fs new × (as_entries b fs ≡ as_entries a es)
  sound-same a b es fs old new s same_list same_old m =
      let stays : as_entries b es ≡ as_entries a es = ap as_map (resolved-stays a b es [] (has_entries a es old s.just) m) in
      let there : IsSound item b es old = record {
        named = subst AreNamed (sym stays) s.named;
        certified = subst (AreCertified item) (sym stays) s.certified;
        just = just-unchanged a es old s.just b m;
      } in
      (subst (λ (gs : Listed). IsSound item b gs new) (sym same_list) (subst (IsSound item b es) (sym same_old) there), ap (as_entries b) same_list ∙ stays)

  -- an entry was put
  module _ (a b : Store) (es fs : Listed) (old new : List KeptNumbers) (key : NameKey) (k : KeptNumbers) (kept : Kept) (s : IsSound item a es old) (m : HasMore a b k.reads)
      (named : name_of key ≡ kept.name) (is : entry_in b k ≡ kept) (certified : IsCertified item b k) (put : fs ≡ insert_entry same_key es key k)
      (finds : (asked : NameKey) → lookup (same_key asked) fs ≡ cond (same_key key asked) (Some k) (lookup (same_key asked) es)) where
    pub put-map : as_entries b fs ≡ with_entry kept (as_entries a es)
    put-map =
        let own : k.name ≡ kept.name = ap (λ (e : Kept). e.name) is in
        let stays : as_entries b es ≡ as_entries a es = ap as_map (resolved-stays a b es k.reads (has_entries a es old s.just) m) in
        resolved-put b es fs key k (named ∙ sym own) finds ∙ (λ i. insert (stays i) (own i) (is i))

    sound-put : HoldsJust b fs new → IsSound item b fs new
    sound-put just =
        let sure = subst (λ (e : Kept). Certifies e.reads (item e.name) (met_of e.outcome)) is certified in
        record {
          named = subst AreNamed (sym put-map) (named-with_entry kept (as_entries a es) s.named);
          certified = subst (AreCertified item) (sym put-map) (certified-with_entry item kept (as_entries a es) sure s.certified);
          just = just;
        }

    pub sound-added : lookup (same_key key) es ≡ None → new ≡ old → IsSound item b fs new
    sound-added none same_old = sound-put (subst (λ (gs : Listed). HoldsJust b gs new) (sym put) (subst (HoldsJust b (insert_entry same_key es key k)) (sym same_old) (just-added a es old s.just b key k m none)))

    pub sound-replaced : (was : KeptNumbers) → lookup (same_key key) es ≡ Some was → new ≡ old ++ was ∷ [] → IsSound item b fs new
    sound-replaced was there more =
        sound-put (subst (λ (gs : Listed). HoldsJust b gs new) (sym put) (subst (HoldsJust b (insert_entry same_key es key k)) (sym more) (just-replaced a es old s.just b key k m was there)))

  -- the reads of the entries behind the first ones, wherever they were moved
  pub behind-there : (a : Store) (es fs : Listed) (old : List KeptNumbers) (n : ℕ) → IsSound item a es old → IsPermutation es fs → Has a (all_reads (values_of (drop n fs)))
  behind-there a es fs old n s moved = has_behind a fs old (just-moved a es old s.just fs moved) n

  -- the entries of some names were moved to the front, and those behind them went
  module _ (names : List ItemName) (a b : Store) (es fs gs : Listed) (n : ℕ) (old : List KeptNumbers) (s : IsSound item a es old) (moved : IsPermutation es fs)
      (front : as_map (take n fs) ≡ of_names names (as_map es)) (rest : gs ≡ take n fs) (m : HasMore b a (all_reads (values_of (drop n fs)))) where
    left-just : HoldsJust b (take n fs) old
    left-just = just-front a fs old (just-moved a es old s.just fs moved) n b m

    pub left-map : as_entries b gs ≡ of_names names (as_entries a es)
    left-map =
        ap (as_entries b) rest ∙ sym (ap as_map (resolved-stays b a (take n fs) (all_reads (values_of (drop n fs))) (has_entries b (take n fs) old left-just) m))
        ∙ resolved-of_names a es (take n fs) names front

    pub sound-left : IsSound item b gs old
    sound-left =
        record {
          named = subst AreNamed (sym left-map) (named-of_names names (as_entries a es) s.named);
          certified = subst (AreCertified item) (sym left-map) (certified-of_names item names (as_entries a es) s.certified);
          just = subst (λ (gs : Listed). HoldsJust b gs old) (sym rest) left-just;
        }

  -- those that were replaced went
  pub sound-settled : (a b : Store) (es : Listed) (old : List KeptNumbers) → IsSound item a es old → HasMore b a (all_reads old) → IsSound item b es [] × (as_entries b es ≡ as_entries a es)
  sound-settled a b es old s m =
      let just : HoldsJust b es [] = just-entries a es old s.just b m in
      let stays : as_entries b es ≡ as_entries a es = sym (ap as_map (resolved-stays b a es (all_reads old) (has_entries b es [] just) m)) in
      (record { named = subst AreNamed (sym stays) s.named; certified = subst (AreCertified item) (sym stays) s.certified; just = just }, stays)

-- ---- entries that go, one after another

front-push : {X : Type 0} (xs ys : List X) (n : ℕ) → n ≤ length xs → (take n (xs ++ ys) ≡ take n xs) × (drop n (xs ++ ys) ≡ drop n xs ++ ys)
front-push [] [] zero l = (refl, refl)
front-push [] (y ∷ ys) zero l = (refl, refl)
front-push (x ∷ xs) ys zero l = (refl, refl)
front-push [] ys (suc n) l = absurd (omega (arith, l))
front-push (x ∷ xs) ys (suc n) l = let rest = front-push xs ys n (omega (arith, l)) in (ap (λ zs. x ∷ zs) rest.0, rest.1)

reads-last : (ks : List KeptNumbers) (k : KeptNumbers) → all_reads (ks ++ k ∷ []) ≡ all_reads ks ++ k.reads
reads-last [] k = append-nil k.reads
reads-last (l ∷ ks) k = ap (λ rest. l.reads ++ rest) (reads-last ks k) ∙ sym (append_assoc l.reads (all_reads ks) k.reads)

has_back : (store : Store) (ks ls : List KeptNumbers) (k : KeptNumbers) → ls ≡ ks ++ k ∷ [] → Has store (all_reads ls) → Has store k.reads
has_back store ks ls k is has = has_right store (all_reads ks) k.reads (subst (Has store) (ap all_reads is ∙ reads-last ks k) has)

-- the last one goes
module _ (first now next : Store) (all : Numbers) (ks ls : List KeptNumbers) (k : KeptNumbers) (is : ls ≡ ks ++ k ∷ []) (l : Leaves first now (all_reads ls) all) where
  pub last-there : Has now k.reads
  last-there = has_back now ks ls k is l.has

  pub leaves-last : HasMore next now k.reads → Leaves first next (all_reads ks) all
  leaves-last m =
      let before : Has now (all_reads ks ++ k.reads) = subst (Has now) (ap all_reads is ∙ reads-last ks k) l.has in
      record {
        has = record { keys = λ q. omega (arith, before.keys q, m.keys.counts q, part-append key_side q (all_reads ks) k.reads); codes = λ q. omega (arith, before.codes q, m.codes.counts q, part-append code_side q (all_reads ks) k.reads) };
        given = λ last n. l.given last (subst (HasMore last now) (sym (ap all_reads is ∙ reads-last ks k)) (more-then last next now (all_reads ks) k.reads n m));
      }

-- what is behind the first ones, before its last one goes
module _ (n : ℕ) (es fs : Listed) (e : NameKey × KeptNumbers) (is : es ≡ fs ++ e ∷ []) (some : n < length es) where
  in_front : n ≤ length fs
  in_front = let many : length es ≡ length (fs ++ e ∷ []) = ap length is in let one : length (fs ++ e ∷ []) ≡ length fs + 1 = length-append fs (e ∷ []) in omega (arith, many, one, some)

  pub front-stays : take n fs ≡ take n es
  front-stays = sym (ap (take n) is ∙ (front-push fs (e ∷ []) n in_front).0)

  pub behind-last : values_of (drop n es) ≡ values_of (drop n fs) ++ e.1 ∷ []
  behind-last = ap (λ gs. values_of (drop n gs)) is ∙ ap values_of ((front-push fs (e ∷ []) n in_front).1) ∙ map-append (λ (e : NameKey × KeptNumbers). e.1) (drop n fs) (e ∷ [])

pub none-behind : (n : ℕ) (es : Listed) → length es ≤ n → all_reads (values_of (drop n es)) ≡ []
none-behind n es l = ap (λ gs. all_reads (values_of gs)) (drop_all n es l)

pub all-front : (n : ℕ) (es : Listed) → length es ≤ n → es ≡ take n es
all-front n es l = sym (take_all n es l)

-- what holds whatever the error is
pub on_err : {A E P : Type 0} (r : Result A E) → P → OnErr r P
on_err (Ok a) p = tt
on_err (Err e) p = p
