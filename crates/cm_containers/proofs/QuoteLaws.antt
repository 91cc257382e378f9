-- How many containers stand up to the innermost quote, as containers come and go.
use Rattle.std.proofs.Common.{Bool, List, [], ap, arith, drop, false, get_or, length, refl, suc, sym, take, true, zero, ℕ, ◌++◌, ◌-◌, ◌<◌, ◌∙◌, ◌∷◌, ◌≡◌, ◌≤◌}
use Rattle.cm_containers.specs.declared.kinds.Container.{Container}
use Rattle.cm_containers.specs.declared.kinds.Container.TheVariants.{Item, Quote}
use Rattle.cm_containers.specs.Quoted.{is_quote, up_to_quote, with_outer}

-- ---- the outermost containers

-- one more at the end of the inner ones
pub inner_more : (n i : ℕ) (ks : List Container) (d : Container) → n ≤ i → i < length ks → drop n (take (suc i) ks) ≡ drop n (take i ks) ++ get_or ks i d ∷ []
inner_more n i [] d le lt = absurd (omega (arith, lt))
inner_more zero zero (k ∷ ks) d le lt = refl
inner_more zero (suc i) (k ∷ ks) d le lt = ap (λ (ts : List Container). k ∷ ts) (inner_more zero i ks d (omega arith) (omega (arith, lt)))
inner_more (suc n) zero (k ∷ ks) d le lt = absurd (omega (arith, le))
inner_more (suc n) (suc i) (k ∷ ks) d le lt = inner_more n i ks d (omega (arith, le)) (omega (arith, lt))

pub take_all : (ks : List Container) → take (length ks) ks ≡ ks
take_all [] = refl
take_all (k ∷ ks) = ap (λ (ts : List Container). k ∷ ts) (take_all ks)

-- ---- one container more

quote_last : (ks : List Container) → up_to_quote (ks ++ Quote ∷ []) ≡ suc (length ks)
quote_last [] = refl
quote_last (Quote ∷ ks) = ap suc (quote_last ks)
quote_last (Item content mark number ∷ ks) = ap (with_outer (Item content mark number)) (quote_last ks)

item_last : (ks : List Container) (content mark number : ℕ) → up_to_quote (ks ++ Item content mark number ∷ []) ≡ up_to_quote ks
item_last [] content mark number = refl
item_last (k ∷ ks) content mark number = ap (with_outer k) (item_last ks content mark number)

up_to_quote_at : (k : Container) (ks : List Container) (b : Bool) → b ≡ is_quote k → b ≡ true → up_to_quote (ks ++ k ∷ []) ≡ suc (length ks)
up_to_quote_at Quote ks b e h = quote_last ks
up_to_quote_at (Item content mark number) ks b e h = absurd cc

up_to_quote_before : (k : Container) (ks : List Container) (b : Bool) → b ≡ is_quote k → b ≡ false → up_to_quote (ks ++ k ∷ []) ≡ up_to_quote ks
up_to_quote_before Quote ks b e h = absurd cc
up_to_quote_before (Item content mark number) ks b e h = item_last ks content mark number

length_more : (ks : List Container) (k : Container) → length (ks ++ k ∷ []) ≡ suc (length ks)
length_more [] k = refl
length_more (j ∷ ks) k = ap suc (length_more ks k)

pub up_to_last : (k : Container) (ks more : List Container) (n : ℕ) (b : Bool) → more ≡ ks ++ k ∷ [] → n ≡ length more → b ≡ is_quote k → b ≡ true → n ≡ up_to_quote more
up_to_last k ks more n b m l e h = l ∙ ap length m ∙ length_more ks k ∙ sym (ap up_to_quote m ∙ up_to_quote_at k ks b e h)

pub before_item : (k : Container) (ks more : List Container) (n : ℕ) (b : Bool) → more ≡ ks ++ k ∷ [] → n ≡ up_to_quote ks → b ≡ is_quote k → b ≡ false → n ≡ up_to_quote more
before_item k ks more n b m u e h = u ∙ sym (ap up_to_quote m ∙ up_to_quote_before k ks b e h)

-- ---- only the outermost stay

inner_count : (k : Container) (n i : ℕ) → with_outer k n ≤ suc i → n ≤ i
inner_count Quote n i h = omega (arith, h)
inner_count (Item content mark number) zero i h = omega arith
inner_count (Item content mark number) (suc n) i h = omega (arith, h)

outer_quotes : (n : ℕ) (ks : List Container) → up_to_quote ks ≤ n → up_to_quote (take n ks) ≡ up_to_quote ks
outer_quotes zero ks h = omega (arith, h)
outer_quotes (suc n) [] h = refl
outer_quotes (suc n) (k ∷ ks) h = ap (with_outer k) (outer_quotes n ks (inner_count k (up_to_quote ks) n h))

pub quotes_stay : (kept : ℕ) (ks outer : List Container) (n : ℕ) → outer ≡ take kept ks → n ≡ up_to_quote ks → n ≤ kept → n ≡ up_to_quote outer
quotes_stay kept ks outer n m u le = u ∙ sym (ap up_to_quote m ∙ outer_quotes kept ks (omega (arith, u, le)))

-- behind the innermost quote there is none
pub none_behind : (n : ℕ) (ks : List Container) → up_to_quote ks ≤ n → up_to_quote (drop n ks) ≡ 0
none_behind zero ks h = omega (arith, h)
none_behind (suc n) [] h = refl
none_behind (suc n) (k ∷ ks) h = none_behind n ks (inner_count k (up_to_quote ks) n h)

-- ---- the innermost quote is looked for

pub all_looked_at : (ks : List Container) → up_to_quote (take (length ks) ks) ≡ up_to_quote ks
all_looked_at ks = ap up_to_quote (take_all ks)

one_before : (i : ℕ) (ks : List Container) (d : Container) → 0 < i → i ≤ length ks → take i ks ≡ take (i - 1) ks ++ get_or ks (i - 1) d ∷ []
one_before i ks d lt le =
    let next : i ≡ suc (i - 1) = omega (arith, lt) in
    ap (λ (j : ℕ). take j ks) next ∙ inner_more 0 (i - 1) ks d (omega arith) (omega (arith, lt, le))

pub item_looked_at : (i : ℕ) (ks : List Container) (d : Container) (b : Bool) → 0 < i → i ≤ length ks → b ≡ is_quote (get_or ks (i - 1) d) → b ≡ false → up_to_quote (take i ks) ≡ up_to_quote ks → up_to_quote (take (i - 1) ks) ≡ up_to_quote ks
item_looked_at i ks d b lt le e h w = sym (ap up_to_quote (one_before i ks d lt le) ∙ up_to_quote_before (get_or ks (i - 1) d) (take (i - 1) ks) b e h) ∙ w

take_length : (n : ℕ) (ks : List Container) → n ≤ length ks → length (take n ks) ≡ n
take_length zero ks h = refl
take_length (suc n) [] h = absurd (omega (arith, h))
take_length (suc n) (k ∷ ks) h = ap suc (take_length n ks (omega (arith, h)))

pub quote_found : (i : ℕ) (ks : List Container) (d : Container) (b : Bool) → 0 < i → i ≤ length ks → b ≡ is_quote (get_or ks (i - 1) d) → b ≡ true → up_to_quote (take i ks) ≡ up_to_quote ks → i ≡ up_to_quote ks
quote_found i ks d b lt le e h w =
    let here : up_to_quote (take i ks) ≡ suc (length (take (i - 1) ks)) = ap up_to_quote (one_before i ks d lt le) ∙ up_to_quote_at (get_or ks (i - 1) d) (take (i - 1) ks) b e h in
    omega (arith, lt, here, take_length (i - 1) ks (omega (arith, lt, le)), w)

pub none_found : (i : ℕ) (ks : List Container) → i ≤ 0 → up_to_quote (take i ks) ≡ up_to_quote ks → 0 ≡ up_to_quote ks
none_found zero ks le w = w
none_found (suc i) ks le w = absurd (omega (arith, le))
