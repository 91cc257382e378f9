-- What is found among what was seen, and among its codes.
use Rattle.std.proofs.Common.{◌≡◌, Bool, true, false, cond, ◌⊎◌, inl, inr, [], ◌∷◌, ◌++◌, Option, Some, None, refl, ap, sym, ◌∙◌}
use Rattle.std.specs.Option.{option_map}
use Rattle.std.specs.Map.{lookup}
use Rattle.site_base.specs.Code.{code}
use Rattle.site_base.specs.Plain.{Plain}
use Rattle.read_record.specs.declared.key.Key.{Key}
use Rattle.read_record.specs.Keys.{same_key}
use Rattle.read_record.specs.SameKeys.{same_key-eq, same_key-refl}
use Rattle.read_record.specs.Queries.{View, Known, noted, noted_after}
use Rattle.read_record.specs.Records.{Seen, coded, Answers}

-- what was found stays found
pub found-more : (k : Key) (v : Plain) (seen more : Seen) → lookup (same_key k) seen ≡ Some v → lookup (same_key k) (seen ++ more) ≡ Some v
found-more k v [] more h = cc
found-more k v (s ∷ seen) more h =
    (elim (same_key k s.0) as (λ b. cond b (Some s.1) (lookup (same_key k) seen) ≡ Some v → cond b (Some s.1) (lookup (same_key k) (seen ++ more)) ≡ Some v)
    [ true ↦ λ e. e | false ↦ λ e. found-more k v seen more e ]) h

-- a new key is found once it is noted
pub found-new : (k : Key) (v : Plain) (seen : Seen) → lookup (same_key k) seen ≡ None → lookup (same_key k) (seen ++ (k, v) ∷ []) ≡ Some v
found-new k v [] h = rw (same_key-refl k)
found-new k v (s ∷ seen) h =
    (elim (same_key k s.0) as (λ b. cond b (Some s.1) (lookup (same_key k) seen) ≡ None → cond b (Some s.1) (lookup (same_key k) (seen ++ (k, v) ∷ [])) ≡ Some v)
    [ true ↦ λ e. cc | false ↦ λ e. found-new k v seen e ]) h

-- what is found after one more was found before, or is that one
found-one : (j : Key) (w : Plain) (k : Key) (v : Plain) (b : Bool) → same_key j k ≡ b → cond b (Some v) None ≡ Some w → (j ≡ k) × (v ≡ w)
found-one j w k v true e f = (same_key-eq j k e, cc)
found-one j w k v false e f = cc

found-last : (j : Key) (w : Plain) (k : Key) (v : Plain) (seen : Seen) → lookup (same_key j) (seen ++ (k, v) ∷ []) ≡ Some w → (lookup (same_key j) seen ≡ Some w) ⊎ ((j ≡ k) × (v ≡ w))
found-last j w k v [] f = inr (found-one j w k v (same_key j k) refl f)
found-last j w k v (s ∷ seen) f =
    (elim (same_key j s.0) as (λ b. cond b (Some s.1) (lookup (same_key j) (seen ++ (k, v) ∷ [])) ≡ Some w → (cond b (Some s.1) (lookup (same_key j) seen) ≡ Some w) ⊎ ((j ≡ k) × (v ≡ w)))
    [ true ↦ λ e. inl e | false ↦ λ e. found-last j w k v seen e ]) f

pub answers-one : (seen : Seen) (view : View) (k : Key) (v : Plain) → Answers seen view → view k ≡ Known v → Answers (seen ++ (k, v) ∷ []) view
answers-one seen view k v answers h j w f = go (found-last j w k v seen f)
  where
    go : (lookup (same_key j) seen ≡ Some w) ⊎ ((j ≡ k) × (v ≡ w)) → view j ≡ Known w
    go (inl e) = answers j w e
    go (inr p) = rw (p.0, h, p.1)

-- ---- codes

lookup-coded : (k : Key) (seen : Seen) → lookup (same_key k) (coded seen) ≡ option_map code (lookup (same_key k) seen)
lookup-coded k [] = refl
lookup-coded k (s ∷ seen) =
    elim (same_key k s.0) as (λ b. cond b (Some (code s.1)) (lookup (same_key k) (coded seen)) ≡ option_map code (cond b (Some s.1) (lookup (same_key k) seen)))
    [ true ↦ refl | false ↦ lookup-coded k seen ]

pub coded-append : (seen : Seen) (k : Key) (v : Plain) → coded (seen ++ (k, v) ∷ []) ≡ coded seen ++ (k, code v) ∷ []
coded-append [] k v = refl
coded-append (s ∷ seen) k v = ap (λ rest. (s.0, code s.1) ∷ rest) (coded-append seen k v)

-- what is seen once a key gave this value
abbrev pub seen_after : Option Plain → Key → Plain → Seen → Seen
seen_after (Some w) k v seen = seen
seen_after None k v seen = seen ++ (k, v) ∷ []

abbrev pub saw : Key → Plain → Seen → Seen
saw k v seen = seen_after (lookup (same_key k) seen) k v seen

pub noted-coded : (k : Key) (v : Plain) (seen : Seen) → noted k (code v) (coded seen) ≡ coded (saw k v seen)
noted-coded k v seen =
    ap (λ o. noted_after o k (code v) (coded seen)) (lookup-coded k seen)
    ∙ (elim (lookup (same_key k) seen) as (λ o. noted_after (option_map code o) k (code v) (coded seen) ≡ coded (seen_after o k v seen))
    [ Some w ↦ refl | None ↦ sym (coded-append seen k v) ])

pub saw-answers : (seen : Seen) (view : View) (k : Key) (v : Plain) → Answers seen view → view k ≡ Known v → Answers (saw k v seen) view
saw-answers seen view k v answers h =
    elim (lookup (same_key k) seen) as (λ o. Answers (seen_after o k v seen) view) [ Some w ↦ answers | None ↦ answers-one seen view k v answers h ]

pub saw-finds : (seen : Seen) (view : View) (k : Key) (v : Plain) → Answers seen view → view k ≡ Known v → lookup (same_key k) (saw k v seen) ≡ Some v
saw-finds seen view k v answers h = go (lookup (same_key k) seen) refl
  where
    go : (o : Option Plain) → lookup (same_key k) seen ≡ o → lookup (same_key k) (seen_after o k v seen) ≡ Some v
    go (Some w) e = let f : view k ≡ Known w = answers k w e in let g : w ≡ v = cc in rw (e, g)
    go None e = found-new k v seen e
