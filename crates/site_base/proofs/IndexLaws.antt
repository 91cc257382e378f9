-- The index of a hash of many pairs.
use Rattle.std.proofs.Common.{◌≡◌, ℕ, suc, ◌+◌, ◌<◌, ◌≤◌, ◌==◌, cond, List, [], ◌∷◌, ◌++◌, length, get_or, refl, ap, arith, Some, None, nat_lt, sym, ◌∙◌, Bool, true, false, IsTrue, ◌↔◌, zero, take, rules, eq-eqb}
use Rattle.std.specs.Option.{option_or}
use Rattle.std.specs.List.{position, position_or_len}
use Rattle.std.specs.Str.{bytes_eq}
use Rattle.std.specs.Ordering.{nat_cmp}
use Rattle.std.specs.BTreeMap.{BTreeMap, get}
use Rattle.std.proofs.lemmas.Slice.Eq.{bytes_eq-Decides}
use Rattle.std.proofs.lemmas.List.{take_more}
use Rattle.std.proofs.Math.ListN.{set as set_at}
use Rattle.std.proofs.lemmas.Grind.{common_steps}
use Rattle.std.proofs.lemmas.List.Folds.{position_or_len-set, position_or_len_push}
use Rattle.site_base.specs.Fingerprints.{fingerprint, first_with, IsIndex}
use Rattle.site_base.specs.declared.value.Value.{Value}
use Rattle.site_base.specs.declared.value.Pair.{Pair}
use Rattle.site_base.proofs.ValueLaws.{place, pair_of}

-- how many pairs stand before the first with the fingerprint
abbrev pub print_place : ℕ → List Pair → ℕ
print_place print ps = position_or_len (λ p. fingerprint p.key == print) ps

pub print_place_bound : (print : ℕ) (ps : List Pair) → print_place print ps ≤ length ps
print_place_bound print [] = omega arith
print_place_bound print (p ∷ ps) = grind (arith, print_place_bound print ps)

pub first_push : (print : ℕ) (ps : List Pair) (p : Pair) → first_with print (ps ++ p ∷ []) ≡ option_or (first_with print ps) (cond (fingerprint p.key == print) (Some (length ps)) None)
first_push print ps p = grind (arith, common_steps, print_place_bound print ps, position_or_len_push (λ p. fingerprint p.key == print) ps p)

pub first_set : (print : ℕ) (ps : List Pair) (i : ℕ) (d : Pair) (v : Value) → first_with print (set_at ps i (pair_of (get_or ps i d).key v)) ≡ first_with print ps
first_set print ps i d v = grind (arith, common_steps, position_or_len-set (λ p. fingerprint p.key == print) ps i (pair_of (get_or ps i d).key v) d refl)

-- equal keys have equal fingerprints, so the key stands nowhere before
same_key : (a b : List ℕ) → bytes_eq a b ≡ true → a ≡ b
same_key a b e = search (rules, bytes_eq-Decides)

same_print : (a b : List ℕ) → bytes_eq a b ≡ true → (fingerprint b == fingerprint a) ≡ true
same_print a b e = eq-eqb (fingerprint b) (fingerprint a) (ap fingerprint (sym (same_key a b e)))

pub print_before : (key : List ℕ) (ps : List Pair) → print_place (fingerprint key) ps ≤ place key ps
print_before key [] = omega arith
print_before key (p ∷ ps) = grind (arith, same_print key p.key, print_before key ps)

place_upto : (key : List ℕ) (ps : List Pair) (i : ℕ) (d : Pair) → i < length ps → bytes_eq key (get_or ps i d).key ≡ true → place key ps ≤ i
place_upto key [] i d lt e = absurd (omega arith)
place_upto key (p ∷ ps) zero d lt e = grind arith
place_upto key (p ∷ ps) (suc i) d lt e = grind (arith, place_upto key ps i d)

missing : (n l m : ℕ) → None ≡ cond (nat_lt n l) (Some n) None → n ≤ m → None ≡ cond (nat_lt m l) (Some m) None
missing n l m e le = grind arith

present : (n l m i : ℕ) → Some i ≡ cond (nat_lt n l) (Some n) None → (i < l → m ≤ i) → n ≤ m → Some i ≡ cond (nat_lt m l) (Some m) None
present n l m i e upto le = grind arith

pub none_has_key : (key : List ℕ) (ps : List Pair) → None ≡ first_with (fingerprint key) ps → None ≡ position (λ p. bytes_eq key p.key) ps
none_has_key key ps e = missing (print_place (fingerprint key) ps) (length ps) (place key ps) e (print_before key ps)

pub first_has_key : (key : List ℕ) (ps : List Pair) (i : ℕ) (d : Pair) → Some i ≡ first_with (fingerprint key) ps → bytes_eq (get_or ps i d).key key ≡ true → Some i ≡ position (λ p. bytes_eq key p.key) ps
first_has_key key ps i d e same =
    let back : bytes_eq key (get_or ps i d).key ≡ true = search (rules, bytes_eq-Decides) in
    present (print_place (fingerprint key) ps) (length ps) (place key ps) i e (λ lt. place_upto key ps i d lt back) (print_before key ps)

-- where the map has entries
pub some_noted : (b : Bool) (n : ℕ) → IsTrue b ↔ (n ≡ 0) → b ≡ false → 0 < n
some_noted b zero e f = absurd (cc (e.1 refl, f))
some_noted b (suc n) e f = omega arith

-- the index of one pair more
pub index_more : (ps : List Pair) (i : ℕ) (d : Pair) (m n : BTreeMap ℕ ℕ) → i < length ps → IsIndex (take i ps) m
    → ((print : ℕ) → get nat_cmp n print ≡ option_or (get nat_cmp m print) (cond (fingerprint (get_or ps i d).key == print) (Some i) None))
    → IsIndex (take (i + 1) ps) n
index_more ps i d m n lt h e = λ print.
    let more = take_more ps i d lt in
    let len : length (take i ps) ≡ i = grind (arith, common_steps) in
    let p = get_or ps i d in
    e print ∙ ap (λ o. option_or o (cond (fingerprint p.key == print) (Some i) None)) (h print)
    ∙ ap (λ k. option_or (first_with print (take i ps)) (cond (fingerprint p.key == print) (Some k) None)) (sym len)
    ∙ sym (first_push print (take i ps) p) ∙ ap (first_with print) (sym more)
