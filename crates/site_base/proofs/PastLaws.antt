-- A code at the front of a text, and what follows it there.
use Rattle.std.proofs.Common.{◌≡◌, ◌↔◌, ◌<◌, ◌≤◌, ◌==◌, IsTrue, get_or, add-one, drop-cons, ℕ, suc, ◌+◌, Bool, false, cond, List, [], ◌∷◌, ◌++◌, length, take, drop, refl, ap, sym, ◌∙◌, append_assoc, arith, Option, Some, None}
use Rattle.std.specs.Str.{bytes_eq}
use Rattle.std.proofs.lemmas.Grind.{common_steps}
use Rattle.std.proofs.lemmas.List.{drop_all}
use Rattle.site_base.specs.View.{plain, items_of, pairs_of}
use Rattle.site_base.specs.declared.value.Value.{Value}
use Rattle.site_base.specs.declared.value.Pair.{Pair}
use Rattle.site_base.specs.Decimal.{decimal}
use Rattle.site_base.specs.Plain.{Items, Pairs, list, hash, count, count_pairs}
use Rattle.site_base.specs.Code.{after, past, text_code, code, items_code, pairs_code}

after_after : (xs ys s : List ℕ) → past ys (after xs s) ≡ after (xs ++ ys) s
after_after [] ys s = refl
after_after (x ∷ xs) ys [] = refl
after_after (x ∷ xs) ys (y ∷ s) = grind (arith, after_after xs ys s)

pub past_past : (xs ys : List ℕ) (s : Option (List ℕ)) → past ys (past xs s) ≡ past (xs ++ ys) s
past_past xs ys None = refl
past_past xs ys (Some s) = after_after xs ys s

pub after_all : (xs : List ℕ) → after xs xs ≡ Some []
after_all [] = refl
after_all (x ∷ xs) = grind (arith, after_all xs)

pub nothing_after : (xs s : List ℕ) → after xs s ≡ Some [] → s ≡ xs
nothing_after [] s e = cc
nothing_after (x ∷ xs) [] e = cc
nothing_after (x ∷ xs) (y ∷ s) e = grind (arith, nothing_after xs s)

pub after_front : (xs s : List ℕ) → after xs s ≡ cond (bytes_eq (take (length xs) s) xs) (Some (drop (length xs) s)) None
after_front [] s = grind (arith, common_steps)
after_front (x ∷ xs) [] = refl
after_front (x ∷ xs) (y ∷ s) = grind (arith, common_steps, after_front xs s)

pub past_nothing : (s : Option (List ℕ)) → past [] s ≡ s
past_nothing None = refl
past_nothing (Some s) = refl

-- a letter, a number, `:`, and then the parts
pub past_parts : (x : ℕ) (ds ys : List ℕ) (s : Option (List ℕ)) → past ys (past (x ∷ (ds ++ 58 ∷ [])) s) ≡ past (x ∷ (ds ++ 58 ∷ ys)) s
past_parts x ds ys s = past_past (x ∷ (ds ++ 58 ∷ [])) ys s ∙ ap (λ zs. past (x ∷ zs) s) (append_assoc ds (58 ∷ []) ys)

pub past_item : (vs : List Value) (i : ℕ) (d : Value) (s : Option (List ℕ)) → i < length vs
    → past (items_code (items_of (drop (i + 1) vs))) (past (code (plain (get_or vs i d))) s) ≡ past (items_code (items_of (drop i vs))) s
past_item vs i d s lt =
    rw (add-one, drop-cons vs i d) (past_past (code (plain (get_or vs i d))) (items_code (items_of (drop (suc i) vs))) s)

pub past_pair : (ps : List Pair) (i : ℕ) (d : Pair) (s : Option (List ℕ)) → i < length ps
    → past (pairs_code (pairs_of (drop (i + 1) ps))) (past (code (plain (get_or ps i d).value)) (past (text_code (get_or ps i d).key) s)) ≡ past (pairs_code (pairs_of (drop i ps))) s
past_pair ps i d s lt =
    let k = text_code (get_or ps i d).key in let v = code (plain (get_or ps i d).value) in let r = pairs_code (pairs_of (drop (suc i) ps)) in
    rw (add-one, drop-cons ps i d) (past_past v r (past k s) ∙ past_past k (v ++ r) s)

-- where nothing follows, the text is the bytes
pub is_whole : (xs s r : List ℕ) (b : Bool) → Some r ≡ after xs s → b ≡ (length r == 0) → IsTrue b ↔ (s ≡ xs)
is_whole xs s [] b e f = (λ h. nothing_after xs s (sym e), λ h. cc)
is_whole xs s (c ∷ r) b e f = (λ h. absurd (never h), λ h. absurd (longer (sym (after_all xs) ∙ ap (after xs) (sym h) ∙ sym e)))
  where
    never : IsTrue b → ⊥
    never h = grind arith

    longer : Some [] ≡ Some (c ∷ r) → ⊥
    longer g = cc

pub is_other : (xs s : List ℕ) → None ≡ after xs s → IsTrue false ↔ (s ≡ xs)
is_other xs s e = (λ h. cc, λ h. let whole = after_all xs in cc)

-- `r`, and two numbers up to `;`
pub past_both : (a b : List ℕ) (s : Option (List ℕ)) → past (b ++ 59 ∷ []) (past (a ++ 59 ∷ []) (past (114 ∷ []) s)) ≡ past (114 ∷ (a ++ 59 ∷ (b ++ 59 ∷ []))) s
past_both a b s = ap (past (b ++ 59 ∷ [])) (past_past (114 ∷ []) (a ++ 59 ∷ []) s) ∙ past_past (114 ∷ (a ++ 59 ∷ [])) (b ++ 59 ∷ []) s ∙ ap (λ zs. past (114 ∷ zs) s) (append_assoc a (59 ∷ []) (b ++ 59 ∷ []))

items_end : (vs : List Value) (i : ℕ) (s : Option (List ℕ)) → length vs ≤ i → s ≡ past (items_code (items_of (drop i vs))) s
items_end vs i s le = rw (drop_all i vs le) (sym (past_nothing s))

-- what is past a whole list: a head, and its items one after another
pub past_list : (is : Items) (us : List Value) (i n : ℕ) (bytes head rest : Option (List ℕ)) → items_of us ≡ is → n ≡ count is
    → head ≡ past (108 ∷ (decimal n ++ 58 ∷ [])) bytes → length us ≤ i → past (items_code (items_of (drop i us))) rest ≡ past (items_code (items_of us)) head
    → rest ≡ past (code (list is)) bytes
past_list is us i n bytes head rest seen counted begun done kept =
    items_end us i rest done ∙ kept ∙ ap (past (items_code (items_of us))) (begun ∙ ap (λ m. past (108 ∷ (decimal m ++ 58 ∷ [])) bytes) counted)
    ∙ ap (λ js. past (items_code js) (past (108 ∷ (decimal (count is) ++ 58 ∷ [])) bytes)) seen ∙ past_parts 108 (decimal (count is)) (items_code is) bytes

pairs_end : (ps : List Pair) (i : ℕ) (s : Option (List ℕ)) → length ps ≤ i → s ≡ past (pairs_code (pairs_of (drop i ps))) s
pairs_end ps i s le = rw (drop_all i ps le) (sym (past_nothing s))

pub past_hash : (is : Pairs) (us : List Pair) (i n : ℕ) (bytes head rest : Option (List ℕ)) → pairs_of us ≡ is → n ≡ count_pairs is
    → head ≡ past (104 ∷ (decimal n ++ 58 ∷ [])) bytes → length us ≤ i → past (pairs_code (pairs_of (drop i us))) rest ≡ past (pairs_code (pairs_of us)) head
    → rest ≡ past (code (hash is)) bytes
past_hash is us i n bytes head rest seen counted begun done kept =
    pairs_end us i rest done ∙ kept ∙ ap (past (pairs_code (pairs_of us))) (begun ∙ ap (λ m. past (104 ∷ (decimal m ++ 58 ∷ [])) bytes) counted)
    ∙ ap (λ js. past (pairs_code js) (past (104 ∷ (decimal (count_pairs is) ++ 58 ∷ [])) bytes)) seen ∙ past_parts 104 (decimal (count_pairs is)) (pairs_code is) bytes
