-- Lists of texts that are made text by text, and the empty parts that wait.
use Rattle.std.proofs.Common.{◌≡◌, ◌∙◌, ℕ, zero, suc, ◌+◌, ◌-◌, ◌<◌, ◌≤◌, ◌==◌, false, cond, List, [], ◌∷◌, ◌++◌, length, refl, sym, ap, subst, arith, append_assoc}
use Rattle.std.specs.Prelude.{Option, Some}
use Rattle.std.specs.Char.{encode_utf8}
use Rattle.std.specs.Str.{IsUtf8, chars}
use Rattle.std.specs.Str.Iter.{chars_rest, chars_steps}
use Rattle.std.specs.declared.str.Chars.{Chars}
use Rattle.std.proofs.lemmas.Bool.Decides.{nat_tests}
use Rattle.std.proofs.lemmas.Str.{chars_past_char}
use Rattle.site_base.specs.Plain.{Items, no_items, item, text, onto}
use Rattle.filter_base.proofs.ItemLaws.{onto_item, onto_nothing}
use Rattle.text_filters.specs.Splitting.{before_kept, empties, text_items, without_empty_end}

pub piece_more : (is : Items) (w : List ℕ) (ws us : List (List ℕ)) → us ≡ w ∷ ws → onto (onto is (item (text w) no_items)) (text_items ws) ≡ onto is (text_items us)
piece_more is w ws us e = onto_item is (text_items ws) (text w) ∙ ap (λ (ts : List (List ℕ)). onto is (text_items ts)) (sym e)

pub pieces_end : (is : Items) (us : List (List ℕ)) → us ≡ [] → onto is (text_items us) ≡ is
pieces_end is us e = ap (λ (ts : List (List ℕ)). onto is (text_items ts)) e ∙ onto_nothing is

items_joined : (xs ys : List (List ℕ)) → onto (text_items xs) (text_items ys) ≡ text_items (xs ++ ys)
items_joined [] ys = refl
items_joined (x ∷ xs) ys = ap (item (text x)) (items_joined xs ys)

onto_onto : (is js ks : Items) → onto (onto is js) ks ≡ onto is (onto js ks)
onto_onto no_items js ks = refl
onto_onto (item v is) js ks = ap (item v) (onto_onto is js ks)

-- empty parts

pub empties_more : (n : ℕ) (ps : List (List ℕ)) → empties (n + 1) ++ ps ≡ empties n ++ [] ∷ ps
empties_more n ps = ap (λ k. empties k ++ ps) (let one : n + 1 ≡ suc n = omega arith in one) ∙ go n
  where
    go : (k : ℕ) → [] ∷ (empties k ++ ps) ≡ empties k ++ [] ∷ ps
    go zero = refl
    go (suc k) = ap (λ (qs : List (List ℕ)). [] ∷ qs) (go k)

pub all_empty : (n : ℕ) → without_empty_end (empties n ++ [] ∷ []) ≡ []
all_empty zero = refl
all_empty (suc n) = ap (before_kept []) (all_empty n)

pub nothing : (p : List ℕ) → length p ≡ 0 → p ≡ []
nothing [] e = refl
nothing (c ∷ cs) e = absurd (omega arith)

pub nothing_last : (is : Items) (n : ℕ) (p : List ℕ) → length p ≡ 0 → is ≡ onto is (text_items (without_empty_end (empties n ++ p ∷ [])))
nothing_last is n p e = sym (pieces_end is (without_empty_end (empties n ++ p ∷ [])) (ap (λ (q : List ℕ). without_empty_end (empties n ++ q ∷ [])) (nothing p e) ∙ all_empty n))

pub one_waits : (is : Items) (n : ℕ) (p : List ℕ) (ps : List (List ℕ)) → length p ≡ 0
    → onto is (text_items (without_empty_end (empties (n + 1) ++ ps))) ≡ onto is (text_items (without_empty_end (empties n ++ p ∷ ps)))
one_waits is n p ps e = ap (λ (qs : List (List ℕ)). onto is (text_items (without_empty_end qs))) (empties_more n ps ∙ ap (λ (q : List ℕ). empties n ++ q ∷ ps) (sym (nothing p e)))

kept_first : (p : List ℕ) (qs : List (List ℕ)) → 0 < length p → before_kept p qs ≡ p ∷ qs
kept_first p [] some =
    let test : (length p == 0) ≡ false = grind (arith, nat_tests) in
    ap (λ b. cond b [] (p ∷ [])) test
kept_first p (q ∷ qs) some = refl

stay : (n : ℕ) (p : List ℕ) (qs : List (List ℕ)) → before_kept [] (empties n ++ p ∷ qs) ≡ [] ∷ (empties n ++ p ∷ qs)
stay zero p qs = refl
stay (suc n) p qs = refl

pub kept_behind : (n : ℕ) (p : List ℕ) (ps : List (List ℕ)) → 0 < length p → without_empty_end (empties n ++ p ∷ ps) ≡ empties n ++ p ∷ without_empty_end ps
kept_behind zero p ps some = kept_first p (without_empty_end ps) some
kept_behind (suc n) p ps some = ap (before_kept []) (kept_behind n p ps some) ∙ stay n p (without_empty_end ps)

pub part_kept : (is : Items) (n : ℕ) (p : List ℕ) (ps : List (List ℕ)) → 0 < length p
    → onto (onto is (text_items (empties n ++ p ∷ []))) (text_items (without_empty_end ps)) ≡ onto is (text_items (without_empty_end (empties n ++ p ∷ ps)))
part_kept is n p ps some =
    onto_onto is (text_items (empties n ++ p ∷ [])) (text_items (without_empty_end ps))
    ∙ ap (onto is) (items_joined (empties n ++ p ∷ []) (without_empty_end ps) ∙ ap text_items (append_assoc (empties n) (p ∷ []) (without_empty_end ps) ∙ sym (kept_behind n p ps some)))

pub one_less : (is : Items) (n : ℕ) (ps : List (List ℕ)) → 0 < n → onto (onto is (item (text []) no_items)) (text_items (empties (n - 1) ++ ps)) ≡ onto is (text_items (empties n ++ ps))
one_less is zero ps some = absurd (omega arith)
one_less is (suc n) ps some =
    let one : suc n - 1 ≡ n = omega arith in
    ap (λ k. onto (onto is (item (text []) no_items)) (text_items (empties k ++ ps))) one ∙ onto_item is (text_items (empties n ++ ps)) (text [])

pub none_less : (is : Items) (n : ℕ) (ps : List (List ℕ)) → n ≤ 0 → onto is (text_items (empties n ++ ps)) ≡ onto is (text_items ps)
none_less is zero ps le = refl
none_less is (suc n) ps le = absurd (omega arith)

-- characters

pub char_cut : (t rest : List ℕ) (before after : Chars) (c : ℕ) (r : Option ℕ) → chars_rest before ≡ t → rest ≡ chars_rest after → r ≡ Some c → chars_steps before r after → IsUtf8 t → chars t ≡ c ∷ chars rest
char_cut t rest before after c r e f is h u =
    let g : chars_steps before (Some c) after = subst (λ (o : Option ℕ). chars_steps before o after) is h in
    chars_past_char t rest c u (sym e ∙ g.0 ∙ ap (λ (s : List ℕ). encode_utf8 c ++ s) (sym f))
