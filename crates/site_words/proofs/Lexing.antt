-- What a word is whose name and value the lexer of command lines tells.
use Rattle.std.proofs.Common.{◌≡◌, ◌∙◌, ℕ, ◌+◌, ◌==◌, ◌||◌, Bool, cond, true, false, suc, refl, sym, ap, ap₂, arith, List, [], ◌∷◌, ◌++◌, take, drop, Option, Some, None, true≢false, eqb-true}
use Rattle.std.specs.Prelude.{is_some, option_and_then, unwrap_or, not}
use Rattle.std.specs.List.{position_or_len}
use Rattle.clap.specs.Lexer.{has_byte, long_of, long_of_rest, name_and_value, short_of, short_of_rest, strip_byte}
use Rattle.site_words.specs.Numbers.{number_in}

some≢none : {X : Type 0} (x : X) → Some x ≡ None → ⊥
some≢none x e = true≢false (ap is_some e)

-- an option's name with its value
abbrev pub joined : List ℕ → Option (List ℕ) → List ℕ
joined name None = name
joined name (Some value) = name ++ 61 ∷ value

abbrev is_equals : ℕ → Bool
is_equals x = x == 61

names_back : (text : List ℕ) → joined (name_and_value text).0 (name_and_value text).1 ≡ text
names_back [] = refl
names_back (x ∷ xs) = go (x == 61) refl (names_back xs)
  where
    -- the cut of the whole, by whether the first byte is the mark and where the rest is cut
    whole : (b : Bool) (n : ℕ) (any : Bool) → joined (take n xs) (cond any (Some (drop (n + 1) xs)) None) ≡ xs → (b ≡ true → x ≡ 61)
        → joined (take (cond (not b) (1 + n) 0) (x ∷ xs)) (cond (b || any) (Some (drop (cond (not b) (1 + n) 0 + 1) (x ∷ xs))) None) ≡ x ∷ xs
    whole true n any h e = ap (λ c. c ∷ xs) (sym (e refl))
    whole false n any h e =
        let before : 1 + n ≡ suc n = omega arith in
        let after : 1 + n + 1 ≡ suc (n + 1) = omega arith in
        ap₂ (λ m d. joined (take m (x ∷ xs)) (cond any (Some (drop d (x ∷ xs))) None)) before after ∙ shifted any h
      where
        shifted : (any : Bool) → joined (take n xs) (cond any (Some (drop (n + 1) xs)) None) ≡ xs
            → joined (take (suc n) (x ∷ xs)) (cond any (Some (drop (suc (n + 1)) (x ∷ xs))) None) ≡ x ∷ xs
        shifted true h = ap (λ ys. x ∷ ys) h
        shifted false h = ap (λ ys. x ∷ ys) h

    go : (b : Bool) → (x == 61) ≡ b → joined (name_and_value xs).0 (name_and_value xs).1 ≡ xs → joined (name_and_value (x ∷ xs)).0 (name_and_value (x ∷ xs)).1 ≡ x ∷ xs
    go b e h = whole (x == 61) (position_or_len is_equals xs) (has_byte 61 xs) h (λ t. eqb-true x 61 t)

strip_is : (c : ℕ) (xs ys : List ℕ) → strip_byte c xs ≡ Some ys → xs ≡ c ∷ ys
strip_is c [] ys e = absurd (some≢none ys (sym e))
strip_is c (x ∷ xs) ys e = go (x == c) refl e
  where
    go : (b : Bool) → (x == c) ≡ b → cond b (Some xs) None ≡ Some ys → x ∷ xs ≡ c ∷ ys
    go true t e = ap (λ n. n ∷ xs) (eqb-true x c t) ∙ ap (λ zs. c ∷ zs) (ap (λ o. unwrap_or o ys) e)
    go false t e = absurd (some≢none ys (sym e))

pub long_is : (word name : List ℕ) (value : Option (List ℕ)) → long_of word ≡ Some (name, value) → word ≡ 45 ∷ 45 ∷ joined name value
long_is word name value e = first (strip_byte 45 word) refl e
  where
    text_is : (text : List ℕ) → long_of_rest text ≡ Some (name, value) → text ≡ joined name value
    text_is [] e = absurd (some≢none (name, value) (sym e))
    text_is (x ∷ xs) e =
        let same : name_and_value (x ∷ xs) ≡ (name, value) = ap (λ o. unwrap_or o (name, value)) e in
        sym (names_back (x ∷ xs)) ∙ ap (λ p. joined p.0 p.1) same

    second : (rest : List ℕ) (o : Option (List ℕ)) → strip_byte 45 rest ≡ o → option_and_then long_of_rest o ≡ Some (name, value) → rest ≡ 45 ∷ joined name value
    second rest None t e = absurd (some≢none (name, value) (sym e))
    second rest (Some text) t e = strip_is 45 rest text t ∙ ap (λ ys. 45 ∷ ys) (text_is text e)

    first : (o : Option (List ℕ)) → strip_byte 45 word ≡ o → option_and_then long_of_rest (option_and_then (strip_byte 45) o) ≡ Some (name, value) → word ≡ 45 ∷ 45 ∷ joined name value
    first None t e = absurd (some≢none (name, value) (sym e))
    first (Some rest) t e = strip_is 45 word rest t ∙ ap (λ ys. 45 ∷ ys) (second rest (strip_byte 45 rest) refl e)

-- a text that begins with a hyphen is no number
hyphen_number : (least most : ℕ) (rest : List ℕ) → number_in least most (45 ∷ rest) ≡ None
hyphen_number least most rest = refl

pub long_is_no_number : (word name : List ℕ) (value : Option (List ℕ)) → long_of word ≡ Some (name, value) → number_in 1 64 word ≡ None
long_is_no_number word name value e = ap (number_in 1 64) (long_is word name value e)

pub short_is_no_number : (word flags : List ℕ) → short_of word ≡ Some flags → number_in 1 64 word ≡ None
short_is_no_number word flags e = go (strip_byte 45 word) refl e
  where
    go : (o : Option (List ℕ)) → strip_byte 45 word ≡ o → option_and_then short_of_rest o ≡ Some flags → number_in 1 64 word ≡ None
    go None t e = absurd (some≢none flags (sym e))
    go (Some rest) t e = ap (number_in 1 64) (strip_is 45 word rest t)
