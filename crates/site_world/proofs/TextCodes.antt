-- The code of a text is its head and then the text.
use Rattle.std.proofs.Common.{◌≡◌, ℕ, List, [], ◌∷◌, ◌++◌, length, sym, ap, ◌∙◌, arith, append_assoc, length-append}
use Rattle.std.proofs.lemmas.List.{append_cancel_right}
use Rattle.site_base.specs.Code.{text_code}
use Rattle.site_base.specs.Decimal.{decimal}

abbrev pub head : ℕ → List ℕ
head n = 115 ∷ (decimal n ++ 58 ∷ [])

pub parts : (s : List ℕ) → head (length s) ++ s ≡ text_code s
parts s = ap (λ r. 115 ∷ r) (append_assoc (decimal (length s)) (58 ∷ []) s)

-- ends of one length are the same
same_ends : (xs bs cs ds : List ℕ) → xs ++ cs ≡ bs ++ ds → length cs ≡ length ds → cs ≡ ds
same_ends [] [] cs ds e l = e
same_ends [] (b ∷ bs) cs ds e l = absurd (omega (arith, ap length e, length-append (b ∷ bs) ds, l))
same_ends (a ∷ xs) [] cs ds e l = absurd (omega (arith, ap length e, length-append (a ∷ xs) cs, l))
same_ends (a ∷ xs) (b ∷ bs) cs ds e l = let rest : xs ++ cs ≡ bs ++ ds = cc in same_ends xs bs cs ds rest l

module _ (code front rest text : List ℕ) (cut : code ≡ front ++ rest) where
  -- bytes that end with the text
  pub makes : rest ≡ text → front ≡ head (length text) → code ≡ text_code text
  makes r f = cut ∙ (λ i. f i ++ r i) ∙ parts text

  pub has_head : rest ≡ text → code ≡ text_code text → front ≡ head (length text)
  has_head r e = append_cancel_right front (head (length text)) text (ap (λ t. front ++ t) (sym r) ∙ sym cut ∙ e ∙ sym (parts text))

  pub has_text : length rest ≡ length text → code ≡ text_code text → rest ≡ text
  has_text l e = same_ends front (head (length text)) rest text (sym cut ∙ e ∙ sym (parts text)) l
