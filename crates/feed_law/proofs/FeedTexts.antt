-- The feed's pieces as one text, and when that text is written whole.
use Rattle.std.proofs.Common.{◌≡◌, ◌∙◌, refl, ap, sym, subst, ℕ, ◌+◌, nat_lt, ℤ, Bool, true, false, List, [], ◌∷◌, ◌++◌, append_assoc, append-nil, arith, length, length-append, codes, flat_map, if◌then◌else◌, Ok, Err}
use Rattle.std.proofs.lemmas.Grind.{flat_map-append}
use Rattle.site_base.specs.Plain.{Plain}
use Rattle.filter_base.specs.Limits.{most_text}
use Rattle.feed_pages.specs.Feed.{Post, entry, head, feed}
use Rattle.feed_law.specs.FeedPieces.{Piece, own, entry_pieces, head_pieces, feed_pieces, joined, excess_at, written}

abbrev text_of : Piece → List ℕ
text_of c = c.text

module _ (offset : ℤ) (base : List ℕ) where
  joined_entries : (posts : List Post) → joined (flat_map (entry_pieces offset base) posts) ≡ flat_map (entry offset base) posts
  joined_entries [] = refl
  joined_entries (p ∷ ps) = flat_map-append text_of (entry_pieces offset base p) (flat_map (entry_pieces offset base) ps) ∙ ap (λ (t : List ℕ). entry offset base p ++ t) (joined_entries ps)

  -- the pieces are the feed
  pub pieces_joined : (title : Plain) (posts : List Post) → joined (feed_pieces offset base title posts) ≡ feed offset base title posts
  pieces_joined title posts =
      flat_map-append text_of (head_pieces offset base title posts) (flat_map (entry_pieces offset base) posts ++ own (codes "</feed>\n") ∷ [])
      ∙ ap (λ (t : List ℕ). head offset base title posts ++ t)
      (flat_map-append text_of (flat_map (entry_pieces offset base) posts) (own (codes "</feed>\n") ∷ []) ∙ ap (λ (t : List ℕ). t ++ codes "</feed>\n") (joined_entries posts))

-- ---- When the whole is written

shorter : (m a b c : ℕ) → nat_lt m (a + (b + c)) ≡ false → nat_lt m (a + b) ≡ false
shorter m a b c h = grind arith

module _ (file : List ℕ) where
  -- what is written is all pieces
  pub written_is : (cs : List Piece) (t u : List ℕ) → written file t cs ≡ Ok u → u ≡ t ++ joined cs
  written_is [] t u h = let same : t ≡ u = cc in sym same ∙ sym (append-nil t)
  written_is (c ∷ cs) t u h = go (nat_lt most_text (length t + length c.text)) (written_is cs (t ++ c.text) u) h
    where
      go : (b : Bool) → (written file (t ++ c.text) cs ≡ Ok u → u ≡ (t ++ c.text) ++ joined cs) → (if b then Err (excess_at file c) else written file (t ++ c.text) cs) ≡ Ok u → u ≡ t ++ (c.text ++ joined cs)
      go true more e = cc
      go false more e = more e ∙ append_assoc t c.text (joined cs)

  -- and they are written where they are not too long together
  pub written_whole : (cs : List Piece) (t : List ℕ) → nat_lt most_text (length (t ++ joined cs)) ≡ false → written file t cs ≡ Ok (t ++ joined cs)
  written_whole [] t h = ap (λ (u : List ℕ). Ok u) (sym (append-nil t))
  written_whole (c ∷ cs) t h =
      let len : length (t ++ (c.text ++ joined cs)) ≡ length t + (length c.text + length (joined cs)) = length-append t (c.text ++ joined cs) ∙ ap (λ (n : ℕ). length t + n) (length-append c.text (joined cs)) in
      let short : nat_lt most_text (length t + length c.text) ≡ false = shorter most_text (length t) (length c.text) (length (joined cs)) (subst (λ (n : ℕ). nat_lt most_text n ≡ false) len h) in
      let more : written file (t ++ c.text) cs ≡ Ok ((t ++ c.text) ++ joined cs) = written_whole cs (t ++ c.text) (subst (λ (u : List ℕ). nat_lt most_text (length u) ≡ false) (sym (append_assoc t c.text (joined cs))) h) in
      ap (λ (b : Bool). if b then Err (excess_at file c) else written file (t ++ c.text) cs) short ∙ more ∙ ap (λ (u : List ℕ). Ok u) (append_assoc t c.text (joined cs))

  -- otherwise there is a fault, at the line of a piece
  pub written_not : (cs : List Piece) (t : List ℕ) → nat_lt most_text (length t) ≡ false → nat_lt most_text (length (t ++ joined cs)) ≡ true → (c : Piece) × (written file t cs ≡ Err (excess_at file c))
  written_not [] t short long = let same : nat_lt most_text (length t) ≡ true = subst (λ (u : List ℕ). nat_lt most_text (length u) ≡ true) (append-nil t) long in cc
  written_not (c ∷ cs) t short long =
      go (nat_lt most_text (length t + length c.text)) refl
      (λ still. written_not cs (t ++ c.text) still (subst (λ (u : List ℕ). nat_lt most_text (length u) ≡ true) (sym (append_assoc t c.text (joined cs))) long))
    where
      go : (b : Bool) → nat_lt most_text (length t + length c.text) ≡ b → (nat_lt most_text (length (t ++ c.text)) ≡ false → (d : Piece) × (written file (t ++ c.text) cs ≡ Err (excess_at file d))) →
          (d : Piece) × ((if b then Err (excess_at file c) else written file (t ++ c.text) cs) ≡ Err (excess_at file d))
      go true e more = (c, refl)
      go false e more = more (subst (λ (n : ℕ). nat_lt most_text n ≡ false) (sym (length-append t c.text)) e)
