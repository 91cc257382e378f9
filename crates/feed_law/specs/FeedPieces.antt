-- The feed in the pieces in which it is written, and the fault where it grows longer than a text may be.
use Rattle.std.specs.Prelude.{ℕ, ◌+◌, ℤ, nat_lt, List, [], ◌∷◌, ◌++◌, length, codes, flat_map, if◌then◌else◌, Result, Ok, Err}
use Rattle.site_base.specs.Plain.{Plain}
use Rattle.site_base.specs.Values.{value_text}
use Rattle.site_base.specs.declared.faults.FaultKind.TheVariants.{OutputTooLong}
use Rattle.site_base.specs.declared.faults.SiteFault.{SiteFault}
use Rattle.read_record.specs.Queries.{Met, Gave, Failed}
use Rattle.filter_base.specs.Limits.{most_text}
use Rattle.feed_pages.specs.Feed.{Post, escaped, title_text, date_text, last_update}

-- a text that is written at once; its fault has the line of an output, and 0 where it is the template's own text
pub record Piece : Type 0 where
  pub line : ℕ
  pub text : List ℕ

abbrev pub own : List ℕ → Piece
own t = record { line = 0; text = t }

abbrev pub shown : ℕ → List ℕ → Piece
shown line t = record { line = line; text = t }

module _ (offset : ℤ) (base : List ℕ) where
  abbrev pub entry_pieces : Post → List Piece
  entry_pieces p =
      own (codes "<entry><title>")
      ∷ shown 6 (escaped (value_text p.title))
      ∷ own (codes "</title><id>")
      ∷ shown 6 (escaped (base ++ p.url))
      ∷ own (codes "</id><link href=\"")
      ∷ shown 6 (escaped (base ++ p.url))
      ∷ own (codes "\"/><updated>")
      ∷ shown 6 (date_text offset p.date)
      ∷ own (codes "</updated><content type=\"html\">")
      ∷ shown 6 (escaped p.content)
      ∷ own (codes "</content></entry>\n")
      ∷ []

  abbrev pub head_pieces : Plain → List Post → List Piece
  head_pieces title posts =
      own (codes "<?xml version=\"1.0\" encoding=\"utf-8\"?>\n<feed xmlns=\"http://www.w3.org/2005/Atom\">\n<title>")
      ∷ shown 3 (escaped (title_text title))
      ∷ own (codes "</title>\n<id>")
      ∷ shown 4 (escaped (base ++ codes "/feed.xml"))
      ∷ own (codes "</id>\n<updated>")
      ∷ shown 5 (last_update offset posts)
      ∷ own (codes "</updated>\n")
      ∷ []

  abbrev pub feed_pieces : Plain → List Post → List Piece
  feed_pieces title posts = head_pieces title posts ++ (flat_map entry_pieces posts ++ own (codes "</feed>\n") ∷ [])

abbrev pub joined : List Piece → List ℕ
joined pieces = flat_map (λ (c : Piece). c.text) pieces

-- the fault of a piece with which the text is too long
abbrev pub excess_at : List ℕ → Piece → SiteFault
excess_at file c = record { path = file; line = c.line; kind = OutputTooLong }

-- the text, and these pieces behind it, or the fault of the first with which it is too long
abbrev pub written : List ℕ → List ℕ → List Piece → Result (List ℕ) SiteFault
written file t [] = Ok t
written file t (c ∷ cs) = if nat_lt most_text (length t + length c.text) then Err (excess_at file c) else written file (t ++ c.text) cs

abbrev pub met : Result (List ℕ) SiteFault → Met SiteFault (List ℕ)
met (Ok t) = Gave t
met (Err f) = Failed f
