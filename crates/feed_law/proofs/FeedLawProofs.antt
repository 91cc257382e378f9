-- The laws of the feed.
use Rattle.std.proofs.Common.{◌≡◌, ◌∙◌, refl, ap, sym, subst, ℕ, nat_lt, Bool, true, false, List, [], length, Result, Ok, Err}
use Rattle.site_base.specs.declared.faults.SiteFault.{SiteFault}
use Rattle.filter_base.specs.Limits.{most_text}
use Rattle.read_record.specs.Queries.{Met, Gave}
use Rattle.feed_law.specs.FeedPieces.{Piece, feed_pieces, joined, written, met}
use Rattle.feed_law.specs.FeedViews.{Given, is_flat, offset_of, base}
use Rattle.feed_law.specs.FeedLaws.{PiecesLaw, DeepLaw, TextLaw, WholeLaw, ExcessLaw, DateLaw, feed_of}
use Rattle.feed_law.proofs.FeedRun.{feed_evaluated, deep_evaluated}
use Rattle.feed_law.proofs.FeedTexts.{pieces_joined, written_is, written_whole, written_not}
use Rattle.feed_law.proofs.FeedDates.{variable_dated}

pub pieces_law : PiecesLaw
pieces_law view g h flat file page = feed_evaluated view g h flat file page

pub deep_law : DeepLaw
deep_law view g h deep file page = deep_evaluated view g h deep file page

met_text : (r : Result (List ℕ) SiteFault) (t : List ℕ) → met r ≡ Gave t → r ≡ Ok t
met_text (Ok u) t e = let same : u ≡ t = cc in ap (λ (x : List ℕ). Ok x) same
met_text (Err f) t e = cc

abbrev pub pieces : Given → List Piece
pieces g = feed_pieces (offset_of g) (base g) g.title g.posts

abbrev pub met_of : Given → List ℕ → Met SiteFault (List ℕ)
met_of g file = met (written file [] (pieces g))

-- a text that was written whole is the feed
pub written_feed : (g : Given) (file t : List ℕ) → written file [] (pieces g) ≡ Ok t → t ≡ feed_of g
written_feed g file t e = written_is file (pieces g) [] t e ∙ pieces_joined (offset_of g) (base g) g.title g.posts

pub text_law : TextLaw
text_law view g h file page t e = go (is_flat g) refl
  where
    go : (b : Bool) → is_flat g ≡ b → t ≡ feed_of g
    go true flat = written_feed g file t (met_text (written file [] (pieces g)) t (sym (feed_evaluated view g h flat file page) ∙ e))
    go false deep = let fails = deep_evaluated view g h deep file page in cc

pub whole_law : WholeLaw
whole_law view g h flat file page short =
    let joins : joined (pieces g) ≡ feed_of g = pieces_joined (offset_of g) (base g) g.title g.posts in
    feed_evaluated view g h flat file page
    ∙ ap met (written_whole file (pieces g) [] (subst (λ (u : List ℕ). nat_lt most_text (length u) ≡ false) (sym joins) short))
    ∙ ap (λ (u : List ℕ). Gave u) joins

pub excess_law : ExcessLaw
excess_law view g h flat file page long =
    let joins : joined (pieces g) ≡ feed_of g = pieces_joined (offset_of g) (base g) g.title g.posts in
    let stops = written_not file (pieces g) [] refl (subst (λ (u : List ℕ). nat_lt most_text (length u) ≡ true) (sym joins) long) in
    (stops.0, feed_evaluated view g h flat file page ∙ ap met stops.1)

pub date_law : DateLaw
date_law offset moment = variable_dated offset moment
