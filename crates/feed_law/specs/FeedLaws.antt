-- The laws of the feed: what its template comes to over a view that finds what a feed rests on.
use Rattle.std.specs.Prelude.{◌≡◌, ℕ, nat_lt, ℤ, true, false, List, [], length, Ok}
use Rattle.site_base.specs.declared.faults.FaultKind.TheVariants.{Nesting}
use Rattle.site_base.specs.declared.faults.SiteFault.{SiteFault}
use Rattle.site_base.specs.declared.item_name.ItemName.{ItemName}
use Rattle.filter_base.specs.Limits.{most_text}
use Rattle.liquid_eval.specs.Texts.{text_evaluation}
use Rattle.liquid_grammar.specs.Trees.{tree}
use Rattle.liquid_values.specs.Places.{at_start, of_body, site_fault}
use Rattle.read_record.specs.Queries.{Query, View, Gave, Failed, interpret}
use Rattle.feed_pages.specs.Feed.{feed}
use Rattle.feed_law.specs.FeedNodes.{feed_nodes}
use Rattle.feed_law.specs.FeedPieces.{Piece, excess_at, feed_pieces, written, met}
use Rattle.feed_pages.specs.FeedTemplate.{feed_template}
use Rattle.feed_law.specs.FeedViews.{Given, FeedView, is_flat, IsDate, date_variable, offset_of, base}

-- the template's text is read as this tree
abbrev pub TreeLaw : Type 0
TreeLaw = tree feed_template ≡ Ok feed_nodes

-- the text of the feed, without Liquid
abbrev pub feed_of : Given → List ℕ
feed_of g = feed (offset_of g) (base g) g.title g.posts

-- the template, evaluated as the text of an item
abbrev pub feed_query : List ℕ → ItemName → Query SiteFault (List ℕ)
feed_query file page = text_evaluation (at_start file page of_body) feed_template

-- it comes to the feed's pieces one behind another, or to the fault of the first with which the text is too long
abbrev pub PiecesLaw : Type 0
PiecesLaw = (view : View) (g : Given) → FeedView view g → is_flat g ≡ true → (file : List ℕ) (page : ItemName) →
    interpret view (feed_query file page) ≡ met (written file [] (feed_pieces (offset_of g) (base g) g.title g.posts))

-- a title that nests deeper than a value may is a fault of its line
abbrev pub DeepLaw : Type 0
DeepLaw = (view : View) (g : Given) → FeedView view g → is_flat g ≡ false → (file : List ℕ) (page : ItemName) → interpret view (feed_query file page) ≡ Failed (site_fault file 3 Nesting)

-- whenever it gives a text, that is the feed
abbrev pub TextLaw : Type 0
TextLaw = (view : View) (g : Given) → FeedView view g → (file : List ℕ) (page : ItemName) (t : List ℕ) → interpret view (feed_query file page) ≡ Gave t → t ≡ feed_of g

-- and it gives the feed where that is within the limit
abbrev pub WholeLaw : Type 0
WholeLaw = (view : View) (g : Given) → FeedView view g → is_flat g ≡ true → (file : List ℕ) (page : ItemName) → nat_lt most_text (length (feed_of g)) ≡ false → interpret view (feed_query file page) ≡ Gave (feed_of g)

-- where it is beyond the limit, it gives the fault of one of the pieces
abbrev pub ExcessLaw : Type 0
ExcessLaw = (view : View) (g : Given) → FeedView view g → is_flat g ≡ true → (file : List ℕ) (page : ItemName) → nat_lt most_text (length (feed_of g)) ≡ true → (c : Piece) × (interpret view (feed_query file page) ≡ Failed (excess_at file c))

-- the variable of a moment is a date as a feed wants it
abbrev pub DateLaw : Type 0
DateLaw = (offset moment : ℤ) → IsDate (date_variable offset moment)
