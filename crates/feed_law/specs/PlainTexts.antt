-- What a template without `{` comes to: itself.
use Rattle.std.specs.Prelude.{◌≡◌, ℕ, nat_lt, false, List, length, if◌then◌else◌, Result, Ok, Err}
use Rattle.site_base.specs.declared.faults.FaultKind.TheVariants.{OutputTooLong}
use Rattle.site_base.specs.declared.faults.SiteFault.{SiteFault}
use Rattle.site_base.specs.declared.item_name.ItemName.{ItemName}
use Rattle.filter_base.specs.Limits.{most_text}
use Rattle.liquid_eval.specs.Texts.{text_evaluation}
use Rattle.liquid_values.specs.Places.{at_start, of_body, site_fault}
use Rattle.page_render.specs.Items.{item}
use Rattle.read_record.specs.Outcomes.{Page}
use Rattle.read_record.specs.Queries.{View, Gave, interpret}
use Rattle.feed_pages.specs.Located.{has_brace}
use Rattle.feed_law.specs.FeedItems.{IsBare, page, page_met}
use Rattle.feed_law.specs.FeedPieces.{met}

-- a text within the limit; a longer one is a fault of its file, without a line
abbrev pub whole_text : List ℕ → List ℕ → Result (List ℕ) SiteFault
whole_text file t = if nat_lt most_text (length t) then Err (site_fault file 0 OutputTooLong) else Ok t

-- a text without `{` gives itself
abbrev pub PlainTextLaw : Type 0
PlainTextLaw = (view : View) (t : List ℕ) → has_brace t ≡ false → (file : List ℕ) (n : ItemName) → interpret view (text_evaluation (at_start file n of_body) t) ≡ met (whole_text file t)

-- and so does an item that is only evaluated
abbrev pub PlainItemLaw : Type 0
PlainItemLaw = (view : View) (t : List ℕ) → has_brace t ≡ false → (n : ItemName) → IsBare view t n → interpret view (item n) ≡ page_met (whole_text n.path t)

-- whenever it comes to a page, that is its text
abbrev pub PlainPageLaw : Type 0
PlainPageLaw = (view : View) (t : List ℕ) → has_brace t ≡ false → (n : ItemName) → IsBare view t n → (made : Page) → interpret view (item n) ≡ Gave made → made ≡ page t
