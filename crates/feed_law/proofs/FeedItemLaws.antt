-- What the feed comes to as an item.
use Rattle.std.proofs.Common.{sym, true, ◌≡◌, ◌∙◌, refl, ap, ℕ, Bool, false, List, [], Result, Ok, Err}
use Rattle.site_base.specs.declared.faults.SiteFault.{SiteFault}
use Rattle.site_base.specs.declared.item_name.ItemName.{ItemName}
use Rattle.liquid_eval.specs.Excerpts.{converted_if, text_or_empty}
use Rattle.liquid_eval.specs.Texts.{conversion, text_evaluation}
use Rattle.liquid_values.specs.Places.{at_start, of_body, site_fault}
use Rattle.site_base.specs.declared.faults.FaultKind.TheVariants.{Nesting}
use Rattle.feed_law.specs.FeedLaws.{feed_of}
use Rattle.page_render.specs.Items.{item, own_text}
use Rattle.page_render.specs.Layouts.{laid_out, in_layouts}
use Rattle.read_record.specs.Outcomes.{Page}
use Rattle.read_record.specs.Queries.{Query, Give, bind, View, Gave, interpret}
use Rattle.feed_pages.specs.FeedTemplate.{feed_template}
use Rattle.feed_law.specs.FeedItems.{IsBare, ItemLaw, ItemTextLaw, page, page_met}
use Rattle.feed_law.specs.FeedPieces.{written, met}
use Rattle.feed_law.specs.FeedViews.{is_flat}
use Rattle.feed_law.proofs.FeedLawProofs.{pieces, written_feed}
use Rattle.feed_law.proofs.FeedRun.{feed_evaluated, deep_evaluated}
use Rattle.feed_law.proofs.MetLaws.{then_met, interpret_bind}

module _ (view : View) (template : List ℕ) (n : ItemName) (h : IsBare view template n) where
  converted : (t : List ℕ) → interpret view (conversion n t) ≡ Gave t
  converted t = rw (h.ext, h.markdown) (ap (λ (b : Bool). interpret view (bind (converted_if b (at_start n.path n of_body) t) (λ v. Give (text_or_empty v)))) h.other)

  abbrev paged : List ℕ → Query SiteFault Page
  paged own = bind (laid_out n own) (λ output. Give (record { content = own; output = output }))

  laid : (t : List ℕ) → interpret view (paged t) ≡ Gave (page t)
  unfolding in_layouts
  laid t = rw h.bare

  own_met : (r : Result (List ℕ) SiteFault) → then_met (met r) (λ t. interpret view (conversion n t)) ≡ met r
  own_met (Ok t) = converted t
  own_met (Err f) = refl

  whole_met : (r : Result (List ℕ) SiteFault) → then_met (met r) (λ t. interpret view (paged t)) ≡ page_met r
  whole_met (Ok t) = laid t
  whole_met (Err f) = refl

  -- what the evaluation of its text comes to
  own_text_met : (r : Result (List ℕ) SiteFault) → interpret view (text_evaluation (at_start n.path n of_body) template) ≡ met r → interpret view (own_text n) ≡ met r
  own_text_met r e =
      rw h.source
      (interpret_bind view (text_evaluation (at_start n.path n of_body) template) (λ t. conversion n t)
      ∙ ap (λ m. then_met m (λ t. interpret view (conversion n t))) e
      ∙ own_met r)

  pub item_met : (r : Result (List ℕ) SiteFault) → interpret view (text_evaluation (at_start n.path n of_body) template) ≡ met r → interpret view (item n) ≡ page_met r
  item_met r e = interpret_bind view (own_text n) paged ∙ ap (λ m. then_met m (λ t. interpret view (paged t))) (own_text_met r e) ∙ whole_met r

pub item_law : ItemLaw
item_law view g found flat n h = item_met view feed_template n h (written n.path [] (pieces g)) (feed_evaluated view g found flat n.path n)

-- the page that was made, by its text
pub made_page : (r : Result (List ℕ) SiteFault) (made : Page) → page_met r ≡ Gave made → (t : List ℕ) × (r ≡ Ok t) × (page t ≡ made)
made_page (Ok t) made e = let same : page t ≡ made = cc in (t, refl, same)
made_page (Err f) made e = cc

pub item_text_law : ItemTextLaw
item_text_law view g found n h made e = go (is_flat g) refl
  where
    go : (b : Bool) → is_flat g ≡ b → made ≡ page (feed_of g)
    go true flat =
        let m = made_page (written n.path [] (pieces g)) made (sym (item_law view g found flat n h) ∙ e) in
        sym m.2 ∙ ap page (written_feed g n.path m.0 m.1)
    go false deep = let fails : interpret view (item n) ≡ page_met (Err (site_fault n.path 3 Nesting)) = item_met view feed_template n h (Err (site_fault n.path 3 Nesting)) (deep_evaluated view g found deep n.path n) in cc
