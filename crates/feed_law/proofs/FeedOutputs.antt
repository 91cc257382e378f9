-- The outputs of the feed's template, one by one: what each writes.
use Rattle.std.proofs.Common.{◌≡◌, ◌∙◌, refl, ap, sym, ℕ, nat_lt, ℤ, pos, Bool, true, false, List, [], ◌∷◌, ◌++◌, length, codes, if◌then◌else◌, Option, Some, None}
use Rattle.site_base.specs.Plain.{Plain, int, text, no_pairs}
use Rattle.site_base.specs.Values.{value_text}
use Rattle.site_base.specs.declared.faults.FaultKind.TheVariants.{OutputTooLong}
use Rattle.site_base.specs.declared.faults.SiteFault.{SiteFault}
use Rattle.site_base.specs.declared.item_name.ItemName.{ItemName}
use Rattle.read_record.specs.Queries.{Query, Give, Fail, bind, View, Known, Met, Gave, interpret}
use Rattle.read_record.specs.declared.key.Key.TheVariants.{SiteVar}
use Rattle.filter_base.specs.Answers.{made, limited}
use Rattle.filter_base.specs.Dates.{zoned, offset_in, moment_of, moment_of_text, is_now}
use Rattle.filter_base.specs.Dates as dates
use Rattle.filter_base.specs.Limits.{most_text, unless}
use Rattle.jekyll_filters.specs.Dates.{pattern_of}
use Rattle.jekyll_filters.specs.Table as jekyll
use Rattle.jekyll_filters.specs.declared.dates.DateFilter.TheVariants.{DateToXmlschema}
use Rattle.liquid_grammar.specs.Expressions.{filter_of}
use Rattle.liquid_grammar.specs.declared.expression.Expr.{Expr}
use Rattle.liquid_grammar.specs.declared.item.Leaf.TheVariants as leaves
use Rattle.liquid_values.specs.Names.{Excerpting, given, settled}
use Rattle.liquid_values.specs.StrictOptions.{defined}
use Rattle.site_dates.specs.Moment.{read_moment}
use Rattle.liquid_values.specs.Operands.{operand}
use Rattle.liquid_values.specs.Places.{Place, of_body, fault_at, placed}
use Rattle.liquid_tags.specs.Expressions.{expression, filtered}
use Rattle.liquid_tags.specs.States.{with_out, nothing_yet, written_or, written}
use Rattle.liquid_tags.specs.declared.state.State.{State}
use Rattle.liquid_eval.specs.Nodes.{leaf_node}
use Rattle.liquid_eval.specs.Reached.{Reached, reached, onward, Enter}
use Rattle.liquid_eval.specs.declared.signal.Signal.TheVariants.{Next}
use Rattle.text_filters.specs.Marks.{marked}
use Rattle.text_filters.specs.declared.marks.Mark.TheVariants.{EscapeXml}
use Rattle.feed_pages.specs.Feed.{Post, escaped, date_or, date_text, moment_text}
use Rattle.feed_law.specs.FeedNodes as nodes
use Rattle.feed_law.specs.FeedViews.{IsDate, Finds, post_value}
use Rattle.feed_law.proofs.EscapeLaws.{escaped_is, date_formatted}
use Rattle.feed_law.proofs.MetLaws.{then_met, interpret_bind, guarded, then_guarded, too_long}

abbrev pub state : List ℕ → State
state out = with_out out nothing_yet

abbrev pub long : List ℕ → Bool
long t = nat_lt most_text (length t)

-- where an output of the template stands, by the variables of the loop around
abbrev pub at : List ℕ → ItemName → List (List ℕ × Plain) → Plain → Bool → ℕ → Place
at file page locals around looping line = record { file = file; line = line; page = page; manner = of_body; locals = locals; around = around; looping = looping; quiet = false; tested = true }

abbrev pub fault : Place → SiteFault
fault p = fault_at p OutputTooLong

abbrev pub reached_with : List ℕ → Met SiteFault Reached
reached_with out = Gave (reached (state out) Next)

-- ---- Writing

module _ (view : View) where
  pub wrote : (f : SiteFault) (t out : List ℕ) → then_met (interpret view (written_or f t (state out))) (λ s. interpret view (onward s)) ≡ guarded (too_long out t) f (reached_with (out ++ t))
  wrote f t out = go (too_long out t)
    where
      go : (b : Bool) → then_met (interpret view (if b then Fail f else Give (state (out ++ t)))) (λ s. interpret view (onward s)) ≡ guarded b f (reached_with (out ++ t))
      go true = refl
      go false = refl

  -- a text that a filter makes, within the limit
  pub text_fits : (p : Place) (t : List ℕ) → interpret view (placed p (limited (Give (text t)))) ≡ guarded (long t) (fault p) (Gave (text t))
  text_fits p t = go (long t)
    where
      go : (b : Bool) → interpret view (placed p (made (unless (text t) (if b then Some OutputTooLong else None)))) ≡ guarded b (fault p) (Gave (text t))
      go true = refl
      go false = refl

module _ (excerpts : Excerpting) (enter : Enter) (view : View) (p : Place) where
  -- an output of a text, where each limit on the way is passed only by a text that is too long itself
  pub prints : (e : Expr) (t out : List ℕ) (b c : Bool) → interpret view (expression excerpts p no_pairs e) ≡ guarded b (fault p) (guarded c (fault p) (Gave (text t))) →
      (b ≡ true → too_long out t ≡ true) → (c ≡ true → too_long out t ≡ true) →
      interpret view (leaf_node excerpts enter p (leaves.Output e) (state out)) ≡ guarded (too_long out t) (fault p) (reached_with (out ++ t))
  prints e t out b c h first second =
      interpret_bind view (bind (expression excerpts p no_pairs e) (λ v. written p (value_text v) (state out))) onward
      ∙ ap (λ m. then_met m (λ s. interpret view (onward s))) (interpret_bind view (expression excerpts p no_pairs e) (λ v. written p (value_text v) (state out))
      ∙ ap (λ m. then_met m (λ v. interpret view (written p (value_text v) (state out)))) h)
      ∙ go b c first second
    where
      go : (b c : Bool) → (b ≡ true → too_long out t ≡ true) → (c ≡ true → too_long out t ≡ true) →
          then_met (then_met (guarded b (fault p) (guarded c (fault p) (Gave (text t)))) (λ v. interpret view (written p (value_text v) (state out)))) (λ s. interpret view (onward s))
          ≡ guarded (too_long out t) (fault p) (reached_with (out ++ t))
      go true c first second = ap (λ (d : Bool). guarded d (fault p) (reached_with (out ++ t))) (sym (first refl))
      go false true first second = ap (λ (d : Bool). guarded d (fault p) (reached_with (out ++ t))) (sym (second refl))
      go false false first second = wrote view (fault p) t out

-- ---- Filters

module _ (excerpts : Excerpting) (view : View) (p : Place) where
  pub xml_escaped : (v : Plain) → interpret view (filtered excerpts p no_pairs (filter_of (codes "xml_escape") [] ∷ []) v) ≡ guarded (long (escaped (value_text v))) (fault p) (Gave (text (escaped (value_text v))))
  unfolding jekyll.rows
  xml_escaped v =
      interpret_bind view (placed p (limited (Give (text (marked EscapeXml (value_text v)))))) (λ w. Give w)
      ∙ ap (λ m. then_met m (λ w. Gave w)) (text_fits view p (marked EscapeXml (value_text v)))
      ∙ then_guarded (long (marked EscapeXml (value_text v))) (fault p) (Gave (text (marked EscapeXml (value_text v)))) (λ w. Gave w)
      ∙ ap (λ (t : List ℕ). guarded (long t) (fault p) (Gave (text t))) (escaped_is (value_text v))

  -- a date, by what was read of it
  pub date_shown : (offset : ℤ) (t : List ℕ) (read : Option ℤ) →
      interpret view (placed p (limited (made (dates.written (pattern_of DateToXmlschema) offset (text t) read)))) ≡ guarded (long (date_or offset t read)) (fault p) (Gave (text (date_or offset t read)))
  date_shown offset t None = text_fits view p t
  date_shown offset t (Some moment) = rw (date_formatted offset moment) (text_fits view p (moment_text offset moment))

  -- a moment, whatever named it
  pub moment_shown : (offset moment : ℤ) (v : Plain) →
      interpret view (placed p (limited (made (dates.written (pattern_of DateToXmlschema) offset v (Some moment))))) ≡ guarded (long (moment_text offset moment)) (fault p) (Gave (text (moment_text offset moment)))
  moment_shown offset moment v = rw (date_formatted offset moment) (text_fits view p (moment_text offset moment))

  -- what follows a text that was made
  pub after_text : (q : Query SiteFault Plain) (t : List ℕ) (next : Plain → Query SiteFault Plain) (m : Met SiteFault Plain) →
      interpret view q ≡ guarded (long t) (fault p) (Gave (text t)) → interpret view (next (text t)) ≡ m → interpret view (bind q next) ≡ guarded (long t) (fault p) m
  after_text q t next m h k =
      interpret_bind view q next
      ∙ ap (λ x. then_met x (λ w. interpret view (next w))) h
      ∙ then_guarded (long t) (fault p) (Gave (text t)) (λ w. interpret view (next w))
      ∙ ap (λ x. guarded (long t) (fault p) x) k

module _ (excerpts : Excerpting) (view : View) (p : Place) (zone : Plain) (zoned-at : view (SiteVar (codes "timezone")) ≡ Known zone) where
  pub date_filtered : (t : List ℕ) → IsDate t → interpret view (filtered excerpts p no_pairs (filter_of (codes "date_to_xmlschema") [] ∷ []) (text t)) ≡ guarded (long (date_text (offset_in zone) t)) (fault p) (Gave (text (date_text (offset_in zone) t)))
  unfolding jekyll.rows moment_of moment_of_text
  date_filtered t h =
      rw (h.dated, zoned-at, h.marked)
      (after_text excerpts view p (placed p (limited (made (dates.written (pattern_of DateToXmlschema) (offset_in zone) (text t) (read_moment t (offset_in zone)))))) (date_text (offset_in zone) t) (λ w. Give w)
      (Gave (text (date_text (offset_in zone) t))) (date_shown excerpts view p (offset_in zone) t (read_moment t (offset_in zone))) refl)

  pub first_moment : interpret view (filtered excerpts p no_pairs (filter_of (codes "date_to_xmlschema") [] ∷ []) (int (pos 0))) ≡ guarded (long (moment_text (offset_in zone) (pos 0))) (fault p) (Gave (text (moment_text (offset_in zone) (pos 0))))
  unfolding jekyll.rows moment_of
  first_moment =
      rw zoned-at
      (after_text excerpts view p (placed p (limited (made (dates.written (pattern_of DateToXmlschema) (offset_in zone) (int (pos 0)) (Some (pos 0)))))) (moment_text (offset_in zone) (pos 0)) (λ w. Give w)
      (Gave (text (moment_text (offset_in zone) (pos 0)))) (moment_shown excerpts view p (offset_in zone) (pos 0) (int (pos 0))) refl)

-- ---- Members of a post

module _ (excerpts : Excerpting) (view : View) (file : List ℕ) (page : ItemName) (post : Post) (others : List (List ℕ × Plain)) (around : Plain) (line : ℕ) (found : Finds view post) where
  abbrev pub p : Place
  p = at file page ((codes "p", post_value post) ∷ others) around true line

  pub title_found : interpret view (operand excerpts p no_pairs (nodes.of_post (codes "title"))) ≡ Gave post.title
  title_found = rw found.title (ap (λ (o : Option Plain). interpret view (bind (bind (defined p o) given) (settled p))) found.titled)

  pub url_found : interpret view (operand excerpts p no_pairs (nodes.of_post (codes "url"))) ≡ Gave (text post.url)
  url_found = rw found.url

  pub date_found : interpret view (operand excerpts p no_pairs (nodes.of_post (codes "date"))) ≡ Gave (text post.date)
  date_found = rw found.date

  pub content_found : interpret view (operand excerpts p no_pairs (nodes.of_post (codes "content"))) ≡ Gave (text post.content)
  content_found = rw found.content
