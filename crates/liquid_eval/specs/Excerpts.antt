-- The excerpt of an item: its own, or the front of its text, evaluated and converted. After Jekyll 4's manual, "Posts", "Post excerpts"; docs/PROFILE.md has the rule whole.
use Rattle.std.specs.Prelude.{ℕ, nat_lt, Bool, true, false, ◌==◌, List, [], length, codes, if◌then◌else◌, Option, Some, None, Result, Ok, Err}
use Rattle.site_base.specs.Plain.{Plain, nil, text}
use Rattle.site_base.specs.declared.faults.FaultKind.{FaultKind}
use Rattle.site_base.specs.declared.faults.FaultKind.TheVariants.{LiquidSyntax, OutputTooLong}
use Rattle.site_base.specs.declared.faults.SiteFault.{SiteFault}
use Rattle.site_base.specs.declared.item_name.ItemName.{ItemName}
use Rattle.site_text.specs.Extensions.{is_listed}
use Rattle.markdown_grammar.specs.Html.{html}
use Rattle.read_record.specs.declared.key.Key.TheVariants.{Source, Var, SiteVar}
use Rattle.read_record.specs.Queries.{Query, Give, Fail, Ask, bind}
use Rattle.filter_base.specs.Limits.{most_text}
use Rattle.liquid_grammar.specs.Trees.{Tree, Fault, tree}
use Rattle.liquid_parse.specs.declared.error.ParseError.{ParseError}
use Rattle.liquid_parse.specs.declared.error.ParseError.TheVariants as parse_error
use Rattle.liquid_values.specs.Places.{Place, of_excerpt, at_start, site_fault, found_at}
use Rattle.liquid_tags.specs.Conditions.{is_nil}
use Rattle.liquid_tags.specs.Fronts.{before}
use Rattle.liquid_tags.specs.States.{nothing_yet}
use Rattle.liquid_eval.specs.Reached.{Enter}
use Rattle.liquid_values.specs.Names.{holds_item, items_in}

abbrev pub text_or_empty : Plain → List ℕ
text_or_empty (text t) = t
text_or_empty v = []

abbrev pub is_syntax : FaultKind → Bool
is_syntax LiquidSyntax = true
is_syntax _ = false

abbrev pub has_syntax_fault : Result Tree Fault → Bool
has_syntax_fault (Ok t) = false
has_syntax_fault (Err f) = is_syntax f.kind

-- the same of what a parser answered
abbrev pub has_syntax_error : Result Tree ParseError → Bool
has_syntax_error (Ok t) = false
has_syntax_error (Err (parse_error.Fault line kind)) = is_syntax kind
has_syntax_error (Err parse_error.Memory) = false

-- the front, but the whole where there is no front, or the mark stands within a tag or a block
abbrev pub front_or : List ℕ → Option (List ℕ) → List ℕ
front_or whole None = whole
front_or whole (Some front) = if has_syntax_fault (tree front) then whole else front

abbrev pub front : List ℕ → List ℕ → List ℕ
front mark whole = front_or whole (before mark whole)

abbrev pub site_separator : Query SiteFault (List ℕ)
site_separator = Ask (SiteVar (codes "excerpt_separator")) (λ v. Give (text_or_empty v))

-- the item's own separator, where it is a text that is not empty, or the site's
abbrev pub separator_or_site : List ℕ → Query SiteFault (List ℕ)
separator_or_site own = if length own == 0 then site_separator else Give own

abbrev pub separator : Plain → Query SiteFault (List ℕ)
separator v = separator_or_site (text_or_empty v)

-- HTML, unless it is longer than a text may be
abbrev pub html_found : List ℕ → Result Plain FaultKind
html_found t = if nat_lt most_text (length (html t)) then Err OutputTooLong else Ok (text (html t))

abbrev pub converted_if : Bool → Place → List ℕ → Query SiteFault Plain
converted_if is_markdown p t = if is_markdown then found_at p (html_found t) else Give (text t)

-- converted where the item is Markdown
abbrev pub converted : Place → ItemName → List ℕ → Query SiteFault Plain
converted p n t =
    Ask (Var n (codes "ext")) (λ ext. Ask (SiteVar (codes "markdown_ext")) (λ names. converted_if (is_listed (text_or_empty names) (text_or_empty ext)) p t))

-- where the front of an item's text begins
abbrev pub start_of : ItemName → Place
start_of n = at_start n.path n of_excerpt

module _ (enter : Enter) where
  -- a text as a template of its own, which is entered from a tag
  abbrev pub entered_text : Place → Place → Tree → Query SiteFault (List ℕ)
  entered_text tag start t = bind (enter tag start t nothing_yet) (λ r. Give r.state.out)

  abbrev pub evaluated : Place → Place → Result Tree Fault → Query SiteFault (List ℕ)
  evaluated tag start (Ok t) = entered_text tag start t
  evaluated tag start (Err f) = Fail (site_fault start.file f.line f.kind)

  abbrev pub front_text : Place → ItemName → List ℕ → Query SiteFault (List ℕ)
  front_text p n mark = Ask (Source n) (λ source. evaluated p (start_of n) (tree (front mark (text_or_empty source))))

  -- the excerpt before a mark
  abbrev pub excerpt_before : Place → ItemName → List ℕ → Query SiteFault Plain
  excerpt_before p n mark = bind (front_text p n mark) (λ t. converted p n t)

  abbrev pub cut_excerpt : Place → ItemName → Plain → Query SiteFault Plain
  cut_excerpt p n own = bind (separator own) (λ mark. excerpt_before p n mark)

  abbrev pub front_excerpt : Place → ItemName → Query SiteFault Plain
  front_excerpt p n = Ask (Var n (codes "excerpt_separator")) (λ own. cut_excerpt p n own)

  -- only documents have an excerpt that is made
  abbrev pub made_excerpt : Place → ItemName → Query SiteFault Plain
  made_excerpt p n = Ask (SiteVar (codes "documents")) (λ documents. if holds_item n (items_in documents) then front_excerpt p n else Give nil)

  abbrev pub excerpt : Place → ItemName → Query SiteFault Plain
  excerpt p n = Ask (Var n (codes "excerpt")) (λ v. if is_nil v then made_excerpt p n else Give v)
