-- Separators, and the HTML of an excerpt.
use Rattle.std.proofs.Common.{◌≡◌, ℕ, ◌<◌, length, List, Bool, true, false, ap, arith, Result, Ok, Err}
use Rattle.std.specs.Prelude.{◌==◌, nat_lt, if◌then◌else◌}
use Rattle.site_base.specs.Plain.{Plain}
use Rattle.site_base.specs.declared.faults.FaultKind.{FaultKind}
use Rattle.site_base.specs.declared.faults.FaultKind.TheVariants.{OutputTooLong}
use Rattle.site_base.specs.declared.faults.SiteFault.{SiteFault}
use Rattle.markdown_grammar.specs.Html.{html}
use Rattle.read_record.specs.Answers.{Finds}
use Rattle.read_record.specs.Queries.{View, Trace, Give, run}
use Rattle.read_record.specs.declared.stop.Stop.{Stop}
use Rattle.read_record.specs.declared.stop.Stop.TheVariants as stop
use Rattle.filter_base.specs.Limits.{most_text}
use Rattle.liquid_values.proofs.PlaceLaws.{found_runs}
use Rattle.liquid_values.specs.Answers.{IsFault}
use Rattle.liquid_values.specs.Places.{Place, fault_at, found_at}
use Rattle.liquid_eval.specs.Answers.{Yields}
use Rattle.liquid_eval.specs.Excerpts.{html_found, separator_or_site, site_separator}

pub own_separator : (own : List ℕ) → (length own ≡ 0 → ⊥) → separator_or_site own ≡ Give own
own_separator own some = let is : (length own == 0) ≡ false = search arith in ap (λ (b : Bool). if b then site_separator else Give own) is

pub no_separator : (own : List ℕ) → length own ≡ 0 → separator_or_site own ≡ site_separator
no_separator own none = ap (λ (n : ℕ). if n == 0 then site_separator else Give own) none

module _ (view : View) (t : Trace) (p : Place) (r : Result Plain FaultKind) where
  pub yields_runs : (x : Result Plain (Stop SiteFault)) → Yields p r x → Finds (run view t (found_at p r)) x t
  yields_runs (Ok v) h = found_runs view t p r (Ok v) h
  yields_runs (Err (stop.Fault f)) h = found_runs view t p r (Err (stop.Fault f)) h
  yields_runs (Err (stop.Needs j)) h = absurd h
  yields_runs (Err stop.Memory) h = tt

pub long_html : (p : Place) (t : List ℕ) (e : Stop SiteFault) → most_text < length (html t) → IsFault (fault_at p OutputTooLong) e → Yields p (html_found t) (Err e)
long_html p t e long h = go (nat_lt most_text (length (html t))) (search arith) e h
  where
    go : (b : Bool) → b ≡ true → (e : Stop SiteFault) → IsFault (fault_at p OutputTooLong) e → Yields p (if b then Err OutputTooLong else Ok (Rattle.site_base.specs.Plain.text (html t))) (Err e)
    go true is (stop.Fault f) h = h
    go true is (stop.Needs j) h = absurd h
    go true is stop.Memory h = tt
    go false is e h = absurd (cc)
