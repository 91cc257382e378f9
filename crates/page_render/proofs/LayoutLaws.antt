-- Layouts one around the other: what is left once one is around.
use Rattle.std.proofs.Common.{◌≡◌, ◌∙◌, ℕ, zero, suc, ◌+◌, List, Option, Some, None, refl, sym, ap, subst, arith}
use Rattle.site_base.specs.declared.faults.FaultKind.TheVariants.{Nesting}
use Rattle.site_base.specs.declared.faults.SiteFault.{SiteFault}
use Rattle.site_base.specs.declared.item_name.ItemName.{ItemName}
use Rattle.liquid_values.specs.Places.{site_fault}
use Rattle.page_render.specs.Layouts.{in_layout, in_layouts, in_next}
use Rattle.page_render.specs.declared.around.Around.{Around}
use Rattle.read_record.proofs.CallLaws.{stops_bind}
use Rattle.read_record.proofs.QueryLaws.{run_gave}
use Rattle.read_record.specs.Answers.{Stops}
use Rattle.read_record.specs.Queries.{Fail, View, Trace, RanTo, FailedAt, run}
use Rattle.read_record.specs.declared.stop.Stop.{Stop}

module _ (n : ItemName) (own : List ℕ) where
  more : (left : ℕ) (a : Around) → in_layouts n own (suc left) a ≡ in_next n own (in_layouts n own left) a a.next
  unfolding in_layouts
  more left a = refl

  with_next : (left : ℕ) (a : Around) (next : Option (List ℕ)) → a.next ≡ next → (k : ℕ) → k ≡ left + 1 → in_layouts n own k a ≡ in_next n own (in_layouts n own left) a next
  with_next left a next is k number =
      ap (λ j. in_layouts n own j a) (number ∙ (search arith)) ∙ more left a ∙ ap (in_next n own (in_layouts n own left) a) is

  module _ (view : View) (t : Trace) (left : ℕ) (a : Around) (k : ℕ) (number : k ≡ left + 1) where
    -- no layout comes next
    pub at_end : a.next ≡ None → run view t (in_layouts n own k a) ≡ RanTo a.text t
    at_end is = ap (run view t) (with_next left a None is k number)

    module _ (name : List ℕ) (is : a.next ≡ Some name) where
      -- a layout made the text
      pub went_on : (b : Around) (s : Trace) → run view t (in_layout n own a name) ≡ RanTo b s → run view t (in_layouts n own k a) ≡ run view s (in_layouts n own left b)
      went_on b s gave = ap (run view t) (with_next left a (Some name) is k number) ∙ run_gave view t (in_layout n own a name) (in_layouts n own left) b s gave

      -- a layout stopped
      pub stopped : (e : Stop SiteFault) (s : Trace) → Stops (run view t (in_layout n own a name)) e s → Stops (run view t (in_layouts n own k a)) e s
      stopped e s h = subst (λ q. Stops (run view t q) e s) (sym (with_next left a (Some name) is k number)) (stops_bind view t (in_layout n own a name) (in_layouts n own left) e s h)

  too_many : (a : Around) → in_layouts n own zero a ≡ Fail (site_fault n.path 0 Nesting)
  unfolding in_layouts
  too_many a = refl

  -- no further layout may come
  pub at_last : (view : View) (t : Trace) (a : Around) (k : ℕ) → k ≡ 0 → run view t (in_layouts n own k a) ≡ FailedAt (site_fault n.path 0 Nesting) t
  at_last view t a k is = ap (λ j. run view t (in_layouts n own j a)) is ∙ ap (run view t) (too_many a)
