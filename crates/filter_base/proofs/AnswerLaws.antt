-- What a filter answers once its limits are tested.
use Rattle.std.proofs.Common.{◌≡◌, refl, ap, sym, ◌∙◌, Option, Some, None, Result, Ok, Err}
use Rattle.site_base.specs.Chains.{◌>>=◌}
use Rattle.site_base.specs.Plain.{Plain}
use Rattle.site_base.specs.View.{plain}
use Rattle.site_base.specs.declared.faults.FaultKind.{FaultKind}
use Rattle.site_base.specs.declared.value.Value.{Value}
use Rattle.read_record.specs.Queries.{Query, bind, View, Trace, RanTo, run, then_run}
use Rattle.read_record.proofs.BindLaws.{bind-assoc}
use Rattle.read_record.proofs.QueryLaws.{run-bind, run_gave}
use Rattle.filter_base.specs.Answers.{made, limited, finished, Makes, Gives, Replies}
use Rattle.filter_base.specs.Limits.{excess, fits, unless}
use Rattle.filter_base.specs.declared.stop.Filtered.TheVariants as filtered
use Rattle.filter_base.specs.Stops.{Stop}
use Rattle.read_record.specs.declared.stop.Stop.TheVariants as stop
use Rattle.filter_base.proofs.CallLaws.{stops_at}

value_fits : (view : View) (old new : Trace) (q : Query FaultKind Plain) (v : Value) (o : Option FaultKind) → run view old q ≡ RanTo (plain v) new → excess (plain v) ≡ o
    → Replies (run view old (limited q)) (elim o [ Some k ↦ filtered.Fault k | None ↦ filtered.Value v ]) new
value_fits view old new q v (Some k) gave e = run_gave view old q (λ u. made (fits u)) (plain v) new gave ∙ ap (λ x. run view new (made (unless (plain v) x))) e
value_fits view old new q v None gave e = run_gave view old q (λ u. made (fits u)) (plain v) new gave ∙ ap (λ x. run view new (made (unless (plain v) x))) e

stop_told : (view : View) (old new : Trace) (q : Query FaultKind Plain) (e : Stop) → Gives view old q (Err e) new → Replies (run view old (limited q)) (finished (Err e)) new
stop_told view old new q (stop.Fault k) h = h
stop_told view old new q (stop.Needs j) h = h
stop_told view old new q stop.Memory h = tt

pub replies_finished : (view : View) (old new : Trace) (q : Query FaultKind Plain) (r : Result Value Stop) → Gives view old q r new → Replies (run view old (limited q)) (finished r) new
replies_finished view old new q (Ok v) h = value_fits view old new q v (excess (plain v)) h refl
replies_finished view old new q (Err e) h = stop_told view old new q e h

-- what a call makes is what the query without a look-up gives
pub makes_gives : (view : View) (t : Trace) (found : Result Plain FaultKind) (r : Result Value Stop) → Makes found r → Gives view t (made found) r t
makes_gives view t found (Ok v) h = ap (λ (f : Result Plain FaultKind). run view t (made f)) h
makes_gives view t (Ok v) (Err (stop.Fault k)) h = ap (λ (f : Result Plain FaultKind). run view t (made f)) h
makes_gives view t (Err j) (Err (stop.Fault k)) h = ap (λ (f : Result Plain FaultKind). run view t (made f)) h
makes_gives view t found (Err (stop.Needs j)) h = absurd h
makes_gives view t found (Err stop.Memory) h = tt

-- a query that comes to the same as another, of which a call tells
pub gives_after : (view : View) (t u s : Trace) (q p : Query FaultKind Plain) (r : Result Value Stop) → run view t q ≡ run view u p → Gives view u p r s → Gives view t q r s
gives_after view t u s q p (Ok v) e h = e ∙ h
gives_after view t u s q p (Err x) e h =
    stops_at _ _ x s
    (run-bind view t q (λ v. made (fits v)) ∙ ap (λ r. then_run r (λ v w. run view w (made (fits v)))) e ∙ sym (run-bind view u p (λ v. made (fits v)))) h

made_limited : (found : Result Plain FaultKind) → bind (made found) (λ v. made (fits v)) ≡ made (found >>= fits)
made_limited (Ok v) = refl
made_limited (Err k) = refl

-- a call that makes its value behind a query
pub gives_made : {A : Type 0} (view : View) (t s : Trace) (q : Query FaultKind A) (next : A → Query FaultKind Plain) (a : A) (found : Result Plain FaultKind) (r : Result Value Stop)
    → run view t q ≡ RanTo a s → next a ≡ made found → Makes found r → Gives view t (bind q next) r s
gives_made view t s q next a found (Ok v) gave is h = run_gave view t q next a s gave ∙ ap (run view s) (is ∙ ap made h)
gives_made view t s q next a found (Err (stop.Fault k)) gave is h =
    ap (run view t) (bind-assoc q next (λ v. made (fits v)))
    ∙ run_gave view t q (λ a. bind (next a) (λ v. made (fits v))) a s gave
    ∙ ap (run view s) (ap (λ (p : Query FaultKind Plain). bind p (λ v. made (fits v))) is ∙ made_limited found ∙ ap made h)
gives_made view t s q next a found (Err (stop.Needs j)) gave is h = absurd h
gives_made view t s q next a found (Err stop.Memory) gave is h = tt
