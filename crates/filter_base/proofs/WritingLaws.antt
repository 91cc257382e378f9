-- What is too long in part is too long as a whole.
use Rattle.std.proofs.Common.{◌≡◌, ℕ, ◌+◌, ◌<◌, ltb, true, List, ◌++◌, length, length-append, sym, ap, ◌∙◌, arith, subst, append_assoc, Result, Ok, Err}
use Rattle.std.proofs.lemmas.Bool.{lt-ltb}
use Rattle.site_base.specs.Plain.{text}
use Rattle.filter_base.specs.Answers.{Makes}
use Rattle.filter_base.specs.Limits.{most_text}
use Rattle.filter_base.specs.Writing.{Refuses, Writes}
use Rattle.filter_base.specs.Stops.{Stop}
use Rattle.read_record.specs.declared.stop.Stop.TheVariants as stop

longer : (old piece rest whole : List ℕ) → old ++ (piece ++ rest) ≡ whole → most_text < length (old ++ piece) → most_text < length whole
longer old piece rest whole same h = omega (arith, simp length-append at (ap length same), simp length-append at h)

pub refused : (whole old piece rest : List ℕ) (e : Stop) → old ++ (piece ++ rest) ≡ whole → Refuses old piece e → Makes (Ok (text whole)) (Err e)
refused whole old piece rest (stop.Fault k) same h =
    let test : ltb most_text (length whole) ≡ true = lt-ltb _ _ (longer old piece rest whole same h.1) in
    rw test (ap Err (sym h.0))
refused whole old piece rest (stop.Needs j) same h = absurd h
refused whole old piece rest stop.Memory same h = tt

pub refuses_more : (old a b : List ℕ) (e : Stop) → Refuses old a e → Refuses old (a ++ b) e
refuses_more old a b (stop.Fault k) h =
    let long : most_text < length old + length a = simp length-append at h.1 in
    (h.0, simp length-append (omega arith))
refuses_more old a b (stop.Needs j) h = h
refuses_more old a b stop.Memory h = tt

pub refuses_then : (old a b : List ℕ) (e : Stop) → Refuses (old ++ a) b e → Refuses old (a ++ b) e
refuses_then old a b (stop.Fault k) h = (h.0, subst (λ (t : List ℕ). most_text < length t) (append_assoc old a b) h.1)
refuses_then old a b (stop.Needs j) h = h
refuses_then old a b stop.Memory h = tt

pub writes_then : (old mid new a b : List ℕ) (r : Result (Unit {0}) Stop) → mid ≡ old ++ a → Writes mid new b r → Writes old new (a ++ b) r
writes_then old mid new a b (Ok done) e h = h ∙ ap (λ (t : List ℕ). t ++ b) e ∙ append_assoc old a b
writes_then old mid new a b (Err stop) e h = refuses_then old a b stop (subst (λ (t : List ℕ). Refuses t b stop) e h)
