use Rattle.std.proofs.Common.{◌≡◌, ◌∙◌, ◌++◌, ◌∷◌, [], Bor, IfOk, List, ap, codes, sym, subst, true, ℕ}
use Rattle.std.specs.String.{string_bytes}
use Rattle.std.proofs.lemmas.List.{map-append}
use Rattle.link_check.specs.Segments.{has_index, shown}
use Rattle.link_check.specs.Targets.{with_slashes}
use Rattle.link_check.proofs.SegmentLaws.{with_index}
use Rattle.link_check.proofs.resolving.file_of.Goals as goal

pub returns-then-has_index : goal.returns-then-has_index
returns-then-has_index c =
    let left = c.args.left.items in let is_folder = c.args.is_folder in
    let test : has_index is_folder (shown left) ≡ true = sym (c.has_index.ensures ∙ ap (λ (xs : List (Bor (List ℕ))). has_index is_folder (shown xs)) c.deref.ensures.value) ∙ c.if-has_index.true in
    let pushed : shown c.deref-then-has_index.result.now ≡ shown left ++ codes "index.html" ∷ [] = ap shown (c.deref-then-has_index.ensures.value ∙ c.in_ok-push.ensures.items) ∙ map-append (λ (s : Bor (List ℕ)). s.now) left _ in
    subst (λ (t : List ℕ). IfOk c.with_slashes.result (λ path. string_bytes path ≡ t)) (ap with_slashes pushed ∙ with_index is_folder (shown left) test) c.with_slashes.ensures
