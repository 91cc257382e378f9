use Rattle.std.proofs.Common.{◌≡◌, ◌∙◌, ◌++◌, ◌∷◌, [], Bor, List, None, Some, ℕ, ap, option_map, sym, append_assoc, lit<}
use Rattle.std.specs.String.{string_bytes}
use Rattle.text_filters.specs.Stretches.{behind_stretch, without}
use Rattle.text_filters.proofs.StretchLaws.{lack_rest, stretch_none, stretch_shorter, stretch_some}
use Rattle.text_filters.proofs.stretches.push_next.Goals as goal

pub returns-in-Some-clause-made : goal.returns-in-Some-clause-made
returns-in-Some-clause-made c =
    let found : behind_stretch c.args.kinds.now c.args.text.now ≡ Some c.in-Some.rest.now = sym c.in_ok-rest.ensures.behind ∙ ap (option_map (λ (x : Bor (List ℕ)). x.now)) c.in-Some.is in
    ap (λ (t : List ℕ). string_bytes c.args.made.now ++ t) (sym (stretch_some c.args.kinds.now c.args.text.now c.in-Some.rest.now found))

pub returns-in-Some-clause-shorter : goal.returns-in-Some-clause-shorter
returns-in-Some-clause-shorter c =
    let found : behind_stretch c.args.kinds.now c.args.text.now ≡ Some c.in-Some.rest.now = sym c.in_ok-rest.ensures.behind ∙ ap (option_map (λ (x : Bor (List ℕ)). x.now)) c.in-Some.is in
    stretch_shorter c.args.kinds.now c.args.text.now c.in-Some.rest.now found

pub returns-in-Some-clause-missing : goal.returns-in-Some-clause-missing
returns-in-Some-clause-missing c =
    let found : behind_stretch c.args.kinds.now c.args.text.now ≡ Some c.in-Some.rest.now = sym c.in_ok-rest.ensures.behind ∙ ap (option_map (λ (x : Bor (List ℕ)). x.now)) c.in-Some.is in
    lack_rest c.behind_stretch.new.missing.items c.args.kinds.now c.args.text.now c.in-Some.rest.now found c.in_ok-rest.ensures.missing

pub returns-in_ok-push-in-None-clause-made : goal.returns-in_ok-push-in-None-clause-made
returns-in_ok-push-in-None-clause-made c =
    let made = string_bytes c.args.made.now in
    let none : behind_stretch c.args.kinds.now c.args.text.now ≡ None = sym c.in_ok-rest.ensures.behind ∙ ap (option_map (λ (x : Bor (List ℕ)). x.now)) c.in-None.is in
    ap (λ (t : List ℕ). t ++ without c.args.kinds.now c.args.text.now) (c.in_ok-push-in-None.ensures.bytes ∙ ap (λ (t : List ℕ). made ++ t) (c.in_ok-push-in-None.ensures.ascii (lit< tt)))
    ∙ append_assoc made (60 ∷ []) (without c.args.kinds.now c.args.text.now)
    ∙ ap (λ (t : List ℕ). made ++ t) (sym (stretch_none c.args.kinds.now c.args.text.now none))
