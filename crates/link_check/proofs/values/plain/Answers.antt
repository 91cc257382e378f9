use Rattle.std.proofs.Common.{◌≡◌, ◌∙◌, ◌+◌, ◌-◌, ◌++◌, ◌∷◌, [], List, ap, append-nil, append_assoc, arith, drop, drop_of_length-le, get_or, length, length-drop, sym, ℕ}
use Rattle.std.proofs.lemmas.List.{take_all}
use Rattle.link_check.specs.Targets.{plain}
use Rattle.link_check.proofs.ValueLaws.{plain_end, plain_more}
use Rattle.link_check.proofs.values.plain.Goals as goal

pub loop-at-preserved : goal.loop-at-preserved
loop-at-preserved c =
    let t = c.args.text.now in let at = c.loop-at.at in let n = c.first_len-at.result in
    let made = c.loop-at.made.items in
    let rest = take_all (length t - at) (drop at t) (omega (arith, length-drop at t)) in
    let more = plain_more t _ at n c.loop-at-test.true rest c.first_len-at.ensures.value in
    let left = plain (drop (at + n) t) in
    record {
      within = omega (arith, c.first_len-at.ensures.within, length-drop at t, ap length rest, c.loop-at-test.true);
      so_far = ap (λ (u : List ℕ). u ++ left) c.in_ok-push.ensures.items
          ∙ append_assoc made (get_or t at 0 ∷ []) left
          ∙ ap (λ (u : List ℕ). made ++ u) (sym more)
          ∙ c.loop-at.invariant.so_far;
    }

pub returns : goal.returns
returns c =
    let t = c.args.text.now in let made = c.loop-at.made.items in
    let none : drop c.loop-at.at t ≡ [] = drop_of_length-le t (omega (arith, c.loop-at-test.false)) in
    sym (append-nil made) ∙ ap (λ (u : List ℕ). made ++ u) (sym (ap plain none ∙ plain_end)) ∙ c.loop-at.invariant.so_far
