use Rattle.std.proofs.Common.{◌∙◌, ◌<◌, ◌-◌, ◌++◌, ◌∷◌, [], List, ℕ, ap, sym, length, take, rules, arith}
use Rattle.text_filters.specs.Words.{words, words_behind}
use Rattle.text_filters.proofs.WordLaws.{spaced_more, fewer_words}
use Rattle.text_filters.proofs.words.truncated_words.Goals as goal

pub loop-left-preserved : goal.loop-left-preserved
loop-left-preserved c =
    let made = c.loop-left.made in let before = c.loop-left.before.now in let word = c.in-Some.word.now in let ws = words c.in-Some.behind.now in let left = c.loop-left.left in
    let some : 0 < left = omega arith in
    let here = c.in-Some.ensures.words in
    record {
      utf8 = search rules;
      utf8_before = search rules;
      so_far = ap (λ (t : List ℕ). t ++ words_behind (32 ∷ []) (take (left - 1) ws)) (c.in_ok-push_str-in-Some-2.ensures.ok ∙ ap (λ (t : List ℕ). t ++ word) c.in_ok-push_str-in-Some.ensures.ok)
          ∙ spaced_more made before word ws left some
          ∙ ap (λ (us : List (List ℕ)). made ++ words_behind before (take left us)) (sym here)
          ∙ c.loop-left.invariant.so_far;
      enough = fewer_words left (length ws) (length (words c.loop-left.rest.now)) some (ap length here) ∙ c.loop-left.invariant.enough;
    }
