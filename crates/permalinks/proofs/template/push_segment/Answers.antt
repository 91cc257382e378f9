use Rattle.std.proofs.Common.{◌≡◌, ◌<◌, ◌++◌, ◌∷◌, ◌∙◌, ap, length, append_assoc, [], lit<, arith}
use Rattle.std.proofs.lemmas.Str.{encode_ascii}
use Rattle.std.specs.String.{string_bytes}
use Rattle.std.proofs.lemmas.Bool.Decides.{nat_tests}
use Rattle.permalinks.proofs.Templates.{empty_segment, segment_step}
use Rattle.permalinks.proofs.template.push_segment.Goals as goal

pub returns-then-is_empty : goal.returns-then-is_empty
returns-then-is_empty c =
    let empty : length c.args.segment.now ≡ 0 = grind (arith, nat_tests) in
    record { step = λ ends segments. ap (λ rest. string_bytes c.args.url.now ++ rest) (empty_segment ends c.args.segment.now segments empty) }

pub returns : goal.returns
returns c =
    let some : 0 < length c.args.segment.now = grind (arith, nat_tests) in
    let bytes : string_bytes c.push_str.new.self ≡ string_bytes c.args.url.now ++ (47 ∷ c.args.segment.now) =
    c.in_ok-push_str.ensures.bytes
    ∙ ap (λ made. made ++ c.args.segment.now) (c.in_ok-push.ensures.bytes ∙ ap (λ slash. string_bytes c.args.url.now ++ slash) (encode_ascii 47 (lit< tt)))
    ∙ append_assoc (string_bytes c.args.url.now) (47 ∷ []) c.args.segment.now in
    record { step = λ ends segments. segment_step ends (string_bytes c.args.url.now) (string_bytes c.push_str.new.self) c.args.segment.now segments some bytes }
