use Rattle.std.proofs.Common.{arith, ◌≡◌, ◌++◌, ◌+◌, ◌<◌, [], length, drop, sym, ap, Some, None, ◌∙◌, refl}
use Rattle.std.proofs.lemmas.List.{length-drop, length-take}
use Rattle.liquid_grammar.specs.Pieces.{cut_is, front_of, pieces_of, line_ends, trims_after}
use Rattle.liquid_expr.specs.Fits.{found_len}
use Rattle.liquid_expr.proofs.CutLoop.{one_front, no_front, nothing_left, rest_at}
use Rattle.liquid_expr.proofs.cutting.Cutter.next.Goals as goal

pub returns-then-self : goal.returns-then-self
returns-then-self c =
    let s = c.args.self.now in
    (refl, nothing_left s.text.now s.at (s.line + line_ends s.passed.now) s.trims (omega (arith, c.if-self.true)))

pub returns-in-None : goal.returns-in-None
returns-in-None c =
    let s = c.args.self.now in
    let bytes = s.text.now in
    let none : found_len (front_of (drop s.at bytes)) ≡ None = ap (λ t. found_len (front_of t)) (sym c.tail-rest.ensures) ∙ ap found_len (sym c.front_of-front.ensures.value) ∙ sym c.in-None.ensures.value in
    (refl, no_front bytes s.at (s.line + line_ends s.passed.now) s.trims (omega (arith, c.if-self.false)) none ∙ ap (λ n. cut_is [] (Some (s.line + n))) (sym c.line_ends.ensures.value))

pub returns : goal.returns
returns c =
    let s = c.args.self.now in
    let bytes = s.text.now in
    let at = s.at in
    let line = s.line + line_ends s.passed.now in
    let len = c.in-Some.len in
    let lt : at < length bytes = omega (arith, c.if-self.false) in
    let next_is : c.front_of-front.result ≡ front_of (drop at bytes) = c.front_of-front.ensures.value ∙ ap front_of c.tail-rest.ensures in
    let found : found_len (front_of (drop at bytes)) ≡ Some len = ap found_len (sym next_is) ∙ sym c.in-Some.ensures.value in
    let one = one_front bytes at line len s.trims lt found in
    let pieces : c.push_pieces.new.pieces.items ≡ c.args.pieces.now.items ++ pieces_of (front_of (drop at bytes)) (rest_at bytes at line s.trims) = c.in_ok-push_pieces.ensures ∙ rw (next_is, c.tail-rest.ensures, c.line_ends.ensures.value) refl in
    let then : c.trims_after-self.result ≡ trims_after (front_of (drop at bytes)) (drop at bytes) = c.trims_after-self.ensures ∙ rw (next_is, c.tail-rest.ensures) refl in
    let rest_len = ap length c.tail-rest.ensures ∙ length-drop at bytes in
    let fits = c.in-Some.ensures.fits in
    let few = length-take len c.tail-rest.result.now in (
      pieces_of (front_of (drop at bytes)) (rest_at bytes at line s.trims),
      pieces,
      rw (then, c.line_ends.ensures.value, c.tail-rest.ensures) one,
      (omega (arith, rest_len, fits), omega (arith, few, fits, c.line_ends.ensures.within, c.requires.1)),
      omega (arith, length-drop (at + len) bytes, length-drop at bytes, fits, lt),
    )
