use Rattle.std.proofs.Common.{◌≡◌, ◌+◌, ◌∙◌, ◌++◌, ◌∷◌, [], ap, sym, subst, length, rules, arith, length-append, Option, List, ℕ}
use Rattle.std.specs.List.{list_any}
use Rattle.std.proofs.lemmas.Bool.{ne_eqb}
use Rattle.site_script.specs.Script.{HasRead, is_lf}
use Rattle.site_script.specs.Reading.{IsNext}
use Rattle.site_script.proofs.Readings.{filled_byte, no_lf_more, read_still, line_ends, text_ends, line_goes_on}
use Rattle.site_script.proofs.raw_line.read_raw_line.Goals as goal

pub returns-then-byte-eq10-clause-ok : goal.returns-then-byte-eq10-clause-ok
returns-then-byte-eq10-clause-ok g c = λ text w.
    let so = c.loop-count.invariant.so_far text w in
    line_ends text c.loop-count.bytes.items c.in-Ok-Some.byte _ _ so c.loop-count.invariant.no_lf (omega (arith, c.loop-count.invariant.many, c.loop-count-test.true)) c.if-byte-eq10.true
    (subst (λ (o : Option ℕ). IsNext so.rest o (g.I.ByteSource.left c.next_byte.new.input)) c.in-Ok-Some.field-0-is (c.in-Ok-Some.ensures.byte so.rest so.left))

pub returns-in-Ok-None-clause-ok : goal.returns-in-Ok-None-clause-ok
returns-in-Ok-None-clause-ok g c = λ text w.
    let so = c.loop-count.invariant.so_far text w in
    text_ends text c.loop-count.bytes.items _ _ so c.loop-count.invariant.no_lf (omega (arith, c.loop-count.invariant.many, c.loop-count-test.true))
    (subst (λ (o : Option ℕ). IsNext so.rest o (g.I.ByteSource.left c.next_byte.new.input)) c.in-Ok-None.field-0-is (c.in-Ok-None.ensures.byte so.rest so.left))

pub loop-count-preserved : goal.loop-count-preserved
loop-count-preserved g c =
    let pushed : c.push.new.self.items ≡ c.loop-count.bytes.items ++ c.in-Ok-Some.byte ∷ [] = search rules in
    record {
      so_far = λ text w.
          let so = c.loop-count.invariant.so_far text w in
          subst (λ (b : List ℕ). HasRead text b (g.I.ByteSource.left c.next_byte.new.input)) (sym pushed)
          (filled_byte text c.loop-count.bytes.items c.in-Ok-Some.byte _ _ so
          (subst (λ (o : Option ℕ). IsNext so.rest o (g.I.ByteSource.left c.next_byte.new.input)) c.in-Ok-Some.field-0-is (c.in-Ok-Some.ensures.byte so.rest so.left)));
      no_lf = ap (list_any is_lf) pushed ∙ no_lf_more c.loop-count.bytes.items c.in-Ok-Some.byte c.loop-count.invariant.no_lf (ne_eqb c.in-Ok-Some.byte 10 c.if-byte-eq10.false);
      many = ap length pushed ∙ length-append c.loop-count.bytes.items (c.in-Ok-Some.byte ∷ []) ∙ ap (λ n. n + 1) c.loop-count.invariant.many;
      steady = c.in-Ok-Some.ensures.cause.same ∙ c.loop-count.invariant.steady;
    }

pub returns-clause-ok : goal.returns-clause-ok
returns-clause-ok g c = λ text w.
    let so = c.loop-count.invariant.so_far text w in
    let long = line_goes_on text c.loop-count.bytes.items _ so c.loop-count.invariant.no_lf in
    (omega (arith, long, c.loop-count.invariant.many, c.loop-count-test.false), (c.loop-count.bytes.items, so, c.loop-count.invariant.no_lf))

-- the input failed: what is before the byte was taken
pub returns-in-Err-clause-part : goal.returns-in-Err-clause-part
returns-in-Err-clause-part g c = λ text w. (
  c.loop-count.bytes.items,
  read_still text c.loop-count.bytes.items _ _ c.in-Err.ensures.kept (c.loop-count.invariant.so_far text w),
  c.loop-count.invariant.no_lf,
  λ _. omega (arith, c.loop-count.invariant.many, c.loop-count-test.true),
)

-- no memory for the byte: it was taken too
pub returns-then-is_err-clause-part : goal.returns-then-is_err-clause-part
returns-then-is_err-clause-part g c = λ text w.
    let so = c.loop-count.invariant.so_far text w in (
      c.loop-count.bytes.items ++ c.in-Ok-Some.byte ∷ [],
      filled_byte text c.loop-count.bytes.items c.in-Ok-Some.byte _ _ so
          (subst (λ (o : Option ℕ). IsNext so.rest o (g.I.ByteSource.left c.next_byte.new.input)) c.in-Ok-Some.field-0-is (c.in-Ok-Some.ensures.byte so.rest so.left)),
      no_lf_more c.loop-count.bytes.items c.in-Ok-Some.byte c.loop-count.invariant.no_lf (ne_eqb c.in-Ok-Some.byte 10 c.if-byte-eq10.false),
      λ e. absurd (cc (e)),
    )
