use Rattle.std.proofs.Common.{◌++◌, ◌∙◌, ◌≤◌, ◌<◌, subst, arith, ap, length, length-append, ℕ}
use Rattle.std.proofs.lemmas.List.{length-take}
use Rattle.site_script.specs.Reading.{AddsFrom}
use Rattle.site_script.proofs.Readings.{filled_more, body_whole, body_cut, read_on}
use Rattle.site_script.proofs.body.read_body.Goals as goal

pub returns-in-Ok-eq0-clause-ok : goal.returns-in-Ok-eq0-clause-ok
returns-in-Ok-eq0-clause-ok g c = λ text w.
    let so = c.loop-block.invariant.so_far text w in
    body_cut c.args.count text c.loop-block.bytes.items c.read_more.new.bytes.items _ _ so (omega (arith, c.loop-block-test.true, c.len.ensures))
    (subst (λ (n : ℕ). AddsFrom so.rest c.loop-block.bytes.items c.read_more.new.bytes.items n (g.I.ByteSource.left c.read_more.new.input)) c.in-Ok-eq0.field-0-test
    (c.in-Ok-eq0.ensures.ok so.rest so.left))

pub loop-block-preserved : goal.loop-block-preserved
loop-block-preserved g c = record {
  so_far = λ text w.
      let so = c.loop-block.invariant.so_far text w in
      filled_more text c.loop-block.bytes.items c.read_more.new.bytes.items c.in-Ok.field-0 _ _ so (c.in-Ok.ensures.ok so.rest so.left);
  within = omega (arith, length-take c.min-wanted.result c.loop-block.block, c.in-Ok.ensures.longer, c.in-Ok.ensures.within, c.min-wanted.ensures, c.len-in-loop-block.ensures, c.loop-block-test.true, c.len.ensures);
  steady = c.in-Ok.ensures.cause.same ∙ c.loop-block.invariant.steady;
}

pub returns-clause-ok : goal.returns-clause-ok
returns-clause-ok g c = λ text w.
    body_whole c.args.count text c.loop-block.bytes.items _ (c.loop-block.invariant.so_far text w) (omega (arith, c.loop-block.invariant.within, c.loop-block-test.false, c.len.ensures))

-- what was read before and what this read took
pub returns-in-Err-clause-part : goal.returns-in-Err-clause-part
returns-in-Err-clause-part g c = λ text w.
    let so = c.loop-block.invariant.so_far text w in
    let more = c.in-Err.ensures.part so.rest so.left in
    let within : length (c.loop-block.bytes.items ++ more.0) ≤ c.args.count = omega (arith, length-take c.min-wanted.result c.loop-block.block, more.2, c.min-wanted.ensures, c.len-in-loop-block.ensures, c.loop-block-test.true, c.len.ensures, length-append c.loop-block.bytes.items more.0) in (
      c.loop-block.bytes.items ++ more.0,
      read_on text c.loop-block.bytes.items more.0 _ _ so more.1,
      within,
      λ e. (let few : length (c.loop-block.bytes.items ++ more.0) < c.args.count = omega (arith, ap length (more.3 e), c.loop-block-test.true, c.len.ensures, length-append c.loop-block.bytes.items more.0) in few),
    )
