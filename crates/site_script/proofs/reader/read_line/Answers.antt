use Rattle.std.proofs.Common.{◌≡◌, ◌∙◌, inl, inr, refl, ap, sym, subst, Option}
use Rattle.site_script.specs.Script.{whole_line, first_line, after_line, head_of}
use Rattle.site_script.specs.Reading.{IsRawLine}
use Rattle.site_script.specs.declared.raw_line.RawLine.{RawLine}
use Rattle.site_script.proofs.Readings.{long_first, end_first, nothing_read, no_line, some_line, rest_first, cut_line, part_spares, line_spares}
use Rattle.site_script.specs.Line.{HasTime}
use Rattle.site_script.proofs.Times.{head_time}
use Rattle.site_script.proofs.reader.read_line.Goals as goal

pub returns-in-Ok-None-clause-line : goal.returns-in-Ok-None-clause-line
returns-in-Ok-None-clause-line g c = λ text w.
    inr (inr (long_first c.args.number text _ (subst (λ (o : Option RawLine). IsRawLine text o (g.I.ByteSource.left c.read_raw_line.new.input)) c.in-Ok-None.field-0-is (c.in-Ok-None.ensures.ok text w))))

pub returns-then-is_nothing-clause-line : goal.returns-then-is_nothing-clause-line
returns-then-is_nothing-clause-line g c = λ text w.
    let raw = subst (λ (o : Option RawLine). IsRawLine text o (g.I.ByteSource.left c.read_raw_line.new.input)) c.in-Ok-Some.field-0-is (c.in-Ok-Some.ensures.ok text w) in
    let nothing = nothing_read c.in-Ok-Some.raw.bytes.items c.in-Ok-Some.raw.ended (sym c.is_nothing.ensures ∙ c.if-is_nothing.true) in
    inr (inr (end_first c.args.number text _ (no_line text c.in-Ok-Some.raw.bytes.items raw.0 (sym nothing.0 ∙ raw.1) nothing.1) raw.2))

pub returns-in-Ok-clause-line : goal.returns-in-Ok-clause-line
returns-in-Ok-clause-line g c = λ text w.
    let raw = subst (λ (o : Option RawLine). IsRawLine text o (g.I.ByteSource.left c.read_raw_line.new.input)) c.in-Ok-Some.field-0-is (c.in-Ok-Some.ensures.ok text w) in
    let some = sym c.is_nothing.ensures ∙ c.if-is_nothing.false in
    let is : first_line c.args.number text ≡ whole_line c.args.number c.in-Ok.head (after_line text) =
    some_line c.args.number text c.in-Ok-Some.raw.bytes.items c.in-Ok-Some.raw.ended raw.0 raw.1 some
    ∙ ap (λ h. whole_line c.args.number h (after_line text)) (ap head_of (sym c.content.ensures) ∙ sym c.in-Ok.ensures) in
    rest_first c.args.number text c.in-Ok-Some.raw.bytes.items c.in-Ok-Some.raw.ended c.in-Ok.head c.finish.result _ _ raw.2 raw.3 (c.in-Ok.ensures ∙ ap head_of c.content.ensures) is
    (c.finish.ensures.line (after_line text) raw.2)

-- the input failed inside the line
pub returns-in-Err-Failed-clause-line : goal.returns-in-Err-Failed-clause-line
returns-in-Err-Failed-clause-line g c = λ text w.
    let part = c.in-Err-Failed.ensures.part text w in
    inl (refl, cut_line text part.0 _ part.1 part.2 (part.3 c.in-Err-Failed.field-0-is))

-- no memory for the line
pub returns-in-Err-Memory-clause-line : goal.returns-in-Err-Memory-clause-line
returns-in-Err-Memory-clause-line g c = λ text w.
    let part = c.in-Err-Memory.ensures.part text w in
    inr (inl (refl, part_spares c.args.number text part.0 _ part.1 part.2))

-- no memory for what the line says
pub returns-clause-line : goal.returns-clause-line
returns-clause-line g c = λ text w.
    let raw = subst (λ (o : Option RawLine). IsRawLine text o (g.I.ByteSource.left c.read_raw_line.new.input)) c.in-Ok-Some.field-0-is (c.in-Ok-Some.ensures.ok text w) in
    inr (inl (refl, line_spares c.args.number text c.in-Ok-Some.raw.bytes.items c.in-Ok-Some.raw.ended _ raw.2 raw.3))

pub finish-requires : goal.finish-requires
finish-requires g c = subst (λ h. HasTime h) (sym c.in-Ok.ensures) (head_time c.content.result.now)
