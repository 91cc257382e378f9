use Rattle.std.proofs.Common.{inr, sym, subst, List, ℕ, Option, Vec, Global}
use Rattle.std.specs.Option.{option_map}
use Rattle.site_script.specs.Script.{IsFirst, whole_line}
use Rattle.site_script.specs.Reading.{IsBody, ReadsRest}
use Rattle.site_script.specs.declared.head.Head.{Head}
use Rattle.site_script.specs.declared.head.Head.TheVariants as head
use Rattle.site_script.specs.declared.line.Line.TheVariants as line
use Rattle.site_script.specs.declared.line.ScriptKind.TheVariants as kind
use Rattle.site_script.proofs.Readings.{put_whole, put_cut, bad_first, failed_rest, memory_rest}
use Rattle.site_script.proofs.reader.finish.Goals as goal

pub returns-in-Ok-Some-clause-line : goal.returns-in-Ok-Some-clause-line
returns-in-Ok-Some-clause-line g c = λ text w.
    let body = subst (λ (o : Option (Vec ℕ Global)). IsBody c.in-Put.count text (option_map (λ (v : Vec ℕ Global). v.items) o) (g.I.ByteSource.left c.read_body.new.input))
    c.in-Ok-Some.field-0-is (c.in-Ok-Some.ensures.ok text w) in
    let first = put_whole c.args.number c.in-Put.count c.in-Put.path text c.in-Ok-Some.bytes.items _ body in
    let with_file = subst (λ (b : List ℕ). IsFirst (whole_line c.args.number (head.Put c.in-Put.path c.in-Put.count) text) text (line.Put c.in-Put.path b) (g.I.ByteSource.left c.read_body.new.input))
    (sym c.from_vec.ensures) first in
    inr (inr (subst (λ (h : Head). IsFirst (whole_line c.args.number h text) text (line.Put c.in-Put.path c.from_vec.result) (g.I.ByteSource.left c.read_body.new.input)) (sym c.in-Put.is) with_file))

pub returns-in-Ok-None-clause-line : goal.returns-in-Ok-None-clause-line
returns-in-Ok-None-clause-line g c = λ text w.
    let body = subst (λ (o : Option (Vec ℕ Global)). IsBody c.in-Put.count text (option_map (λ (v : Vec ℕ Global). v.items) o) (g.I.ByteSource.left c.read_body.new.input))
    c.in-Ok-None.field-0-is (c.in-Ok-None.ensures.ok text w) in
    inr (inr (subst (λ (h : Head). IsFirst (whole_line c.args.number h text) text (line.Bad c.args.number kind.Cut) (g.I.ByteSource.left c.read_body.new.input)) (sym c.in-Put.is)
    (put_cut c.args.number c.in-Put.count c.in-Put.path text _ body)))

pub returns-in-Bad-clause-line : goal.returns-in-Bad-clause-line
returns-in-Bad-clause-line g c = λ text w.
    inr (inr (subst (λ (h : Head). IsFirst (whole_line c.args.number h text) text (line.Bad c.args.number c.in-Bad.kind) (g.I.ByteSource.left c.args.input.now)) (sym c.in-Bad.is)
    (bad_first c.args.number c.in-Bad.kind text _ w)))

pub returns-in-Err-Failed-clause-line : goal.returns-in-Err-Failed-clause-line
returns-in-Err-Failed-clause-line g c = λ text w.
    let part = c.in-Err-Failed.ensures.part text w in
    subst (λ (h : Head). ReadsRest c.args.number h text line.Failed (g.I.ByteSource.left c.read_body.new.input)) (sym c.in-Put.is)
    (failed_rest c.args.number c.in-Put.count c.in-Put.path text part.0 _ part.1 (part.3 c.in-Err-Failed.field-0-is))

pub returns-clause-line : goal.returns-clause-line
returns-clause-line g c = λ text w.
    let part = c.in-Err-Memory.ensures.part text w in
    subst (λ (h : Head). ReadsRest c.args.number h text line.Memory (g.I.ByteSource.left c.read_body.new.input)) (sym c.in-Put.is)
    (memory_rest c.args.number c.in-Put.count c.in-Put.path text part.0 _ part.1 part.2)
