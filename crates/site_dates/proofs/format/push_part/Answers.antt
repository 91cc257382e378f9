use Rattle.std.proofs.Common.{◌<◌, length, arith}
use Rattle.std.specs.String.{string_bytes}
use Rattle.std.proofs.lemmas.Bool.Decides.{nat_tests}
use Rattle.site_dates.proofs.Patterns.{directive_step, directive_refused}
use Rattle.site_dates.proofs.format.push_part.Goals as goal

pub returns-in-Ok : goal.returns-in-Ok
returns-in-Ok c =
    let some : 0 < length c.args.part.now = grind (arith, nat_tests) in
    record { step = λ parts. rw c.if-escaped.false (directive_step c.args.time.now (string_bytes c.args.text.now) (string_bytes c.push_directive.new.text) c.args.part.now parts some c.in-Ok.ensures) }

pub returns-in-Err : goal.returns-in-Err
returns-in-Err c =
    let some : 0 < length c.args.part.now = grind (arith, nat_tests) in
    record { step = λ parts. rw c.if-escaped.false (directive_refused c.args.time.now c.args.part.now parts c.in-Err.error some c.in-Err.ensures) }
