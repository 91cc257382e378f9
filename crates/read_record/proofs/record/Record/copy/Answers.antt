use Rattle.std.proofs.Common.{sym, subst, arith}
use Rattle.std.specs.List.{IsDistinct}
use Rattle.std.specs.Map.{keys_of}
use Rattle.read_record.specs.Keys.{same_key}
use Rattle.read_record.specs.Queries.{Reads}
use Rattle.read_record.proofs.PlaceLaws.{taken-one, taken-all}
use Rattle.read_record.proofs.record.Record.copy.Goals as goal

pub loop-place-preserved : goal.loop-place-preserved
loop-place-preserved c =
    taken-one c.args.self.now c.loop-place.reads.items c.push.new.self.items c.loop-place.place c.read_at.result.now c.in_ok-share.field-0
    c.read_at.ensures c.in_ok-share.ensures c.loop-place.invariant c.in_ok-push.ensures.items

pub of-requires : goal.of-requires
of-requires c =
    let all = taken-all c.args.self.now c.loop-place.reads.items c.loop-place.place (omega arith) c.loop-place.invariant in
    subst (λ (rs : Reads). IsDistinct same_key (keys_of rs)) (sym all) c.len-place-end.ensures.once
