use Rattle.std.proofs.Common.{◌≡◌, ◌++◌, ◌∷◌, [], length, sym, ◌∙◌, ap, cond, refl, arith, append_assoc, length-append, true}
use Rattle.std.proofs.lemmas.List.{append-nil}
use Rattle.std.specs.Result.{is_ok}
use Rattle.out_tree.specs.Device.{path_of}
use Rattle.out_tree.proofs.Trying.{tried_none, tried_next, all_tried, never_none}
use Rattle.out_tree.proofs.attempts.try_all.Goals as goal

pub loop-planned-init : goal.loop-planned-init
loop-planned-init g c =
    let given = c.into_iter-planned-iterator.ensures.into_iter_gives.0 in
    record {
      whole = sym given;
      tried = tried_none _ _ _ _ _ _ refl;
      room_left = omega (arith, ap length given, c.requires.room);
      room_used = omega arith;
      failed_room = omega (arith, ap length given, c.requires.failed_room);
      failed_used = omega arith;
      idle = λ _. refl;
    }

pub try_step-requires : goal.try_step-requires
try_step-requires g c =
    let i = c.loop-planned.invariant in
    omega (arith, i.room_left, ap length c.in-Some.ensures.steps.0)

pub loop-planned-preserved-then-not-try_step : goal.loop-planned-preserved-then-not-try_step
loop-planned-preserved-then-not-try_step g c =
    let i = c.loop-planned.invariant in
    let e = c.try_step.ensures in
    let p = c.in-Some.planned in
    let steps = c.in-Some.ensures.steps.0 in
    let ok : is_ok c.push.result ≡ true = ap is_ok c.unwrap.ensures in
    let pushed = c.push.ensures.items ∙ ap (λ b. cond b (c.loop-planned.failed.items ++ p.path ∷ []) c.loop-planned.failed.items) ok ∙ ap (λ path. c.loop-planned.failed.items ++ path ∷ []) p.same in
    record {
      whole = i.whole ∙ ap (λ rest. c.loop-planned.yielded ++ rest) steps ∙ sym (append_assoc c.loop-planned.yielded (p ∷ []) c.next.new.self.rest.items);
      tried = tried_next c.loop-planned.yielded p c.try_step.result _ _ _ _ _ _ _ _ _ _ _ _ _ c.loop-planned.failed.items _ i.tried (record {
        belief = e.belief;
        tells_it = e.tells;
        calls_it = e.calls;
        later = e.later;
        rose = e.rose;
        steady = e.steady;
        failed_is = pushed ∙ ap (λ b. c.loop-planned.failed.items ++ cond b [] (path_of p.step ∷ [])) (sym c.if-not-try_step.true);
      });
      room_left = omega (arith, i.room_left, ap length steps, e.room);
      room_used = omega (arith, i.room_used, length-append c.loop-planned.yielded (p ∷ []), e.room);
      failed_room = omega (arith, i.failed_room, ap length steps, ap length pushed, length-append c.loop-planned.failed.items (path_of p.step ∷ []), c.push.ensures.capacity);
      failed_used = omega (arith, i.failed_used, length-append c.loop-planned.yielded (p ∷ []), ap length pushed, length-append c.loop-planned.failed.items (path_of p.step ∷ []), c.push.ensures.capacity);
      idle = λ none. absurd (never_none c.loop-planned.yielded p none);
    }

pub loop-planned-preserved : goal.loop-planned-preserved
loop-planned-preserved g c =
    let i = c.loop-planned.invariant in
    let e = c.try_step.ensures in
    let p = c.in-Some.planned in
    let steps = c.in-Some.ensures.steps.0 in
    record {
      whole = i.whole ∙ ap (λ rest. c.loop-planned.yielded ++ rest) steps ∙ sym (append_assoc c.loop-planned.yielded (p ∷ []) c.next.new.self.rest.items);
      tried = tried_next c.loop-planned.yielded p c.try_step.result _ _ _ _ _ _ _ _ _ _ _ _ _ c.loop-planned.failed.items _ i.tried (record {
        belief = e.belief;
        tells_it = e.tells;
        calls_it = e.calls;
        later = e.later;
        rose = e.rose;
        steady = e.steady;
        failed_is = sym (append-nil c.loop-planned.failed.items) ∙ ap (λ b. c.loop-planned.failed.items ++ cond b [] (path_of p.step ∷ [])) (sym c.if-not-try_step.false);
      });
      room_left = omega (arith, i.room_left, ap length steps, e.room);
      room_used = omega (arith, i.room_used, length-append c.loop-planned.yielded (p ∷ []), e.room);
      failed_room = omega (arith, i.failed_room, ap length steps);
      failed_used = omega (arith, i.failed_used, length-append c.loop-planned.yielded (p ∷ []));
      idle = λ none. absurd (never_none c.loop-planned.yielded p none);
    }

pub returns-clause-tried : goal.returns-clause-tried
returns-clause-tried g c =
    let i = c.loop-planned.invariant in
    all_tried _ _ _ _ _ _ _ _ _ _ _ _ _ i.whole (omega (arith, c.in-None.ensures.steps.0)) i.tried
