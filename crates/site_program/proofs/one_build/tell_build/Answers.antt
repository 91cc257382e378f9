use Rattle.std.proofs.Common.{◌∙◌, inl, inr, ap, sym, subst, refl, Result, Some, take, append-nil}
use Rattle.site_base.specs.declared.errors.Memory.{Memory}
use Rattle.site_session.specs.Bytes.{reply_bytes}
use Rattle.site_session.specs.Makes.{IsShort}
use Rattle.site_session.specs.Replies.{built_reply}
use Rattle.site_session.specs.declared.build.Rebuilt.{Rebuilt}
use Rattle.site_program.proofs.one_build.tell_build.Goals as goal

pub returns-in-Err-clause-told : goal.returns-in-Err-clause-told
returns-in-Err-clause-told g c = λ before w. (_, record { bytes = w ∙ ap Some (sym (append-nil before)); memory = λ _. refl }, inl (subst (λ (r : Result Rebuilt Memory). IsShort r) (sym c.in-Err.is) tt, refl, refl))

pub returns-in-Ok-write_reply-clause-told : goal.returns-in-Ok-write_reply-clause-told
returns-in-Ok-write_reply-clause-told g c = record { is = ap built_reply c.in-Ok.is ∙ c.of_build-reply.ensures; bytes = λ before w. c.in-Ok-write_reply.ensures.ok before w }

pub returns-in-Err-write_reply-clause-told : goal.returns-in-Err-write_reply-clause-told
returns-in-Err-write_reply-clause-told g c = λ before w.
    let p = c.in-Err-write_reply.ensures.err before w in (
      take p.0 (reply_bytes c.args.why c.of_build-reply.result),
      record { bytes = p.1; memory = λ e. ap (λ k. take k (reply_bytes c.args.why c.of_build-reply.result)) (p.2 e) },
      inr (record { reply = c.of_build-reply.result; is = ap built_reply c.in-Ok.is ∙ c.of_build-reply.ensures; taken = p.0; part_is = refl }),
    )
