use Rattle.std.proofs.Common.{◌∙◌, ◌++◌, inl, inr, ap, sym, refl, Some, take, append-nil}
use Rattle.site_session.specs.Bytes.{reply_bytes}
use Rattle.site_program.proofs.one_build.tell_scan.Goals as goal

pub returns-in-Err-clause-told : goal.returns-in-Err-clause-told
returns-in-Err-clause-told g c = λ given before why told w. (_, record { bytes = w ∙ ap Some (sym (append-nil before)); memory = λ _. refl }, inl (record { memory = refl; nothing = refl; files = c.in-Err.ensures.spares.0; failures = c.in-Err.ensures.spares.1 }))

pub returns-in-Ok-write_reply-clause-told : goal.returns-in-Ok-write_reply-clause-told
returns-in-Ok-write_reply-clause-told g c = record {
  answers = λ given told. c.in-Ok.ensures.answers given told;
  bytes = λ before w. c.in-Ok-write_reply.ensures.ok before w;
  quiet = c.in-Ok.ensures.leaves.0;
  belief = c.answer_scan.ensures.belief;
  left = c.in-Ok.ensures.leaves.1;
}

pub returns-in-Err-write_reply-clause-told : goal.returns-in-Err-write_reply-clause-told
returns-in-Err-write_reply-clause-told g c = λ given before why told w.
    let p = c.in-Err-write_reply.ensures.err before w in (
      take p.0 (reply_bytes given.why c.in-Ok.reply),
      record {
        bytes = p.1 ∙ ap (λ b. Some (before ++ take p.0 (reply_bytes b c.in-Ok.reply))) (sym why);
        memory = λ e. ap (λ k. take k (reply_bytes given.why c.in-Ok.reply)) (p.2 e);
      },
      inr (record {
        reply = c.in-Ok.reply;
        new = c.answer_scan.new.self;
        answers = c.in-Ok.ensures.answers given told;
        quiet = c.in-Ok.ensures.leaves.0;
        belief = c.answer_scan.ensures.belief;
        left = c.in-Ok.ensures.leaves.1;
        taken = p.0;
        part_is = refl;
      }),
    )
