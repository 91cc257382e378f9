-- One line of a session, and the run that it makes longer.
use Rattle.std.proofs.Common.{◌≡◌, ◌⊎◌, inl, inr, ℕ, ◌+◌, ◌-◌, ◌^◌, ◌≤◌, min, Bool, true, false, cond, List, [], ◌∷◌, ◌++◌, length, refl, sym, ◌∙◌, ap, subst, Option, Some, None, Ok, Err, append_assoc, length-append, arith}
use Rattle.std.specs.Prelude.{sum_by}
use Rattle.std.specs.FinMap.{entries, contains_key}
use Rattle.std.specs.Option.{IfNone, IfSome}
use Rattle.std.proofs.lemmas.List.{append-nil}
use Rattle.std.proofs.lemmas.List.Elements.{All-nil, All-push}
use Rattle.std.proofs.lemmas.List.Sums.{sum_by-append}
use Rattle.site_base.specs.Ends.{Rose}
use Rattle.site_base.specs.declared.faults.SiteFault.{SiteFault}
use Rattle.site_base.specs.declared.item_name.ItemName.{ItemName}
use Rattle.source_tree.specs.Put.{put_refusal}
use Rattle.source_tree.specs.Scan.{scan_fault}
use Rattle.source_tree.specs.declared.put_error.PutError.{PutError}
use Rattle.out_tree.specs.Belief.{Belief, all_marked}
use Rattle.site_reader.specs.Found.{Found}
use Rattle.site_script.specs.Line.{line_number, ends}
use Rattle.site_script.specs.Script.{Taken, first_line, is_bad, IsCutOff, IsFirst, IsFirstOr, ReadsFirst}
use Rattle.site_script.proofs.Readings.{never_failed, none_spares}
use Rattle.site_script.specs.declared.line.Line.{Line}
use Rattle.site_script.specs.declared.line.Line.TheVariants as line
use Rattle.site_script.specs.declared.line.ScriptKind.{ScriptKind}
use Rattle.site_session.specs.Standing.{Standing, Holds}
use Rattle.site_session.specs.declared.output.Output.{Output}
use Rattle.site_session.specs.Replies.{AllLeave, LineLeaves, LineSpares, has_called_output}
use Rattle.site_session.specs.Rounds.{in_any_order}
use Rattle.site_session.specs.Scenes.{Rises, Scene}
use Rattle.site_session.specs.Tallied.{LineTallied}
use Rattle.site_session.specs.Session.{Given, Answers, Run, Nothing, event_of, step, put, scan, build, build_reply, build_tree, failed_in, full_now, plan, rendered_now, source_failures, output_failures}
use Rattle.site_session.specs.Bytes.{reply_bytes, written}
use Rattle.site_session.specs.declared.reply.Reply.{Reply}
use Rattle.site_session.specs.declared.reply.Reply.TheVariants as the_reply
use Rattle.site_session.specs.declared.reply.Reply.TheVariants.{Scanned, ScanFailed, Faulty, Fine, Absent, Built, Marked, Unlisted, BadLine, Silent}
use Rattle.site_program.specs.Runs.{Stopped, IsCut}
use Rattle.site_program.specs.Sessions.{Counted, OneSession, Gone, Going, SoFar, SessionRun, AtEnd, AtBad, AtInput, AtLine, next_of, IsRead, Undone, Halted, TellsBad, EndsAt, GoesOn, EndsSession, bad_status}
use Rattle.site_session.proofs.Lines.{rises_none, spares_all}
use Rattle.site_program.specs.Stages.{BlamesInput, Comes, Completes, Stayed, InputSeen, NoneFailed, Stage}
use Rattle.site_program.proofs.Completes.{never_rose}
use Rattle.site_program.proofs.Onces.{holds_first}
use Rattle.site_program.specs.declared.status.Status.{Status}
use Rattle.site_program.specs.declared.status.Status.TheVariants as status

-- what a reply makes of its session
data Outcome (reply : Reply) : Type 0 where
  Goes : bad_status reply ≡ None → Outcome reply
  Ends : (number : ℕ) (kind : ScriptKind) → reply ≡ BadLine number kind → Outcome reply

outcome : (reply : Reply) → Outcome reply
outcome (BadLine number kind) = Ends number kind refl
outcome (Scanned count) = Goes refl
outcome ScanFailed = Goes refl
outcome (Faulty fault) = Goes refl
outcome Fine = Goes refl
outcome Absent = Goes refl
outcome (Built report) = Goes refl
outcome (Marked paths) = Goes refl
outcome Unlisted = Goes refl
outcome Silent = Goes refl
outcome (the_reply.Links report) = Goes refl

-- a line that does not end the script
goes_on : (given : Given) (old new : Standing) (number : ℕ) (at : Line) (reply : Reply) → (at ≡ line.End → ⊥) → (at ≡ line.Eof → ⊥) → IsRead at
    → Answers given old number at reply new → bad_status reply ≡ None → ends at ≡ false
goes_on given old new number line.Scan reply end eof read answers good = refl
goes_on given old new number (line.Put path bytes) reply end eof read answers good = refl
goes_on given old new number (line.Delete path) reply end eof read answers good = refl
goes_on given old new number (line.Time seconds) reply end eof read answers good = refl
goes_on given old new number line.Build reply end eof read answers good = refl
goes_on given old new number line.Links reply end eof read answers good = refl
goes_on given old new number line.End reply end eof read answers good = absurd (end refl)
goes_on given old new number line.Eof reply end eof read answers good = absurd (eof refl)
goes_on given old new number (line.Bad bad kind) reply end eof read answers good = let wrong : Some (status.Script bad kind) ≡ None = ap (λ (s : Standing × Reply). bad_status s.1) answers ∙ good in absurd (cc (wrong))
goes_on given old new number line.Failed reply end eof read answers good = absurd (read.0 refl)
goes_on given old new number line.Memory reply end eof read answers good = absurd (read.1 refl)

-- the reply of a step
reply_is : {one other : Standing × Reply} → one ≡ other → one.1 ≡ other.1
reply_is e = ap (λ (p : Standing × Reply). p.1) e

bad_put : (old new : Standing) (number : ℕ) (path bytes : List ℕ) (bad : ℕ) (kind : ScriptKind) (refusal : Option PutError) → put old number path bytes refusal ≡ (new, BadLine bad kind) → new ≡ old
bad_put old new number path bytes bad kind None e = let r = reply_is e in absurd (cc (r))
bad_put old new number path bytes bad kind (Some error) e = sym (ap (λ (p : Standing × Reply). p.0) e)

bad_delete : (b : Bool) (bad : ℕ) (kind : ScriptKind) → cond b Fine Absent ≡ BadLine bad kind → ⊥
bad_delete true bad kind r = absurd (cc (r))
bad_delete false bad kind r = absurd (cc (r))

bad_scan : (given : Given) (old new : Standing) (bad : ℕ) (kind : ScriptKind) (fault : Option SiteFault) → scan given old fault Nothing ≡ (new, BadLine bad kind) → ⊥
bad_scan given old new bad kind None e = let r = reply_is e in absurd (cc (r))
bad_scan given old new bad kind (Some fault) e = let r = reply_is e in absurd (cc (r))

bad_reply : (belief : Belief) (output : Output) (failed : List (List ℕ)) (bad : ℕ) (kind : ScriptKind) → build_reply belief output failed ≡ BadLine bad kind → ⊥
bad_reply belief output [] bad kind r = absurd (cc (r))
bad_reply belief output (path ∷ paths) bad kind r = absurd (cc (r))

bad_build : (given : Given) (old new : Standing) (bad : ℕ) (kind : ScriptKind) (f : Found Output) → build given old f Nothing ≡ (new, BadLine bad kind) → ⊥
bad_build given old new bad kind (Err fault) e = let r = reply_is e in absurd (cc (r))
bad_build given old new bad kind (Ok output) e = by old.belief e
  where
    by : (belief : Option Belief) → build_tree given old output belief Nothing ≡ (new, BadLine bad kind) → ⊥
    by None e = bad_reply (all_marked given.output) output (failed_in (plan (all_marked given.output) output.written) []) bad kind (reply_is e)
    by (Some belief) e = bad_reply belief output (failed_in (plan belief output.written) []) bad kind (reply_is e)

-- a bad line changes nothing
bad_same : (given : Given) (old new : Standing) (number : ℕ) (at : Line) (bad : ℕ) (kind : ScriptKind) → Answers given old number at (BadLine bad kind) new → new ≡ old
bad_same given old new number line.Scan bad kind e = absurd (bad_scan given old new bad kind (scan_fault (entries given.source)) e)
bad_same given old new number (line.Put path bytes) bad kind e = bad_put old new number path bytes bad kind (put_refusal old.files path bytes) e
bad_same given old new number (line.Delete path) bad kind e = absurd (bad_delete (contains_key old.files path) bad kind (reply_is e))
bad_same given old new number (line.Time seconds) bad kind e = let r = reply_is e in absurd (cc (r))
bad_same given old new number line.Build bad kind e = absurd (bad_build given (rendered_now old) new bad kind (full_now old) e)
bad_same given old new number line.Links bad kind e = let r = reply_is e in absurd (cc (r))
bad_same given old new number (line.Bad at kind') bad kind e = sym (ap (λ (p : Standing × Reply). p.0) e)
bad_same given old new number line.End bad kind e = let r = reply_is e in absurd (cc (r))
bad_same given old new number line.Eof bad kind e = let r = reply_is e in absurd (cc (r))
bad_same given old new number line.Failed bad kind e = let r = reply_is e in absurd (cc (r))
bad_same given old new number line.Memory bad kind e = let r = reply_is e in absurd (cc (r))

-- and renders nothing
bad_tally : (given : Given) (old new : Standing) (number : ℕ) (at : Line) (bad : ℕ) (kind : ScriptKind) → Answers given old number at (BadLine bad kind) new → (before after : List ItemName) → LineTallied in_any_order old at before after → after ≡ before
bad_tally given old new number line.Build bad kind e before after t = absurd (bad_build given (rendered_now old) new bad kind (full_now old) e)
bad_tally given old new number line.Scan bad kind e before after t = t
bad_tally given old new number line.Links bad kind e before after t = t
bad_tally given old new number (line.Put path bytes) bad kind e before after t = t
bad_tally given old new number (line.Delete path) bad kind e before after t = t
bad_tally given old new number (line.Time seconds) bad kind e before after t = t
bad_tally given old new number (line.Bad at' kind') bad kind e before after t = t
bad_tally given old new number line.End bad kind e before after t = t
bad_tally given old new number line.Eof bad kind e before after t = t
bad_tally given old new number line.Failed bad kind e before after t = t
bad_tally given old new number line.Memory bad kind e before after t = t

-- a scan is not answered as a bad line
not_scan : (given : Given) (old new : Standing) (number : ℕ) (at : Line) (bad : ℕ) (kind : ScriptKind) → Answers given old number at (BadLine bad kind) new → at ≡ line.Scan → ⊥
not_scan given old new number at bad kind answers is =
    bad_scan given old new bad kind (scan_fault (entries given.source)) (subst (λ (l : Line). Answers given old number l (BadLine bad kind) new) is answers)

pub record Turned {S D : Type 0} (given : Given) (old : Standing) (number : ℕ) (at : Line) (before : List ℕ) (new : Standing) (was now : Stage S D) (result : Option Status) : Type 0 where
  pub next : IfNone result (GoesOn given old number at before new was now)
  pub ends_at : IfSome result (λ s. EndsAt given old number at before new was now s)

pub turned : {S D : Type 0} (given : Given) (old : Standing) (number : ℕ) (at : Line) (before : List ℕ) (new : Standing) (was now : Stage S D) (reply : Reply)
    → (at ≡ line.End → ⊥) → (at ≡ line.Eof → ⊥) → IsRead at
    → Answers given old number at reply new → now.sink.taken ≡ Some (before ++ reply_bytes given.why reply) → Holds now.scene.output.files new.belief given.output → LineLeaves old at reply new.belief was.scene now.scene
    → Turned given old number at before new was now (bad_status reply)
turned given old number at before new was now reply end eof read answers bytes holds leaves = by (outcome reply)
  where
    by : Outcome reply → Turned given old number at before new was now (bad_status reply)
    by (Goes is) = subst (λ (r : Option Status). Turned given old number at before new was now r) (sym is) (record {
      next = record { reply = reply; goes = goes_on given old new number at reply end eof read answers is; good = is; answers = answers; bytes = bytes; leaves = leaves };
      ends_at = tt;
    })
    by (Ends bad kind is) =
        let told = subst (λ (r : Reply). Answers given old number at r new) is answers in
        subst (λ (r : Reply). Turned given old number at before new was now (bad_status r)) (sym is) (record {
          next = tt;
          ends_at = record {
            is_read = read;
            answers = told;
            bytes = bytes ∙ ap (λ (r : Reply). Some (before ++ reply_bytes given.why r)) is;
            output = holds;
            same = λ i. record {
              source = leaves.source.untouched (not_scan given old new number at bad kind told) i;
              output = leaves.output.untouched (ap has_called_output is) i;
              tally = bad_tally given old new number at bad kind told was.scene.tally now.scene.tally leaves.tallied i;
            };
          };
        })

-- what tells want of memory of a line tells it of the run
pub stopped_as : {short long : Type 0} {S D : Type 0} {given : Given} {old : Standing} {number : ℕ} {at : Line} {before after : Scene S D} {part : List ℕ}
    → (short → long) → Stopped short given old number at before after part → Stopped long given old number at before after part
stopped_as f (inl none) = inl (record { memory = f none.memory; spares = none.spares; output = none.output; nothing = none.nothing })
stopped_as f (inr half) = inr half

pub halts : {S D : Type 0} (given : Given) (old : Standing) (number : ℕ) (at : Line) (before part : List ℕ) (new : Standing) (was now : Stage S D) (s : Status)
    → IsRead at → Stopped (s ≡ status.Memory) given old number at was.scene now.scene part → now.sink.taken ≡ Some (before ++ part) → IsCut s part → EndsAt given old number at before new was now s
halts given old number at before part new was now s read stopped bytes cut =
    elim cut.cases [
      | inl e ↦ subst (λ (x : Status). EndsAt given old number at before new was now x) (sym e) (inr (read, (part, subst (λ (x : Status). Stopped (x ≡ status.Memory) given old number at was.scene now.scene part) e stopped, bytes, subst (λ (x : Status). IsCut x part) e cut)))
      | inr e ↦ subst (λ (x : Status). EndsAt given old number at before new was now x) (sym e) (inr (read, (part, subst (λ (x : Status). Stopped (x ≡ status.Memory) given old number at was.scene now.scene part) e stopped, bytes, subst (λ (x : Status). IsCut x part) e cut)))
    ]

-- one line more
taken_more : (n k : ℕ) (text : List ℕ) (lines : List Line) (left : List ℕ) (at : Line) → k ≡ n + length lines → Taken n text lines left → (first_line (line_number k) left).0 ≡ at
    → Taken n text (lines ++ at ∷ []) (first_line (line_number k) left).1
taken_more n k text [] left at is taken next =
    let same : k ≡ n = omega arith in
    let here : first_line (line_number k) left ≡ first_line (line_number n) text = (λ i. first_line (line_number (same i)) (taken i)) in
    (ap (λ (p : Line × List ℕ). p.0) (sym here) ∙ next, ap (λ (p : Line × List ℕ). p.1) here)
taken_more n k text (l ∷ lines) left at is taken next =
    let same : k ≡ (n + 1) + length lines = omega arith in
    (taken.0, taken_more (n + 1) k (first_line (line_number n) text).1 lines left at same taken.1 next)

run_more : (given : Given) (old mid new : Standing) (n k : ℕ) (lines : List Line) (replies : List Reply) (at : Line) (reply : Reply) → k ≡ n + length lines
    → Run given old n lines replies mid → Answers given mid (line_number k) at reply new → Run given old n (lines ++ at ∷ []) (replies ++ reply ∷ []) new
run_more given old mid new n k [] [] at reply is run answers =
    let same : k ≡ n = omega arith in
    (new, (let there : Answers given old (line_number n) at reply new = subst (λ (s : Standing). Answers given s (line_number n) at reply new) run (subst (λ (m : ℕ). Answers given mid (line_number m) at reply new) same answers) in there), refl)
run_more given old mid new n k (l ∷ lines) (r ∷ replies) at reply is run answers =
    let same : k ≡ (n + 1) + length lines = omega arith in
    (run.0, run.1, run_more given run.0 mid new (n + 1) k lines replies at reply same run.2 answers)
run_more given old mid new n k [] (r ∷ replies) at reply is run answers = absurd run
run_more given old mid new n k (l ∷ lines) [] at reply is run answers = absurd run

leave_more : {S D : Type 0} (given : Given) (old mid new : Standing) (n k : ℕ) (lines : List Line) (replies : List Reply) (at : Line) (reply : Reply) (first there last : Scene S D) → k ≡ n + length lines
    → Run given old n lines replies mid → AllLeave given old n lines replies first there → Answers given mid (line_number k) at reply new → LineLeaves mid at reply new.belief there last
    → AllLeave given old n (lines ++ at ∷ []) (replies ++ reply ∷ []) first last
leave_more given old mid new n k [] [] at reply first there last is run leave answers leaves =
    let same : k ≡ n = omega arith in
    let here : Answers given old (line_number n) at reply new = subst (λ (s : Standing). Answers given s (line_number n) at reply new) run (subst (λ (m : ℕ). Answers given mid (line_number m) at reply new) same answers) in
    let belief : new.belief ≡ (step given old (line_number n) at (event_of reply)).0.belief = ap (λ (p : Standing × Reply). p.0.belief) (sym here) in
    (last, subst (λ (b : Option Belief). LineLeaves old at reply b first last) belief (subst (λ (s : Standing). LineLeaves s at reply new.belief first last) run (subst (λ x. LineLeaves mid at reply new.belief x last) leave leaves)), refl)
leave_more given old mid new n k (l ∷ lines) (r ∷ replies) at reply first there last is run leave answers leaves =
    let same : k ≡ (n + 1) + length lines = omega arith in
    let next : run.0 ≡ (step given old (line_number n) l (event_of r)).0 = ap (λ (p : Standing × Reply). p.0) (sym run.1) in (
      leave.0,
      leave.1,
      leave_more given (step given old (line_number n) l (event_of r)).0 mid new (n + 1) k lines replies at reply leave.0 there last same
          (subst (λ (s : Standing). Run given s (n + 1) lines replies mid) next run.2) leave.2 answers leaves,
    )
leave_more given old mid new n k [] (r ∷ replies) at reply first there last is run leave answers leaves = absurd run
leave_more given old mid new n k (l ∷ lines) [] at reply first there last is run leave answers leaves = absurd run

written_more : (why : Bool) (replies : List Reply) (reply : Reply) → written why (replies ++ reply ∷ []) ≡ written why replies ++ reply_bytes why reply
written_more why [] reply = append-nil (reply_bytes why reply)
written_more why (r ∷ replies) reply =
    ap (λ b. reply_bytes why r ++ b) (written_more why replies reply) ∙ sym (append_assoc (reply_bytes why r) (written why replies) (reply_bytes why reply))

good_line : (at : Line) → ends at ≡ false → is_bad at ≡ false
good_line line.Scan e = refl
good_line (line.Put path bytes) e = refl
good_line (line.Delete path) e = refl
good_line (line.Time seconds) e = refl
good_line line.Build e = refl
good_line line.Links e = refl
good_line line.End e = refl
good_line line.Eof e = refl
good_line line.Failed e = refl
good_line line.Memory e = refl
good_line (line.Bad number kind) e = absurd (cc (e))

-- ---- counts of failures

rises_then : (some more first mid last : ℕ) → Rises some first mid → Rises more mid last → Rises (some + more) first last
rises_then some more first mid last a b = record {
  later = omega (arith, a.later, b.later);
  cause = omega (arith, a.cause, b.cause);
  steady = λ none.
      let one : some ≡ 0 = omega (arith, none) in
      let two : more ≡ 0 = omega (arith, none) in
      b.steady two ∙ a.steady one;
}

rises_more : (failures : Reply → ℕ) (replies : List Reply) (reply : Reply) (first mid last : ℕ) → Rises (sum_by failures replies) first mid → Rises (failures reply) mid last → Rises (sum_by failures (replies ++ reply ∷ [])) first last
rises_more failures replies reply first mid last a b =
    let one : failures reply ≡ sum_by failures (reply ∷ []) = omega arith in
    subst (λ (n : ℕ). Rises n first last) (sym (sum_by-append failures replies (reply ∷ [])))
    (rises_then (sum_by failures replies) (sum_by failures (reply ∷ [])) first mid last a (subst (λ (n : ℕ). Rises n mid last) one b))

counted_more : {S D : Type 0} (first there last : Scene S D) (old : Standing) (at : Line) (replies : List Reply) (reply : Reply) (belief : Option Belief) → Counted first there replies → LineLeaves old at reply belief there last
    → Counted first last (replies ++ reply ∷ [])
counted_more first there last old at replies reply belief some leaves = record {
  source = rises_more source_failures replies reply first.source.failures there.source.failures last.source.failures some.source leaves.source.failed;
  output = rises_more output_failures replies reply first.output.failures there.output.failures last.output.failures some.output leaves.output.failed;
}

-- a run in which nothing was done
pub counted_none : {S D : Type 0} (there : Scene S D) → Counted there there []
counted_none there = record { source = rises_none 0 there.source.failures refl; output = rises_none 0 there.output.failures refl }

-- a reply ends the session only where it is that of a bad line
pub bad_ends : (reply : Reply) → IfSome (bad_status reply) EndsSession
bad_ends reply = by (outcome reply)
  where
    by : Outcome reply → IfSome (bad_status reply) EndsSession
    by (Goes is) = subst (λ (r : Option Status). IfSome r EndsSession) (sym is) tt
    by (Ends bad kind is) = subst (λ (r : Reply). IfSome (bad_status r) EndsSession) (sym is) tt

-- what reading a line told
abbrev Reads : ℕ → Option (List ℕ) → Option (List ℕ) → Line → Type 0
Reads number unread rest at = (left : List ℕ) → unread ≡ Some left → ReadsFirst (line_number number) left at rest

module _ {S D : Type 0} (given : Given) (first : Standing) (text before : List ℕ) (now : Standing) (count number : ℕ) (unread rest : Option (List ℕ)) (start there : Stage S D) (at : Line)
    (so : SoFar given first text before now count unread start there) (reads : Reads count unread rest at) (number_is : number ≡ line_number count) where
  same_number : line_number count ≡ line_number (length so.lines)
  same_number = omega (arith, so.number_is)

  -- what was read, under the number of the next line
  read_here : ReadsFirst (line_number (length so.lines)) so.left at rest
  read_here = subst (λ (n : ℕ). ReadsFirst n so.left at rest) same_number (reads so.left so.unread_is)

  -- the line that was read is the next
  is_next : IsRead at → IsFirst (next_of so.lines so.left) so.left at rest
  is_next read =
      elim read_here [
        | inl failed ↦ absurd (read.0 failed.0)
        | inr others ↦ elim others [
          | inl memory ↦ absurd (read.1 memory.0)
          | inr is ↦ is
        ]
      ]

  -- the input failed before the next line was whole
  cut_off : at ≡ line.Failed → IsCutOff so.left rest
  cut_off is =
      elim read_here [
        | inl failed ↦ failed.1
        | inr others ↦ elim others [
          | inl memory ↦ (let wrong : line.Failed ≡ line.Memory = sym is ∙ memory.0 in absurd (cc (wrong)))
          | inr e ↦ absurd (never_failed (line_number (length so.lines)) so.left (e.is ∙ is))
        ]
      ]

  no_memory : at ≡ line.Memory → IsFirstOr (next_of so.lines so.left) so.left at rest
  no_memory is =
      elim read_here [
        | inl failed ↦ (let wrong : line.Memory ≡ line.Failed = sym is ∙ failed.0 in absurd (cc (wrong)))
        | inr others ↦ others
      ]

  numbered : number ≡ line_number (length so.lines)
  numbered = omega (arith, so.number_is, number_is)

  is_length : length so.lines ≡ 0 + length so.lines
  is_length = omega arith

  answers_here : {new : Standing} {reply : Reply} → Answers given now number at reply new → Answers given now (line_number (length so.lines)) at reply new
  answers_here {new} {reply} answers = subst (λ (n : ℕ). Answers given now n at reply new) numbered answers

  longer : (new : Standing) (last : Stage S D) (g : GoesOn given now number at (before ++ written given.why so.replies) new there last) → IsRead at → Holds last.scene.output.files new.belief given.output
      → Going given first text before (so.lines ++ at ∷ []) (so.replies ++ g.reply ∷ []) new (next_of so.lines so.left).1 start last
  longer new last g read holds = record {
    gone = record {
      taken = taken_more 0 (length so.lines) text so.lines so.left at is_length so.going.gone.taken (is_next read).is;
      run = run_more given first now new 0 (length so.lines) so.lines so.replies at g.reply is_length so.going.gone.run (answers_here g.answers);
      leave = leave_more given first now new 0 (length so.lines) so.lines so.replies at g.reply start.scene there.scene last.scene is_length so.going.gone.run so.going.gone.leave (answers_here g.answers) g.leaves;
      none_ends = All-push (λ (l : Line). ends l ≡ false) so.lines at so.going.gone.none_ends g.goes;
      none_bad = All-push (λ (r : Reply). bad_status r ≡ None) so.replies g.reply so.going.gone.none_bad g.good;
      counted = counted_more start.scene there.scene last.scene now at so.replies g.reply new.belief so.going.gone.counted g.leaves;
    };
    bytes = g.bytes ∙ ap Some (append_assoc before (written given.why so.replies) (reply_bytes given.why g.reply)) ∙ ap (λ b. Some (before ++ b)) (sym (written_more given.why so.replies g.reply));
    output = holds;
  }

  pub session_more : (new : Standing) (last : Stage S D) → ((w : List ℕ) → there.sink.taken ≡ Some w → GoesOn given now number at w new there last) → Holds last.scene.output.files new.belief given.output
      → SoFar given first text before new number rest start last
  session_more new last goes holds =
      let g = goes (before ++ written given.why so.replies) so.going.bytes in
      let read : IsRead at = (λ e. (let wrong : true ≡ false = ap ends (sym e) ∙ g.goes in cc (wrong)), λ e. (let wrong : true ≡ false = ap ends (sym e) ∙ g.goes in cc (wrong))) in
      record {
        lines = so.lines ++ at ∷ [];
        replies = so.replies ++ g.reply ∷ [];
        left = (next_of so.lines so.left).1;
        going = longer new last g read holds;
        unread_is = (is_next read).whole (good_line at g.goes);
        number_is = (let more : length (so.lines ++ at ∷ []) ≡ length so.lines + 1 = length-append so.lines (at ∷ []) in omega (arith, numbered));
      }

  -- the lines so far, where the scene is the same
  same_gone : (last : Scene S D) → last ≡ there.scene → Gone given first text so.lines so.replies now so.left start.scene last
  same_gone last same = subst (λ (x : Scene S D). Gone given first text so.lines so.replies now so.left start.scene x) (sym same) so.going.gone

  same_going : (last : Stage S D) → Undone given now (before ++ written given.why so.replies) there last → Going given first text before so.lines so.replies now so.left start last
  same_going last u = record { gone = same_gone last.scene u.same; bytes = u.bytes; output = u.output }

  cut_at : (part : List ℕ) (last : Stage S D) (read : Line) (s : Status) → IsFirstOr (next_of so.lines so.left) so.left read rest → Stopped (s ≡ status.Memory) given now (line_number (length so.lines)) (next_of so.lines so.left).0 there.scene last.scene part
      → last.sink.taken ≡ Some ((before ++ written given.why so.replies) ++ part) → IsCut s part
      → SessionRun given first text before rest start last s
  cut_at part last read s is stopped bytes cut =
      AtLine so.lines so.replies now so.left part there.scene read so.going.gone is stopped (bytes ∙ ap Some (append_assoc before (written given.why so.replies) part)) cut

  halted : (last : Stage S D) (s : Status) → Halted given now number at (before ++ written given.why so.replies) there last s → SessionRun given first text before rest start last s
  halted last s (inl h) =
      cut_at [] last at s (no_memory h.0)
      (inl (record { memory = h.1; spares = subst (λ (x : Scene S D). LineSpares now (next_of so.lines so.left).0 there.scene x) (sym h.2.same) (spares_all now (next_of so.lines so.left).0 there.scene); output = h.2.output; nothing = refl }))
      (h.2.bytes ∙ ap Some (sym (append-nil (before ++ written given.why so.replies)))) (record { cases = inr h.1; memory = λ _. refl })
  halted last s (inr h) =
      cut_at h.1.0 last at s (inr (is_next h.0)) (subst (λ (l : Line). Stopped (s ≡ status.Memory) given now (line_number (length so.lines)) l there.scene last.scene h.1.0) (sym (is_next h.0).is) (subst (λ (n : ℕ). Stopped (s ≡ status.Memory) given now n at there.scene last.scene h.1.0) numbered h.1.1)) h.1.2 h.1.3

  bad_at : (last : Stage S D) (bad : ℕ) (kind : ScriptKind) (new : Standing) → TellsBad given now number at (before ++ written given.why so.replies) new there last bad kind
      → SessionRun given first text before rest start last (status.Script bad kind)
  bad_at last bad kind new t =
      let same = bad_same given now new number at bad kind t.answers in
      let is = is_next t.is_read in
      let here = answers_here (subst (λ (s : Standing). Answers given now number at (BadLine bad kind) s) same t.answers) in
      AtBad so.lines so.replies now so.left bad kind (same_gone last.scene t.same) (subst (λ (l : Line). IsFirst (next_of so.lines so.left) so.left l rest) (sym is.is) is)
      (subst (λ (l : Line). Answers given now (line_number (length so.lines)) l (BadLine bad kind) now) (sym is.is) here)
      (t.bytes ∙ ap Some (append_assoc before (written given.why so.replies) (reply_bytes given.why (BadLine bad kind)))) (subst (λ (s : Standing). Holds last.scene.output.files s.belief given.output) same t.output) refl

  pub session_ends : (new : Standing) (last : Stage S D) (s : Status) → ((w : List ℕ) → there.sink.taken ≡ Some w → EndsAt given now number at w new there last s)
      → SessionRun given first text before rest start last s
  session_ends new last s at_end = by s (at_end (before ++ written given.why so.replies) so.going.bytes)
    where
      read_of : ((at ≡ line.End) ⊎ (at ≡ line.Eof)) → IsRead at
      read_of (inl e) = (λ f. (let wrong : line.End ≡ line.Failed = sym e ∙ f in cc (wrong)), λ f. (let wrong : line.End ≡ line.Memory = sym e ∙ f in cc (wrong)))
      read_of (inr e) = (λ f. (let wrong : line.Eof ≡ line.Failed = sym e ∙ f in cc (wrong)), λ f. (let wrong : line.Eof ≡ line.Memory = sym e ∙ f in cc (wrong)))

      good_end : ((at ≡ line.End) ⊎ (at ≡ line.Eof)) → is_bad at ≡ false
      good_end (inl e) = ap is_bad e
      good_end (inr e) = ap is_bad e

      next_is : ((at ≡ line.End) ⊎ (at ≡ line.Eof)) → (next_of so.lines so.left).0 ≡ at → ((next_of so.lines so.left).0 ≡ line.End) ⊎ ((next_of so.lines so.left).0 ≡ line.Eof)
      next_is (inl e) n = inl (n ∙ e)
      next_is (inr e) n = inr (n ∙ e)

      by : (s : Status) → EndsAt given now number at (before ++ written given.why so.replies) new there last s → SessionRun given first text before rest start last s
      by status.Done e = AtEnd so.lines so.replies now so.left (same_going last e.1) (next_is e.0 (is_next (read_of e.0)).is) ((is_next (read_of e.0)).whole (good_end e.0)) refl
      by status.InputFault e = AtInput so.lines so.replies now so.left (same_going last e.1) (cut_off e.0) refl
      by (status.Script bad kind) e = bad_at last bad kind new e
      by status.SinkFault e = halted last status.SinkFault e
      by status.Memory e = halted last status.Memory e
      by (status.Site fault) e = absurd e
      by (status.Usage kind) e = absurd e
      by status.SourceFault e = absurd e
      by (status.OutFault count) e = absurd e

-- before the first line
pub gone_none : {S D : Type 0} (given : Given) (first : Standing) (text : List ℕ) (start : Scene S D) → Gone given first text [] [] first text start start
gone_none given first text start = record { taken = refl; run = refl; leave = refl; none_ends = All-nil (λ (l : Line). ends l ≡ false); none_bad = All-nil (λ (r : Reply). bad_status r ≡ None); counted = counted_none start }

-- a session that came to nothing, for want of memory
pub session_none : {S D : Type 0} (given : Given) (first : Standing) (text before : List ℕ) (unread : Option (List ℕ)) (at : Stage S D) (s : Status)
    → Holds at.scene.output.files first.belief given.output → unread ≡ Some text → at.sink.taken ≡ Some before → s ≡ status.Memory
    → SessionRun given first text before unread at at s
session_none given first text before unread at s holds left bytes ends =
    AtLine [] [] first text [] at.scene line.Memory (gone_none given first text at.scene) (inl (refl, none_spares (line_number 0) text unread left))
    (inl (record { memory = ends; spares = spares_all first (next_of [] text).0 at.scene; output = holds; nothing = refl }))
    (bytes ∙ ap Some (sym (append-nil before))) (record { cases = inr ends; memory = λ _. refl })

-- ---- what a session comes to

-- a session blames neither source nor output, so only memory, input and sink keep it from its end
pub session_completes : {S D I : Type 0} (was now : Stage S D) (input input' : InputSeen I) (s : Status) → EndsSession s → BlamesInput input input' s → (s ≡ status.SinkFault → Rose was.sink.failures now.sink.failures)
    → Stayed input.failures input'.failures → Completes was now s
session_completes was now input input' s ends read told held memory none = by s ends read told memory
  where
    by : (s : Status) → EndsSession s → BlamesInput input input' s → (s ≡ status.SinkFault → Rose was.sink.failures now.sink.failures) → (s ≡ status.Memory → ⊥) → Comes s
    by status.Done e r t m = tt
    by (status.Script number kind) e r t m = tt
    by status.InputFault e r t m = never_rose input.failures input'.failures held (r refl)
    by status.SinkFault e r t m = never_rose was.sink.failures now.sink.failures none.sink (t refl)
    by status.Memory e r t m = m refl
    by (status.Site fault) e r t m = tt
    by (status.Usage kind) e r t m = absurd e
    by status.SourceFault e r t m = absurd e
    by (status.OutFault count) e r t m = absurd e

-- a session is told by how it ran, what it ended with, and which ends failed
pub one_session : {S D I : Type 0} (first : Standing) (why : Bool) (was now : Stage S D) (input input' : InputSeen I) (s : Status)
    → ((given : Given) (text before : List ℕ) → given.why ≡ why → was.scene.source.files ≡ Some given.source → was.scene.output.files ≡ Some given.output → input.left ≡ Some text → was.sink.taken ≡ Some before → SessionRun given first text before input'.left was now s)
    → EndsSession s → BlamesInput input input' s → ((s ≡ status.InputFault → ⊥) → input'.failures ≡ input.failures) → (s ≡ status.SinkFault → Rose was.sink.failures now.sink.failures) → OneSession first why was now input input' s
one_session first why was now input input' s run ends read steady told = record {
  run = run;
  status = ends;
  blames = record { source = λ e. absurd (subst EndsSession e ends); output = λ count e. absurd (subst EndsSession e ends); sink = told };
  blames_input = read;
  input_steady = steady;
  completes = session_completes was now input input' s ends read told;
}

-- the session came to nothing, for want of memory
pub session_unread : {S D I : Type 0} (first : Standing) (why : Bool) (at : Stage S D) (input : InputSeen I) (s : Status) → first.belief ≡ None → s ≡ status.Memory → OneSession first why at at input input s
session_unread first why at input s unlisted is =
    one_session first why at at input input s (λ given text before w told out bytes t. session_none given first text before input.left at s (holds_first first at.scene.output.files given.output unlisted out) bytes t is)
    (subst EndsSession (sym is) tt) (λ e. (let wrong : status.Memory ≡ status.InputFault = sym is ∙ e in absurd (cc (wrong)))) (λ _. refl) (λ e. (let wrong : status.Memory ≡ status.SinkFault = sym is ∙ e in absurd (cc (wrong))))

-- the same session, of equal standing and reasons
pub same_session_run : {S D I : Type 0} (first start : Standing) (why said : Bool) (was now : Stage S D) (input input' : InputSeen I) (s : Status) → first ≡ start → why ≡ said → OneSession first why was now input input' s → OneSession start said was now input input' s
same_session_run first start why said was now input input' s first_is why_is run =
    subst (λ (x : Standing × Bool). OneSession x.0 x.1 was now input input' s) (λ i. (first_is i, why_is i)) run
