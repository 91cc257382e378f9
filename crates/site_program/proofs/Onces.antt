-- Runs of a build from nothing.
use Rattle.std.proofs.Common.{◌≡◌, ℕ, List, [], ◌∷◌, ◌++◌, refl, sym, ◌∙◌, ap, subst, Option, Some, None, append_assoc}
use Rattle.std.proofs.lemmas.List.{append-nil}
use Rattle.site_base.specs.Places.{Files}
use Rattle.site_script.specs.declared.line.Line.{Line}
use Rattle.site_script.specs.declared.line.Line.TheVariants as line
use Rattle.site_session.specs.Standing.{Standing, Holds}
use Rattle.site_session.specs.Session.{Given, Answers, Run, event_of, step}
use Rattle.site_session.specs.Replies.{AllLeave, LineLeaves}
use Rattle.site_session.specs.Scenes.{Scene}
use Rattle.site_session.specs.Bytes.{reply_bytes}
use Rattle.site_session.specs.declared.reply.Reply.{Reply}
use Rattle.site_session.specs.declared.reply.Reply.TheVariants as the_reply
use Rattle.site_session.specs.declared.reply.Reply.TheVariants.{Scanned, ScanFailed, Faulty, Fine, Absent, Built, Marked, Unlisted, BadLine, Silent}
use Rattle.site_program.specs.Runs.{Stopped, IsCut, OnceRun, Whole, CutShort, once_lines, reply_status}
use Rattle.site_program.specs.Stages.{Stage}
use Rattle.site_program.specs.declared.status.Status.{Status}
use Rattle.site_program.specs.declared.status.Status.TheVariants.{Memory}

-- an output that has not been listed is as it was
pub holds_first : (first : Standing) (told : Option Files) (output : Files) → first.belief ≡ None → told ≡ Some output → Holds told first.belief output
holds_first first told output none is = subst (λ b. Holds told b output) (sym none) (record { there = output; told_is = is; is_true = refl })

-- the standing after a line is the one that its definition gives
standing_is : (given : Given) (old new : Standing) (number : ℕ) (at : Line) (reply : Reply) → Answers given old number at reply new → new ≡ (step given old number at (event_of reply)).0
standing_is given old new number at reply answers = ap (λ (p : Standing × Reply). p.0) (sym answers)

leaves_by : {S D : Type 0} (given : Given) (old new : Standing) (number : ℕ) (at : Line) (reply : Reply) (was now : Scene S D) → Answers given old number at reply new → LineLeaves old at reply new.belief was now
    → LineLeaves old at reply (step given old number at (event_of reply)).0.belief was now
leaves_by given old new number at reply was now answers leaves = subst (λ (s : Standing). LineLeaves old at reply s.belief was now) (standing_is given old new number at reply answers) leaves

alone : (reply : Reply) → ((count : ℕ) → reply ≡ Scanned count → ⊥) → once_lines (reply ∷ []) ≡ line.Scan ∷ []
alone (Scanned count) other = absurd (other count refl)
alone ScanFailed other = refl
alone (Faulty fault) other = refl
alone Fine other = refl
alone Absent other = refl
alone (Built report) other = refl
alone (Marked paths) other = refl
alone Unlisted other = refl
alone (BadLine number kind) other = refl
alone Silent other = refl
alone (the_reply.Links report) other = refl

pub whole_one : {S D : Type 0} (given : Given) (first last : Standing) (before : List ℕ) (was now : Stage S D) (status : Status) (reply : Reply)
    → ((count : ℕ) → reply ≡ Scanned count → ⊥) → Answers given first 1 line.Scan reply last → LineLeaves first line.Scan reply last.belief was.scene now.scene → now.sink.taken ≡ Some (before ++ reply_bytes given.why reply) → Holds now.scene.output.files last.belief given.output
    → status ≡ reply_status reply → OnceRun given first before was now status
whole_one given first last before was now status reply other answers leaves bytes holds is = Whole (record {
  replies = reply ∷ [];
  last = last;
  run = subst (λ lines. Run given first 0 lines (reply ∷ []) last) (sym (alone reply other)) (last, answers, refl);
  leave = subst (λ lines. AllLeave given first 0 lines (reply ∷ []) was.scene now.scene) (sym (alone reply other)) (now.scene, leaves_by given first last 1 line.Scan reply was.scene now.scene answers leaves, refl);
  bytes = bytes ∙ ap (λ b. Some (before ++ b)) (sym (append-nil (reply_bytes given.why reply)));
  output = holds;
  status_is = is;
})

pub whole_two : {S D : Type 0} (given : Given) (first mid last : Standing) (before : List ℕ) (was now : Stage S D) (there : Scene S D) (status : Status) (scanned reply : Reply) (count : ℕ)
    → scanned ≡ Scanned count → Answers given first 1 line.Scan scanned mid → LineLeaves first line.Scan scanned mid.belief was.scene there → Answers given mid 2 line.Build reply last → LineLeaves mid line.Build reply last.belief there now.scene
    → now.sink.taken ≡ Some ((before ++ reply_bytes given.why scanned) ++ reply_bytes given.why reply) → Holds now.scene.output.files last.belief given.output → status ≡ reply_status reply
    → OnceRun given first before was now status
whole_two given first mid last before was now there status scanned reply count is_scanned scans scan_leaves answers leaves bytes holds is = Whole (record {
  replies = Scanned count ∷ reply ∷ [];
  last = last;
  run = (mid, subst (λ (r : Reply). Answers given first 1 line.Scan r mid) is_scanned scans, (last, answers, refl));
  leave = subst (λ (r : Reply). AllLeave given first 0 (line.Scan ∷ line.Build ∷ []) (r ∷ reply ∷ []) was.scene now.scene) is_scanned (
    there,
    leaves_by given first mid 1 line.Scan scanned was.scene there scans scan_leaves,
    subst (λ (s : Standing). AllLeave given s 1 (line.Build ∷ []) (reply ∷ []) there now.scene) (standing_is given first mid 1 line.Scan scanned scans) (now.scene, leaves_by given mid last 2 line.Build reply there now.scene answers leaves, refl),
  );
  bytes = bytes ∙ ap Some (append_assoc before (reply_bytes given.why scanned) (reply_bytes given.why reply)) ∙ (λ i. Some (before ++ (reply_bytes given.why (is_scanned i) ++ sym (append-nil (reply_bytes given.why reply)) i)));
  output = holds;
  status_is = is;
})

pub cut_one : {S D : Type 0} (given : Given) (first mid : Standing) (before part : List ℕ) (was now : Stage S D) (status : Status)
    → mid ≡ first → Stopped (status ≡ Memory) given mid 1 line.Scan was.scene now.scene part → now.sink.taken ≡ Some (before ++ part) → IsCut status part
    → OnceRun given first before was now status
cut_one given first mid before part was now status same stopped bytes is = CutShort (record {
  done = [];
  next = line.Scan;
  replies = [];
  mid = mid;
  there = was.scene;
  part = part;
  whole = refl;
  run = same;
  leave = refl;
  stopped = stopped;
  bytes = bytes;
}) is

pub cut_two : {S D : Type 0} (given : Given) (first mid : Standing) (before part : List ℕ) (was now : Stage S D) (there : Scene S D) (status : Status) (scanned : Reply) (count : ℕ)
    → scanned ≡ Scanned count → Answers given first 1 line.Scan scanned mid → LineLeaves first line.Scan scanned mid.belief was.scene there → Stopped (status ≡ Memory) given mid 2 line.Build there now.scene part
    → now.sink.taken ≡ Some ((before ++ reply_bytes given.why scanned) ++ part) → IsCut status part
    → OnceRun given first before was now status
cut_two given first mid before part was now there status scanned count is_scanned answers leaves stopped bytes is = CutShort (record {
  done = line.Scan ∷ [];
  next = line.Build;
  replies = scanned ∷ [];
  mid = mid;
  there = there;
  part = part;
  whole = ap (λ r. once_lines (r ∷ [])) is_scanned;
  run = (mid, answers, refl);
  leave = (there, leaves_by given first mid 1 line.Scan scanned was.scene there answers leaves, refl);
  stopped = stopped;
  bytes = bytes ∙ ap Some (append_assoc before (reply_bytes given.why scanned) part) ∙ ap (λ b. Some (before ++ (b ++ part))) (sym (append-nil (reply_bytes given.why scanned)));
}) is
