-- What a check says of a site.
use Rattle.std.proofs.Common.{◌≡◌, ◌⊎◌, inl, inr, ℕ, List, ◌++◌, take, drop, append_assoc, refl, sym, ◌∙◌, ap, subst, Option, Some, None}
use Rattle.std.specs.Prelude.{false}
use Rattle.std.specs.Option.{option_or}
use Rattle.std.specs.FinMap.{entries, len}
use Rattle.std.proofs.lemmas.List.{append-nil, take-append-drop}
use Rattle.site_base.specs.Ends.{Rose}
use Rattle.site_base.specs.declared.faults.SiteFault.{SiteFault}
use Rattle.source_tree.specs.Scan.{scan_fault}
use Rattle.source_tree.specs.declared.scan_error.ScanError.{ScanError}
use Rattle.source_tree.specs.declared.scan_error.ScanError.TheVariants as scan_error
use Rattle.site_session.specs.Bytes.{fault_line, reply_bytes}
use Rattle.site_session.specs.Session.{Given, Nothing, first_fault, scan}
use Rattle.site_session.specs.Scenes.{SourceSeen}
use Rattle.site_session.specs.Standing.{Standing}
use Rattle.site_script.specs.declared.line.ScriptKind.{ScriptKind}
use Rattle.site_words.specs.declared.faults.UsageKind.{UsageKind}
use Rattle.site_session.specs.declared.reply.Reply.TheVariants.{Scanned, Faulty}
use Rattle.site_program.specs.Checks.{CheckDone, Checked, CheckTook, EndsAs, IsFrontOf, Said, SaidBoth, check_bytes, check_bytes_by, failed_bytes, verdict, verdict_status}
use Rattle.site_program.specs.Once.{after_scan, scanned, site_fault}
use Rattle.site_program.specs.Stages.{Comes, SinkSeen}
use Rattle.site_program.specs.declared.status.Status.{Status}
use Rattle.site_program.specs.declared.status.Status.TheVariants as status
use Rattle.site_program.specs.declared.status.Status.TheVariants.{Site, SourceFault, SinkFault, Memory}
use Rattle.site_program.proofs.Cases.{ScanCase, Counted, Failed, Limited, scan_case}

-- a text of which a part was written
pub cut_said : (whole : List ℕ) (wanted : Status) (before : List ℕ) (after : Option (List ℕ)) (k : ℕ) → after ≡ Some (before ++ take k whole) → Said whole wanted before after SinkFault
cut_said whole wanted before after k is = inr (inl (refl, (take k whole, (drop k whole, sym (take-append-drop k whole)), is)))

-- a text whose writing stopped
pub stop_said : (whole : List ℕ) (wanted : Status) (before : List ℕ) (after : Option (List ℕ)) (s : Status) (k : ℕ) → after ≡ Some (before ++ take k whole)
    → (s ≡ SinkFault) ⊎ (s ≡ Memory) → (s ≡ Memory → k ≡ 0) → Said whole wanted before after s
stop_said whole wanted before after s k is (inl e) memory = subst (λ x. Said whole wanted before after x) (sym e) (cut_said whole wanted before after k is)
stop_said whole wanted before after s k is (inr e) memory =
    subst (λ x. Said whole wanted before after x) (sym e) (inr (inr (refl, is ∙ ap (λ n. Some (before ++ take n whole)) (memory e) ∙ ap Some (append-nil before))))

-- a line whose writing stopped, so that nothing followed it
pub stop_both : (first second : List ℕ) (wanted : Status) (before : List ℕ) (after : Option (List ℕ)) (s : Status) (k : ℕ) → after ≡ Some (before ++ take k first)
    → (s ≡ SinkFault) ⊎ (s ≡ Memory) → (s ≡ Memory → k ≡ 0) → SaidBoth first second wanted before after s
stop_both first second wanted before after s k is (inl e) memory =
    inr (inl (e, (take k first, (drop k first ++ second, ap (λ b. b ++ second) (sym (take-append-drop k first)) ∙ append_assoc (take k first) (drop k first) second), is)))
stop_both first second wanted before after s k is (inr e) memory =
    inr (inr (e, inl (is ∙ ap (λ n. Some (before ++ take n first)) (memory e) ∙ ap Some (append-nil before))))

-- a line that was written, and what followed it
pub both_said : (first second : List ℕ) (wanted : Status) (before : List ℕ) (after : Option (List ℕ)) (s : Status) → Said second wanted (before ++ first) after s → SaidBoth first second wanted before after s
both_said first second wanted before after s (inl done) = inl (done.0, done.1 ∙ ap Some (append_assoc before first second))
both_said first second wanted before after s (inr (inl cut)) =
    inr (inl (cut.0, (first ++ cut.1.0, (cut.1.1.0, ap (λ b. first ++ b) cut.1.1.1 ∙ sym (append_assoc first cut.1.0 cut.1.1.0)), cut.1.2 ∙ ap Some (append_assoc before first cut.1.0))))
both_said first second wanted before after s (inr (inr lack)) = inr (inr (lack.0, inr lack.1))

-- what a scan that answered a number tells
pub record Held (given : Given) (old new : Standing) (count : ℕ) : Type 0 where
  pub none : scan_fault (entries given.source) ≡ None
  pub new_is : new ≡ after_scan given old
  pub count_is : count ≡ len given.source

pub held_tells : (given : Given) (old new : Standing) (count : ℕ) → scan given old (scan_fault (entries given.source)) Nothing ≡ (new, Scanned count) → Held given old new count
held_tells given old new count answers = by (scan_case given old (Scanned count) new answers)
  where
    by : ScanCase given old (Scanned count) new → Held given old new count
    by (Counted is none new_is) = let same : count ≡ len given.source = cc in record { none = none; new_is = new_is; count_is = same }
    by (Failed is) = absurd (cc (is))
    by (Limited fault is some) = absurd (cc (is))

-- and one that answered a fault
pub limit_tells : (given : Given) (old new : Standing) (fault : SiteFault) → scan given old (scan_fault (entries given.source)) Nothing ≡ (new, Faulty fault) → scan_fault (entries given.source) ≡ Some fault
limit_tells given old new fault answers = by (scan_case given old (Faulty fault) new answers)
  where
    by : ScanCase given old (Faulty fault) new → scan_fault (entries given.source) ≡ Some fault
    by (Counted is none new_is) = absurd (cc (is))
    by (Failed is) = absurd (cc (is))
    by (Limited other is some) = let same : other ≡ fault = cc in some ∙ ap Some same

-- ---- when each status comes

checked_by : (now : Standing) (f : Option SiteFault) → site_fault now ≡ f → Checked now (verdict_status f)
checked_by now None is = is
checked_by now (Some fault) is = is

pub held_checked : (now : Standing) (s : Status) → scan_fault (entries now.files) ≡ None → EndsAs (verdict_status (first_fault now)) s → Checked now s
held_checked now s none (inl e) =
    subst (λ x. Checked now x) (sym e) (checked_by now (first_fault now) (ap (λ f. option_or f (first_fault now)) none))
held_checked now s none (inr (inl e)) = subst (λ x. Checked now x) (sym e) tt
held_checked now s none (inr (inr e)) = subst (λ x. Checked now x) (sym e) tt

pub limit_checked : (now : Standing) (s : Status) (fault : SiteFault) → scan_fault (entries now.files) ≡ Some fault → EndsAs (Site fault) s → Checked now s
limit_checked now s fault some (inl e) = subst (λ x. Checked now x) (sym e) (ap (λ f. option_or f (first_fault now)) some)
limit_checked now s fault some (inr (inl e)) = subst (λ x. Checked now x) (sym e) tt
limit_checked now s fault some (inr (inr e)) = subst (λ x. Checked now x) (sym e) tt

-- ---- what the sink took

took_by : (given : Given) (now : Standing) (before : List ℕ) (after : Option (List ℕ)) (f : Option SiteFault) → after ≡ Some (before ++ check_bytes given now) → CheckTook given now before after (verdict_status f)
took_by given now before after None is = is
took_by given now before after (Some fault) is = is

lacked : (given : Given) (now : Standing) (before : List ℕ) (after : Option (List ℕ)) → scan_fault (entries given.source) ≡ None
    → (after ≡ Some before) ⊎ (after ≡ Some (before ++ reply_bytes false (scanned given))) → CheckTook given now before after Memory
lacked given now before after none (inl is) = inl is
lacked given now before after none (inr is) = inr (none, is)

pub held_took : (given : Given) (now : Standing) (before : List ℕ) (after : Option (List ℕ)) (s : Status) → scan_fault (entries given.source) ≡ None
    → SaidBoth (reply_bytes false (scanned given)) (verdict (first_fault now)) (verdict_status (first_fault now)) before after s → CheckTook given now before after s
held_took given now before after s none (inl done) =
    subst (λ x. CheckTook given now before after x) (sym done.0)
    (took_by given now before after (first_fault now) (done.1 ∙ ap (λ f. Some (before ++ check_bytes_by given now f)) (sym none)))
held_took given now before after s none (inr (inl cut)) =
    subst (λ x. CheckTook given now before after x) (sym cut.0) (cut.1.0, inl (subst (λ f. IsFrontOf cut.1.0 (check_bytes_by given now f)) (sym none) cut.1.1), cut.1.2)
held_took given now before after s none (inr (inr lack)) = subst (λ x. CheckTook given now before after x) (sym lack.0) (lacked given now before after none lack.1)

pub limit_took : (given : Given) (now : Standing) (before : List ℕ) (after : Option (List ℕ)) (s : Status) (fault : SiteFault) → scan_fault (entries given.source) ≡ Some fault
    → Said (fault_line fault) (Site fault) before after s → CheckTook given now before after s
limit_took given now before after s fault some (inl done) =
    subst (λ x. CheckTook given now before after x) (sym done.0) (done.1 ∙ ap (λ f. Some (before ++ check_bytes_by given now f)) (sym some))
limit_took given now before after s fault some (inr (inl cut)) =
    subst (λ x. CheckTook given now before after x) (sym cut.0) (cut.1.0, inl (subst (λ f. IsFrontOf cut.1.0 (check_bytes_by given now f)) (sym some) cut.1.1), cut.1.2)
limit_took given now before after s fault some (inr (inr lack)) = subst (λ x. CheckTook given now before after x) (sym lack.0) (inl lack.1)

pub failed_took : (given : Given) (now : Standing) (before : List ℕ) (after : Option (List ℕ)) (s : Status) → Said failed_bytes SourceFault before after s → CheckTook given now before after s
failed_took given now before after s (inl done) = subst (λ x. CheckTook given now before after x) (sym done.0) done.1
failed_took given now before after s (inr (inl cut)) = subst (λ x. CheckTook given now before after x) (sym cut.0) (cut.1.0, inr cut.1.1, cut.1.2)
failed_took given now before after s (inr (inr lack)) = subst (λ x. CheckTook given now before after x) (sym lack.0) (inl lack.1)

-- ---- the whole of a check

-- what a check does not end with
other_end : (wanted s x : Status) → EndsAs wanted s → (wanted ≡ x → ⊥) → (status.SinkFault ≡ x → ⊥) → (status.Memory ≡ x → ⊥) → s ≡ x → ⊥
other_end wanted s x (inl e) own sink memory is = own (sym e ∙ is)
other_end wanted s x (inr (inl e)) own sink memory is = sink (sym e ∙ is)
other_end wanted s x (inr (inr e)) own sink memory is = memory (sym e ∙ is)

-- what a check is meant to end with: its verdict, or that the source failed
pub data IsVerdict (rose : Type 0) (wanted : Status) : Type 0 where
  OfSite : (fault : Option SiteFault) → wanted ≡ verdict_status fault → IsVerdict rose wanted
  OfSource : wanted ≡ status.SourceFault → rose → IsVerdict rose wanted

module _ {S : Type 0} (first : Standing) (source source' : SourceSeen S) (sink sink' : SinkSeen) (wanted s : Status) where
  pub check_done : ((given : Given) → source.files ≡ Some given.source → Checked (after_scan given first) s)
      → ((given : Given) (before : List ℕ) → source.files ≡ Some given.source → sink.taken ≡ Some before → CheckTook given (after_scan given first) before sink'.taken s)
      → EndsAs wanted s → IsVerdict (Rose source.failures source'.failures) wanted → (Comes s → source'.failures ≡ source.failures) → (s ≡ status.SinkFault → Rose sink.failures sink'.failures)
      → CheckDone first source source' sink sink' s
  check_done told took ends is steady rose = record {
    told = told;
    took = took;
    no_usage = λ kind e. usage is kind e;
    no_input = λ e. input is e;
    no_script = λ number kind e. script is number kind e;
    no_output = λ count e. output is count e;
    source_fault = λ e. source_rose is e;
    source_steady = steady;
    sink_fault = rose;
  }
    where
      verdict_is : (fault : Option SiteFault) (x : Status) → (status.Done ≡ x → ⊥) → ((f : SiteFault) → status.Site f ≡ x → ⊥) → verdict_status fault ≡ x → ⊥
      verdict_is None x done site e = done e
      verdict_is (Some f) x done site e = site f e

      usage : IsVerdict (Rose source.failures source'.failures) wanted → (kind : UsageKind) → s ≡ status.Usage kind → ⊥
      usage (OfSite fault w) kind e = other_end wanted s (status.Usage kind) ends (λ o. verdict_is fault (status.Usage kind) (λ d. cc (d)) (λ f d. cc (d)) (sym w ∙ o)) (λ o. cc (o)) (λ o. cc (o)) e
      usage (OfSource w r) kind e = other_end wanted s (status.Usage kind) ends (λ o. cc (w, o)) (λ o. cc (o)) (λ o. cc (o)) e

      input : IsVerdict (Rose source.failures source'.failures) wanted → s ≡ status.InputFault → ⊥
      input (OfSite fault w) e = other_end wanted s status.InputFault ends (λ o. verdict_is fault status.InputFault (λ d. cc (d)) (λ f d. cc (d)) (sym w ∙ o)) (λ o. cc (o)) (λ o. cc (o)) e
      input (OfSource w r) e = other_end wanted s status.InputFault ends (λ o. cc (w, o)) (λ o. cc (o)) (λ o. cc (o)) e

      script : IsVerdict (Rose source.failures source'.failures) wanted → (number : ℕ) (kind : ScriptKind) → s ≡ status.Script number kind → ⊥
      script (OfSite fault w) number kind e =
          other_end wanted s (status.Script number kind) ends (λ o. verdict_is fault (status.Script number kind) (λ d. cc (d)) (λ f d. cc (d)) (sym w ∙ o)) (λ o. cc (o)) (λ o. cc (o)) e
      script (OfSource w r) number kind e = other_end wanted s (status.Script number kind) ends (λ o. cc (w, o)) (λ o. cc (o)) (λ o. cc (o)) e

      output : IsVerdict (Rose source.failures source'.failures) wanted → (count : ℕ) → s ≡ status.OutFault count → ⊥
      output (OfSite fault w) count e = other_end wanted s (status.OutFault count) ends (λ o. verdict_is fault (status.OutFault count) (λ d. cc (d)) (λ f d. cc (d)) (sym w ∙ o)) (λ o. cc (o)) (λ o. cc (o)) e
      output (OfSource w r) count e = other_end wanted s (status.OutFault count) ends (λ o. cc (w, o)) (λ o. cc (o)) (λ o. cc (o)) e

      source_rose : IsVerdict (Rose source.failures source'.failures) wanted → s ≡ status.SourceFault → Rose source.failures source'.failures
      source_rose (OfSite fault w) e = absurd (other_end wanted s status.SourceFault ends (λ o. verdict_is fault status.SourceFault (λ d. cc (d)) (λ f d. cc (d)) (sym w ∙ o)) (λ o. cc (o)) (λ o. cc (o)) e)
      source_rose (OfSource w r) e = r

-- a run that a failed source ends comes to no end
pub never_comes : (s : Status) → EndsAs status.SourceFault s → Comes s → ⊥
never_comes s (inl e) c = subst Comes e c
never_comes s (inr (inl e)) c = subst Comes e c
never_comes s (inr (inr e)) c = subst Comes e c

-- an answer for which the source did not fail leaves its count
pub limit_steady : (e : ScanError) (fault : SiteFault) (before now : ℕ) → e ≡ scan_error.Limit fault → (e ≡ scan_error.Failed) ⊎ (now ≡ before) → now ≡ before
limit_steady e fault before now is (inl failed) = cc (is, failed)
limit_steady e fault before now is (inr same) = same

-- a source that failed says nothing of the site
pub failed_checked : (now : Standing) (s : Status) → EndsAs status.SourceFault s → Checked now s
failed_checked now s (inl e) = subst (λ (x : Status). Checked now x) (sym e) tt
failed_checked now s (inr (inl e)) = subst (λ (x : Status). Checked now x) (sym e) tt
failed_checked now s (inr (inr e)) = subst (λ (x : Status). Checked now x) (sym e) tt
