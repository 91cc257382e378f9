-- A session in which a build has nothing to do.
use Rattle.std.proofs.Common.{◌≡◌, ◌∙◌, ℕ, zero, suc, ◌+◌, ◌-◌, ◌^◌, ◌≤◌, min, Bool, true, false, cond, List, [], ◌∷◌, ◌++◌, length, map, Option, Some, None, Result, Ok, Err, refl, sym, ap, subst, arith}
use Rattle.std.specs.Prelude.{eqb, if◌then◌else◌}
use Rattle.std.specs.Option.{IfSome, option_or}
use Rattle.std.proofs.lemmas.List.{length-append}
use Rattle.std.specs.FinMap.{empty, get, get-empty, same_map}
use Rattle.memo_table.specs.Entries.{Entries, of_names}
use Rattle.memo_table.specs.Names.{is_among, name_cmp, same_name}
use Rattle.memo_table.specs.SameNames.{name_cmp_total, name_cmp-IsAntisymmetric}
use Rattle.memo_table.proofs.EntryLaws.{get-of_names, get-with}
use Rattle.out_tree.specs.Belief.{Belief, after}
use Rattle.out_tree.specs.Device.{Calls, step_paths}
use Rattle.out_tree.specs.Exact.{MadeBut, MarksThose}
use Rattle.out_tree.specs.Plan.{planned, removals, writes}
use Rattle.out_tree.specs.Tries.{DoneBut, InOrder}
use Rattle.out_tree.specs.declared.step.Call.{Call}
use Rattle.out_tree.specs.declared.step.Call.TheVariants as call
use Rattle.out_tree.specs.declared.step.Step.{Step}
use Rattle.out_tree.proofs.Outcomes.{made_but, marks_those}
use Rattle.read_record.specs.Entries.{Kept}
use Rattle.read_record.specs.Outcomes.{Page}
use Rattle.read_record.specs.Queries.{Query, Gave, Failed, Missed, View, interpret}
use Rattle.read_record.specs.Worlds.{Sight}
use Rattle.read_record.specs.declared.outcome.Outcome.{Outcome}
use Rattle.render_workers.specs.Folds.{Folded}
use Rattle.render_workers.specs.Rounds.{entries_below, entry_at, entry_over, with_some}
use Rattle.render_workers.specs.Whys.{whys_below, why_at, why_names, why_of, why_for, reason_of}
use Rattle.render_workers.specs.declared.answers.Why.{Why}
use Rattle.round_core.specs.Meant.{Given, given_by, is_stale, kept_at, name_at, outcome_of, outs_below, query_at, view_at}
use Rattle.site_base.specs.Chains.{◌>>=◌}
use Rattle.site_base.specs.Places.{Files}
use Rattle.site_base.specs.declared.errors.Memory.{Memory}
use Rattle.site_base.specs.declared.faults.SiteFault.{SiteFault}
use Rattle.site_base.specs.declared.item_name.ItemName.{ItemName}
use Rattle.site_reader.specs.Found.{Found}
use Rattle.site_reader.specs.declared.site.Site.{Site}
use Rattle.site_reader.specs.declared.site_error.SiteError.{SiteError}
use Rattle.site_reader.specs.declared.site_error.SiteError.TheVariants as error
use Rattle.site_session.specs.Full.{given_of, kept_after, kept_by, names_by, names_behind, names_rendered, output_in, output_of, rendered, whole_by, written_by, Whole}
use Rattle.site_session.specs.Makes.{Finishes, Makes}
use Rattle.site_session.specs.Outputs.{IsOutput, Settled}
use Rattle.site_session.specs.Rebuilds.{Rebuilds}
use Rattle.site_session.specs.Replies.{Called, FailedAt, based_by, build_calls, built_reply}
use Rattle.site_session.specs.Rounds.{Adds}
use Rattle.site_session.specs.Session.{Given as Told, Reply, Built, build_listed, build_tree, event_of, failed_of, full_now, names_now, output_failures, plan, rendered_now, report, site_now}
use Rattle.site_session.specs.Settled.{IsSettled, NothingPlanned, Rests, idle_report, items_of}
use Rattle.site_session.specs.Standing.{Standing, Holds, MakesBut, MarksExactly}
use Rattle.site_session.specs.declared.build.Rebuilt.{Rebuilt}
use Rattle.site_session.specs.declared.build.Rebuilt.TheVariants as rebuilt
use Rattle.site_session.specs.declared.build.Report.{Report}
use Rattle.site_session.specs.declared.output.Output.{Output}
use Rattle.site_session.specs.declared.output.Written.{Written}
use Rattle.site_world.specs.Sights.{item_names}
use Rattle.site_session.proofs.Builds.{all_done, makes_but, no_calls}
use Rattle.site_session.proofs.Full.{AddsLaws, none-behind, written-of}
use Rattle.site_session.proofs.Rebuilding.{Stays, rebuilds}

-- ---- what was kept once is kept again

module _ (names : List ItemName) (sight : Sight) (item : ItemName → Query SiteFault Page) where
  -- the same items, over what is kept of them
  abbrev over : Entries → Given
  over entries = given_by names sight item entries

  outs-alike : (a b : Entries) (n : ℕ) → outs_below (over a) n ≡ outs_below (over b) n
  unfolding outs_below
  outs-alike a b zero = refl
  outs-alike a b (suc n) = λ k j. cond (eqb j n) (outcome_of (interpret (sight n (outs-alike a b n k)) (query_at (over a) n))) (outs-alike a b n k j)

  entry-alike : (a b : Entries) (n : ℕ) → entry_at (over a) n ≡ entry_at (over b) n
  entry-alike a b n = λ k. entry_over (sight n (outs-alike a b n k)) (name_at (over a) n) (query_at (over a) n)

  behind-none : (q : ItemName) (found : Option Kept) → found ≡ option_or (get (empty {X = Kept} {R = name_cmp}) q) found
  behind-none q found = ap (λ (e : Option Kept). option_or e found) (sym (get-empty name_cmp q))

  -- an entry in front of what is kept
  front : (e : Option Kept) (m : Entries) (q : ItemName) → get (with_some e m) q ≡ option_or (get (with_some e empty) q) (get m q)
  front None m q = behind-none q (get m q)
  front (Some kept) m q = get-with m kept.name kept q ∙ at (same_name q kept.name) ∙ ap (λ (f : Option Kept). option_or f (get m q)) (sym (get-with empty kept.name kept q))
    where
      at : (b : Bool) → cond b (Some kept) (get m q) ≡ option_or (cond b (Some kept) (get (empty {X = Kept} {R = name_cmp}) q)) (get m q)
      at true = refl
      at false = behind-none q (get m q)

  or-or : {A : Type 0} (a b c : Option A) → option_or a (option_or b c) ≡ option_or (option_or a b) c
  or-or None b c = refl
  or-or (Some x) b c = refl

  or-twice : {A : Type 0} (a b : Option A) → option_or a (option_or a b) ≡ option_or a b
  or-twice None b = refl
  or-twice (Some x) b = refl

  -- the certified entries stand in front of what is kept, and do not hang on it
  laid : (n : ℕ) (entries : Entries) (q : ItemName) → get (entries_below (over entries) n) q ≡ option_or (get (entries_below (over empty) n) q) (get entries q)
  unfolding entries_below
  laid zero entries q = behind-none q (get entries q)
  laid (suc n) entries q =
      let e = entry_at (over empty) n in
      ap (λ (e : Option Kept). get (with_some e (entries_below (over entries) n)) q) (entry-alike entries empty n)
      ∙ front e (entries_below (over entries) n) q
      ∙ ap (λ (f : Option Kept). option_or (get (with_some e empty) q) f) (laid n entries q)
      ∙ or-or (get (with_some e empty) q) (get (entries_below (over empty) n) q) (get entries q)
      ∙ ap (λ (f : Option Kept). option_or f (get entries q)) (sym (front e (entries_below (over empty) n) q))

  abbrev kept_over : ℕ → Entries → Entries
  kept_over n entries = of_names names (entries_below (over entries) n)

  pub kept-again : (n : ℕ) (entries : Entries) → kept_over n (kept_over n entries) ≡ kept_over n entries
  kept-again n entries =
      same_map name_cmp_total name_cmp-IsAntisymmetric _ _
      (λ q. get-of_names names (entries_below (over (kept_over n entries)) n) q ∙ at q (is_among names q) refl ∙ sym (get-of_names names (entries_below (over entries) n) q))
    where
      at : (q : ItemName) (b : Bool) → is_among names q ≡ b → cond b (get (entries_below (over (kept_over n entries)) n) q) None ≡ cond b (get (entries_below (over entries) n) q) None
      at q false e = refl
      at q true e =
          let first = get (entries_below (over empty) n) q in
          laid n (kept_over n entries) q
          ∙ ap (option_or first) (get-of_names names (entries_below (over entries) n) q ∙ ap (λ b. cond b (get (entries_below (over entries) n) q) None) e ∙ laid n entries q)
          ∙ or-twice first (get entries q)
          ∙ sym (laid n entries q)

kept-twice-gave : (files : Files) (kept : Entries) (site : Site) (outs : List Outcome) → rendered files site ≡ Gave outs → kept_after files (kept_after files kept (Ok site)) (Ok site) ≡ kept_after files kept (Ok site)
kept-twice-gave files kept site outs told =
    let all = length (item_names site) in
    let once : kept_after files kept (Ok site) ≡ of_names (item_names site) (entries_below (given_of files site kept) all) = ap (kept_by (given_of files site kept)) told in
    ap (λ (k : Entries). kept_after files k (Ok site)) once
    ∙ ap (kept_by (given_of files site (of_names (item_names site) (entries_below (given_of files site kept) all)))) told
    ∙ kept-again (item_names site) _ _ all kept
    ∙ sym once

-- ---- what the next build finds

none-named : (whys : List Why) → why_names whys ≡ [] → whys ≡ []
none-named [] e = refl
none-named (why ∷ whys) e = cc

one-at-most : (g : Given) (i : ℕ) → length (why_at g i) ≤ 1
one-at-most g i = at (is_stale (kept_at g i) (view_at g i))
  where
    at : (b : Bool) → length (if b then why_for (name_at g i) (reason_of (kept_at g i) (view_at g i)) ∷ [] else []) ≤ 1
    at true = omega arith
    at false = omega arith

few-whys : (g : Given) (n : ℕ) → length (whys_below g n) ≤ n
unfolding whys_below
few-whys g zero = omega arith
few-whys g (suc n) = omega (arith, few-whys g n, one-at-most g n, length-append (whys_below g n) (why_at g n))

abbrev idle_output : Written → ℕ → Output
idle_output written reused = record { written = written; rendered = 0; reused = reused; why = [] }

module _ (files : Files) (kept new : Entries) (site : Site) (output : Output) where
  found-by : (r : Folded) → (whole_by site r >>= λ w. Ok (output_of files kept w)) ≡ Ok output → names_by (given_of files site new) r ≡ []
      → (whole_by site r >>= λ w. Ok (output_of files new w)) ≡ Ok (idle_output output.written (output.rendered + output.reused))
  found-by (Gave outs) e fresh =
      let w : Whole = record { site = site; outs = outs } in
      let same : output_of files kept w ≡ output = cc (e) in
      let all = length (item_names site) in
      let none : whys_below (given_of files site new) all ≡ [] = none-named _ fresh in
      let stale = few-whys (given_of files site kept) all in
      let count : all - length (whys_below (given_of files site new) all) ≡ output.rendered + output.reused =
      omega (arith, ap length none, ap (λ (o : Output). o.rendered) same, ap (λ (o : Output). o.reused) same, stale) in
      λ i. Ok (record { written = (same i).written; rendered = length (none i); reused = count i; why = none i })
  found-by (Failed f) e fresh = absurd (cc (e))
  found-by (Missed k j) e fresh = absurd (cc (e))

  gave : (r : Folded) → (whole_by site r >>= λ w. Ok (output_of files kept w)) ≡ Ok output → (outs : List Outcome) × (r ≡ Gave outs)
  gave (Gave outs) e = (outs, refl)
  gave (Failed f) e = absurd (cc (e))
  gave (Missed k j) e = absurd (cc (e))

found-next : (files : Files) (kept new : Entries) (found : Found Site) (output : Output) → output_in files kept found ≡ Ok output → names_rendered files new found ≡ []
    → output_in files new found ≡ Ok (idle_output output.written (output.rendered + output.reused))
found-next files kept new (Ok site) output e fresh = found-by files kept new site output (rendered files site) e fresh
found-next files kept new (Err fault) output e fresh = absurd (cc (e))

kept-twice : (files : Files) (kept : Entries) (found : Found Site) (output : Output) → output_in files kept found ≡ Ok output → kept_after files (kept_after files kept found) found ≡ kept_after files kept found
kept-twice files kept (Ok site) output e = let g = gave files kept kept site output (rendered files site) e in kept-twice-gave files kept site g.0 g.1
kept-twice files kept (Err fault) output e = refl

-- after a build that did all that it planned, the next has nothing to do
pub rests : (old : Standing) (kept : Entries) (belief : Option Belief) (base : List ℕ) (output : Output) → full_now old ≡ Ok output → kept ≡ kept_after old.files old.kept (site_now old)
    → base ≡ output.written.base → IsSettled (record old { kept = kept; belief = belief; base = base }) → Rests (record old { kept = kept; belief = belief; base = base }) (output.rendered + output.reused)
rests old kept belief base output is kept_is base_is settled =
    let found = site_now old in
    let written_is = written-of old.files old.kept found output is in
    let same : output.written ≡ settled.written = cc (written_is, settled.stands_for) in
    let again : kept_after old.files kept found ≡ kept =
    ap (λ (k : Entries). kept_after old.files k found) kept_is ∙ kept-twice old.files old.kept found output is ∙ sym kept_is in
    record {
      settled = settled;
      found = found-next old.files old.kept kept found output is settled.fresh ∙ (λ i. Ok (idle_output (same i) (output.rendered + output.reused)));
      kept = λ i. record old { kept = again i; belief = belief; base = base };
      based = base_is ∙ ap (λ (w : Written). w.base) same;
    }

-- ---- a build that has nothing to do

no_removals : (belief : Belief) (written : Written) → plan belief written ≡ [] → length (removals belief written.tree written.keep) ≡ 0
no_removals belief written none = omega (arith, ap length none, length-append (removals belief written.tree written.keep) (writes belief written.tree))

no_writes : (belief : Belief) (written : Written) → plan belief written ≡ [] → length (writes belief written.tree) ≡ 0
no_writes belief written none = omega (arith, ap length none, length-append (removals belief written.tree written.keep) (writes belief written.tree))

idle-told : (belief : Belief) (written : Written) (reused : ℕ) → plan belief written ≡ [] → idle_report reused ≡ report belief (idle_output written reused)
idle-told belief written reused none = λ i. record { rendered = 0; reused = reused; written = sym (no_writes belief written none) i; removed = sym (no_removals belief written none) i; why = [] }

in-order : (steps : List Step) → steps ≡ [] → InOrder steps []
in-order steps none = subst (λ (s : List Step). InOrder s []) (sym none) refl

module _ {D : Type 0} (contents : D → Option Files) (calls : D → Option (List Call)) (failures : D → ℕ) (written : Written) (reused : ℕ) (belief : Belief) (none : plan belief written ≡ []) (at : D) where
  abbrev out : Output
  out = idle_output written reused

  idle-answers : (given : Told) (standing : Standing) (reply : Reply) → standing.belief ≡ Some belief → Some (Built (idle_report reused)) ≡ Some reply
      → build_tree given standing out (Some belief) (event_of reply) ≡ (record standing { belief = Some belief; base = written.base }, reply)
  idle-answers given standing reply believed_is is =
      all_done standing out belief (Some belief) [] (idle_report reused) reply refl (in-order (plan belief written) none)
      (ap (λ (s : List Step). Some (after belief s [])) (sym none)) (idle-told belief written reused none) is

  done : DoneBut [] (planned belief written.tree written.keep) (contents at) (contents at)
  done = subst (λ (s : List Step). DoneBut [] s (contents at) (contents at)) (sym none) (record {
    tells_still = λ old is. (old, is);
    is_done = λ old new is tells path fine.
        let e : Some old ≡ Some new = sym is ∙ tells in
        let same : old ≡ new = cc (e) in
        ap (λ (f : Files). get f path) (sym same);
  })

  marks : MarksThose [] written.keep belief belief
  marks = marks_those belief written.tree written.keep [] belief (ap (λ (s : List Step). after belief s []) (sym none)) (in-order (plan belief written) none)

  idle_makes : Makes contents calls failures out (Ok (rebuilt.Built (idle_report reused))) (Some belief) (Some belief) written.base written.base at at
  idle_makes = record {
    answers = λ given standing reply believed_is based_is h is. idle-answers given standing reply believed_is is;
    based = refl;
    belief = λ first h. h;
    made = λ first failed h is.
        makes_but (Some belief) (Some belief) (contents at) (contents at) written (plan belief written) [] failed h.there done
        (made_but [] belief written.tree written.keep (contents at) (contents at) done) marks is h.told_is h.is_true;
    unlisted = λ is. refl;
    no_fault = λ fault is. absurd (cc (is));
    later = omega arith;
    cause = λ reply is.
        let e : Built (idle_report reused) ≡ reply = cc (is) in
        subst (λ (r : Reply). min (failures at + output_failures r) (2 ^ 64 - 1) ≤ failures at) e (omega arith);
    steady = λ report is. refl;
    idle = λ b is nothing. refl;
    settled = λ report is. record { belief = belief; is = refl; nothing = none };
    counts = λ report is.
        let e : idle_report reused ≡ report = cc (is) in
        (ap (λ (r : Report). r.rendered) (sym e), ap (λ (r : Report). r.reused) (sym e));
    called = λ first h. subst (λ (c : List Call). Calls (calls at) (calls at) c) (sym (ap (map call.Try) none)) (no_calls (calls at));
    err = tt;
    short = tt;
  }

pub idle_rebuilds : {D : Type 0} (adds : Adds) → AddsLaws adds → (contents : D → Option Files) (calls : D → Option (List Call)) (failures : D → ℕ) (now : Standing) (reused : ℕ) (at : D) (tally : List ItemName)
    → Rests now reused → Rebuilds adds contents calls failures now now (Ok (rebuilt.Built (idle_report reused))) at at tally tally
idle_rebuilds {D} adds laws contents calls failures now reused at tally r =
    let written = r.settled.written in
    let output : Output = idle_output written reused in
    let nothing = r.settled.output in
    let kept : Settled adds now.files now.kept (site_now now) now.kept tally tally = record {
      kept_is = ap (λ (s : Standing). s.kept) (sym r.kept);
      tally =
          subst (λ (due : List ItemName). adds due (names_behind now.files now.kept (site_now now)) tally tally) (sym r.settled.fresh)
          (subst (λ (later : List ItemName). adds [] later tally tally) (sym (none-behind now.files now.kept (site_now now) output r.found)) (laws.none tally));
    } in
    let made : Makes contents calls failures output (Ok (rebuilt.Built (idle_report reused))) now.belief now.belief now.base now.base at at =
    subst (λ (b : Option Belief). Makes contents calls failures output (Ok (rebuilt.Built (idle_report reused))) b b now.base now.base at at) (sym nothing.is)
    (subst (λ (b : List ℕ). Makes contents calls failures output (Ok (rebuilt.Built (idle_report reused))) (Some nothing.belief) (Some nothing.belief) b b at at) (sym r.based)
    (idle_makes contents calls failures written reused nothing.belief nothing.nothing at)) in
    rebuilds adds laws contents calls failures now now (Ok output) (Ok (rebuilt.Built (idle_report reused))) at at tally tally (r.found, kept, r.settled.fresh) made (refl, refl, refl) refl

-- ---- what stays known

-- what is known of a standing is known of the one that follows, where that is the same
pub still : (known now : Option ℕ) (same : Bool) (old new : Standing) → now ≡ (if same then known else None) → (same ≡ true → new ≡ old)
    → IfSome known (λ reused. Rests old reused) → IfSome now (λ reused. Rests new reused)
still known now same old new is alike h = subst (λ (n : Option ℕ). IfSome n (λ reused. Rests new reused)) (sym is) (at same alike)
  where
    at : (b : Bool) → (b ≡ true → new ≡ old) → IfSome (if b then known else None) (λ reused. Rests new reused)
    at true alike = subst (λ (s : Standing). IfSome known (λ reused. Rests s reused)) (sym (alike refl)) h
    at false alike = tt

-- after a build
pub known_after : (known : Option ℕ) (result : Result Rebuilt Memory) (new : Standing) → IfSome known (λ reused. items_of result ≡ Some reused)
    → ((report : Report) → result ≡ Ok (rebuilt.Built report) → Rests new (report.rendered + report.reused)) → IfSome known (λ reused. Rests new reused)
known_after None result new is h = tt
known_after (Some reused) (Ok (rebuilt.Built report)) new is h =
    let same : report.rendered + report.reused ≡ reused = cc (is) in
    subst (λ (n : ℕ). Rests new n) same (h report refl)
known_after (Some reused) (Ok (rebuilt.Fault fault)) new is h = absurd (cc (is))
known_after (Some reused) (Ok (rebuilt.Marked paths)) new is h = absurd (cc (is))
known_after (Some reused) (Ok rebuilt.Unlisted) new is h = absurd (cc (is))
known_after (Some reused) (Err e) new is h = absurd (cc (is))

-- the same, by what a build answers
pub rests_after : {D : Type 0} (adds : Adds) (contents : D → Option Files) (calls : D → Option (List Call)) (failures : D → ℕ) (old : Standing) (kept : Entries) (belief : Option Belief) (base : List ℕ) (output : Result Output SiteError) (result : Result Rebuilt Memory) (before after : D) (tally tally' : List ItemName)
    → IsOutput adds old.files old.kept (site_now old) output kept tally tally' → Finishes contents calls failures output result old.belief belief old.base base before after
    → Rebuilds adds contents calls failures old (record old { kept = kept; belief = belief; base = base }) result before after tally tally'
    → (report : Report) → result ≡ Ok (rebuilt.Built report) → Rests (record old { kept = kept; belief = belief; base = base }) (report.rendered + report.reused)
rests_after adds contents calls failures old kept belief base (Ok output) result before after tally tally' o f r report is =
    let counts = f.counts report is in
    let set : base ≡ output.written.base = f.based ∙ ap (λ (a : Result Rebuilt Memory). based_by a old.base output.written.base) is in
    subst (λ (n : ℕ). Rests (record old { kept = kept; belief = belief; base = base }) n) (λ i. sym counts.0 i + sym counts.1 i) (rests old kept belief base output o.0 o.1.kept_is set (r.settled report is))
rests_after adds contents calls failures old kept belief base (Err (error.Fault fault)) result before after tally tally' o f r report is =
    let wrong : Ok (rebuilt.Fault fault) ≡ Ok (rebuilt.Built report) = sym f.0 ∙ is in absurd (cc (wrong))
rests_after adds contents calls failures old kept belief base (Err error.Memory) (Ok made) before after tally tally' o f r report is = absurd f.0
rests_after adds contents calls failures old kept belief base (Err error.Memory) (Err e) before after tally tally' o f r report is = absurd (cc (is))

-- the same when more pages were looked at
pub rests_looked : (known : Option ℕ) (now : Standing) (scanned : Files) → IfSome known (λ reused. Rests now reused) → IfSome known (λ reused. Rests (record now { scanned = scanned }) reused)
rests_looked None now scanned h = tt
rests_looked (Some reused) now scanned h = record {
  settled = record { written = h.settled.written; stands_for = h.settled.stands_for; fresh = h.settled.fresh; output = h.settled.output };
  found = h.found;
  kept = λ i. record (h.kept i) { scanned = scanned };
  based = h.based;
}
