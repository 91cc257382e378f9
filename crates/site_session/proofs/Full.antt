-- What a round over a site makes of a build.
use Rattle.std.proofs.Common.{◌≡◌, ◌∙◌, ℕ, ◌+◌, ◌-◌, Bool, if◌then◌else◌, List, [], ◌∷◌, ◌++◌, length, Some, None, Result, Ok, Err, refl, sym, ap, subst, arith}
use Rattle.std.proofs.lemmas.List.{append-nil}
use Rattle.std.specs.Result.{IfOk}
use Rattle.std.specs.FinMap.{empty}
use Rattle.std.specs.List.{slice_get}
use Rattle.memo_table.specs.Entries.{Entries}
use Rattle.read_record.specs.Outcomes.{Page}
use Rattle.read_record.specs.Queries.{Query, Gave, Failed, Missed, interpret}
use Rattle.read_record.specs.Worlds.{Sight}
use Rattle.read_record.specs.declared.outcome.Outcome.{Outcome}
use Rattle.render_workers.specs.Folds.{Folded, after_item, fold_from, fold_of}
use Rattle.render_workers.specs.Whys.{why_names}
use Rattle.render_workers.specs.Tallies.{times, Grows, HasBetween}
use Rattle.render_workers.proofs.TallyLaws.{grows_none}
use Rattle.memo_table.specs.SameNames.{same_name-refl}
use Rattle.render_workers.specs.declared.answers.Round.{Round}
use Rattle.render_workers.specs.declared.answers.RoundError.{RoundError}
use Rattle.render_workers.specs.declared.answers.RoundError.TheVariants as round_error
use Rattle.round_core.specs.Meant.{Given, given_by}
use Rattle.site_base.specs.Chains.{◌>>=◌}
use Rattle.site_base.specs.Places.{Files}
use Rattle.site_base.specs.declared.faults.SiteFault.{SiteFault}
use Rattle.site_base.specs.declared.item_name.ItemName.{ItemName}
use Rattle.site_reader.specs.Found.{Found, IsFirst}
use Rattle.site_reader.specs.declared.site_error.SiteError.{SiteError}
use Rattle.site_reader.specs.declared.site_error.SiteError.TheVariants as error
use Rattle.site_reader.specs.declared.site.Site.{Site}
use Rattle.site_session.specs.Full.{Whole, fault_of, given_of, kept_after, kept_by, names_by, names_behind, names_past, names_rendered, output_in, output_of, rendered, whole, whole_by, written_by, written_in}
use Rattle.site_session.specs.Outputs.{Comes, IsOutput, IsOutputAnew, Settled, output_by}
use Rattle.site_session.specs.Rounds.{Adds, IsGone, Stopped, Whole as WholeRound, in_any_order, in_order}
use Rattle.site_session.specs.Session.{first_fault, full_now, site_now}
use Rattle.site_session.specs.Standing.{Standing}
use Rattle.site_session.specs.declared.output.Output.{Output}
use Rattle.site_world.specs.Sights.{fixed_bytes, item_names}

-- ---- what is kept does not matter

module _ (names : List ItemName) (sight : Sight) (item : ItemName → Query SiteFault Page) (kept other : Entries) where
  fold-same : (ns : List ItemName) (outs : List Outcome) (bytes : ℕ) → fold_from (given_by names sight item kept) ns outs bytes ≡ fold_from (given_by names sight item other) ns outs bytes
  unfolding fold_from
  fold-same [] outs bytes = refl
  fold-same (n ∷ ns) outs bytes = ap (after_item (interpret (sight (length outs) (slice_get outs)) (item n)) n outs bytes) (λ i os bs. fold-same ns os bs i)

pub rendered-same : (files : Files) (site : Site) (kept : Entries) → fold_of (given_of files site kept) (fixed_bytes files site) ≡ rendered files site
rendered-same files site kept = fold-same _ _ _ kept empty (item_names site) [] (fixed_bytes files site)

-- ---- what is written, and what is rendered for it

written-of-whole : (files : Files) (kept : Entries) (w : Found Whole) (output : Output) → (w >>= λ w. Ok (output_of files kept w)) ≡ Ok output → (w >>= λ w. Ok (written_by files w)) ≡ Ok output.written
written-of-whole files kept (Ok w) output e = let same : output_of files kept w ≡ output = cc in ap (λ (o : Output). Ok o.written) same
written-of-whole files kept (Err f) output e = cc

pub written-of : (files : Files) (kept : Entries) (found : Found Site) (output : Output) → output_in files kept found ≡ Ok output → written_in files found ≡ Ok output.written
written-of files kept (Ok site) output e = written-of-whole files kept (whole files site) output e
written-of files kept (Err f) output e = cc

fault-of-whole : (files : Files) (kept : Entries) (w : Found Whole) (fault : SiteFault) → (w >>= λ w. Ok (output_of files kept w)) ≡ Err fault → (w >>= λ w. Ok (written_by files w)) ≡ Err fault
fault-of-whole files kept (Ok w) fault e = cc
fault-of-whole files kept (Err f) fault e = let same : f ≡ fault = cc in ap Err same

pub fault-of-output : (files : Files) (kept : Entries) (found : Found Site) (fault : SiteFault) → output_in files kept found ≡ Err fault → written_in files found ≡ Err fault
fault-of-output files kept (Ok site) fault e = fault-of-whole files kept (whole files site) fault e
fault-of-output files kept (Err f) fault e = let same : f ≡ fault = cc in ap Err same

-- ---- rounds

module _ (adds : Adds) (files : Files) (kept : Entries) (site : Site) (new : Entries) (before after : List ItemName) where
  -- a round without a fault
  module _ (round : Round) (w : WholeRound adds (given_of files site kept) (fixed_bytes files site) round new before after) where
    told : rendered files site ≡ Gave round.outs
    told = sym (rendered-same files site kept) ∙ w.fold

    number : round.reused ≡ length (item_names site) - length round.why
    number = omega (arith, w.reused)

    pub whole-output : (output : Output) → output ≡ output_by files site round
        → output_in files kept (Ok site) ≡ Ok output
    whole-output output is =
        ap (λ (f : Folded). whole_by site f >>= λ w. Ok (output_of files kept w)) told
        ∙ (λ i. Ok (record { written = written_by files (record { site = site; outs = round.outs }); rendered = length (sym w.why i); reused = (ap (λ ws. length (item_names site) - length ws) (sym w.why) ∙ sym number) i; why = sym w.why i }))
        ∙ ap Ok (sym is)

    pub whole-fresh : names_rendered files new (Ok site) ≡ []
    whole-fresh = ap (names_by (given_of files site new)) told ∙ ap why_names w.fresh

    pub whole-settled : Settled adds files kept (Ok site) new before after
    whole-settled = record {
      kept_is = w.kept ∙ ap (kept_by (given_of files site kept)) (sym told);
      tally = subst (λ (f : Folded). adds (names_by (given_of files site kept) f) (names_past (given_of files site kept) f) before after) (sym told)
          (subst (λ ws. adds (why_names ws) [] before after) w.why w.tally);
    }

  -- a round that a fault ended
  module _ (fault : SiteFault) (s : Stopped adds (given_of files site kept) (fixed_bytes files site) fault new before after) where
    stopped : rendered files site ≡ Failed (s.place, fault)
    stopped = sym (rendered-same files site kept) ∙ s.fold

    pub stopped-output : output_in files kept (Ok site) ≡ Err fault
    stopped-output = ap (λ (f : Folded). whole_by site f >>= λ w. Ok (output_of files kept w)) stopped

    pub stopped-settled : Settled adds files kept (Ok site) new before after
    stopped-settled = record {
      kept_is = s.kept ∙ ap (kept_by (given_of files site kept)) (sym stopped);
      tally = subst (λ (f : Folded). adds (names_by (given_of files site kept) f) (names_past (given_of files site kept) f) before after) (sym stopped) s.tally;
    }

-- ---- what is added to a tally

-- each way to add names adds them at the end, and none where none are due
pub record AddsLaws (adds : Adds) : Type 0 where
  pub none : (names : List ItemName) → adds [] [] names names
  pub grows : (due later before after : List ItemName) → adds due later before after → Grows before after
  pub nothing : (before after : List ItemName) → adds [] [] before after → after ≡ before

pub laws_in_order : AddsLaws in_order
laws_in_order = record {
  none = λ names. sym (append-nil names);
  grows = λ due later before after is. (due, is);
  nothing = λ before after is. is ∙ append-nil before;
}

-- a list in which no name stands is empty
none-stands : (names : List ItemName) → HasBetween [] [] names → names ≡ []
none-stands [] h = refl
none-stands (name ∷ names) h =
    let own : times name (name ∷ names) ≡ 1 + times name names = ap (λ (b : Bool). (if b then 1 else 0) + times name names) (same_name-refl name) in
    let most = (h name).1 in
    absurd (omega (arith, own, most))

pub laws_in_any_order : AddsLaws in_any_order
laws_in_any_order = record {
  none = λ names. ([], sym (append-nil names), λ name. (omega arith, omega arith));
  grows = λ due later before after h. (h.0, h.1);
  nothing = λ before after h. h.1 ∙ ap (λ added. before ++ added) (none-stands h.0 h.2) ∙ append-nil before;
}

-- without a fault no item stands behind it
past-gave : (g : Given) (site : Site) (f : Folded) (w : Whole) → whole_by site f ≡ Ok w → names_past g f ≡ []
past-gave g site (Gave outs) w is = refl
past-gave g site (Failed e) w is = cc
past-gave g site (Missed k j) w is = refl

past-whole : (files : Files) (kept : Entries) (site : Site) (w : Found Whole) (output : Output) → whole files site ≡ w → (w >>= λ w. Ok (output_of files kept w)) ≡ Ok output → names_behind files kept (Ok site) ≡ []
past-whole files kept site (Ok w) output is e = past-gave (given_of files site kept) site (rendered files site) w is
past-whole files kept site (Err f) output is e = cc

pub none-behind : (files : Files) (kept : Entries) (found : Found Site) (output : Output) → output_in files kept found ≡ Ok output → names_behind files kept found ≡ []
none-behind files kept (Ok site) output e = past-whole files kept site (whole files site) output refl e
none-behind files kept (Err f) output e = refl

-- ---- what a build answers before its output is touched

-- the round's own count leaves room for the number of those that it rendered
pub counted : (adds : Adds) (g : Given) (fixed : ℕ) (round : Result Round RoundError) (new : Entries) (before after : List ItemName)
    → IsGone adds g fixed round new before after → IfOk round (λ r. r.reused + length r.why ≡ length g.names)
counted adds g fixed (Ok round) new before after w = w.reused
counted adds g fixed (Err e) new before after w = tt

pub came : (adds : Adds) → AddsLaws adds → (files : Files) (kept : Entries) (site : Site) (new : Entries) (before after : List ItemName) (round : Result Round RoundError) (result : Result Output SiteError)
    → IsGone adds (given_of files site kept) (fixed_bytes files site) round new before after → Comes files site round result → IsOutput adds files kept (Ok site) result new before after
came adds laws files kept site new before after (Ok round) (Ok output) w is =
    (whole-output adds files kept site new before after round w output is, whole-settled adds files kept site new before after round w, whole-fresh adds files kept site new before after round w)
came adds laws files kept site new before after (Ok round) (Err e) w is = subst (λ e. IsOutput adds files kept (Ok site) (Err e) new before after) (sym is) (laws.grows (why_names round.why) [] before after w.tally)
came adds laws files kept site new before after (Err (round_error.Fault fault)) (Err e) s is =
    subst (λ e. IsOutput adds files kept (Ok site) (Err e) new before after) (sym is)
    (stopped-output adds files kept site new before after fault s, stopped-settled adds files kept site new before after fault s)
came adds laws files kept site new before after (Err round_error.Memory) (Err e) s is = subst (λ e. IsOutput adds files kept (Ok site) (Err e) new before after) (sym is) s
came adds laws files kept site new before after (Err (round_error.Fault fault)) (Ok output) s is = absurd is
came adds laws files kept site new before after (Err round_error.Memory) (Ok output) s is = absurd is

-- a site that is not read renders nothing
from_unread : (adds : Adds) → ((names : List ItemName) → adds [] [] names names) → (files : Files) (kept : Entries) (found : Found Site) (e : SiteError) (before : List ItemName) → IsFirst found e → IsOutput adds files kept found (Err e) kept before before
from_unread adds nothing files kept found (error.Fault fault) before first = (
  ap (output_in files kept) first,
  record {
    kept_is = sym (ap (kept_after files kept) first);
    tally = subst (λ (f : Found Site). adds (names_rendered files kept f) (names_behind files kept f) before before) (sym first) (nothing before);
  },
)
from_unread adds nothing files kept found error.Memory before first = grows_none before

pub unread_in_order : (files : Files) (kept : Entries) (found : Found Site) (e : SiteError) (before : List ItemName) → IsFirst found e → IsOutput in_order files kept found (Err e) kept before before
unread_in_order files kept found e before first = from_unread in_order laws_in_order.none files kept found e before first

pub unread_in_any_order : (files : Files) (kept : Entries) (found : Found Site) (e : SiteError) (before : List ItemName) → IsFirst found e → IsOutput in_any_order files kept found (Err e) kept before before
unread_in_any_order files kept found e before first = from_unread in_any_order laws_in_any_order.none files kept found e before first

pub unread_anew : (files : Files) (found : Found Site) (e : SiteError) (before : List ItemName) → IsFirst found e → IsOutputAnew files found (Err e) before before
unread_anew files found e before first = (empty, unread_in_order files empty found e before first)

-- ---- first faults

pub no-fault : (files : Files) (site : Site) (outs : List Outcome) → rendered files site ≡ Gave outs → fault_of (whole files site) ≡ None
no-fault files site outs e = ap (λ f. fault_of (whole_by site f)) e

pub first-fault : (files : Files) (site : Site) (place : ℕ) (fault : SiteFault) → rendered files site ≡ Failed (place, fault) → fault_of (whole files site) ≡ Some fault
first-fault files site place fault e = ap (λ f. fault_of (whole_by site f)) e

fault-of-written : (files : Files) (w : Found Whole) → fault_of (w >>= λ w. Ok (written_by files w)) ≡ fault_of w
fault-of-written files (Ok w) = refl
fault-of-written files (Err f) = refl

-- the first fault of a site that was read
pub fault-of-site : (files : Files) (found : Found Site) (site : Site) → found ≡ Ok site → fault_of (written_in files found) ≡ fault_of (whole files site)
fault-of-site files found site e = ap (λ f. fault_of (written_in files f)) e ∙ fault-of-written files (whole files site)

pub fault-of-reading : (files : Files) (found : Found Site) (fault : SiteFault) → found ≡ Err fault → fault_of (written_in files found) ≡ Some fault
fault-of-reading files found fault e = ap (λ f. fault_of (written_in files f)) e

fault-of-both : (files : Files) (kept : Entries) (w : Found Whole) → fault_of (w >>= λ w. Ok (written_by files w)) ≡ fault_of (w >>= λ w. Ok (output_of files kept w))
fault-of-both files kept (Ok w) = refl
fault-of-both files kept (Err f) = refl

fault-in : (files : Files) (kept : Entries) (found : Found Site) → fault_of (written_in files found) ≡ fault_of (output_in files kept found)
fault-in files kept (Ok site) = fault-of-both files kept (whole files site)
fault-in files kept (Err f) = refl

-- what is kept does not matter to the first fault
pub fault-now : (now : Standing) → first_fault now ≡ fault_of (full_now now)
fault-now now = fault-in now.files now.kept (site_now now)
