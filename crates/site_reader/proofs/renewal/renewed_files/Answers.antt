use Rattle.std.proofs.Common.{◌≡◌, ◌+◌, ◌<◌, ◌≤◌, Bool, length, map, arith, ap, ◌∙◌}
use Rattle.std.specs.FinMap as finite
use Rattle.std.specs.Option.{option_copied}
use Rattle.std.specs.Prelude.{List}
use Rattle.site_reader.specs.Kept.{is_parsed}
use Rattle.site_reader.specs.Placements.{KeptEntry, bytes_at, bytes_in}
use Rattle.site_reader.specs.Placing.{File}
use Rattle.site_reader.proofs.EachLaws.{mapped_more}
use Rattle.site_reader.proofs.KeptLaws.{counted_as, counted_whole, held_again, held_rise, one_at_most, one_counted, one_taken, taken_whole}
use Rattle.site_reader.proofs.PlacementLaws.{kept_rise, placed_more, sound_under}
use Rattle.site_reader.proofs.renewal.renewed_files.Goals as goal

pub loop-number-preserved : goal.loop-number-preserved
loop-number-preserved g c =
    let files = finite.entries c.args.held.now in
    let number = c.loop-number.number in
    let told = c.args.rules.now.told in
    let config = c.args.rules.now.rules.config.now in
    let kept = bytes_in c.args.old.now.files in
    let made = c.loop-number.files.items in
    let file : File = (c.shared_at.result.0.now, c.shared_at.result.1.now) in
    let entry : KeptEntry = (c.in_ok-copy.field-0, c.in_ok-made.made.file) in
    let inside : number < length files = omega (arith, finite.len-entries c.args.held.now, c.len-number-end.ensures.number, c.loop-number-test.true) in
    let pushed = mapped_more bytes_at made c.push.new.self.items entry file c.in_ok-push.ensures.items (λ i. (c.in_ok-copy.ensures i, c.in_ok-made.ensures.bytes i)) in
    let is_read : Bool = is_parsed config told.drafts kept file in
    let is : c.in_ok-made.made.is_parsed ≡ is_read = c.in_ok-made.ensures.parsed in
    let counted = counted_as c.from.result c.in_ok-made.made.is_parsed is_read c.from.ensures is in (
      one_taken files (map bytes_at made) (map bytes_at c.push.new.self.items) number file inside c.shared_at.ensures pushed c.loop-number.invariant.0,
      one_counted (is_parsed config told.drafts kept) files number c.loop-number.parsed _ _ file inside c.shared_at.ensures (ap (λ n. c.loop-number.parsed + n) counted) c.loop-number.invariant.1,
      one_at_most c.loop-number.parsed c.from.result number is_read c.loop-number.invariant.2 counted,
      placed_more (option_copied told.bytes) told.drafts made c.push.new.self.items entry file.0 c.in_ok-copy.ensures c.in_ok-push.ensures.items c.loop-number.invariant.3 c.in_ok-made.ensures.placed,
    )

pub of-requires : goal.of-requires
of-requires g c =
    let files = finite.entries c.args.held.now in
    let past : length files ≤ c.loop-number.number = omega (arith, finite.len-entries c.args.held.now, c.len-number-end.ensures.number, c.loop-number-test.false) in
    kept_rise c.loop-number.files.items (held_rise c.args.held.now (map bytes_at c.loop-number.files.items) (taken_whole files (map bytes_at c.loop-number.files.items) c.loop-number.number past c.loop-number.invariant.0))

pub returns-clause-files : goal.returns-clause-files
returns-clause-files g c =
    let files = finite.entries c.args.held.now in
    let past : length files ≤ c.loop-number.number = omega (arith, finite.len-entries c.args.held.now, c.len-number-end.ensures.number, c.loop-number-test.false) in
    ap (λ (es : List KeptEntry). finite.from_sorted (map bytes_at es)) c.in_ok-of.ensures.files
    ∙ held_again c.args.held.now (map bytes_at c.loop-number.files.items) (taken_whole files (map bytes_at c.loop-number.files.items) c.loop-number.number past c.loop-number.invariant.0)

pub returns-clause-sound : goal.returns-clause-sound
returns-clause-sound g c =
    sound_under c.args.rules.now.told c.in_ok-of.field-0 c.loop-number.files.items c.in_ok-of.ensures.under c.in_ok-of.ensures.files c.loop-number.invariant.3

pub returns-clause-parsed : goal.returns-clause-parsed
returns-clause-parsed g c =
    let files = finite.entries c.args.held.now in
    let past : length files ≤ c.loop-number.number = omega (arith, finite.len-entries c.args.held.now, c.len-number-end.ensures.number, c.loop-number-test.false) in
    counted_whole (is_parsed c.args.rules.now.rules.config.now c.args.rules.now.told.drafts (bytes_in c.args.old.now.files)) files c.loop-number.number c.loop-number.parsed _ past c.loop-number.invariant.1
