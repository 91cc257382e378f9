-- The first fault of a scan, where one of its kinds is known.
use Rattle.std.proofs.Common.{◌≡◌, ℕ, ◌<◌, ◌≤◌, cond, List, [], length, get_or, sym, ◌∙◌, ap, arith, rules, Option, Some, None}
use Rattle.std.specs.FinMap.{entries, keys}
use Rattle.std.specs.Option.{option_map, option_or}
use Rattle.std.proofs.lemmas.Bool.{le-ltb, lt-ltb}
use Rattle.std.proofs.lemmas.List.{get_or-map, get_or_read, length-map}
use Rattle.site_base.specs.Faults.{fault_at}
use Rattle.site_base.specs.Places.{Files}
use Rattle.site_base.specs.declared.faults.FaultKind.TheVariants.{FileTooLong, SiteTooLong, TooManyFiles}
use Rattle.site_base.specs.declared.faults.SiteFault.{SiteFault}
use Rattle.source_tree.specs.Limits.{most_files}
use Rattle.source_tree.specs.Scan.{first_long, first_over, scan_fault}

abbrev later_fault : Files → Option SiteFault
later_fault files = option_or (option_map (fault_at FileTooLong) (first_long (entries files))) (option_map (fault_at SiteTooLong) (first_over 0 (entries files)))

keys_len : (files : Files) → length (keys files) ≡ length (entries files)
keys_len files = search (rules, length-map)

-- the path past the last that may be held
pub too_many : (files : Files) (paths : List (List ℕ)) (path : List ℕ) → paths ≡ keys files → most_files < length paths → path ≡ get_or paths most_files path → scan_fault (entries files) ≡ Some (fault_at TooManyFiles path)
too_many files paths path is many at =
    let long : most_files < length (entries files) = omega (arith, ap length is, keys_len files) in
    let here : path ≡ (get_or (entries files) most_files ([], [])).0 =
    get_or_read paths most_files path many at [] ∙ ap (λ (l : List (List ℕ)). get_or l most_files []) is ∙ get_or-map (λ (e : List ℕ × List ℕ). e.0) (entries files) most_files ([], []) [] long in
    ap (λ b. cond b (Some (fault_at TooManyFiles (get_or (entries files) most_files ([], [])).0)) (later_fault files)) (lt-ltb most_files (length (entries files)) long)
    ∙ ap (λ (p : List ℕ). Some (fault_at TooManyFiles p)) (sym here)

-- where there are few enough files, the fault is of the first that is too long, or of the sum
few_fault : (files : Files) → length (keys files) ≤ most_files → scan_fault (entries files) ≡ later_fault files
few_fault files few =
    ap (λ b. cond b (Some (fault_at TooManyFiles (get_or (entries files) most_files ([], [])).0)) (later_fault files)) (le-ltb most_files (length (entries files)) (omega (arith, keys_len files)))

pub fault_long : (files : Files) (path : List ℕ) → length (keys files) ≤ most_files → first_long (entries files) ≡ Some path → scan_fault (entries files) ≡ Some (fault_at FileTooLong path)
fault_long files path few is = few_fault files few ∙ ap (λ (x : Option (List ℕ)). option_or (option_map (fault_at FileTooLong) x) (option_map (fault_at SiteTooLong) (first_over 0 (entries files)))) is

pub fault_sum : (files : Files) (sum : Option (List ℕ)) → length (keys files) ≤ most_files → first_long (entries files) ≡ None → first_over 0 (entries files) ≡ sum → scan_fault (entries files) ≡ option_map (fault_at SiteTooLong) sum
fault_sum files sum few short is =
    few_fault files few ∙ ap (λ (x : Option (List ℕ)). option_or (option_map (fault_at FileTooLong) x) (option_map (fault_at SiteTooLong) (first_over 0 (entries files)))) short
    ∙ ap (λ (x : Option (List ℕ)). option_map (fault_at SiteTooLong) x) is
