-- Worked rows: what stands beside a number, what workers know, and what the items of the small site come to.
use Rattle.std.proofs.Common.{◌≡◌, ℕ, codes, true, false, [], ◌∷◌, Some, None, refl, ap}
use Rattle.std.specs.FinMap.{get-empty, empty}
use Rattle.site_base.specs.Plain.{text}
use Rattle.site_base.specs.declared.item_name.ItemName.{ItemName}
use Rattle.read_record.specs.Queries.{Gave}
use Rattle.memo_table.specs.Names.{name_cmp}
use Rattle.round_core.specs.Meant.{Given, given_by, outs_below, view_at, meant, is_stale, stale}
use Rattle.round_core.specs.States.{at, knows, with_known}
use Rattle.round_core.specs.Facts.{times}
use Rattle.round_core.specs.Samples.{sample_sight, sample_item, page_of}

beside : at {A = ℕ} 1 ((0, 2) ∷ (1, 3) ∷ (1, 4) ∷ []) ≡ Some 3
beside = refl

beside_nothing : at {A = ℕ} 5 ((0, 2) ∷ (1, 3) ∷ []) ≡ None
beside_nothing = refl

twice : times 4 (4 ∷ 5 ∷ 4 ∷ []) ≡ 2
twice = refl

one_more : with_known 1 5 ((0, 4 ∷ []) ∷ (1, 2 ∷ []) ∷ []) ≡ (0, 4 ∷ []) ∷ (1, 2 ∷ 5 ∷ []) ∷ []
one_more = refl

first_of_a_worker : with_known 2 5 ((0, 4 ∷ []) ∷ []) ≡ (0, 4 ∷ []) ∷ (2, 5 ∷ []) ∷ []
first_of_a_worker = refl

known_to_one : knows 1 5 ((0, 4 ∷ []) ∷ (1, 2 ∷ 5 ∷ []) ∷ []) ≡ true
known_to_one = refl

known_to_another : knows 0 5 ((0, 4 ∷ []) ∷ (1, 2 ∷ 5 ∷ []) ∷ []) ≡ false
known_to_another = refl

-- ---- the small site

abbrev part : ℕ → ItemName
part n = record { path = codes "a.html"; part = n }

abbrev site : Given
site = given_by (part 0 ∷ part 1 ∷ part 2 ∷ []) (sample_sight (text (codes "*x*")) (text (codes "<p>x</p>"))) sample_item empty

shows_the_source : meant site 0 ≡ Gave (page_of (text (codes "*x*")))
unfolding outs_below
shows_the_source = refl

shows_what_is_made : meant site 2 ≡ Gave (page_of (text (codes "<p>x</p>")))
unfolding outs_below
shows_what_is_made = refl

nothing_is_kept : stale site 1 ≡ true
nothing_is_kept = ap (λ k. is_stale k (view_at site 1)) (get-empty name_cmp (part 1))
