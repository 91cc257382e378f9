-- What is believed of an output that was listed.
use Rattle.std.proofs.Common.{◌≡◌, ℕ, Bool, true, false, cond, List, [], ◌∷◌, ◌++◌, map, length, refl, sym, ◌∙◌, ap, arith, Option, Some, None}
use Rattle.std.proofs.lemmas.List.{append-nil}
use Rattle.std.specs.Prelude.{◌||◌}
use Rattle.std.specs.FinMap.{get, contains_key, get-from_entries, from_entries, find, same_map}
use Rattle.std.specs.Option.{is_some, option_map}
use Rattle.site_base.specs.Places.{path_cmp, Files, same_path, is_listed, paths_of}
use Rattle.out_tree.specs.Belief.{Belief, IsTrueOf, all_marked}
use Rattle.out_tree.specs.declared.state.State.{State}
use Rattle.out_tree.specs.declared.state.State.TheVariants.{Known, Marked}
use Rattle.out_tree.proofs.Paths.{path_order, same_if_tied}
use Rattle.out_tree.proofs.ValuesLemmas.{get-map_values}

abbrev pub mark_each : List (List ℕ) → List (List ℕ × State)
mark_each paths = map (λ path. (path, Marked)) paths

pub paths_of-mark_each : (paths : List (List ℕ)) → paths_of (mark_each paths) ≡ paths
paths_of-mark_each [] = refl
paths_of-mark_each (p ∷ ps) = ap (λ l. p ∷ l) (paths_of-mark_each ps)

find-mark_each : (q : List ℕ) (paths : List (List ℕ)) → find path_cmp q (mark_each paths) ≡ cond (is_listed q paths) (Some Marked) None
find-mark_each q [] = refl
find-mark_each q (p ∷ ps) = elim (same_path q p) as (λ b. cond b (Some Marked) (find path_cmp q (mark_each ps)) ≡ cond (b || is_listed q ps) (Some Marked) None) [
  | true ↦ refl
  | false ↦ find-mark_each q ps
]

-- the map of marked paths
pub marks_listed : (belief : Belief) (es : List (List ℕ × State)) (paths : List (List ℕ)) (q : List ℕ) → belief ≡ from_entries es → es ≡ mark_each paths → get belief q ≡ cond (is_listed q paths) (Some Marked) None
marks_listed belief es paths q made given =
    ap (λ (m : Belief). get m q) (made ∙ ap (λ l. from_entries l) given) ∙ get-from_entries path_order (mark_each paths) q ∙ find-mark_each q paths

-- a belief that marks exactly the files
pub marked_is : (files : Files) (belief : Belief) → ((q : List ℕ) → get belief q ≡ cond (contains_key files q) (Some Marked) None) → belief ≡ all_marked files
marked_is files belief at = same_map path_order same_if_tied belief (all_marked files) (λ q. at q ∙ marked_or_none (get files q) ∙ sym (get-map_values (λ bytes. Marked) files q))
  where
    marked_or_none : (x : Option (List ℕ)) → cond (is_some x) (Some Marked) None ≡ option_map (λ bytes. Marked) x
    marked_or_none None = refl
    marked_or_none (Some bytes) = refl

-- and it is true of them
pub marked_true : (files : Files) (belief : Belief) → ((q : List ℕ) → get belief q ≡ cond (contains_key files q) (Some Marked) None) → IsTrueOf belief files
marked_true files belief marks = record {
  known = λ q b is. absurd (never (contains_key files q) b (sym (marks q) ∙ is));
  absent = λ q is. gone (get files q) (sym (marks q) ∙ is);
}
  where
    never : (c : Bool) (b : List ℕ) → cond c (Some Marked) None ≡ Some (Known b) → ⊥
    never true b e = cc (e)
    never false b e = cc (e)

    gone : (x : Option (List ℕ)) → cond (is_some x) (Some Marked) None ≡ None → x ≡ None
    gone None e = refl
    gone (Some b) e = absurd (cc (e))

-- a walk over paths that has come to its end
pub all_taken : (paths walked left : List (List ℕ)) → paths ≡ walked ++ left → length left ≡ 0 → walked ≡ paths
all_taken paths walked [] is none = sym (is ∙ append-nil walked)
all_taken paths walked (p ∷ left) is none = absurd (omega arith)
