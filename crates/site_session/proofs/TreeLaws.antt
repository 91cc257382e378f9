-- The files that a site writes: at each path the bytes of the output that wins it.
use Rattle.std.proofs.Common.{◌≡◌, ◌∙◌, ℕ, Bool, true, false, cond, List, [], ◌∷◌, Option, Some, None, refl, ap}
use Rattle.std.specs.Prelude.{fold, option_and_then}
use Rattle.std.specs.FinMap.{empty, find, get, get-empty, get-insert, is_sorted}
use Rattle.std.specs.FinMap.Entries.{below_all}
use Rattle.out_tree.proofs.Exactly.{tied_none}
use Rattle.out_tree.proofs.Paths.{back, front, path_order, tied_if_eq}
use Rattle.read_record.specs.declared.outcome.Outcome.{Outcome}
use Rattle.site_base.specs.Places.{Files, PathsRise, path_cmp, same_path}
use Rattle.site_reader.specs.Winners.{Winners, winners}
use Rattle.site_reader.specs.declared.site.Site.{Site}
use Rattle.site_reader.specs.declared.winner.Winner.{Winner}
use Rattle.site_reader.proofs.WinnerLaws.{winners_rise}
use Rattle.site_session.specs.Full.{tree_of, winner_bytes, with_bytes}

apart_kept : (tree : Files) (path : List ℕ) (bytes : Option (List ℕ)) (q : List ℕ) → same_path q path ≡ false → get (with_bytes tree path bytes) q ≡ get tree q
apart_kept tree path None q apart = refl
apart_kept tree path (Some bytes) q apart = get-insert path_order tree path bytes q ∙ ap (λ b. cond b (Some bytes) (get tree q)) apart

found_there : (tree : Files) (path : List ℕ) (bytes : Option (List ℕ)) (q : List ℕ) → same_path q path ≡ true → get tree q ≡ None → get (with_bytes tree path bytes) q ≡ bytes
found_there tree path None q same none = none
found_there tree path (Some bytes) q same none = get-insert path_order tree path bytes q ∙ ap (λ b. cond b (Some bytes) (get tree q)) same

module _ (bytes : Winner → Option (List ℕ)) where
  abbrev put : Files → List ℕ × Winner → Files
  put tree won = with_bytes tree won.0 (bytes won.1)

  past_kept : (q : List ℕ) (won : Winners) (tree : Files) → find path_cmp q won ≡ None → get (fold put tree won) q ≡ get tree q
  past_kept q [] tree none = refl
  past_kept q (e ∷ es) tree none = by (same_path q e.0) refl none (past_kept q es (put tree e))
    where
      by : (b : Bool) → same_path q e.0 ≡ b → cond b (Some e.1) (find path_cmp q es) ≡ None → (find path_cmp q es ≡ None → get (fold put (put tree e) es) q ≡ get (put tree e) q) → get (fold put (put tree e) es) q ≡ get tree q
      by true same is rest = absurd (cc (is))
      by false apart is rest = rest is ∙ apart_kept tree e.0 (bytes e.1) q apart

  put_all : (q : List ℕ) (won : Winners) (tree : Files) → PathsRise won → get tree q ≡ None → get (fold put tree won) q ≡ option_and_then bytes (find path_cmp q won)
  put_all q [] tree rise none = none
  put_all q (e ∷ es) tree rise none = by (same_path q e.0) refl (put_all q es (put tree e) (back (below_all path_cmp e.0 es) _ rise))
    where
      by : (b : Bool) → same_path q e.0 ≡ b → (get (put tree e) q ≡ None → get (fold put (put tree e) es) q ≡ option_and_then bytes (find path_cmp q es)) → get (fold put (put tree e) es) q ≡ option_and_then bytes (cond b (Some e.1) (find path_cmp q es))
      by true same rest = past_kept q es (put tree e) (tied_none q e.0 es (tied_if_eq _ same) (front (below_all path_cmp e.0 es) _ rise)) ∙ found_there tree e.0 (bytes e.1) q same none
      by false apart rest = rest (apart_kept tree e.0 (bytes e.1) q apart ∙ none)

pub tree_at : (held : Files) (site : Site) (outs : List Outcome) (path : List ℕ)
    → get (tree_of held site outs) path ≡ option_and_then (winner_bytes held site outs) (find path_cmp path (winners site.config site.items site.statics))
tree_at held site outs path =
    put_all (winner_bytes held site outs) path (winners site.config site.items site.statics) empty (winners_rise site.config site.items site.statics) (get-empty path_cmp path)
