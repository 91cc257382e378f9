-- Places behind a closing bracket.
use Rattle.std.proofs.Common.{◌≡◌, ◌∙◌, Bool, IfOk, IfSome, IsUtf8, List, None, Ok, Err, Option, Result, Some, [], ap, arith, cond, drop, false, get_or, length, option_map, refl, slice_get, subst, suc, sym, zero, ℕ, ◌+◌, ◌<◌, ◌==◌, ◌∷◌}
use Rattle.std.specs.Str.{IsCharBoundary}
use Rattle.std.proofs.lemmas.List.{drop-drop}
use Rattle.std.proofs.lemmas.Str.{IsCharBoundary-after_ascii}
use Rattle.site_base.specs.declared.errors.Memory.{Memory}
use Rattle.markdown_grammar.specs.Destinations.{Part, destination}
use Rattle.markdown_grammar.specs.Links as grammar
use Rattle.markdown_grammar.specs.Readers.{taken, white_gap}
use Rattle.markdown_grammar.specs.Titles.{link_title}
use Rattle.cm_links.specs.Answers.{link_part}
use Rattle.cm_links.specs.declared.parts.LinkPart.{LinkPart}
use Rattle.cm_inlines.specs.Targets.{behind_paren}
use Rattle.cm_inlines.specs.declared.targets.Reached.{Reached}

pub cut_kept : (r : Result (Option Reached) Memory) (t : List ℕ) (n : ℕ) → IsCharBoundary t n → IfOk r (λ found. IfSome found (λ reached. reached.len ≡ n)) → IfOk r (λ found. IfSome found (λ reached. IsCharBoundary t reached.len))
cut_kept (Err e) t n b h = tt
cut_kept (Ok None) t n b h = tt
cut_kept (Ok (Some x)) t n b h = subst (IsCharBoundary t) (sym h) b

at_is : (t : List ℕ) (at c : ℕ) → slice_get t at ≡ Some c → (at < length t) × (get_or t at 0 ≡ c)
at_is [] at c h = absurd cc
at_is (d ∷ ds) zero c h = let same : d ≡ c = cc in (omega arith, same)
at_is (d ∷ ds) (suc at) c h = let rest = at_is ds at c h in (omega (arith, rest.0), rest.1)

pub behind_bracket : (t : List ℕ) (at : ℕ) → IsUtf8 t → slice_get t at ≡ Some 93 → IsCharBoundary t (at + 1)
behind_bracket t at u h = let is = at_is t at 93 h in IsCharBoundary-after_ascii t at u is.0 (omega (arith, is.1))

part_is : (o : Option Part) (p : LinkPart) → Some p ≡ option_map link_part o → o ≡ Some (p.text, p.len)
part_is None p h = absurd cc
part_is (Some part) p h =
    let same : p ≡ link_part part = cc in
    sym (ap (λ (x : LinkPart). Some (x.text, x.len)) same)

no_part : (o : Option Part) → None ≡ option_map link_part o → o ≡ None
no_part None h = refl
no_part (Some part) h = absurd cc

abbrev some_case : Option ℕ → Option ℕ
some_case o = elim o as (λ x. Option ℕ) [ Some k ↦ cond (k == 0) None (Some k) | None ↦ None ]

abbrev title_case : List ℕ → ℕ → ℕ → List ℕ → Option Part → Option grammar.Reached
title_case url n g u o = elim o as (λ x. Option grammar.Reached) [ Some w ↦ grammar.closing_paren (url, Some w.0) (n + g + w.1) (drop (g + w.1) u) | None ↦ grammar.closing_paren (url, None) n u ]

abbrev gap_case : List ℕ → ℕ → List ℕ → Option ℕ → Option grammar.Reached
gap_case url n u o = elim o as (λ x. Option grammar.Reached) [ Some g ↦ title_case url n g u (link_title (drop g u)) | None ↦ grammar.closing_paren (url, None) n u ]

pub titled : (url t u v : List ℕ) (n g : ℕ) (title : LinkPart) → u ≡ drop n t → v ≡ drop g u → (g ≡ 0 → ⊥) → Some g ≡ white_gap u → Some title ≡ option_map link_part (link_title v)
    → grammar.closing_paren (url, Some title.text) (n + g + title.len) (drop (n + g + title.len) t) ≡ grammar.with_title url n (drop n t)
titled url t u v n g title d e some gap h =
    let other : (g == 0) ≡ false = grind (arith, some) in
    let gapped : some_case (white_gap u) ≡ Some g = sym (ap some_case gap) ∙ ap (λ (b : Bool). cond b None (Some g)) other in
    let found = part_is (link_title v) title h in
    let place : n + g + title.len ≡ n + (g + title.len) = omega arith in
    let rest : drop (g + title.len) u ≡ drop (n + g + title.len) t = ap (drop (g + title.len)) d ∙ drop-drop (g + title.len) n t ∙ sym (ap (λ (k : ℕ). drop k t) place) in
    sym (ap (λ (x : List ℕ). grammar.with_title url n x) (sym d) ∙ ap (gap_case url n u) gapped ∙ ap (λ (x : List ℕ). title_case url n g u (link_title x)) (sym e) ∙ ap (title_case url n g u) found
    ∙ ap (grammar.closing_paren (url, Some title.text) (n + g + title.len)) rest)

abbrev url_case : List ℕ → ℕ → Option Part → Option grammar.Reached
url_case t g o = elim o as (λ x. Option grammar.Reached) [ Some d ↦ grammar.with_title d.0 (1 + g + d.1) (drop (1 + g + d.1) t) | None ↦ grammar.closing_paren ([], None) 1 (drop 1 t) ]

pub behind_some : (t u v : List ℕ) (g : ℕ) (url : LinkPart) → u ≡ drop 1 t → v ≡ drop g u → Some g ≡ white_gap u → Some url ≡ option_map link_part (destination v)
    → grammar.with_title url.text (1 + g + url.len) (drop (1 + g + url.len) t) ≡ behind_paren t
behind_some t u v g url d e gap h =
    let size : g ≡ taken (white_gap (drop 1 t)) = ap taken (gap ∙ ap white_gap d) in
    let rest : v ≡ drop (1 + g) t = e ∙ ap (drop g) d ∙ drop-drop g 1 t in
    sym (sym (ap (λ (k : ℕ). url_case t k (destination (drop (1 + k) t))) size) ∙ ap (λ (x : List ℕ). url_case t g (destination x)) (sym rest) ∙ ap (url_case t g) (part_is (destination v) url h))

pub behind_none : (t u v : List ℕ) (g : ℕ) → u ≡ drop 1 t → v ≡ drop g u → Some g ≡ white_gap u → None ≡ option_map link_part (destination v) → grammar.closing_paren ([], None) 1 (drop 1 t) ≡ behind_paren t
behind_none t u v g d e gap h =
    let size : g ≡ taken (white_gap (drop 1 t)) = ap taken (gap ∙ ap white_gap d) in
    let rest : v ≡ drop (1 + g) t = e ∙ ap (drop g) d ∙ drop-drop g 1 t in
    sym (sym (ap (λ (k : ℕ). url_case t k (destination (drop (1 + k) t))) size) ∙ ap (λ (x : List ℕ). url_case t g (destination x)) (sym rest) ∙ ap (url_case t g) (no_part (destination v) h))
