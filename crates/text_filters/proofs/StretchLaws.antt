-- Stretches of a text, and what stands before the next.
use Rattle.std.proofs.Common.{◌≡◌, ◌∙◌, ℕ, zero, suc, ◌+◌, ◌-◌, ◌<◌, ◌≤◌, Bool, true, false, cond, ◌||◌, List, [], ◌∷◌, ◌++◌, length, take, drop, get_or, refl, sym, ap, subst, arith, append-nil, length-drop, ◌==◌, Option, Some, None}
use Rattle.std.specs.List.{list_any, position_or_len, before_first, after_first}
use Rattle.std.specs.Str.Pattern.{FindsText, FindsTextPrefix, LacksTextAt, SplitsAroundMatch, StripsPrefix}
use Rattle.std.proofs.lemmas.Bool.{eqb-true}
use Rattle.std.proofs.lemmas.List.{drop_at, drop-drop, drop_more, take_all}
use Rattle.std.proofs.lemmas.List.Sums.{fails_before_first, passes_at_first}
use Rattle.std.proofs.Math.ListN.{drop_of_length-le}
use Rattle.site_base.specs.Recursion.{Falls, down_is}
use Rattle.site_text.specs.Fronts.{begins_with}
use Rattle.text_filters.specs.Stretches.{name_of, end_of, begun, behind, behind_end, behind_stretch, without_step, without}
use Rattle.text_filters.specs.MissingEnds.{LackEnds}
use Rattle.text_filters.specs.declared.stretches.Stretch.{Stretch}
use Rattle.text_filters.specs.declared.stretches.Stretch.TheVariants.{Script, Comment, Style, Tag}
use Rattle.text_filters.proofs.PartLaws.{begins_front, begins_lacks, cut_whole, cut_lacks}

-- ---- behind a mark

behind_step : (mark : List ℕ) (c : ℕ) (cs : List ℕ) (b : Bool) → begins_with mark (c ∷ cs) ≡ b → behind mark (c ∷ cs) ≡ cond b (Some (drop (length mark) (c ∷ cs))) (behind mark cs)
behind_step mark c cs b e = ap (λ x. cond x (Some (drop (length mark) (c ∷ cs))) (behind mark cs)) e

pub behind_none : (mark t : List ℕ) → ((i : ℕ) → i ≤ length t → LacksTextAt mark t i) → behind mark t ≡ None
behind_none mark [] none = refl
behind_none mark (c ∷ cs) none =
    behind_step mark c cs false (begins_lacks mark (c ∷ cs) (none 0 (omega arith)))
    ∙ behind_none mark cs (λ i le. none (suc i) (omega arith))

behind_found : (mark front back : List ℕ) → 0 < length mark → ((i : ℕ) → i < length front → LacksTextAt mark (front ++ (mark ++ back)) i) → behind mark (front ++ (mark ++ back)) ≡ Some back
behind_found [] [] back some none = absurd (omega arith)
behind_found (m ∷ ms) [] back some none =
    behind_step (m ∷ ms) m (ms ++ back) true (begins_front (m ∷ ms) back)
    ∙ ap (λ (t : List ℕ). Some t) (drop_at (m ∷ ms) back (length (m ∷ ms)) refl)
behind_found mark (c ∷ front) back some none =
    behind_step mark c (front ++ (mark ++ back)) false (begins_lacks mark (c ∷ (front ++ (mark ++ back))) (none 0 (omega arith)))
    ∙ behind_found mark front back some (λ i lt. none (suc i) (omega arith))

-- what `split_once` tells
pub behind_some : (mark whole front back : List ℕ) → 0 < length mark → SplitsAroundMatch (FindsText mark) whole front back → behind mark whole ≡ Some back
behind_some mark whole front back some h =
    ap (behind mark) (cut_whole mark whole front back h)
    ∙ behind_found mark front back some (cut_lacks mark whole front back h)

-- what follows is an end of the text
behind_drop : (mark t rest : List ℕ) → behind mark t ≡ Some rest → (n : ℕ) × (rest ≡ drop n t)
behind_drop mark [] rest e = absurd cc
behind_drop mark (c ∷ cs) rest e = go (begins_with mark (c ∷ cs)) (λ h. behind_drop mark cs rest h) e
  where
    go : (b : Bool) → (behind mark cs ≡ Some rest → (n : ℕ) × (rest ≡ drop n cs)) → cond b (Some (drop (length mark) (c ∷ cs))) (behind mark cs) ≡ Some rest → (n : ℕ) × (rest ≡ drop n (c ∷ cs))
    go true further h = let same : drop (length mark) (c ∷ cs) ≡ rest = cc in (length mark, sym same)
    go false further h = let found = further h in (suc found.0, found.1)

-- an end of a text lacks what the text lacks
lacks_drop : (mark t : List ℕ) (n : ℕ) → behind mark t ≡ None → behind mark (drop n t) ≡ None
lacks_drop mark t zero h = h
lacks_drop mark [] (suc n) h = refl
lacks_drop mark (c ∷ cs) (suc n) h = lacks_drop mark cs n (go (begins_with mark (c ∷ cs)) h)
  where
    go : (b : Bool) → cond b (Some (drop (length mark) (c ∷ cs))) (behind mark cs) ≡ None → behind mark cs ≡ None
    go true e = absurd cc
    go false e = e

-- ---- behind a stretch

-- what `strip_prefix` tells
pub begins_some : (kind : Stretch) (kinds : List Stretch) (name t inside : List ℕ) → name ≡ name_of kind → StripsPrefix (FindsTextPrefix name) t inside → begun (kind ∷ kinds) t ≡ Some (kind, inside)
begins_some kind kinds name t inside same h =
    let test : begins_with (name_of kind) t ≡ true = ap (λ (n : List ℕ). begins_with n t) (sym same) ∙ ap (begins_with name) h.1.1 ∙ begins_front name (drop h.0 t) in
    let left : drop (length (name_of kind)) t ≡ inside = ap (λ (n : List ℕ). drop (length n) t) (sym same) ∙ ap (λ k. drop k t) (sym h.1.0) ∙ sym h.2 in
    ap (λ b. cond b (Some (kind, drop (length (name_of kind)) t)) (begun kinds t)) test ∙ ap (λ (s : List ℕ). Some (kind, s)) left

pub begins_none : (kind : Stretch) (kinds : List Stretch) (name t : List ℕ) → name ≡ name_of kind → LacksTextAt name t 0 → begun (kind ∷ kinds) t ≡ begun kinds t
begins_none kind kinds name t same h =
    let test : begins_with (name_of kind) t ≡ false = ap (λ (n : List ℕ). begins_with n t) (sym same) ∙ begins_lacks name t h in
    ap (λ b. cond b (Some (kind, drop (length (name_of kind)) t)) (begun kinds t)) test

begun_drop : (kinds : List Stretch) (t : List ℕ) (kind : Stretch) (inside : List ℕ) → begun kinds t ≡ Some (kind, inside) → inside ≡ drop (length (name_of kind)) t
begun_drop [] t kind inside e = absurd cc
begun_drop (k ∷ ks) t kind inside e = go (begins_with (name_of k) t) (λ h. begun_drop ks t kind inside h) e
  where
    go : (b : Bool) → (begun ks t ≡ Some (kind, inside) → inside ≡ drop (length (name_of kind)) t) → cond b (Some (k, drop (length (name_of k)) t)) (begun ks t) ≡ Some (kind, inside) → inside ≡ drop (length (name_of kind)) t
    go true further h =
        let x : Stretch × List ℕ = (k, drop (length (name_of k)) t) in let y : Stretch × List ℕ = (kind, inside) in
        let same : x ≡ y = cc in
        sym (ap (λ (q : Stretch × List ℕ). q.1) same) ∙ ap (λ (q : Stretch × List ℕ). drop (length (name_of q.0)) t) same
    go false further h = further h

pub stretch_drop : (kinds : List Stretch) (t rest : List ℕ) → behind_stretch kinds t ≡ Some rest → (n : ℕ) × (rest ≡ drop n t)
stretch_drop kinds t rest e = go (begun kinds t) refl e
  where
    go : (o : Option (Stretch × List ℕ)) → begun kinds t ≡ o → behind_end o ≡ Some rest → (n : ℕ) × (rest ≡ drop n t)
    go None b h = absurd cc
    go (Some x) b h =
        let inside : x.1 ≡ drop (length (name_of x.0)) t = begun_drop kinds t x.0 x.1 b in
        let found = behind_drop (end_of x.0) x.1 rest h in
        (length (name_of x.0) + found.0, found.1 ∙ ap (drop found.0) inside ∙ drop-drop found.0 (length (name_of x.0)) t)

pub stretch_shorter : (kinds : List Stretch) (t rest : List ℕ) → behind_stretch kinds t ≡ Some rest → length rest ≤ length t
stretch_shorter kinds t rest e = let found = stretch_drop kinds t rest e in omega (arith, ap length found.1, length-drop found.0 t)

-- ---- the walk over a text

abbrev chosen : List Stretch → ℕ → List ℕ → Option (List ℕ) → List ℕ
chosen kinds c cs o = elim o [ Some rest ↦ without kinds rest | None ↦ c ∷ without kinds cs ]

abbrev chosen_by : (List ℕ → List ℕ) → ℕ → List ℕ → Option (List ℕ) → List ℕ
chosen_by f c cs o = elim o [ Some rest ↦ f rest | None ↦ c ∷ f cs ]

falls : (kinds : List Stretch) → Falls length [] (without_step kinds)
falls kinds f g [] h = refl
falls kinds f g (c ∷ cs) h = go (c == 60)
  where
    at : (o : Option (List ℕ)) → behind_stretch kinds cs ≡ o → chosen_by f c cs o ≡ chosen_by g c cs o
    at None e = ap (λ (t : List ℕ). c ∷ t) (h cs (omega arith))
    at (Some rest) e = h rest (omega (arith, stretch_shorter kinds cs rest e))

    go : (b : Bool) → chosen_by f c cs (cond b (behind_stretch kinds cs) None) ≡ chosen_by g c cs (cond b (behind_stretch kinds cs) None)
    go true = at (behind_stretch kinds cs) refl
    go false = ap (λ (t : List ℕ). c ∷ t) (h cs (omega arith))

without_is : (kinds : List Stretch) (t : List ℕ) → without kinds t ≡ without_step kinds (without kinds) t
unfolding without
without_is kinds t = down_is length [] (without_step kinds) (falls kinds) t

other : (kinds : List Stretch) (c : ℕ) (cs : List ℕ) → (c == 60) ≡ false → without kinds (c ∷ cs) ≡ c ∷ without kinds cs
other kinds c cs e = without_is kinds (c ∷ cs) ∙ ap (λ b. chosen kinds c cs (cond b (behind_stretch kinds cs) None)) e

pub stretch_some : (kinds : List Stretch) (t rest : List ℕ) → behind_stretch kinds t ≡ Some rest → without kinds (60 ∷ t) ≡ without kinds rest
stretch_some kinds t rest e = without_is kinds (60 ∷ t) ∙ ap (chosen kinds 60 t) e

pub stretch_none : (kinds : List Stretch) (t : List ℕ) → behind_stretch kinds t ≡ None → without kinds (60 ∷ t) ≡ 60 ∷ without kinds t
stretch_none kinds t e = without_is kinds (60 ∷ t) ∙ ap (chosen kinds 60 t) e

before : (kinds : List Stretch) (n : ℕ) (t : List ℕ) → ((k : ℕ) → k < n → (get_or t k 0 == 60) ≡ false) → without kinds t ≡ take n t ++ without kinds (drop n t)
before kinds zero t none = refl
before kinds (suc n) [] none = refl
before kinds (suc n) (c ∷ cs) none =
    other kinds c cs (none 0 (omega arith))
    ∙ ap (λ (t : List ℕ). c ∷ t) (before kinds n cs (λ k lt. none (suc k) (omega arith)))

abbrev pub opens : ℕ → Bool
opens c = c == 60

before_opening : (kinds : List Stretch) (t : List ℕ) → without kinds t ≡ before_first opens t ++ without kinds (drop (position_or_len opens t) t)
before_opening kinds t = before kinds (position_or_len opens t) t (λ k lt. fails_before_first opens t k 0 lt)

-- a text up to its first `<`
pub opening : (kinds : List Stretch) (t : List ℕ) → position_or_len opens t < length t → without kinds t ≡ before_first opens t ++ without kinds (60 ∷ after_first opens t)
opening kinds t lt =
    let at : drop (position_or_len opens t) t ≡ get_or t (position_or_len opens t) 0 ∷ after_first opens t = drop_more t (position_or_len opens t) 0 lt in
    let mark : get_or t (position_or_len opens t) 0 ≡ 60 = eqb-true (get_or t (position_or_len opens t) 0) 60 (passes_at_first opens t 0 lt) in
    before_opening kinds t ∙ ap (λ (s : List ℕ). before_first opens t ++ without kinds s) (at ∙ ap (λ c. c ∷ after_first opens t) mark)

nothing : (kinds : List Stretch) → without kinds [] ≡ []
nothing kinds = without_is kinds []

pub no_opening : (kinds : List Stretch) (t : List ℕ) → position_or_len opens t ≡ length t → without kinds t ≡ t
no_opening kinds t e =
    let all : before_first opens t ≡ t = take_all (position_or_len opens t) t (omega (arith, e)) in
    let end : drop (position_or_len opens t) t ≡ [] = drop_of_length-le t (omega (arith, e)) in
    before_opening kinds t ∙ ap (λ (s : List ℕ). before_first opens t ++ without kinds s) end
    ∙ ap (λ (s : List ℕ). before_first opens t ++ s) (nothing kinds) ∙ append-nil (before_first opens t) ∙ all

-- ---- ends that a text lacks

pub lack_drop : (kinds : List Stretch) (t : List ℕ) (n : ℕ) → LackEnds kinds t → LackEnds kinds (drop n t)
lack_drop [] t n h = tt
lack_drop (kind ∷ kinds) t n h =
    let m = length (name_of kind) in
    let ends : drop n (drop m t) ≡ drop m (drop n t) = drop-drop n m t ∙ ap (λ k. drop k t) (let k : m + n ≡ n + m = omega arith in k) ∙ sym (drop-drop m n t) in
    (ap (behind (end_of kind)) (sym ends) ∙ lacks_drop (end_of kind) (drop m t) n h.0, lack_drop kinds t n h.1)

pub lack_rest : (missing kinds : List Stretch) (t rest : List ℕ) → behind_stretch kinds t ≡ Some rest → LackEnds missing t → LackEnds missing rest
lack_rest missing kinds t rest e h =
    let found = stretch_drop kinds t rest e in
    subst (LackEnds missing) (sym found.1) (lack_drop missing t found.0 h)

pub lack_push : (missing : List Stretch) (kind : Stretch) (t : List ℕ) → behind (end_of kind) (drop (length (name_of kind)) t) ≡ None → LackEnds missing t → LackEnds (missing ++ kind ∷ []) t
lack_push [] kind t none h = (none, tt)
lack_push (k ∷ ks) kind t none h = (h.0, lack_push ks kind t none h.1)

-- a kind that was noted has no end
pub lack_known : (eq : Stretch → Stretch → Bool) → ((a b : Stretch) → eq a b ≡ true → a ≡ b) → (missing : List Stretch) (kind : Stretch) (t : List ℕ) → list_any (λ k. eq k kind) missing ≡ true → LackEnds missing t → behind (end_of kind) (drop (length (name_of kind)) t) ≡ None
lack_known eq same [] kind t e h = absurd cc
lack_known eq same (k ∷ ks) kind t e h = go (eq k kind) refl (λ any. lack_known eq same ks kind t any h.1) e
  where
    go : (b : Bool) → eq k kind ≡ b → (list_any (λ j. eq j kind) ks ≡ true → behind (end_of kind) (drop (length (name_of kind)) t) ≡ None) → (b || list_any (λ j. eq j kind) ks) ≡ true → behind (end_of kind) (drop (length (name_of kind)) t) ≡ None
    go true at further any = subst (λ (s : Stretch). behind (end_of s) (drop (length (name_of s)) t) ≡ None) (same k kind at) h.0
    go false at further any = further any

-- ---- what the code finds

pub front_some : (kinds : List Stretch) (name t inside : List ℕ) → 0 < length kinds → name ≡ name_of (get_or kinds 0 Script) → StripsPrefix (FindsTextPrefix name) t inside → begun kinds t ≡ Some (get_or kinds 0 Script, inside)
front_some [] name t inside some same h = absurd (omega arith)
front_some (kind ∷ kinds) name t inside some same h = begins_some kind kinds name t inside same h

pub front_none : (kinds : List Stretch) (name t : List ℕ) → 0 < length kinds → name ≡ name_of (get_or kinds 0 Script) → LacksTextAt name t 0 → begun (take (length kinds - 1) (drop 1 kinds)) t ≡ begun kinds t
front_none [] name t some same h = absurd (omega arith)
front_none (kind ∷ kinds) name t some same h =
    ap (λ (ks : List Stretch). begun ks t) (take_all (length (kind ∷ kinds) - 1) kinds (omega arith)) ∙ sym (begins_none kind kinds name t same h)

-- the stretch of a kind that begins a text
pub kind_begun : (kinds : List Stretch) (t : List ℕ) (kind : Stretch) (inside : List ℕ) → begun kinds t ≡ Some (kind, inside) → behind_stretch kinds t ≡ behind (end_of kind) inside
kind_begun kinds t kind inside e = ap behind_end e

pub kind_known : (kinds : List Stretch) (t : List ℕ) (kind : Stretch) (inside : List ℕ) → begun kinds t ≡ Some (kind, inside) → behind (end_of kind) inside ≡ behind (end_of kind) (drop (length (name_of kind)) t)
kind_known kinds t kind inside e = ap (behind (end_of kind)) (begun_drop kinds t kind inside e)

pub some_end : (kind : Stretch) → 0 < length (end_of kind)
some_end Script = omega arith
some_end Comment = omega arith
some_end Style = omega arith
some_end Tag = omega arith
