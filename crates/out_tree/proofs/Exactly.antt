-- When an output is exactly a tree after the steps of a plan, and what is believed then.
use Rattle.std.proofs.Common.{◌≡◌, ℕ, Bool, true, false, cond, not, List, [], ◌∷◌, ◌++◌, map, refl, sym, ◌∙◌, ap, Option, Some, None}
use Rattle.std.specs.Prelude.{◌&&◌, filter}
use Rattle.std.specs.declared.cmp.Ordering.TheVariants.{Equal}
use Rattle.std.specs.Ordering.{is_eq}
use Rattle.std.specs.FinMap.{FinMap, get, insert, remove, entries, entries_sorted, contains_key, find, get-entries, get-insert, get-remove}
use Rattle.std.specs.FinMap.Entries.{below_all, find-where_key}
use Rattle.std.specs.Option.{is_some}
use Rattle.std.specs.Str.{bytes_eq}
use Rattle.std.specs.Cmp.Lexicographic.{nat_list_eq_equiv}
use Rattle.site_base.specs.Places.{path_cmp, Files, same_path, PathsRise}
use Rattle.site_base.proofs.Entries.{same_text}
use Rattle.out_tree.specs.Keep.{is_kept}
use Rattle.out_tree.specs.Device.{path_of}
use Rattle.out_tree.specs.Belief.{Belief}
use Rattle.out_tree.specs.Plan.{planned, removals, writes, is_surplus, is_wanting, is_known_as}
use Rattle.out_tree.specs.declared.step.Step.{Step}
use Rattle.out_tree.specs.declared.step.Step.TheVariants.{Remove, Write}
use Rattle.out_tree.specs.declared.state.State.{State}
use Rattle.out_tree.specs.declared.state.State.TheVariants.{Known, Marked}
use Rattle.out_tree.proofs.Paths.{path_order, the_same, tied_if_eq, less_if_lt, itself, both, front, back, is_true, not_false}

module _ {V : Type 0} where
  -- no later entry has a path that ties with the first
  pub tied_none : (q x : List ℕ) (es : List (List ℕ × V)) → path_cmp q x ≡ Equal → below_all path_cmp x es ≡ true → find path_cmp q es ≡ None
  tied_none q x [] p h = refl
  tied_none q x (e ∷ es) p h = ap (λ r. cond (is_eq r) (Some e.1) (find path_cmp q es)) (path_order.congr q x e.0 p ∙ less_if_lt _ (front _ _ h)) ∙ tied_none q x es p (back _ _ h)

  -- entries that pass a test
  pub none_passes : (p : List ℕ × V → Bool) (q : List ℕ) (es : List (List ℕ × V)) → find path_cmp q es ≡ None → find path_cmp q (filter p es) ≡ None
  none_passes p q [] n = refl
  none_passes p q (e ∷ es) n =
      elim (same_path q e.0) as (λ t. same_path q e.0 ≡ t → cond t (Some e.1) (find path_cmp q es) ≡ None → find path_cmp q (cond (p e) (e ∷ filter p es) (filter p es)) ≡ None) [
        | true ↦ λ t m. absurd (cc (m))
        | false ↦ λ t m. elim (p e) as (λ b. find path_cmp q (cond b (e ∷ filter p es) (filter p es)) ≡ None) [
          | true ↦ ap (λ b. cond b (Some e.1) (find path_cmp q (filter p es))) t ∙ none_passes p q es m
          | false ↦ none_passes p q es m
        ]
      ] refl n

  pub hit : (p : List ℕ × V → Bool) (q : List ℕ) (v : V) (es : List (List ℕ × V)) → PathsRise es → find path_cmp q es ≡ Some v → p (q, v) ≡ true → find path_cmp q (filter p es) ≡ Some v
  hit p q v [] s f h = absurd (cc (f))
  hit p q v (e ∷ es) s f h =
      elim (same_path q e.0) as (λ t. same_path q e.0 ≡ t → cond t (Some e.1) (find path_cmp q es) ≡ Some v → find path_cmp q (cond (p e) (e ∷ filter p es) (filter p es)) ≡ Some v) [
        | true ↦ λ t m.
            let k : q ≡ e.0 = the_same q e.0 t in
            let w : e.1 ≡ v = cc (m) in
            let pass : p e ≡ true = ap p (λ i. (sym k i, w i)) ∙ h in
            ap (λ b. find path_cmp q (cond b (e ∷ filter p es) (filter p es))) pass ∙ ap (λ b. cond b (Some e.1) (find path_cmp q (filter p es))) t ∙ m
        | false ↦ λ t m. elim (p e) as (λ b. find path_cmp q (cond b (e ∷ filter p es) (filter p es)) ≡ Some v) [
          | true ↦ ap (λ b. cond b (Some e.1) (find path_cmp q (filter p es))) t ∙ hit p q v es (back _ _ s) m h
          | false ↦ hit p q v es (back _ _ s) m h
        ]
      ] refl f

  pub miss : (p : List ℕ × V → Bool) (q : List ℕ) (v : V) (es : List (List ℕ × V)) → PathsRise es → find path_cmp q es ≡ Some v → p (q, v) ≡ false → find path_cmp q (filter p es) ≡ None
  miss p q v [] s f h = refl
  miss p q v (e ∷ es) s f h =
      elim (same_path q e.0) as (λ t. same_path q e.0 ≡ t → cond t (Some e.1) (find path_cmp q es) ≡ Some v → find path_cmp q (cond (p e) (e ∷ filter p es) (filter p es)) ≡ None) [
        | true ↦ λ t m.
            let k : q ≡ e.0 = the_same q e.0 t in
            let w : e.1 ≡ v = cc (m) in
            let fails : p e ≡ false = ap p (λ i. (sym k i, w i)) ∙ h in
            ap (λ b. find path_cmp q (cond b (e ∷ filter p es) (filter p es))) fails ∙ none_passes p q es (tied_none q e.0 es (tied_if_eq _ t) (front _ _ s))
        | false ↦ λ t m. elim (p e) as (λ b. find path_cmp q (cond b (e ∷ filter p es) (filter p es)) ≡ None) [
          | true ↦ ap (λ b. cond b (Some e.1) (find path_cmp q (filter p es))) t ∙ miss p q v es (back _ _ s) m h
          | false ↦ miss p q v es (back _ _ s) m h
        ]
      ] refl f

  below_filter : (p : List ℕ × V → Bool) (x : List ℕ) (es : List (List ℕ × V)) → below_all path_cmp x es ≡ true → below_all path_cmp x (filter p es) ≡ true
  below_filter p x [] h = refl
  below_filter p x (e ∷ es) h = elim (p e) as (λ b. below_all path_cmp x (cond b (e ∷ filter p es) (filter p es)) ≡ true) [
    | true ↦ both _ _ (front _ _ h) (below_filter p x es (back _ _ h))
    | false ↦ below_filter p x es (back _ _ h)
  ]

  pub rises_filter : (p : List ℕ × V → Bool) (es : List (List ℕ × V)) → PathsRise es → PathsRise (filter p es)
  rises_filter p [] s = refl
  rises_filter p (e ∷ es) s = elim (p e) as (λ b. PathsRise (cond b (e ∷ filter p es) (filter p es))) [
    | true ↦ both _ _ (below_filter p e.0 es (front _ _ s)) (rises_filter p es (back _ _ s))
    | false ↦ rises_filter p es (back _ _ s)
  ]

-- a test that no entry of the list passes
pub none_pass : {V : Type 0} (p : List ℕ × V → Bool) (es : List (List ℕ × V)) → PathsRise es → ((q : List ℕ) (v : V) → find path_cmp q es ≡ Some v → p (q, v) ≡ false) → filter p es ≡ []
none_pass p [] s none = refl
none_pass {V} p (e ∷ es) s none =
    let first : p e ≡ false = none e.0 e.1 (ap (λ b. cond b (Some e.1) (find path_cmp e.0 es)) (itself e.0)) in
    ap (λ b. cond b (e ∷ filter p es) (filter p es)) first ∙ none_pass p es (back _ _ s) rest
  where
    rest : (q : List ℕ) (v : V) → find path_cmp q es ≡ Some v → p (q, v) ≡ false
    rest q v f = elim (same_path q e.0) as (λ b. same_path q e.0 ≡ b → p (q, v) ≡ false) [
      | true ↦ λ t. let never : Some v ≡ None = sym f ∙ tied_none q e.0 es (tied_if_eq _ t) (front _ _ s) in absurd (cc (never))
      | false ↦ λ t. none q v (ap (λ b. cond b (Some e.1) (find path_cmp q es)) t ∙ f)
    ] refl

pub same_bytes : (b : List ℕ) → bytes_eq b b ≡ true
same_bytes b = nat_list_eq_equiv.refl b

known_is : (x : Option State) (bytes : List ℕ) → not (is_known_as x bytes) ≡ false → x ≡ Some (Known bytes)
known_is None bytes h = absurd (cc (h))
known_is (Some Marked) bytes h = absurd (cc (h))
known_is (Some (Known known)) bytes h = ap (λ (b : List ℕ). Some (Known b)) (same_text known bytes (not_false _ h))

find_removals : (belief : Belief) (tree : Files) (keep : List (List ℕ)) (q : List ℕ) → find path_cmp q (filter (λ (e : List ℕ × State). is_surplus tree keep e.0) (entries belief)) ≡ cond (is_surplus tree keep q) (get belief q) None
find_removals belief tree keep q =
    find-where_key path_cmp (is_surplus tree keep) q (λ x t. ap (is_surplus tree keep) (sym (path_order_same q x t))) (entries belief)
    ∙ ap (λ (x : Option State). cond (is_surplus tree keep q) x None) (sym (get-entries belief q))
  where
    path_order_same : (a b : List ℕ) → path_cmp a b ≡ Equal → a ≡ b
    path_order_same a b t = the_same a b (ap is_eq t)

-- steps on a map whose values stand for the bytes of files
module _ {V : Type 0} (value : List ℕ → V) where
  abbrev pub put_one : FinMap path_cmp V → Step → FinMap path_cmp V
  put_one m (Remove path) = remove m path
  put_one m (Write path bytes) = insert m path (value bytes)

  abbrev pub put_all : FinMap path_cmp V → List Step → FinMap path_cmp V
  put_all m [] = m
  put_all m (s ∷ ss) = put_all (put_one m s) ss

  put_all-append : (m : FinMap path_cmp V) (a b : List Step) → put_all m (a ++ b) ≡ put_all (put_all m a) b
  put_all-append m [] b = refl
  put_all-append m (s ∷ a) b = put_all-append (put_one m s) a b

  -- a step says what its path has, and leaves the others
  pub one_at : (m n : FinMap path_cmp V) (s : Step) (q : List ℕ) → get m q ≡ get n q → get (put_one m s) q ≡ get (put_one n s) q
  one_at m n (Remove path) q is = get-remove path_order m path q ∙ ap (cond (same_path q path) None) is ∙ sym (get-remove path_order n path q)
  one_at m n (Write path bytes) q is = get-insert path_order m path (value bytes) q ∙ ap (cond (same_path q path) (Some (value bytes))) is ∙ sym (get-insert path_order n path (value bytes) q)

  pub one_apart : (m : FinMap path_cmp V) (s : Step) (q : List ℕ) → same_path q (path_of s) ≡ false → get (put_one m s) q ≡ get m q
  one_apart m (Remove path) q apart = get-remove path_order m path q ∙ ap (λ b. cond b None (get m q)) apart
  one_apart m (Write path bytes) q apart = get-insert path_order m path (value bytes) q ∙ ap (λ b. cond b (Some (value bytes)) (get m q)) apart

  pub one_there : (m n : FinMap path_cmp V) (s : Step) (q : List ℕ) → same_path q (path_of s) ≡ true → get (put_one m s) q ≡ get (put_one n s) q
  one_there m n (Remove path) q there = get-remove path_order m path q ∙ ap (λ b. cond b None (get m q)) there ∙ sym (ap (λ b. cond b None (get n q)) there) ∙ sym (get-remove path_order n path q)
  one_there m n (Write path bytes) q there = get-insert path_order m path (value bytes) q ∙ ap (λ b. cond b (Some (value bytes)) (get m q)) there ∙ sym (ap (λ b. cond b (Some (value bytes)) (get n q)) there) ∙ sym (get-insert path_order n path (value bytes) q)

  -- writes of entries
  not_written : (q : List ℕ) (es : List (List ℕ × List ℕ)) (m : FinMap path_cmp V) → find path_cmp q es ≡ None → get (put_all m (map (λ e. Write e.0 e.1) es)) q ≡ get m q
  not_written q [] m n = refl
  not_written q (e ∷ es) m n =
      elim (same_path q e.0) as (λ t. same_path q e.0 ≡ t → cond t (Some e.1) (find path_cmp q es) ≡ None → get (put_all (insert m e.0 (value e.1)) (map (λ f. Write f.0 f.1) es)) q ≡ get m q) [
        | true ↦ λ t w. absurd (cc (w))
        | false ↦ λ t w. not_written q es (insert m e.0 (value e.1)) w ∙ get-insert path_order m e.0 (value e.1) q ∙ ap (λ b. cond b (Some (value e.1)) (get m q)) t
      ] refl n

  written : (q b : List ℕ) (es : List (List ℕ × List ℕ)) (m : FinMap path_cmp V) → PathsRise es → find path_cmp q es ≡ Some b → get (put_all m (map (λ e. Write e.0 e.1) es)) q ≡ Some (value b)
  written q b [] m s f = absurd (cc (f))
  written q b (e ∷ es) m s f =
      elim (same_path q e.0) as (λ t. same_path q e.0 ≡ t → cond t (Some e.1) (find path_cmp q es) ≡ Some b → get (put_all (insert m e.0 (value e.1)) (map (λ x. Write x.0 x.1) es)) q ≡ Some (value b)) [
        | true ↦ λ t w.
            let k : e.1 ≡ b = cc (w) in
            not_written q es (insert m e.0 (value e.1)) (tied_none q e.0 es (tied_if_eq _ t) (front _ _ s)) ∙ get-insert path_order m e.0 (value e.1) q ∙ ap (λ c. cond c (Some (value e.1)) (get m q)) t ∙ ap (λ x. Some (value x)) k
        | false ↦ λ t w. written q b es (insert m e.0 (value e.1)) (back _ _ s) w
      ] refl f

  -- removals of entries
  not_removed : (q : List ℕ) (es : List (List ℕ × State)) (m : FinMap path_cmp V) → find path_cmp q es ≡ None → get (put_all m (map (λ e. Remove e.0) es)) q ≡ get m q
  not_removed q [] m n = refl
  not_removed q (e ∷ es) m n =
      elim (same_path q e.0) as (λ t. same_path q e.0 ≡ t → cond t (Some e.1) (find path_cmp q es) ≡ None → get (put_all (remove m e.0) (map (λ f. Remove f.0) es)) q ≡ get m q) [
        | true ↦ λ t w. absurd (cc (w))
        | false ↦ λ t w. not_removed q es (remove m e.0) w ∙ get-remove path_order m e.0 q ∙ ap (λ b. cond b None (get m q)) t
      ] refl n

  stays_none : (q : List ℕ) (es : List (List ℕ × State)) (m : FinMap path_cmp V) → get m q ≡ None → get (put_all m (map (λ e. Remove e.0) es)) q ≡ None
  stays_none q [] m n = n
  stays_none q (e ∷ es) m n =
      stays_none q es (remove m e.0) (get-remove path_order m e.0 q ∙ elim (same_path q e.0) as (λ b. cond b None (get m q) ≡ None) [ true ↦ refl | false ↦ n ])

  removed : (q : List ℕ) (s : State) (es : List (List ℕ × State)) (m : FinMap path_cmp V) → find path_cmp q es ≡ Some s → get (put_all m (map (λ e. Remove e.0) es)) q ≡ None
  removed q s [] m f = absurd (cc (f))
  removed q s (e ∷ es) m f =
      elim (same_path q e.0) as (λ t. same_path q e.0 ≡ t → cond t (Some e.1) (find path_cmp q es) ≡ Some s → get (put_all (remove m e.0) (map (λ x. Remove x.0) es)) q ≡ None) [
        | true ↦ λ t w. stays_none q es (remove m e.0) (get-remove path_order m e.0 q ∙ ap (λ b. cond b None (get m q)) t)
        | false ↦ λ t w. removed q s es (remove m e.0) w
      ] refl f

  -- the map agrees with a belief
  pub record AgreesWith (belief : Belief) (m : FinMap path_cmp V) : Type 0 where
    pub known : (path bytes : List ℕ) → get belief path ≡ Some (Known bytes) → get m path ≡ Some (value bytes)
    pub absent : (path : List ℕ) → get belief path ≡ None → get m path ≡ None

  module _ (belief : Belief) (tree : Files) (keep : List (List ℕ)) (m : FinMap path_cmp V) (agrees : AgreesWith belief m) where
    abbrev mid : FinMap path_cmp V
    mid = put_all m (removals belief tree keep)

    abbrev last : FinMap path_cmp V
    last = put_all mid (writes belief tree)

    pub at_last : (q : List ℕ) → get (put_all m (planned belief tree keep)) q ≡ get last q
    at_last q = ap (λ (x : FinMap path_cmp V). get x q) (put_all-append m (removals belief tree keep) (writes belief tree))

    stays_in_mid : (q : List ℕ) → is_surplus tree keep q ≡ false → get mid q ≡ get m q
    stays_in_mid q h = not_removed q _ m (find_removals belief tree keep q ∙ ap (λ b. cond b (get belief q) None) h)

    gone_in_mid : (q : List ℕ) (x : Option State) → get belief q ≡ x → is_surplus tree keep q ≡ true → get mid q ≡ None
    gone_in_mid q None b h = not_removed q _ m (find_removals belief tree keep q ∙ ap (λ c. cond c (get belief q) None) h ∙ b) ∙ agrees.absent q b
    gone_in_mid q (Some s) b h = removed q s _ m (find_removals belief tree keep q ∙ ap (λ c. cond c (get belief q) None) h ∙ b)

    tree_rises : PathsRise (entries tree)
    tree_rises = is_true _ (entries_sorted tree)

    -- a file of the tree
    pub in_tree : (q b : List ℕ) → get tree q ≡ Some b → get (put_all m (planned belief tree keep)) q ≡ Some (value b)
    in_tree q b t =
        let there : find path_cmp q (entries tree) ≡ Some b = sym (get-entries tree q) ∙ t in
        at_last q ∙ elim (is_wanting belief (q, b)) as (λ w. is_wanting belief (q, b) ≡ w → get last q ≡ Some (value b)) [
          | true ↦ λ w. written q b (filter (is_wanting belief) (entries tree)) mid (rises_filter (is_wanting belief) (entries tree) tree_rises) (hit (is_wanting belief) q b (entries tree) tree_rises there w)
          | false ↦ λ w.
              not_written q (filter (is_wanting belief) (entries tree)) mid (miss (is_wanting belief) q b (entries tree) tree_rises there w)
              ∙ stays_in_mid q (ap (λ c. not c && not (is_kept keep q)) (ap is_some t)) ∙ agrees.known q b (known_is (get belief q) b w)
        ] refl

    out_of_tree : (q : List ℕ) (x : Option (List ℕ)) → get tree q ≡ x → is_some x ≡ false → get (put_all m (planned belief tree keep)) q ≡ get mid q
    out_of_tree q None t h = at_last q ∙ not_written q (filter (is_wanting belief) (entries tree)) mid (none_passes (is_wanting belief) q (entries tree) (sym (get-entries tree q) ∙ t))
    out_of_tree q (Some b) t h = absurd (cc (h))

    -- a path that the tree lacks and no entry keeps
    pub surplus : (q : List ℕ) → contains_key tree q ≡ false → is_kept keep q ≡ false → get (put_all m (planned belief tree keep)) q ≡ None
    surplus q lacks free = out_of_tree q (get tree q) refl lacks ∙ gone_in_mid q (get belief q) refl (ap (λ c. not c && not (is_kept keep q)) lacks ∙ ap not free)

    -- a path that the tree lacks and an entry keeps
    pub kept : (q : List ℕ) → contains_key tree q ≡ false → is_kept keep q ≡ true → get (put_all m (planned belief tree keep)) q ≡ get m q
    kept q lacks held = out_of_tree q (get tree q) refl lacks ∙ stays_in_mid q (ap (λ c. not c && not (is_kept keep q)) lacks ∙ ap not held)
