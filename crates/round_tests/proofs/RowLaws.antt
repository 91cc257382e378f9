-- Names with their places as their parts.
use Rattle.std.proofs.Common.{◌≡◌, ℕ, zero, suc, ◌+◌, List, [], ◌∷◌, ◌++◌, length, Some, ap, sym, ◌∙◌, arith}
use Rattle.std.specs.Prelude.{slice_get}
use Rattle.site_base.specs.declared.item_name.ItemName.{ItemName}
use Rattle.round_tests.specs.Rows.{AreNumbered}

numbered-from : (k : ℕ) (n : ItemName) (names : List ItemName) → ((i : ℕ) (m : ItemName) → slice_get names i ≡ Some m → m.part ≡ k + i) → n.part ≡ k + length names
    → (i : ℕ) (m : ItemName) → slice_get (names ++ n ∷ []) i ≡ Some m → m.part ≡ k + i
numbered-from k n [] are at zero m h = let same : n ≡ m = cc in ap (λ (x : ItemName). x.part) (sym same) ∙ at
numbered-from k n [] are at (suc i) m h = cc
numbered-from k n (x ∷ names) are at zero m h = are 0 m h
numbered-from k n (x ∷ names) are at (suc i) m h =
    let ih : m.part ≡ suc k + i = numbered-from (suc k) n names (λ j q e. (let a : q.part ≡ k + suc j = are (suc j) q e in omega (arith, a))) (omega (arith, at)) i m h in
    omega (arith, ih)

pub numbered-push : (n : ItemName) (names more : List ItemName) → AreNumbered names → n.part ≡ length names → more ≡ names ++ n ∷ [] → AreNumbered more
numbered-push n names more are at is i m h =
    let last : n.part ≡ 0 + length names = omega (arith, at) in
    let from : m.part ≡ 0 + i = numbered-from 0 n names (λ j q e. (let a : q.part ≡ j = are j q e in omega (arith, a))) last i m (ap (λ (ns : List ItemName). slice_get ns i) (sym is) ∙ h) in
    omega (arith, from)
