-- Where parts of a definition end.
use Rattle.std.proofs.Common.{arith, drop, subst, List, ℕ, ◌+◌, ◌-◌, ◌≡◌}
use Rattle.std.specs.Str.{IsCharBoundary}
use Rattle.std.proofs.lemmas.Str.{IsCharBoundary-from_rest}
use Rattle.cm_links.specs.Cuts.{IsEnd}

-- k bytes further
pub end_here : (n k : ℕ) (text : List ℕ) → IsCharBoundary text k → IsEnd n text (n + k)
end_here n k text h = let e : k ≡ n + k - n = omega arith in record { behind = omega arith; cut = subst (IsCharBoundary text) e h }

-- behind a bytes of the text
pub end_further : (n a end : ℕ) (text : List ℕ) → IsCharBoundary text a → IsEnd (n + a) (drop a text) end → IsEnd n text end
end_further n a end text h k =
    let e : a + (end - (n + a)) ≡ end - n = omega (arith, k.behind) in
    record { behind = omega (arith, k.behind); cut = subst (IsCharBoundary text) e (IsCharBoundary-from_rest text a (end - (n + a)) h.0 k.cut) }

-- from the front
pub end_front : (n end : ℕ) (text : List ℕ) → IsCharBoundary text n → IsEnd n (drop n text) end → IsCharBoundary text end
end_front n end text h k =
    let e : n + (end - n) ≡ end = omega (arith, k.behind) in
    subst (IsCharBoundary text) e (IsCharBoundary-from_rest text n (end - n) h.0 k.cut)
