-- What a line starts, one container after another.
use Rattle.std.proofs.Common.{Err, Ok, OnOk, Result, ap, arith, refl, suc, sym, zero, ℕ, ◌<◌, ◌∙◌, ◌≡◌}
use Rattle.markdown_grammar.specs.Blocks.{line_weight, opening, rules}
use Rattle.markdown_grammar.specs.Columns.{Line}
use Rattle.markdown_grammar.specs.Containers as grammar
use Rattle.markdown_grammar.specs.Extents.{Opening, OpensLight, opens_container, opens_leaf, opens_nothing}
use Rattle.markdown_grammar.specs.Leaves as leaves
use Rattle.markdown_grammar.proofs.LightRules.{light}
use Rattle.cm_containers.specs.declared.kinds.Container.{Container}
use Rattle.cm_containers.specs.declared.kinds.Container.TheVariants.{Item, Quote}
use Rattle.cm_blocks.specs.Flat.{Flat, begin, begin_by, begun, opened}
use Rattle.cm_blocks.specs.Opening.{IsSimple, leaf_in}
use Rattle.cm_containers.specs.Answers.{as_container}
use Rattle.cm_blocks.specs.Tokens.{container_of}
use Rattle.cm_blocks.specs.Walks.{put_in}

any_fuel : (n k : ℕ) (f : Flat) (l : Line) → line_weight l < n → line_weight l < k → begin_by n f l ≡ begin_by k f l
any_fuel zero k f l a b = absurd (omega (arith, a))
any_fuel (suc n) zero f l a b = absurd (omega (arith, b))
any_fuel (suc n) (suc k) f l a b = go (opening l) (light.starts l) (λ g m x y. any_fuel n k g m x y) where
  go : (o : Opening Line leaves.Leaf grammar.Container) → OpensLight rules (line_weight l) o → ((g : Flat) (m : Line) → line_weight m < n → line_weight m < k → begin_by n g m ≡ begin_by k g m)
      → begun (begin_by n) f o ≡ begun (begin_by k) f o
  go opens_nothing h q = refl
  go (opens_leaf s) h q = refl
  go (opens_container j m) h q = q (opened (container_of j) f) m (omega (arith, h, a)) (omega (arith, h, b))

begin_is : (f : Flat) (l : Line) → begin f l ≡ begun begin f (opening l)
begin_is f l = go (opening l) (light.starts l) where
  go : (o : Opening Line leaves.Leaf grammar.Container) → OpensLight rules (line_weight l) o → begun (begin_by (line_weight l)) f o ≡ begun begin f o
  go opens_nothing h = refl
  go (opens_leaf s) h = refl
  go (opens_container j m) h = any_fuel (line_weight l) (suc (line_weight m)) (opened (container_of j) f) m h (omega arith)

same_box : (k : Container) → container_of (as_container k) ≡ k
same_box Quote = refl
same_box (Item content mark number) = refl

-- behind the mark of a container
pub box_on : (f g whole : Flat) (l m : Line) (held : Container) → opening l ≡ opens_container (as_container held) m → g ≡ opened held f → begin f l ≡ whole → begin g m ≡ whole
box_on f g whole l m held o e w =
    ap (λ (x : Flat). begin x m) (e ∙ ap (λ (k : Container). opened k f) (sym (same_box held))) ∙ sym (begin_is f l ∙ ap (begun begin f) o) ∙ w

-- a leaf, or nothing
pub other_on : (f g whole : Flat) (l : Line) → IsSimple (opening l) → g ≡ put_in (leaf_in (opening l)) f → begin f l ≡ whole → g ≡ whole
other_on f g whole l h e w = e ∙ go (opening l) h ∙ sym (begin_is f l) ∙ w where
  go : (o : Opening Line leaves.Leaf grammar.Container) → IsSimple o → put_in (leaf_in o) f ≡ begun begin f o
  go opens_nothing h = refl
  go (opens_leaf s) h = refl
  go (opens_container k m) h = absurd h

-- a fact about what a call gives, and one that follows from it
pub on_ok : {A E : Type 0} (r : Result A E) (P Q : Type 0) → OnOk r P → (P → Q) → OnOk r Q
on_ok (Ok x) P Q h f = f h
on_ok (Err e) P Q h f = h
