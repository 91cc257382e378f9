-- A walk over a text gives the tokens of its blocks.
use Rattle.std.proofs.Common.{Bool, Err, IfOk, List, Ok, Result, ap, arith, drop, false, refl, suc, sym, take, true, ℕ, [], ◌<◌, ◌==◌, ◌∙◌, ◌∷◌, ◌≡◌, length}
use Rattle.markdown_grammar.specs.Blocks.{blocks, blocks_of, rules}
use Rattle.markdown_grammar.specs.Columns.{Line, own_line, whole_lines}
use Rattle.markdown_grammar.specs.Extents.{no_blocks}
use Rattle.markdown_grammar.specs.Lines.{nul_replaced, text_lines}
use Rattle.markdown_grammar.specs.OpenEnds.{line_steps, none_open}
use Rattle.markdown_grammar.proofs.LightRules.{machine}
use Rattle.cm_blocks.specs.declared.lines.Cut.{Cut}
use Rattle.cm_blocks.specs.Flat.{Flat, finished, flat_start, step, steps}
use Rattle.cm_blocks.specs.LineCuts.{IsCut}
use Rattle.cm_blocks.specs.Tokens.{tokens}
use Rattle.cm_blocks.proofs.LineLaws.{no_lines, whole_next}
use Rattle.cm_blocks.proofs.Walking.{finished_is, steps_is}

pub line_more : (f g : Flat) (t l u : List ℕ) (cut : Cut) (end : Flat) → IsCut t cut → 0 < length t → l ≡ take cut.inside t → u ≡ drop cut.whole t → g ≡ step f (own_line 0 l)
    → steps f (whole_lines (text_lines t)) ≡ end → steps g (whole_lines (text_lines u)) ≡ end
line_more f g t l u cut end h some a b e w =
    ap (λ (x : Flat). steps x (whole_lines (text_lines u))) e ∙ sym (ap (λ (ls : List Line). steps f ls) (whole_next t l u cut some h a b)) ∙ w

-- the walk is over
pub walk_done : (f : Flat) (t whole' : List ℕ) → t ≡ [] → steps f (whole_lines (text_lines t)) ≡ steps flat_start (whole_lines (text_lines whole')) → finished f ≡ tokens (blocks (whole_lines (text_lines whole')))
walk_done f t text none w =
    let ls = whole_lines (text_lines text) in
    let over : f ≡ steps flat_start ls = sym (ap (λ (x : List ℕ). steps f (whole_lines (text_lines x))) none ∙ ap (λ (x : List (List ℕ)). steps f (whole_lines x)) no_lines) ∙ w in
    ap finished (over ∙ steps_is ls) ∙ finished_is (line_steps rules (none_open no_blocks) ls) ∙ ap tokens (machine ls)

pub blocks_of_is : (t : List ℕ) → blocks_of t ≡ blocks (whole_lines (text_lines (nul_replaced t)))
unfolding blocks_of
blocks_of_is t = refl

pub some_left : (t : List ℕ) (b : Bool) → b ≡ (length t == 0) → b ≡ false → 0 < length t
some_left t b e h = let none : (length t == 0) ≡ false = sym e ∙ h in grind (arith, none)

pub none_left : (t : List ℕ) (b : Bool) → b ≡ (length t == 0) → b ≡ true → t ≡ []
none_left [] b e h = refl
none_left (c ∷ cs) b e h = let none : (suc (length cs) == 0) ≡ true = sym e ∙ h in let bad : suc (length cs) ≡ 0 = grind (arith, none) in absurd (omega (arith, bad))

pub if_ok : {A E : Type 0} (r : Result A E) (P Q : A → Type 0) → IfOk r P → ((x : A) → P x → Q x) → IfOk r Q
if_ok (Ok x) P Q h f = f x h
if_ok (Err e) P Q h f = h
