-- Nodes that write nothing, one behind another.
use Rattle.std.proofs.Common.{◌≡◌, ◌∙◌, ℕ, ◌<◌, ◌≤◌, Bool, true, false, cond, ◌&&◌, ◌||◌, refl, sym, ap, subst, arith}
use Rattle.liquid_grammar.specs.declared.item.Leaf.{Leaf}
use Rattle.liquid_grammar.specs.declared.item.Block.{Block}
use Rattle.liquid_grammar.specs.declared.item.Part.{Part}
use Rattle.liquid_grammar.specs.Trees.{Tree, done, leaf, block, part, append}
use Rattle.liquid_tags.specs.Blanks.{is_blank_leaf, counts_of, counted_as, writes_nothing, branches_write_nothing}
use Rattle.liquid_tags.specs.Nodes.{node_count, is_done, entered, is_body, branches_of}
use Rattle.liquid_tags.specs.declared.blanks.Counts.{Counts}
use Rattle.liquid_tags.specs.declared.blanks.Counts.TheVariants.{ByParts, ByBranches, Always, Never}
use Rattle.liquid_tags.proofs.NodeLaws.{count-entered, count-branches}

all_three : (a b c d : Bool) → d ≡ (b && c) → (a && d) ≡ ((a && b) && c)
all_three true b c d e = e
all_three false b c d e = refl

pub write-append : (t u : Tree) → writes_nothing (append t u) ≡ (writes_nothing t && writes_nothing u)
write-append done u = refl
write-append (leaf line l rest) u = all_three (is_blank_leaf l) (writes_nothing rest) (writes_nothing u) (writes_nothing (append rest u)) (write-append rest u)
write-append (block line b parts rest) u =
    all_three (counted_as (counts_of b) (writes_nothing parts) (branches_write_nothing parts)) (writes_nothing rest) (writes_nothing u) (writes_nothing (append rest u)) (write-append rest u)
write-append (part line p body rest) u = all_three (writes_nothing body) (writes_nothing rest) (writes_nothing u) (writes_nothing (append rest u)) (write-append rest u)

pub branches_write : (t : Tree) → branches_write_nothing t ≡ writes_nothing (branches_of t)
branches_write done = refl
branches_write (leaf line l rest) = refl
branches_write (block line b parts rest) = refl
branches_write (part line p body rest) = go (is_body p)
  where
    go : (b : Bool) → ((b || writes_nothing body) && writes_nothing rest) ≡ writes_nothing (cond b rest (part line p body rest))
    go true = refl
    go false = refl

branches-append : (t u : Tree) → is_done t ≡ false → branches_of (append t u) ≡ append (branches_of t) u
branches-append done u some = absurd cc
branches-append (leaf line l rest) u some = refl
branches-append (block line b parts rest) u some = refl
branches-append (part line p body rest) u some = go (is_body p)
  where
    go : (b : Bool) → cond b (append rest u) (part line p body (append rest u)) ≡ append (cond b rest (part line p body rest)) u
    go true = refl
    go false = refl

none-branches : (t : Tree) → is_done t ≡ true → branches_write_nothing t ≡ true
none-branches done h = refl
none-branches (leaf line l rest) h = cc
none-branches (block line b parts rest) h = cc
none-branches (part line p body rest) h = cc

module _ (t : Tree) (line : ℕ) where
  pub leaf_blank : (l : Leaf) (behind : Tree) → t ≡ leaf line l behind → is_blank_leaf l ≡ true → writes_nothing behind ≡ writes_nothing t
  leaf_blank l behind e h = sym (ap writes_nothing e ∙ ap (λ b. b && writes_nothing behind) h)

  pub leaf_writes : (l : Leaf) (behind : Tree) → t ≡ leaf line l behind → is_blank_leaf l ≡ false → false ≡ writes_nothing t
  leaf_writes l behind e h = sym (ap writes_nothing e ∙ ap (λ b. b && writes_nothing behind) h)

  pub part_left : (p : Part) (body behind : Tree) → t ≡ part line p body behind → writes_nothing (entered t) ≡ writes_nothing t
  part_left p body behind e = ap (λ u. writes_nothing (entered u)) e ∙ write-append body behind ∙ sym (ap writes_nothing e)

  module _ (b : Block) (parts behind : Tree) (e : t ≡ block line b parts behind) where
    counted : (c : Counts) → counts_of b ≡ c → writes_nothing t ≡ (counted_as c (writes_nothing parts) (branches_write_nothing parts) && writes_nothing behind)
    counted c h = ap writes_nothing e ∙ ap (λ k. counted_as k (writes_nothing parts) (branches_write_nothing parts) && writes_nothing behind) h

    pub parts_left : counts_of b ≡ ByParts → writes_nothing (entered t) ≡ writes_nothing t
    parts_left h = ap (λ u. writes_nothing (entered u)) e ∙ write-append parts behind ∙ sym (counted ByParts h)

    pub none_left : counts_of b ≡ ByBranches → is_done parts ≡ true → writes_nothing behind ≡ writes_nothing t
    none_left h none = sym (counted ByBranches h ∙ ap (λ x. x && writes_nothing behind) (none-branches parts none))

    pub branches_left : counts_of b ≡ ByBranches → is_done parts ≡ false → writes_nothing (branches_of (entered t)) ≡ writes_nothing t
    branches_left h some =
        ap (λ u. writes_nothing (branches_of (entered u))) e ∙ ap writes_nothing (branches-append parts behind some) ∙ write-append (branches_of parts) behind
        ∙ ap (λ x. x && writes_nothing behind) (sym (branches_write parts)) ∙ sym (counted ByBranches h)

    pub all_passed : counts_of b ≡ Always → writes_nothing behind ≡ writes_nothing t
    all_passed h = sym (counted Always h)

    pub block_writes : counts_of b ≡ Never → false ≡ writes_nothing t
    block_writes h = sym (counted Never h)

pub fewer_branches : (t : Tree) → is_done t ≡ false → node_count (branches_of (entered t)) < node_count t
fewer_branches t some = omega (arith, count-branches (entered t), count-entered t some)

pub ruleset looked_at = (leaf_blank, leaf_writes, part_left, parts_left, none_left, branches_left, all_passed, block_writes, fewer_branches, count-entered)
